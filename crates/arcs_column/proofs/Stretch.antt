-- The arcs of one transition, which stand in a row, and what it takes and gives by them.
use Prim.Native.Nat.{ℕ, ◌+◌, ◌*◌, ◌≤◌, ◌<◌}
use mathlib.Core.List.{List}
use mathlib.Core.Logic.{◌≢◌}
use mathlib.Core.Path.{◌≡◌}
use native.Mathlib.Omega.{arith}
use native.Mathlib.Decide.{dec_lt}
use Rattle.net.specs.Net.{weight_on}
use Rattle.file_words.specs.Word.{Bytes}
use Rattle.file_arcs.specs.Layout.{arc_at}
use Rattle.file.specs.Layout.{net_from}
use Rattle.file.specs.Facts.{Sound}
use Rattle.file_header.specs.declared.Header.{Header}
use Rattle.arcs_starts.specs.Table.{slot_at, Split}
use Rattle.arcs_column.specs.Ways.{transition_at, sum_on}
use Rattle.file_arcs.proofs.Rows.{weight_le}
use Rattle.file.proofs.Rows.{good_at}
use Rattle.arcs_column.proofs.Ways.{sum-run}

-- the arcs of t stand from b to e
pub record Stretch (s : List ℕ) (h : Header) (t b e : ℕ) : Type 0 where
  pub bytes : Bytes s
  pub sound : Sound s h
  pub start : Split s h.arcstart h.arcs (2 * t) b
  pub end : Split s h.arcstart h.arcs (2 * t + 2) e

module _ {s : List ℕ} {h : Header} {t b e : ℕ} (r : Stretch s h t b e) where
  pub ways : (i : ℕ) → i < h.arcs → (arc_at s (h.arcstart + 8 * i)).direction ≤ 1
  ways i l = (good_at s h r.sound i l).direction

  pub rises : b ≤ e
  unfolding slot_at
  rises = go (dec_lt e b)
    where
      go : Dec (e < b) → b ≤ e
      go (yes l) = absurd (omega (arith, r.start.below e l, r.end.above e (omega arith) (omega (arith, r.start.within))))
      go (no l) = omega arith

  pub earlier : (i : ℕ) → i < b → transition_at s h.arcstart i ≢ t
  unfolding slot_at
  earlier i l q = omega (arith, q, r.start.below i l)

  pub own : (i : ℕ) → b ≤ i → i < e → transition_at s h.arcstart i ≡ t
  unfolding slot_at
  own i l k = omega (arith, r.start.above i l (omega (arith, r.end.within)), r.end.below i k, ways i (omega (arith, r.end.within)))

  pub later : (i : ℕ) → e ≤ i → i < h.arcs → transition_at s h.arcstart i ≢ t
  unfolding slot_at
  later i l k q = omega (arith, q, r.end.above i l k, ways i k)

  pub sums : (d p : ℕ) → sum_on d s h.arcstart p e ≡ sum_on d s h.arcstart p b + weight_on d p t (net_from s h).arcs
  sums d p = sum-run d p t s h.arcstart h.arcs b e earlier own later rises r.end.within

  pub small : (d p : ℕ) → weight_on d p t (net_from s h).arcs ≤ 268431360
  small d p = omega (arith, weight_le d p t s r.bytes h.arcstart h.arcs, r.sound.placed.arcs)
