-- Laws of rows: where an entry leads, and from there on.
use Prim.Native.Nat.{ℕ, zero, suc, ◌*◌, ◌-◌, ◌/◌, ◌%◌, ◌≤◌, ◌<◌}
use mathlib.Core.List.{List}
use mathlib.Core.Path.{◌≡◌, sym, ap, subst}
use native.Mathlib.Omega.{arith}
use native.Mathlib.Decide.{dec_lt}
use lib.Dec.{T}
use lib.ListN.{get_or}
use borrow.Author.Tests.{ltb-true}
use Rattle.net.specs.Net.{weight_on, input, output}
use Rattle.net.proofs.Numbers.{is_true}
use Rattle.file.specs.Layout.{net_from}
use Rattle.file.specs.Facts.{Sound}
use Rattle.file_header.specs.declared.Header.{Header}
use Rattle.file.proofs.Rows.{good_at}
use Rattle.arcs_starts.specs.Table.{slot_at, Split}
use Rattle.arcs_starts.proofs.Reached.{ordered}
use Rattle.arcs_column.specs.Ways.{transition_at, direction_at, place_at}
use Rattle.arcs_column.proofs.Arcs.{JoinsBelow, has_arc}
use Rattle.arcs_groups.specs.Groups.{Opens}
use Rattle.cut_rows.specs.Rows.{moves, Last}

-- a transition that moves p has an arc at p in that direction
pub moves-arc : (s : List ℕ) (h : Header) (d p t : ℕ) → d ≤ 1 → T (moves (net_from s h) d p t) → JoinsBelow d p t s h.arcstart h.arcs
unfolding moves input output
moves-arc s h zero p t l m = has_arc 0 p t s h.arcstart h.arcs (let g = ltb-true (weight_on 1 p t (net_from s h).arcs) (weight_on 0 p t (net_from s h).arcs) (is_true _ m) in omega arith)
moves-arc s h (suc zero) p t l m = has_arc 1 p t s h.arcstart h.arcs (let g = ltb-true (weight_on 0 p t (net_from s h).arcs) (weight_on 1 p t (net_from s h).arcs) (is_true _ m) in omega arith)
moves-arc s h (suc (suc d)) p t l m = absurd (omega arith)

-- the first arc of the transition of arc j
module _ (s : List ℕ) (h : Header) (sound : Sound s h) (j f : ℕ) (l : j < h.arcs) (first : Split s h.arcstart h.arcs (2 * transition_at s h.arcstart j) f) where
  first-le : f ≤ j
  unfolding slot_at
  first-le = go (dec_lt j f)
    where
      go : Dec (j < f) → f ≤ j
      go (yes b) = absurd (omega (arith, first.below j b))
      go (no b) = omega arith

  pub first_below : f < h.arcs
  first_below = omega (arith, first-le)

  pub first-same : transition_at s h.arcstart f ≡ transition_at s h.arcstart j
  unfolding slot_at
  first-same = omega (arith, first.above f (omega arith) first_below, (ordered s h sound).order f j first-le l, (good_at s h sound j l).direction, (good_at s h sound f first_below).direction)

  pub first-split : Split s h.arcstart h.arcs (2 * transition_at s h.arcstart f) f
  first-split = subst (λ (t : ℕ). Split s h.arcstart h.arcs (2 * t) f) (sym first-same) first

-- e leads to the last of the first `upto` arcs of the row of p in the direction d
module _ (s : List ℕ) (h : Header) (d p e upto : ℕ) (within : upto ≤ h.arcs) (last : Last s h upto d p e) (more : e ≡ 0 → ⊥) where
  pub row_arc : e % 65536 ≡ suc (e % 65536 - 1)
  row_arc = go (dec_lt 0 (e % 65536))
    where
      go : Dec (0 < e % 65536) → e % 65536 ≡ suc (e % 65536 - 1)
      go (yes l) = omega arith
      go (no l) = absurd (more (last.ends (omega arith)))

  pub row_below : e % 65536 - 1 < h.arcs
  row_below = omega (arith, within, last.within, row_arc)

  pub row_begun : 0 < e / 65536
  row_begun = last.begun (e % 65536 - 1) row_arc

  pub row_first : Split s h.arcstart h.arcs (2 * transition_at s h.arcstart (e % 65536 - 1)) (e / 65536 - 1)
  row_first = last.first (e % 65536 - 1) row_arc

  -- what the row moves
  pub row_moves : T (moves (net_from s h) d p (transition_at s h.arcstart (e % 65536 - 1)))
  row_moves = last.passes_it (e % 65536 - 1) row_arc

  -- the arcs between are of the same transition
  pub row_rest : (k : ℕ) → e % 65536 - 1 ≤ k → k < upto → place_at s h.arcstart k ≡ p → direction_at s h.arcstart k ≡ d → T (moves (net_from s h) d p (transition_at s h.arcstart k))
      → transition_at s h.arcstart k ≡ transition_at s h.arcstart (e % 65536 - 1)
  row_rest k a b u v w = go (dec_lt k (e % 65536))
    where
      go : Dec (k < e % 65536) → transition_at s h.arcstart k ≡ transition_at s h.arcstart (e % 65536 - 1)
      go (yes o) = let f : k ≡ e % 65536 - 1 = omega arith in ap (transition_at s h.arcstart) f
      go (no o) = (last.rest k (omega arith) b u v w).1

  module _ (next : List ℕ) (nexts : (j : ℕ) → j < h.arcs → Opens s h.arcstart j
      → T (moves (net_from s h) (direction_at s h.arcstart j) (place_at s h.arcstart j) (transition_at s h.arcstart j)) → Last s h j (direction_at s h.arcstart j) (place_at s h.arcstart j) (get_or next j 0)) where
    pub row_next : Last s h (e % 65536 - 1) d p (get_or next (e % 65536 - 1) 0)
    row_next =
        let q = last.at (e % 65536 - 1) row_arc in
        let w = last.goes (e % 65536 - 1) row_arc in
        subst (λ (a : ℕ). Last s h (e % 65536 - 1) a p (get_or next (e % 65536 - 1) 0)) w
        (subst (λ (b : ℕ). Last s h (e % 65536 - 1) (direction_at s h.arcstart (e % 65536 - 1)) b (get_or next (e % 65536 - 1) 0)) q
        (nexts (e % 65536 - 1) row_below (last.opens (e % 65536 - 1) row_arc)
        (subst (λ (a : ℕ). T (moves (net_from s h) a (place_at s h.arcstart (e % 65536 - 1)) (transition_at s h.arcstart (e % 65536 - 1)))) (sym w)
        (subst (λ (b : ℕ). T (moves (net_from s h) d b (transition_at s h.arcstart (e % 65536 - 1)))) (sym q) row_moves))))

    pub row_less : get_or next (e % 65536 - 1) 0 % 65536 < e % 65536
    row_less = omega (arith, row_next.within, row_arc)

-- the row has ended: the arcs of what moves p were met
pub row_ended : (s : List ℕ) (h : Header) (d p e upto : ℕ) → d ≤ 1 → Last s h upto d p e → e ≡ 0 → (met : ℕ → Type 0)
    → ((k : ℕ) → upto ≤ k → k < h.arcs → place_at s h.arcstart k ≡ p → direction_at s h.arcstart k ≡ d → T (moves (net_from s h) d p (transition_at s h.arcstart k)) → met (transition_at s h.arcstart k))
    → (t : ℕ) → T (moves (net_from s h) d p t) → met t
row_ended s h d p e upto dl last ends met seen t u =
    let a = moves-arc s h d p t dl u in
    let u' : T (moves (net_from s h) d p (transition_at s h.arcstart a.at)) = subst (λ (v : ℕ). T (moves (net_from s h) d p v)) (sym a.joins_it.transition) u in
    subst met a.joins_it.transition (go a u' (dec_lt a.at upto))
  where
    go : (a : JoinsBelow d p t s h.arcstart h.arcs) → T (moves (net_from s h) d p (transition_at s h.arcstart a.at)) → Dec (a.at < upto) → met (transition_at s h.arcstart a.at)
    go a u' (yes l) = absurd (omega (arith, ends, (last.rest a.at (omega arith) l a.joins_it.place a.joins_it.direction u').0))
    go a u' (no l) = seen a.at (omega arith) a.below a.joins_it.place a.joins_it.direction u'
