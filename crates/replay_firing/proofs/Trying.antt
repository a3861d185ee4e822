-- A firing that is tried: done where it leaves no place above its cap, else undone.
use Prim.Native.Nat.{ℕ, ◌*◌, ◌<◌, ◌≤◌}
use mathlib.Core.Path.{◌≡◌, sym, ◌∙◌}
use mathlib.Core.List.{List}
use Rattle.std.proofs.Common.{None, Some}
use native.Mathlib.Omega.{arith}
use native.Mathlib.Decide.{dec_lt}
use lib.Dec.{T}
use lib.ListN.{get_or}
use lib.Seq.{ext_get_or}
use Rattle.net.specs.Net.{output, fire, capped, WithinCaps, Supplied, Enabled, FullAt}
use Rattle.file.specs.Layout.{net_from}
use Rattle.file_header.specs.declared.Header.{Header}
use Rattle.file_arcs.proofs.Rows.{weight_le}
use Rattle.replay_steps.specs.Steps.{held, Ready, Holds}
use Rattle.replay_firing.specs.Firing.{Firable, Left, unfired, Overfull, FullFound, Filled}
use Rattle.replay_firing.specs.declared.Excess.{Excess}

module _ {s : List ℕ} {h : Header} {table m : List ℕ} (r : Ready s h table m) {t : ℕ} (f : Firable s h t m) where
  supplied : Supplied (net_from s h) t (held m)
  unfolding Supplied
  supplied p l = f.supplied p

  few : (p : ℕ) → output (net_from s h) p t ≤ 65535 * h.arcs
  unfolding output
  few p = weight_le 1 p t s r.bytes h.arcstart h.arcs

  -- t has fired, and left m₁
  module _ {m₁ : List ℕ} (x : Holds m m₁ (fire (net_from s h) t (held m))) where
    pub ready_after : Ready s h table m₁
    ready_after = record { sound = r.sound; bytes = r.bytes; long = r.long; starts = r.starts; places = x.long ∙ r.places }

    pub left : Left s h t m₁
    unfolding fire WithinCaps
    left = record {
      known = f.known;
      added = λ p. omega (arith, x.at p);
      low = λ p. omega (arith, x.at p, f.low p, few p, r.sound.placed.arcs);
      near = λ p l k. omega (arith, x.at p, f.caps p l k);
    }

    -- a place that t adds nothing to is within its cap as before
    within_by : (q : ℕ) → q < h.places → T (capped (net_from s h) q) → (0 < output (net_from s h) q t → get_or m₁ q 0 ≤ (net_from s h).cap q) → fire (net_from s h) t (held m) q ≤ (net_from s h).cap q
    unfolding fire WithinCaps
    within_by q l k by = go (dec_lt 0 (output (net_from s h) q t))
      where
        go : Dec (0 < output (net_from s h) q t) → fire (net_from s h) t (held m) q ≤ (net_from s h).cap q
        go (yes o) = omega (arith, x.at q, by o)
        go (no o) = omega (arith, o, f.caps q l k)

    within : FullFound (net_from s h) t (held m₁) None → Enabled (net_from s h) t (held m)
    unfolding Enabled WithinCaps
    within fits = (supplied, λ p l k. within_by p l k (λ o. fits p o k))

    full_at : {p n : ℕ} → Overfull (net_from s h) t (held m₁) p n → FullAt (net_from s h) t (held m) p n
    full_at {p} over = record {
      supplied = supplied;
      place = over.place;
      has_cap = over.has_cap;
      amount = sym (x.at p) ∙ over.amount;
      some = over.some;
      lowest = λ q u k. within_by q (omega (arith, over.place)) k (λ o. over.lowest q u o k);
    }

    -- what was undone is as it was
    restored : {m₂ : List ℕ} → Holds m₁ m₂ (unfired (net_from s h) t (held m₁)) → m₂ ≡ m
    unfolding fire
    restored {m₂} y = ext_get_or 0 m₂ m (y.long ∙ x.long) (λ q u. omega (arith, x.at q, y.at q, f.supplied q))

    -- the two answers
    pub filled_none : FullFound (net_from s h) t (held m₁) None → Filled (net_from s h) t m m₁ None
    filled_none fits = (within fits, x)

    pub filled_some : (e : Excess) → FullFound (net_from s h) t (held m₁) (Some e) → {m₂ : List ℕ} → Holds m₁ m₂ (unfired (net_from s h) t (held m₁)) → Filled (net_from s h) t m m₂ (Some e)
    filled_some e over y = (full_at over, restored y)
