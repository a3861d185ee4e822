-- The input arcs of a transition, one by one: their places are its input places.
use Prim.Native.Nat.{ℕ, zero, suc, ◌+◌, ◌*◌, ◌-◌, ◌≤◌, ◌<◌}
use mathlib.Core.Bool.{Bool, false, ◌||◌}
use mathlib.Core.List.{List}
use mathlib.Core.Path.{◌≡◌, refl, sym, ap, ◌∙◌, subst}
use native.Mathlib.Omega.{arith}
use native.Mathlib.Decide.{ℕ_discrete, dec_lt}
use lib.Dec.{T, eqb, eqb→eq, ltb}
use borrow.Author.Tests.{eq-eqb, lt-ltb, ltb-true}
use Rattle.net.specs.Net.{weight_on, input, takes_from}
use Rattle.net.proofs.Numbers.{by_or, holds, is_true, or_left, or_right, same_test}
use Rattle.file.specs.Layout.{net_from}
use Rattle.file.specs.Facts.{Sound}
use Rattle.file_header.specs.declared.Header.{Header}
use Rattle.file.proofs.Rows.{good_at}
use Rattle.arcs_starts.specs.Table.{slot_at, Split}
use Rattle.arcs_starts.proofs.Reached.{ordered}
use Rattle.arcs_column.specs.Ways.{transition_at, direction_at, place_at}
use Rattle.arcs_column.proofs.Arcs.{has_arc, arc-has, joins-in, in_joins}

-- an input place is a place of the file
pub takes_inside : (s : List ℕ) (h : Header) → Sound s h → (t p : ℕ) → T (takes_from (net_from s h) t p) → p < h.places
unfolding takes_from input
takes_inside s h sound t p x =
    let j = has_arc 0 p t s h.arcstart h.arcs (ltb-true 0 (weight_on 0 p t (net_from s h).arcs) (is_true _ x)) in
    omega (arith, j.joins_it.place, (good_at s h sound j.at j.below).place)

-- k is the place of one of the n arcs from `from` on
unfoldable pub placed_in : List ℕ → ℕ → ℕ → ℕ → ℕ → Bool
placed_in s start from zero k = false
placed_in s start from (suc n) k = placed_in s start from n k || eqb k (place_at s start (from + n))

pub placed_none : (s : List ℕ) (start from k : ℕ) → placed_in s start from (from - from) k ≡ false
unfolding placed_in
placed_none s start from k = let e : from - from ≡ 0 = omega arith in rw e

pub placed_more : (s : List ℕ) (start from j p : ℕ) → from ≤ j → p ≡ place_at s start j → (k : ℕ) → placed_in s start from (j - from) k || eqb k p ≡ placed_in s start from (j + 1 - from) k
unfolding placed_in
placed_more s start from j p l e k =
    let f : j + 1 - from ≡ suc (j - from) = omega arith in
    let g : j ≡ from + (j - from) = omega arith in
    ap (λ (q : ℕ). placed_in s start from (j - from) k || eqb k q) (e ∙ ap (place_at s start) g) ∙ ap (λ (n : ℕ). placed_in s start from n k) (sym f)

placed_has : (s : List ℕ) (start from n i : ℕ) → i < n → T (placed_in s start from n (place_at s start (from + i)))
unfolding placed_in
placed_has s start from zero i l = absurd (omega arith)
placed_has s start from (suc n) i l = go (ℕ_discrete i n) (λ h. placed_has s start from n i h)
  where
    go : Dec (i ≡ n) → (i < n → T (placed_in s start from n (place_at s start (from + i)))) → T (placed_in s start from n (place_at s start (from + i)) || eqb (place_at s start (from + i)) (place_at s start (from + n)))
    go (yes e) rest = or_right (placed_in s start from n (place_at s start (from + i))) _ (holds _ (eq-eqb (place_at s start (from + i)) (place_at s start (from + n)) (ap (λ (j : ℕ). place_at s start (from + j)) e)))
    go (no e) rest = or_left (placed_in s start from n (place_at s start (from + i))) _ (rest (omega arith))

-- an arc of the run is at k
record PlacedAt (s : List ℕ) (start from n k : ℕ) : Type 0 where
  at : ℕ
  below : at < n
  place : k ≡ place_at s start (from + at)

placed_finds : (s : List ℕ) (start from n k : ℕ) → T (placed_in s start from n k) → PlacedAt s start from n k
unfolding placed_in
placed_finds s start from zero k h = absurd h
placed_finds s start from (suc n) k h =
    by_or (placed_in s start from n k) (eqb k (place_at s start (from + n))) h
    (λ x. let r = placed_finds s start from n k x in record { at = r.at; below = let l = r.below in omega arith; place = r.place })
    (λ x. record { at = n; below = omega arith; place = eqb→eq k (place_at s start (from + n)) x })

module _ (s : List ℕ) (h : Header) (sound : Sound s h) (t : ℕ) where
  -- their places are its input places
  pub takes_placed : (b m : ℕ) → Split s h.arcstart h.arcs (2 * t) b → Split s h.arcstart h.arcs (2 * t + 1) m → (k : ℕ) → placed_in s h.arcstart b (m - b) k ≡ takes_from (net_from s h) t k
  unfolding takes_from input
  takes_placed b m low high k = same_test (placed_in s h.arcstart b (m - b) k) (ltb 0 (weight_on 0 k t (net_from s h).arcs)) to from
    where
      low' : Split s h.arcstart h.arcs (2 * t + 0) b
      low' = let q : 2 * t ≡ 2 * t + 0 = omega arith in subst (λ (j : ℕ). Split s h.arcstart h.arcs j b) q low

      high' : Split s h.arcstart h.arcs (2 * t + 0 + 1) m
      high' = let q : 2 * t + 1 ≡ 2 * t + 0 + 1 = omega arith in subst (λ (j : ℕ). Split s h.arcstart h.arcs j m) q high

      to : T (placed_in s h.arcstart b (m - b) k) → T (ltb 0 (weight_on 0 k t (net_from s h).arcs))
      to x =
          let r = placed_finds s h.arcstart b (m - b) k x in
          let l = r.below in
          let u = high.within in
          let j = in_joins s h sound 0 t b m (omega arith) low' high' (b + r.at) (omega arith) (omega arith) in
          let w = arc-has 0 _ t s h.arcstart h.arcs (b + r.at) (omega arith) j in
          let g = (good_at s h sound (b + r.at) (omega arith)).weight in
          let e : weight_on 0 (place_at s h.arcstart (b + r.at)) t (net_from s h).arcs ≡ weight_on 0 k t (net_from s h).arcs = ap (λ (p : ℕ). weight_on 0 p t (net_from s h).arcs) (sym r.place) in
          holds _ (lt-ltb 0 (weight_on 0 k t (net_from s h).arcs) (omega arith))

      from : T (ltb 0 (weight_on 0 k t (net_from s h).arcs)) → T (placed_in s h.arcstart b (m - b) k)
      from x =
          let j = has_arc 0 k t s h.arcstart h.arcs (ltb-true 0 (weight_on 0 k t (net_from s h).arcs) (is_true _ x)) in
          let i = joins-in s h sound 0 t b m (omega arith) low' high' k j.at j.below j.joins_it in
          let e : b + (j.at - b) ≡ j.at = omega (arith, i.0) in
          subst (λ (p : ℕ). T (placed_in s h.arcstart b (m - b) p)) (ap (place_at s h.arcstart) e ∙ j.joins_it.place)
          (placed_has s h.arcstart b (m - b) (j.at - b) (omega (arith, i.0, i.1)))

-- the arcs up to j are not after the inputs of t, which start with arc `from`
pub record InputsTo (s : List ℕ) (start arcs from t j : ℕ) : Type 0 where
  pub after : from ≤ j
  pub within : j ≤ arcs
  pub upto : (i : ℕ) → i < j → slot_at s start i < 2 * t + 1

module _ (s : List ℕ) (h : Header) (sound : Sound s h) (from t : ℕ) (tl : t < h.transitions) (low : Split s h.arcstart h.arcs (2 * t) from) where
  pub to_none : InputsTo s h.arcstart h.arcs from t from
  to_none = record { after = omega arith; within = low.within; upto = λ i l. omega (arith, low.below i l) }

  module _ (j : ℕ) (x : InputsTo s h.arcstart h.arcs from t j) where
    module _ (l : j < h.arcs) where
      slot : slot_at s h.arcstart j ≡ 2 * transition_at s h.arcstart j + direction_at s h.arcstart j
      unfolding slot_at
      slot = refl

      -- arc j is an input of t
      pub to_more : transition_at s h.arcstart j + direction_at s h.arcstart j * 65536 ≡ t → InputsTo s h.arcstart h.arcs from t (j + 1)
      to_more e = record { after = let a = x.after in omega arith; within = omega arith; upto = λ i a. here i (dec_lt i j) a }
        where
          here : (i : ℕ) → Dec (i < j) → i < j + 1 → slot_at s h.arcstart i < 2 * t + 1
          here i (yes b) a = x.upto i b
          here i (no b) a =
              let f : i ≡ j = omega arith in
              let u = sound.placed.transitions in
              omega (arith, ap (slot_at s h.arcstart) f, slot, e, (good_at s h sound j l).transition)

      -- it is none
      pub to_stop : (transition_at s h.arcstart j + direction_at s h.arcstart j * 65536 ≡ t → ⊥) → (k : ℕ) → placed_in s h.arcstart from (j - from) k ≡ takes_from (net_from s h) t k
      to_stop n = takes_placed s h sound t from j low (record { within = x.within; below = x.upto; above = above })
        where
          here : 2 * t + 1 ≤ slot_at s h.arcstart j
          here = go (ℕ_discrete (slot_at s h.arcstart j) (2 * t))
            where
              go : Dec (slot_at s h.arcstart j ≡ 2 * t) → 2 * t + 1 ≤ slot_at s h.arcstart j
              go (yes e) = absurd (n (omega (arith, e, slot, (good_at s h sound j l).direction)))
              go (no e) = omega (arith, low.above j x.after l)

          above : (i : ℕ) → j ≤ i → i < h.arcs → 2 * t + 1 ≤ slot_at s h.arcstart i
          above i a b = omega (arith, here, (ordered s h sound).order j i a b)

    -- there are no more arcs
    pub to_all : h.arcs ≤ j → (k : ℕ) → placed_in s h.arcstart from (j - from) k ≡ takes_from (net_from s h) t k
    to_all l = takes_placed s h sound t from j low (record { within = x.within; below = x.upto; above = λ i a b. absurd (omega arith) })
