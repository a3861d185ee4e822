-- Laws of the loop that looks for a pulled place.
use Prim.Native.Nat.{ℕ, suc, ◌+◌, ◌*◌, ◌-◌, ◌≤◌, ◌<◌}
use mathlib.Core.Path.{◌≡◌, refl, sym, ap, ◌∙◌}
use mathlib.Core.Bool.{Bool, true, false, not, ◌&&◌, ◌||◌}
use mathlib.Core.Logic.{◌⊎◌, inl, inr}
use mathlib.Core.List.{List}
use native.Mathlib.Omega.{arith}
use native.Mathlib.Decide.{ℕ_discrete}
use lib.Dec.{eqb, ltb}
use lib.ListN.{length, get_or, set, length-set}
use lib.Seq.{get_or-set_same, get_or-set_other}
use borrow.Author.Tests.{eq-eqb}
use Rattle.file_arcs.specs.Layout.{arc_at}
use Rattle.arcs_column.specs.Gain

-- as it was, or at rest and counted
pub data Stands (was limit : List ℕ) (found : Bool) (is : List ℕ) (p : ℕ) : Type 0 where
  kept : get_or is p 0 ≡ get_or was p 0 → Stands was limit found is p
  seen : get_or is p 0 ≡ 1073741824 → (Gain.pulls_at limit was p ≡ true → found ≡ true) → Stands was limit found is p

pub record Looked (s : List ℕ) (start from : ℕ) (limit was : List ℕ) (j : ℕ) (is : List ℕ) (found : Bool) : Type 0 where
  pub long : length is ≡ length was
  pub answer : found ≡ Gain.pulled_to s start limit was from j
  pub here : (i : ℕ) → from ≤ i → i < j → get_or is (arc_at s (start + 8 * i)).place 0 ≡ 1073741824
  pub each : (p : ℕ) → Stands was limit found is p

pub looked_none : (s : List ℕ) (start from : ℕ) (limit was : List ℕ) → Looked s start from limit was from was false
unfolding Gain.pulled_in
looked_none s start from limit was = record {
  long = refl;
  answer = let e : from - from ≡ 0 = omega arith in rw e;
  here = λ i l h. absurd (omega arith);
  each = λ p. kept refl;
}

pulled_next : (s : List ℕ) (start from : ℕ) (limit was : List ℕ) (j : ℕ) → from ≤ j
    → Gain.pulled_to s start limit was from (j + 1) ≡ (Gain.pulled_to s start limit was from j || Gain.pulls_at limit was (arc_at s (start + 8 * j)).place)
unfolding Gain.pulled_in
pulled_next s start from limit was j l =
    let e : j + 1 - from ≡ suc (j - from) = omega arith in
    let f : from + (j - from) ≡ j = omega arith in
    ap (Gain.pulled_in s start limit was from) e ∙ ap (λ (k : ℕ). Gain.pulled_in s start limit was from (j - from) || Gain.pulls_at limit was (arc_at s (start + 8 * k)).place) f

at_rest : (limit g : ℕ) → g ≡ 1073741824 → Gain.pulls limit g ≡ false
at_rest limit g e = go (ltb limit g) (eqb g 1073741824) (eq-eqb g 1073741824 e)
  where
    go : (x y : Bool) → y ≡ true → (x && not y) ≡ false
    go true true q = refl
    go false true q = refl
    go x false q = absurd (let z : ◌≡◌ {A = ℕ} 0 1 = cc in omega arith)

or-false : (x : Bool) → (x || false) ≡ x
or-false true = refl
or-false false = refl

or_held : (x y : Bool) → (y ≡ true → x ≡ true) → x ≡ (x || y)
or_held true y h = refl
or_held false true h = h refl
or_held false false h = refl

or_first : (x y : Bool) → x ≡ true → (x || y) ≡ true
or_first x y e = rw e

or_second : (x y : Bool) → y ≡ true → (x || y) ≡ true
or_second true y e = refl
or_second false y e = e

module _ (s : List ℕ) (start from : ℕ) (limit was : List ℕ) (j : ℕ) (is : List ℕ) (found : Bool) (x : Looked s start from limit was j is found) (l : from ≤ j) (p : ℕ) (e : p ≡ (arc_at s (start + 8 * j)).place) (inside : p < length was) (now : Bool) (n : now ≡ Gain.pulls_at limit is p) where
  -- what is found now, or was before, is what stands at the place at first
  found_is : Stands was limit found is p → (found || now) ≡ (found || Gain.pulls_at limit was p)
  found_is (kept q) = ap (λ (b : Bool). found || b) (n ∙ ap (λ (g : ℕ). Gain.pulls (get_or limit p 0) g) q)
  found_is (seen q h) = ap (λ (b : Bool). found || b) (n ∙ at_rest (get_or limit p 0) (get_or is p 0) q) ∙ or-false found ∙ or_held found (Gain.pulls_at limit was p) h

  pub looked_more : Looked s start from limit was (j + 1) (set is p 1073741824) (found || now)
  looked_more = record {
    long = length-set is p 1073741824 ∙ x.long;
    answer = found_is (x.each p) ∙ ap (λ (b : Bool). b || Gain.pulls_at limit was p) x.answer
        ∙ ap (λ (q : ℕ). Gain.pulled_to s start limit was from j || Gain.pulls_at limit was q) e ∙ sym (pulled_next s start from limit was j l);
    here = λ i a b. rest i a b (ℕ_discrete (arc_at s (start + 8 * i)).place p) (ℕ_discrete i j);
    each = λ q. stands q (ℕ_discrete q p) (x.each q);
  }
    where
      room : p < length is
      room = omega (arith, x.long)

      rest : (i : ℕ) → from ≤ i → i < j + 1 → Dec ((arc_at s (start + 8 * i)).place ≡ p) → Dec (i ≡ j) → get_or (set is p 1073741824) (arc_at s (start + 8 * i)).place 0 ≡ 1073741824
      rest i a b (yes q) d = ap (λ (k : ℕ). get_or (set is p 1073741824) k 0) q ∙ get_or-set_same is p 1073741824 0 room
      rest i a b (no q) (yes d) = absurd (q (ap (λ (k : ℕ). (arc_at s (start + 8 * k)).place) d ∙ sym e))
      rest i a b (no q) (no d) = get_or-set_other is p (arc_at s (start + 8 * i)).place 1073741824 0 q ∙ x.here i a (omega arith)

      stands : (q : ℕ) → Dec (q ≡ p) → Stands was limit found is q → Stands was limit (found || now) (set is p 1073741824) q
      stands q (yes r) h =
          seen (ap (λ (k : ℕ). get_or (set is p 1073741824) k 0) r ∙ get_or-set_same is p 1073741824 0 room)
          (λ t. found_is (x.each p) ∙ or_second found (Gain.pulls_at limit was p) (sym (ap (Gain.pulls_at limit was) r) ∙ t))
      stands q (no r) (kept h) = kept (get_or-set_other is p q 1073741824 0 r ∙ h)
      stands q (no r) (seen h t) = seen (get_or-set_other is p q 1073741824 0 r ∙ h) (λ u. or_first found now (t u))

pub looked_end : (s : List ℕ) (start from : ℕ) (limit was : List ℕ) (j : ℕ) (is : List ℕ) (found : Bool) → Looked s start from limit was j is found → Gain.Rested s start from j was is
looked_end s start from limit was j is found x = record {
  long = x.long;
  here = x.here;
  other = λ p. go p (x.each p);
}
  where
    go : (p : ℕ) → Stands was limit found is p → (get_or is p 0 ≡ get_or was p 0) ⊎ (get_or is p 0 ≡ 1073741824)
    go p (kept e) = inl e
    go p (seen e h) = inr e
