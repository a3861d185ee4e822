-- Columns that are written entry by entry.
use Prim.Native.Nat.{ℕ, zero, suc, ◌+◌, ◌<◌}
use mathlib.Core.Bool.{Bool, true, false, ◌||◌}
use mathlib.Core.Path.{◌≡◌, refl, sym, ap, ◌∙◌}
use mathlib.Core.List.{List, [], ◌∷◌}
use native.Mathlib.Omega.{arith}
use native.Mathlib.Decide.{ℕ_discrete}
use native.Mathlib.Numerals.{add-one}
use lib.Dec.{eqb}
use lib.ListN.{length, get_or, take, set, length-set}
use lib.Seq.{get_or-set_same, get_or-set_other}
use borrow.Author.Tests.{eq-eqb, ne_eqb}
use Rattle.net.specs.Numbers.{among}
use Rattle.rules_effects.specs.Movers.{limit_on}

or_again : (a b c : Bool) → (a || (b || c)) ≡ ((a || b) || c)
or_again true b c = refl
or_again false b c = refl

among-more : (x : ℕ) (l : List ℕ) (i : ℕ) → i < length l → among x (take (suc i) l) ≡ (among x (take i l) || eqb x (get_or l i 0))
unfolding among
among-more x [] i h = absurd (omega arith)
among-more x (y ∷ l) zero h = or-false (eqb x y)
  where
    or-false : (a : Bool) → (a || false) ≡ (false || a)
    or-false true = refl
    or-false false = refl
among-more x (y ∷ l) (suc i) h = ap (λ (b : Bool). eqb x y || b) (among-more x l i (omega arith)) ∙ or_again (eqb x y) (among x (take i l)) (eqb x (get_or l i 0))

-- the limits of the first i places of the criterion are 0
pub record Marked (Q was : List ℕ) (i : ℕ) (is : List ℕ) : Type 0 where
  pub long : length is ≡ length was
  pub at : (p : ℕ) → p < length was → get_or is p 0 ≡ limit_on (among p (take i Q)) 0 (get_or was p 0)

pub marked-none : (Q was : List ℕ) → Marked Q was 0 was
unfolding among
marked-none Q was = record { long = refl; at = λ p l. refl }

limit_first : (b : Bool) (m : ℕ) → limit_on (b || true) 0 m ≡ 0
limit_first true m = refl
limit_first false m = refl

limit_second : (b : Bool) (m : ℕ) → limit_on (b || false) 0 m ≡ limit_on b 0 m
limit_second true m = refl
limit_second false m = refl

pub marked_more : (Q was : List ℕ) (i : ℕ) (is : List ℕ) → Marked Q was i is → i < length Q → (q : ℕ) → q ≡ get_or Q i 0 → q < length was → Marked Q was (i + 1) (set is q 0)
marked_more Q was i is x l q e inside = record {
  long = length-set is q 0 ∙ x.long;
  at = λ p u. go p u (ℕ_discrete p q);
}
  where
    more : (p : ℕ) → among p (take (i + 1) Q) ≡ (among p (take i Q) || eqb p (get_or Q i 0))
    more p = ap (λ (k : ℕ). among p (take k Q)) (add-one i) ∙ among-more p Q i l

    go : (p : ℕ) → p < length was → Dec (p ≡ q) → get_or (set is q 0) p 0 ≡ limit_on (among p (take (i + 1) Q)) 0 (get_or was p 0)
    go p u (yes d) =
        ap (λ (k : ℕ). get_or (set is q 0) k 0) d ∙ get_or-set_same is q 0 0 (omega (arith, x.long))
        ∙ sym (ap (λ (b : Bool). limit_on b 0 (get_or was p 0)) (more p ∙ ap (λ (b : Bool). among p (take i Q) || b) (eq-eqb p (get_or Q i 0) (d ∙ e))) ∙ limit_first (among p (take i Q)) (get_or was p 0))
    go p u (no d) =
        get_or-set_other is q p 0 0 d ∙ x.at p u
        ∙ sym (ap (λ (b : Bool). limit_on b 0 (get_or was p 0)) (more p ∙ ap (λ (b : Bool). among p (take i Q) || b) (ne_eqb p (get_or Q i 0) (λ z. d (z ∙ sym e)))) ∙ limit_second (among p (take i Q)) (get_or was p 0))
