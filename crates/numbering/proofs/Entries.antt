-- The entries of a list that grows by one number at its end.
use Prim.Native.Nat.{ℕ, suc, ◌+◌, ◌<◌}
use mathlib.Core.Path.{◌≡◌, refl, sym, ap, ◌∙◌, subst}
use mathlib.Core.Bool.{Bool, true, false, ◌||◌}
use mathlib.Core.List.{List, [], ◌∷◌, ◌++◌}
use native.Mathlib.Omega.{arith}
use native.Mathlib.Numerals.{add-one}
use lib.Dec.{eqb}
use lib.ListN.{length, get_or, take, set, length-set}
use lib.Seq.{length-take-le, take-suc, get_or-take, get_or-set_same, get_or-set_other}
use borrow.Author.Tests.{eqb-true, eqb-false, eq-eqb}
use Rattle.net.specs.Numbers.{among, position}
use Rattle.net.proofs.Numbers.{by_cases, is_false, position-lt, at_position}
use Rattle.file.specs.Facts.{RisingFrom}
use Rattle.numbering.specs.Own.{own_entry, Own}
use Rattle.file.proofs.Rows.{rises}

pub among-other : (x y : ℕ) (l : List ℕ) → eqb x y ≡ false → among x (l ++ (y ∷ [])) ≡ among x l
unfolding among
among-other x y [] e = rw e
among-other x y (z ∷ l) e = ap (λ (b : Bool). eqb x z || b) (among-other x y l e)

pub position-other : (x y : ℕ) (l : List ℕ) → among x l ≡ true → position x (l ++ (y ∷ [])) ≡ position x l
unfolding among position
position-other x y [] e = let z : ◌≡◌ {A = ℕ} 0 1 = cc in absurd (omega arith)
position-other x y (z ∷ l) e =
    by_cases (eqb x z)
    (λ q. rw (q, position))
    (λ q. rw (q, position) (ap suc (position-other x y l (rw (q, among) at e))))

pub among-new : (y : ℕ) (l : List ℕ) → among y (l ++ (y ∷ [])) ≡ true
unfolding among
among-new y [] = rw (eq-eqb y y refl)
among-new y (z ∷ l) = by_cases (eqb y z) (λ q. simp q) (λ q. simp q (among-new y l))

pub position-new : (y : ℕ) (l : List ℕ) → among y l ≡ false → position y (l ++ (y ∷ [])) ≡ length l
unfolding among position
position-new y [] e = rw (eq-eqb y y refl, position)
position-new y (z ∷ l) e =
    by_cases (eqb y z)
    (λ q. let w = rw (q, among) at e in let z : ◌≡◌ {A = ℕ} 0 1 = cc in absurd (omega arith))
    (λ q. rw (q, position) (ap suc (position-new y l (rw (q, among) at e))))

entry_other : (x y : ℕ) (l : List ℕ) → eqb x y ≡ false → own_entry (l ++ (y ∷ [])) x ≡ own_entry l x
unfolding own_entry
entry_other x y l e =
    by_cases (among x l)
    (λ q. rw (among-other x y l e, own_entry, q, own_entry) (ap suc (position-other x y l q)))
    (λ q. rw (among-other x y l e, own_entry, q, own_entry))

entry_new : (y : ℕ) (l : List ℕ) → among y l ≡ false → own_entry (l ++ (y ∷ [])) y ≡ suc (length l)
unfolding own_entry
entry_new y l e = rw (among-new y l, own_entry) (ap suc (position-new y l e))

-- a rising list has each number once
pub once : (l : List ℕ) → RisingFrom 0 l → (j : ℕ) → j < length l → among (get_or l j 0) (take j l) ≡ false
once l r j h =
    is_false _ (λ t.
    let y = get_or l j 0 in
    let k = position y (take j l) in
    let a : k < j = omega (arith, position-lt y (take j l) t, length-take-le j l (omega arith)) in
    omega (arith, at_position y (take j l) t, get_or-take j l k 0 a, rises l 0 r k j a h))

-- no entry of the empty list
pub own-none : (table : List ℕ) → ((k : ℕ) → get_or table k 0 ≡ 0) → Own [] table
unfolding own_entry among
own-none table z = record { at = λ x h. z x }

module _ (l : List ℕ) (rise : RisingFrom 0 l) (j : ℕ) (inside : j < length l) {table : List ℕ} (own : Own (take j l) table) where
  grown : take (j + 1) l ≡ take j l ++ (get_or l j 0 ∷ [])
  grown = rw (add-one, take-suc l j 0)

  pub own-more : Own (take (j + 1) l) (set table (get_or l j 0) (j + 1))
  own-more = record { at = λ x h. rw grown (by_cases (eqb x (get_or l j 0)) (here x h) (there x h)) }
    where
      here : (x : ℕ) → x < length (set table (get_or l j 0) (j + 1)) → eqb x (get_or l j 0) ≡ true → get_or (set table (get_or l j 0) (j + 1)) x 0 ≡ own_entry (take j l ++ (get_or l j 0 ∷ [])) x
      here x h e =
          let q : x ≡ get_or l j 0 = eqb-true x (get_or l j 0) e in
          let in_table : get_or l j 0 < length table = omega (arith, length-set table (get_or l j 0) (j + 1)) in
          let a : get_or (set table (get_or l j 0) (j + 1)) (get_or l j 0) 0 ≡ j + 1 = get_or-set_same table (get_or l j 0) (j + 1) 0 in_table in
          let b : own_entry (take j l ++ (get_or l j 0 ∷ [])) (get_or l j 0) ≡ suc (length (take j l)) = entry_new (get_or l j 0) (take j l) (once l rise j inside) in
          let n : j + 1 ≡ suc (length (take j l)) = omega (arith, length-take-le j l (omega arith)) in
          subst (λ (y : ℕ). get_or (set table (get_or l j 0) (j + 1)) y 0 ≡ own_entry (take j l ++ (get_or l j 0 ∷ [])) y) (sym q) (a ∙ n ∙ sym b)

      there : (x : ℕ) → x < length (set table (get_or l j 0) (j + 1)) → eqb x (get_or l j 0) ≡ false → get_or (set table (get_or l j 0) (j + 1)) x 0 ≡ own_entry (take j l ++ (get_or l j 0 ∷ [])) x
      there x h e =
          get_or-set_other table (get_or l j 0) x (j + 1) 0 (eqb-false x (get_or l j 0) e)
          ∙ own.at x (omega (arith, length-set table (get_or l j 0) (j + 1)))
          ∙ sym (entry_other x (get_or l j 0) (take j l) e)

  -- the same, as the loop has it
  pub own-next : {origin : ℕ} {next : List ℕ} → origin ≡ get_or l j 0 → next ≡ set table origin (j + 1) → Own (take (j + 1) l) next
  own-next e n = rw (n, e) own-more
