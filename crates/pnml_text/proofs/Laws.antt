-- Laws of the definitions in specs/. Assumes nothing.
use Prim.Native.Nat.{ℕ, zero, suc, ◌+◌, ◌≤◌, ◌<◌}
use mathlib.Core.Path.{◌≡◌, refl, sym, ap, ◌∙◌}
use mathlib.Core.Bool.{Bool, true, false, ◌||◌, ◌&&◌}
use native.Mathlib.Omega.{arith}
use lib.Dec.{T, eqb→eq, eqb}
use borrow.Author.Tests.{eqb-true, eqb-false, ne_eqb}
use Rattle.net.proofs.Numbers.{by_cases, and_left, and_right}
use Rattle.pnml_text.specs.Characters
use Rattle.pnml_text.specs.declared.Kind.{Kind}
use Rattle.pnml_text.specs.declared.Kind.TheVariants.{Letter, Digit, Mark, Space, Other}

-- a test of each of n numbers from lo on
abbrev each : (ℕ → Bool) → ℕ → ℕ → Bool
each f lo zero = true
each f lo (suc n) = f lo && each f (lo + 1) n

each_at : (f : ℕ → Bool) (lo n b : ℕ) → T (each f lo n) → lo ≤ b → b < lo + n → T (f b)
each_at f lo zero b t h g = absurd (omega arith)
each_at f lo (suc n) b t h g =
    by_cases (eqb lo b)
    (λ e. rw (sym (eqb-true lo b e)) (and_left (f lo) _ t))
    (λ e. let ne = eqb-false lo b e in each_at f (lo + 1) n b (and_right (f lo) _ t) (omega (arith, ne)) (omega (arith, ne)))

abbrev nth : Kind → ℕ
nth Letter = 0
nth Digit = 1
nth Mark = 2
nth Space = 3
nth Other = 4

abbrev back : ℕ → Kind
back zero = Letter
back (suc zero) = Digit
back (suc (suc zero)) = Mark
back (suc (suc (suc zero))) = Space
back (suc (suc (suc (suc n)))) = Other

back_nth : (k : Kind) → back (nth k) ≡ k
back_nth Letter = refl
back_nth Digit = refl
back_nth Mark = refl
back_nth Space = refl
back_nth Other = refl

abbrev same : Kind → Kind → Bool
same a b = eqb (nth a) (nth b)

is_same : (a b : Kind) → T (same a b) → a ≡ b
is_same a b t = sym (back_nth a) ∙ ap back (eqb→eq (nth a) (nth b) t) ∙ back_nth b

-- the kind of each of n bytes from lo on, but for two
abbrev kinds : Kind → ℕ → ℕ → ℕ → Bool
kinds k x y b = same k (Characters.kind_of b) || eqb b x || eqb b y

but : (t u v : Bool) → T (t || u || v) → u ≡ false → v ≡ false → T t
but true u v t e f = tt
but false true v t e f = let z : ◌≡◌ {A = ℕ} 0 1 = cc in absurd (omega arith)
but false false true t e f = let z : ◌≡◌ {A = ℕ} 0 1 = cc in absurd (omega arith)
but false false false t e f = elim t [ ]

pub kind_from : (k : Kind) (lo n x y : ℕ) → T (each (kinds k x y) lo n) → (b : ℕ) → lo ≤ b → b < lo + n → (b ≡ x → ⊥) → (b ≡ y → ⊥)
    → k ≡ Characters.kind_of b
kind_from k lo n x y t b h g p q =
    is_same k (Characters.kind_of b) (but (same k (Characters.kind_of b)) (eqb b x) (eqb b y) (each_at (kinds k x y) lo n b t h g) (ne_eqb b x p) (ne_eqb b y q))
