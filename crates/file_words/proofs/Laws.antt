-- Laws of refusals: a rule that was passed, one of two that was not, and one turn of a loop over places or origins.
use Prim.Native.Nat.{ℕ, zero, suc, ◌+◌, ◌-◌, ◌≤◌, ◌<◌}
use mathlib.Core.Path.{◌≡◌, refl, sym, ◌∙◌}
use mathlib.Core.Bool.{Bool, true, false, ◌||◌}
use mathlib.Core.List.{List}
use native.Mathlib.Omega.{arith}
use native.Mathlib.Numerals.{sub-one}
use native.Mathlib.Nat.{lt_irrefl}
use lib.Dec.{eqb, ltb}
use lib.Arith.{le-zero}
use Rattle.refusals.specs.Numbers.{number}
use Rattle.refusals.specs.declared.Refusal.{Refusal}
use Rattle.refusals.proofs.Numbers.{number_some}
use Rattle.file_words.specs.Word.{le16, le32}
use Rattle.file_words.specs.Refusal.{refuse, or_else, table_refusal, over_cap, caps_refusal}

-- a rule that was passed, and one of two that was not
pub refuse-0 : (b : Bool) (n rest : ℕ) → refuse b (suc n) rest ≡ 0 → (b ≡ false) × (rest ≡ 0)
refuse-0 true n rest e = absurd (omega arith)
refuse-0 false n rest e = (refl, e)

pub or_else_0 : (a b : ℕ) → or_else a b ≡ 0 → (a ≡ 0) × (b ≡ 0)
or_else_0 zero b e = (refl, e)
or_else_0 (suc a) b e = omega arith

pub or_else_stop : (a b : ℕ) → (a ≡ 0 → ⊥) → or_else a b ≡ a
or_else_stop zero b h = absurd (h refl)
or_else_stop (suc a) b h = refl

pub or-false : (a b : Bool) → (a || b) ≡ false → (a ≡ false) × (b ≡ false)
or-false true b e = let z : ◌≡◌ {A = ℕ} 0 1 = cc in absurd (omega arith)
or-false false b e = (refl, e)

-- one turn of a loop over places or origins
pub caps_step : (s : List ℕ) (at n : ℕ) → 0 < n
    → caps_refusal s at n ≡ refuse (over_cap (le32 s at) (le32 s (at + 4))) 16 (caps_refusal s (at + 8) (n - 1))
unfolding caps_refusal
caps_step s at zero h = absurd (lt_irrefl 0 h)
caps_step s at (suc n) h = rw sub-one

pub caps_end : (s : List ℕ) (at n : ℕ) → n ≤ 0 → caps_refusal s at n ≡ 0
unfolding caps_refusal
caps_end s at n h = rw (le-zero h)

-- nothing but 16 is told
pub zero_or_16 : (s : List ℕ) (at n : ℕ) → eqb (caps_refusal s at n) 0 ≡ false → 16 ≡ caps_refusal s at n
unfolding caps_refusal
zero_or_16 s at zero e = let z : ◌≡◌ {A = ℕ} 0 1 = cc in absurd (omega (arith, z))
zero_or_16 s at (suc n) e = go (over_cap (le32 s at) (le32 s (at + 4))) e (λ f. zero_or_16 s (at + 8) n f)
  where
    go : (b : Bool) → eqb (refuse b 16 (caps_refusal s (at + 8) n)) 0 ≡ false → (eqb (caps_refusal s (at + 8) n) 0 ≡ false → 16 ≡ caps_refusal s (at + 8) n) → 16 ≡ refuse b 16 (caps_refusal s (at + 8) n)
    go true e rest = refl
    go false e rest = rest e

pub table_step : (s : List ℕ) (at least n : ℕ) → 0 < n
    → table_refusal s at least n
    ≡ refuse (ltb (le16 s at) least) 8 (table_refusal s (at + 2) (le16 s at + 1) (n - 1))
unfolding table_refusal
table_step s at least zero h = absurd (lt_irrefl 0 h)
table_step s at least (suc n) h = rw sub-one

pub table_end : (s : List ℕ) (at least n : ℕ) → n ≤ 0 → table_refusal s at least n ≡ 0
unfolding table_refusal
table_end s at least n h = rw (le-zero h)

-- a refusal by its number, and none, before what the rules after it say
pub or_else_err : (e : Refusal) {a : ℕ} (b : ℕ) → number e ≡ a → number e ≡ or_else a b
or_else_err e b h = sym (or_else_stop _ b (λ z. number_some e (h ∙ z)) ∙ sym h)

pub or_else_ok : {a n b : ℕ} → 0 ≡ a → n ≡ b → n ≡ or_else a b
or_else_ok h e = rw (← h) e
