-- The promise of `together`, as a C program reads the answer: no refusal is told as 100.
use Prim.Native.Nat.{ℕ, zero, suc, ◌≤◌}
use mathlib.Core.Path.{◌≡◌, refl, sym, subst⁻¹, ◌∙◌}
use mathlib.Core.Bool.{not}
use mathlib.Core.List.{List}
use native.Mathlib.Omega.{arith}
use borrow.Author.Tests.{ne_eqb}
use lib.Dec.{eqb, ltb, leb}
use lib.ListN.{length}
use Rattle.net.specs.Together.{Takings, times, unlimited, together}
use Rattle.file.specs.Layout.{net_of}
use Rattle.promise.specs.Together.{standing, TogetherAnswer, together_or, together_refusal, together_answer, TakesLargest}
use Rattle.promise.proofs.Ranges.{refuse-le, or_else_le, file_le}
use Rattle.nesfoal.specs.Takings.{together_code, takings_read}

few : (plan : List ℕ) (t entries room : ℕ) → together_refusal plan t entries room ≤ 16
unfolding together_refusal
few plan t entries room =
    let N = net_of plan in
    or_else_le _ _ 16 (file_le _ plan)
    (refuse-le (leb N.transitions t) 12 _ 16 (omega arith)
    (refuse-le (not (eqb entries N.places)) 15 _ 16 (omega arith) (refuse-le (ltb room N.places) 13 0 16 (omega arith) (omega arith))))

-- what is read is the answer
as_read : (n : ℕ) (a : Takings) → n ≤ 16 → let x = together_or n a in takings_read (together_code x) x.times ≡ x
as_read zero (times k) l = refl
as_read zero unlimited l = refl
as_read (suc n) a l = rw (ne_eqb (suc n) 100 (λ e. omega (arith, e, l))) refl

together-as_read : (plan : List ℕ) (t : ℕ) (marking : List ℕ) (room : ℕ) → let x = together_answer plan t marking room in takings_read (together_code x) x.times ≡ x
unfolding together_answer
together-as_read plan t marking room =
    as_read (together_refusal plan t (length marking) room) (together (net_of plan) t (standing marking)) (few plan t (length marking) room)

-- and so it has the promise
pub together-for_c : (plan : List ℕ) (t : ℕ) (marking : List ℕ) (room : ℕ) {exit : List ℕ} {a : TogetherAnswer} {r k : ℕ} → a ≡ together_answer plan t marking room → TakesLargest plan t marking a exit
    → r ≡ together_code (together_answer plan t marking room) → k ≡ (together_answer plan t marking room).times → TakesLargest plan t marking (takings_read r k) exit
together-for_c plan t marking room {exit} e w er ek =
    let same = (λ i. takings_read (er i) (ek i)) ∙ together-as_read plan t marking room ∙ sym e in
    subst⁻¹ (λ (x : TogetherAnswer). TakesLargest plan t marking x exit) same w
