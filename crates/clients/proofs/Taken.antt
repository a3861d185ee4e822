-- Takings, and takings from what is left: from what the calls ensure.
use Prim.Native.Nat.{ℕ, zero, suc, ◌≤◌}
use mathlib.Core.Bool.{Bool, true, false, not}
use mathlib.Core.List.{List}
use mathlib.Core.Path.{◌≡◌, refl, sym, ap, subst, ◌∙◌}
use native.Mathlib.Omega.{arith}
use lib.ListN.{length, take, length-take}
use lib.Dec.{leb}
use borrow.Author.Tests.{eq-eqb, le-ltb, not-true}
use Rattle.net.proofs.Numbers.{and-true}
use Rattle.net.specs.Together.{Takings, times, unlimited, together}
use Rattle.file_words.proofs.Laws.{refuse-0, or_else_0}
use Rattle.file_header.specs.declared.Due.TheVariants as due
use Rattle.file.specs.Refusal.{file_refusal}
use Rattle.file.specs.Layout.{net_of}
use Rattle.promise.specs.Together.{standing, together_refusal, TogetherAnswer, together_or, together_answer, TakesLargest}
use Rattle.promise.proofs.Replays.{differ}
use Rattle.promise.proofs.Rooms.{together-fits}
use Rattle.promise.proofs.Theorem.{promise}
use Rattle.promise.proofs.Uses.{uses}
use Rattle.clients.specs.Ended.{is_limited, Emptied}

-- a marking of as many entries passes as the first one did
not-refused : (n : ℕ) (x : Takings) → (together_or n x).refused ≡ false → n ≡ 0
not-refused zero x e = refl
not-refused (suc n) x e = differ (sym e)

told-passes : (n : ℕ) (x : Takings) → n ≡ 0 → (together_or n x).refused ≡ false
told-passes zero (times k) e = refl
told-passes zero unlimited e = refl
told-passes (suc n) x e = absurd (omega (arith, e))

second_passes : (plan : List ℕ) (t : ℕ) (marking marking' : List ℕ) (room space : ℕ) → (together_answer plan t marking room).refused ≡ false → length marking' ≡ (net_of plan).places → (net_of plan).places ≤ space
    → (together_answer plan t marking' space).refused ≡ false
unfolding together_answer together_refusal
second_passes plan t marking marking' room space e n h =
    let z = not-refused (together_refusal plan t (length marking) room) (together (net_of plan) t (standing marking)) e in
    let p = or_else_0 (file_refusal due.Plan plan) _ z in
    let k = refuse-0 (leb (net_of plan).transitions t) 11 _ p.1 in
    told-passes (together_refusal plan t (length marking') space) (together (net_of plan) t (standing marking'))
    (rw (p.0, k.0, eq-eqb (length marking') (net_of plan).places n, le-ltb space (net_of plan).places h))

-- the numbers of an answer that is no refusal, not unlimited and 0
told-0 : (n : ℕ) (x : Takings) → (together_or n x).refused ≡ false → (together_or n x).unlimited ≡ false → (together_or n x).times ≡ 0
    → together_or n x ≡ record { refused = false; refusal = 0; unlimited = false; times = 0 }
told-0 zero (times k) r u z = ap (λ (j : ℕ). together_or 0 (times j)) z
told-0 zero unlimited r u z = differ (sym u)
told-0 (suc n) x r u z = differ (sym r)

told_none : (plan : List ℕ) (t : ℕ) (marking : List ℕ) (room : ℕ) → (together_answer plan t marking room).refused ≡ false → (together_answer plan t marking room).unlimited ≡ false
    → (together_answer plan t marking room).times ≡ 0 → together_answer plan t marking room ≡ record { refused = false; refusal = 0; unlimited = false; times = 0 }
unfolding together_answer
told_none plan t marking room = told-0 (together_refusal plan t (length marking) room) (together (net_of plan) t (standing marking))

module _ (plan : List ℕ) (t : ℕ) (marking exit : List ℕ) (room : ℕ) {a : TogetherAnswer} (e : a ≡ together_answer plan t marking room) (x : TakesLargest plan t marking a exit) where
  abbrev A : TogetherAnswer
  A = together_answer plan t marking room

  taken : TakesLargest plan t marking A exit
  taken = subst (λ (y : TogetherAnswer). TakesLargest plan t marking y exit) e x

  pub emptied : A.refused ≡ false → A.unlimited ≡ false → Emptied plan t marking A.times exit
  emptied r u = let l = taken.largest r u in record { left = l.exact; no_more = l.no_more }

  -- by whether a largest number was told
  module _ {yes : Bool} (y : yes ≡ is_limited a) where
    pub not-limited : {X : Type 0} → yes ≡ false → A.refused ≡ false → A.unlimited ≡ false → X
    not-limited n r u = differ (sym n ∙ y ∙ ap is_limited e ∙ rw (r, u))

    pub limited_fits : yes ≡ true → length marking ≤ room
    limited_fits h =
        let both = and-true (not A.refused) (not A.unlimited) (sym (ap is_limited e) ∙ sym y ∙ h) in
        let fit = together-fits plan t marking room (not-true A.refused both.0) in
        omega (arith, fit.0, fit.1)

  pub again_0 : (last : List ℕ) (space : ℕ) {b : TogetherAnswer} → length marking ≤ length exit → b ≡ together_answer plan t (take (length marking) exit) space
      → TakesLargest plan t (take (length marking) exit) b last → A.refused ≡ false → A.unlimited ≡ false → (net_of plan).places ≤ space
      → b ≡ record { refused = false; refusal = 0; unlimited = false; times = 0 }
  again_0 last space {b} l f y ra ua h =
      let n : length (take (length marking) exit) ≡ length marking = omega (arith, length-take (length marking) exit, l) in
      let fit = together-fits plan t marking room ra in
      let passed = second_passes plan t marking (take (length marking) exit) room space ra (n ∙ fit.0) h in
      let rb : b.refused ≡ false = ap (λ (z : TogetherAnswer). z.refused) f ∙ passed in
      let none = (uses promise).taken_again plan t marking A b exit last taken ra ua (omega (arith, fit.0)) y rb in
      f ∙ told_none plan t (take (length marking) exit) space passed (ap (λ (z : TogetherAnswer). z.unlimited) (sym f) ∙ none.0) (ap (λ (z : TogetherAnswer). z.times) (sym f) ∙ none.1)
