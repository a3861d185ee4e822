-- What `together` answers is the largest number of times, and what it leaves is the exact remainder.
use Prim.Native.Nat.{ℕ, zero, suc, ◌*◌, ◌<◌}
use mathlib.Core.Bool.{true, false, not}
use mathlib.Core.List.{List, ◌++◌}
use mathlib.Core.Path.{◌≡◌, refl, sym, ap, subst, ◌∙◌}
use native.Mathlib.Omega.{arith}
use lib.ListN.{length, take, drop, get_or, get_or-append}
use lib.Seq.{take_at}
use lib.Dec.{eqb, leb}
use borrow.Author.Tests.{eqb-true, not-false}
use Rattle.net.specs.Net.{Marking, Net, input, tokens}
use Rattle.net.specs.Together.{Takings, times, unlimited, together, remainder, Largest, Unlimited}
use Rattle.net.proofs.Numbers.{by_cases, holds, is_true, same_test}
use Rattle.net.proofs.Markings.{length-tokens, get_d_tokens, tokens-are}
use Rattle.net.proofs.Together as law
use Rattle.file.specs.Layout.{net_of}
use Rattle.file.specs.Refusal.{file_refusal}
use Rattle.file_header.specs.declared.Due.TheVariants as due
use Rattle.file_words.proofs.Laws.{refuse-0, or_else_0}
use Rattle.promise.specs.Calls.{written}
use Rattle.promise.specs.Together.{standing, together_refusal, TogetherAnswer, together_told, together_or, together_answer, together_rest, TakesLargest, SameTakings}
use Rattle.promise.proofs.Replays.{differ}

-- the answer says whether the call was refused
not-refused : (n : ℕ) (x : Takings) → (together_or n x).refused ≡ false → n ≡ 0
not-refused zero x e = refl
not-refused (suc n) x e = differ (sym e)

module _ (plan : List ℕ) (t : ℕ) (marking rest : List ℕ) where
  abbrev N : Net
  N = net_of plan

  abbrev M : Marking
  M = standing marking

  abbrev left : Marking
  left = remainder N t M (together N t M)

  abbrev refusal : ℕ
  refusal = together_refusal plan t (length marking) (length rest)

  module _ (none : refusal ≡ 0) where
    entries : length marking ≡ N.places
    unfolding together_refusal
    entries =
        let a = refuse-0 (leb N.transitions t) 11 _ (or_else_0 (file_refusal due.Plan plan) _ none).1 in
        let b = refuse-0 (not (eqb (length marking) N.places)) 14 _ a.1 in
        eqb-true (length marking) N.places (not-false _ b.0)

    told : together_answer plan t marking (length rest) ≡ together_told (together N t M)
    unfolding together_answer
    told = ap (λ (n : ℕ). together_or n (together N t M)) none

    list : together_rest plan t marking rest ≡ tokens N left ++ drop (length (tokens N left)) rest
    unfolding together_rest
    list = ap (λ (n : ℕ). written n (tokens N left) rest) none

    left_at : (p : ℕ) → p < N.places → standing (together_rest plan t marking rest) p ≡ left p
    left_at p l =
        ap (λ (m : List ℕ). get_or m p 0) list
        ∙ get_or-append (tokens N left) (drop (length (tokens N left)) rest) 0 p (omega (arith, length-tokens N left))
        ∙ get_d_tokens N left p l

    -- by the answer that the numbers tell
    by_times : (k : ℕ) → together N t M ≡ times k → Largest N t M k (standing (together_rest plan t marking rest))
    by_times k e = law.largest N t M k _ e (λ p l. left_at p l ∙ ap (λ (x : Takings). remainder N t M x p) e)

    by_unlimited : together N t M ≡ unlimited → Unlimited N t M (standing (together_rest plan t marking rest))
    by_unlimited e = law.unlimited N t M _ e (λ p l. left_at p l ∙ ap (λ (x : Takings). remainder N t M x p) e)

    same_list : together N t M ≡ unlimited → take (length marking) (together_rest plan t marking rest) ≡ marking
    unfolding remainder
    same_list e =
        let same : tokens N left ≡ marking = ap (λ (x : Takings). tokens N (remainder N t M x)) e ∙ sym (tokens-are N M marking entries (λ p l. refl)) in
        ap (take (length marking)) list
        ∙ take_at (tokens N left) (drop (length (tokens N left)) rest) (length marking) (length-tokens N left ∙ sym entries)
        ∙ same

    told-unlimited : (x : Takings) → (together_told x).unlimited ≡ true → x ≡ unlimited
    told-unlimited (times k) e = differ e
    told-unlimited unlimited e = refl

    told-times : (x : Takings) → (together_told x).unlimited ≡ false → x ≡ times (together_told x).times
    told-times (times k) e = refl
    told-times unlimited e = differ (sym e)

    is_unlimited : (together_answer plan t marking (length rest)).unlimited ≡ true → together N t M ≡ unlimited
    is_unlimited e = told-unlimited (together N t M) (sym (ap (λ (a : TogetherAnswer). a.unlimited) told) ∙ e)

    is_times : (together_answer plan t marking (length rest)).unlimited ≡ false → together N t M ≡ times (together_answer plan t marking (length rest)).times
    is_times e =
        told-times (together N t M) (sym (ap (λ (a : TogetherAnswer). a.unlimited) told) ∙ e)
        ∙ ap (λ (a : TogetherAnswer). times a.times) (sym told)

  passed : (together_answer plan t marking (length rest)).refused ≡ false → refusal ≡ 0
  unfolding together_answer
  passed e = not-refused refusal (together N t M) e

  taken : TakesLargest plan t marking (together_answer plan t marking (length rest)) (together_rest plan t marking rest)
  taken = record {
    largest = λ a b. by_times (passed a) _ (is_times (passed a) b);
    unlimited = λ a. (
      λ b. law.no_inputs N t M (is_unlimited (passed a) b),
      λ f. ap (λ (x : TogetherAnswer). x.unlimited) (told (passed a)) ∙ ap (λ (x : Takings). (together_told x).unlimited) (law.is_unlimited N t M f),
    );
    unchanged = λ a b. (by_unlimited (passed a) (is_unlimited (passed a) b), same_list (passed a) (is_unlimited (passed a) b));
  }

  -- at the call, by its own answer and list
  pub takes_largest : {a : TogetherAnswer} {exit : List ℕ} → a ≡ together_answer plan t marking (length rest) → exit ≡ together_rest plan t marking rest → TakesLargest plan t marking a exit
  takes_largest {a} {exit} e f =
      subst (λ (x : TogetherAnswer). TakesLargest plan t marking x exit) (sym e)
      (subst (λ (l : List ℕ). TakesLargest plan t marking (together_answer plan t marking (length rest)) l) (sym f) taken)

-- ---- the record pins the answer

module _ (plan : List ℕ) (t : ℕ) (marking : List ℕ) (a b : TogetherAnswer) (exit exit' : List ℕ) (e : a.refused ≡ false) (f : b.refused ≡ false)
    (x : TakesLargest plan t marking a exit) (y : TakesLargest plan t marking b exit') where
  one-kind : a.unlimited ≡ b.unlimited
  one-kind =
      same_test a.unlimited b.unlimited
      (λ h. holds _ ((y.unlimited f).1 ((x.unlimited e).0 (is_true _ h))))
      (λ h. holds _ ((x.unlimited e).1 ((y.unlimited f).0 (is_true _ h))))

  one_number : a.unlimited ≡ false → a.times ≡ b.times
  one_number n =
      let u = x.largest e n in
      let v = y.largest f (sym one-kind ∙ n) in
      omega (arith, u.largest b.times v.fits, v.largest a.times u.fits)

  one-rest : (p : ℕ) → p < (net_of plan).places → standing exit p ≡ standing exit' p
  one-rest p l =
      by_cases a.unlimited
      (λ n. (x.unchanged e n).0.same p l ∙ sym ((y.unchanged f (sym one-kind ∙ n)).0.same p l))
      (λ n. omega (
        arith,
        (x.largest e n).exact p l,
        (y.largest f (sym one-kind ∙ n)).exact p l,
        ap (λ (k : ℕ). k * input (net_of plan) p t) (one_number n),
      ))

  pub same_takings : SameTakings plan a b exit exit'
  same_takings = record { same_unlimited = one-kind; same_times = one_number; same_rest = one-rest }
