-- What `range` answers holds of every marking in the range, and what it writes is the need.
use Prim.Native.Nat.{ℕ, zero, suc, ◌<◌}
use mathlib.Core.Bool.{Bool, true, false, not}
use mathlib.Core.List.{List, ◌++◌}
use mathlib.Core.Path.{◌≡◌, refl, sym, ap, subst, ◌∙◌}
use mathlib.Core.Logic.{◌↔◌}
use native.Mathlib.Omega.{arith}
use lib.ListN.{length, drop, get_or, get_or-append}
use lib.Dec.{T, eqb, ltb, leb}
use borrow.Author.Tests.{ltb-false, not-false}
use Rattle.net.specs.Numbers.{among, any}
use Rattle.net.specs.Net.{Net, input, output, Uncapped, has_caps, tokens}
use Rattle.net.specs.Range.{need, Covers, covers, Extent, every, partly, never, extent, FromEvery, FromSome, FromNone, Needs, MoreIsEnough}
use Rattle.net.proofs.Numbers.{holds, is_true, same_test}
use Rattle.net.proofs.Markings.{length-tokens, get_d_tokens}
use Rattle.net.proofs.Range as law
use Rattle.file_words.specs.Word.{Bytes}
use Rattle.file_header.specs.Layout.{header_of}
use Rattle.file.specs.Layout.{net_of}
use Rattle.file_words.specs.Refusal.{refuse}
use Rattle.file.specs.Refusal.{file_refusal}
use Rattle.file_header.specs.declared.Due.TheVariants as due
use Rattle.file.proofs.Caps.{none_capped}
use Rattle.file_words.proofs.Laws.{refuse-0, or_else_0, or-false}
use Rattle.promise.specs.Calls.{written}
use Rattle.promise.specs.Firing.{list_refusal}
use Rattle.promise.specs.Together.{standing}
use Rattle.promise.specs.Range.{upper_wrong, range_refusal, RangeAnswer, range_told, range_or, range_answer, range_need, TellsRange, SameRange, NeedFits, AskedAgain, FromTheNeed}
use Rattle.promise.proofs.Effects.{sum-small}
use Rattle.promise.proofs.Replays.{list_known, differ}

-- the answer says whether the call was refused
not-refused : (n : ℕ) (x : Extent) → (range_or n x).refused ≡ false → n ≡ 0
not-refused zero x e = refl
not-refused (suc n) x e = differ (sym e)

zero_refusal : (n : ℕ) (x : Extent) → (range_or n x).refused ≡ false → (range_or n x).refusal ≡ 0
zero_refusal zero every e = refl
zero_refusal zero partly e = refl
zero_refusal zero never e = refl
zero_refusal (suc n) x e = differ (sym e)

-- the extent that the numbers tell
told-every : (x : Extent) → ((range_told x).every ≡ true) ↔ (x ≡ every)
told-every x = (from x, λ e. ap (λ (y : Extent). (range_told y).every) e)
  where
    from : (x : Extent) → (range_told x).every ≡ true → x ≡ every
    from every e = refl
    from partly e = differ e
    from never e = differ e

told-partly : (x : Extent) → ((range_told x).partly ≡ true) ↔ (x ≡ partly)
told-partly x = (from x, λ e. ap (λ (y : Extent). (range_told y).partly) e)
  where
    from : (x : Extent) → (range_told x).partly ≡ true → x ≡ partly
    from every e = differ e
    from partly e = refl
    from never e = differ e

told-never : (x : Extent) → ((range_told x).never ≡ true) ↔ (x ≡ never)
told-never x = (from x, λ e. ap (λ (y : Extent). (range_told y).never) e)
  where
    from : (x : Extent) → (range_told x).never ≡ true → x ≡ never
    from every e = differ e
    from partly e = differ e
    from never e = refl

module _ (plan list upper lent : List ℕ) where
  abbrev N : Net
  N = net_of plan

  abbrev refusal : ℕ
  refusal = range_refusal plan list upper (length lent)

  module _ (passes : refusal ≡ 0) where
    -- nothing is refused, so the plan has no caps, the list is known, and the upper list is not below the plan's marking
    parts : (has_caps N ≡ false) × (list_refusal N.transitions list ≡ 0) × (upper_wrong N upper ≡ false)
    unfolding range_refusal
    parts =
        let a = refuse-0 (has_caps N) 16 _ (or_else_0 (file_refusal due.Plan plan) _ passes).1 in
        let b = or_else_0 (list_refusal N.transitions list) _ a.1 in
        (a.0, b.0, (refuse-0 (upper_wrong N upper) 20 _ b.1).0)

    none : Uncapped N
    none = none_capped plan (header_of plan) parts.0

    known : (t : ℕ) → T (among t list) → t < N.transitions
    known = list_known N.transitions list parts.1

    rises : Covers N (standing upper) N.marking
    unfolding upper_wrong
    rises = law.covers-yes N (standing upper) N.marking (not-false _ (or-false (not (eqb (length upper) N.places)) (not (covers N (standing upper) N.marking)) parts.2).1)

    told : range_answer plan list upper (length lent) ≡ range_told (extent N (standing upper) list)
    unfolding range_answer
    told = ap (λ (n : ℕ). range_or n (extent N (standing upper) list)) passes

    entries : range_need plan list upper lent ≡ tokens N (need N list) ++ drop (length (tokens N (need N list))) lent
    unfolding range_need
    entries = ap (λ (n : ℕ). written n (tokens N (need N list)) lent) passes

    need-at : (p : ℕ) → p < N.places → standing (range_need plan list upper lent) p ≡ need N list p
    need-at p l =
        ap (λ (m : List ℕ). get_or m p 0) entries
        ∙ get_or-append (tokens N (need N list)) (drop (length (tokens N (need N list))) lent) 0 p (omega (arith, length-tokens N (need N list)))
        ∙ get_d_tokens N (need N list) p l

    is_needed : Needs N list (standing (range_need plan list upper lent))
    is_needed = law.needs N none list known _ need-at

    -- by the answer that the numbers tell
    by_told : {A : Type 0} (f : RangeAnswer → Bool) → (f (range_told (extent N (standing upper) list)) ≡ true) ↔ A → (f (range_answer plan list upper (length lent)) ≡ true) ↔ A
    by_told f g = (λ e. g.0 (sym (ap f told) ∙ e), λ a. ap f told ∙ g.1 a)

    is_every : ((range_answer plan list upper (length lent)).every ≡ true) ↔ FromEvery N (standing upper) list
    is_every =
        let m = law.every_means N none (standing upper) list known rises in
        let t = told-every (extent N (standing upper) list) in
        by_told (λ x. x.every) (λ e. m.0 (t.0 e), λ f. t.1 (m.1 f))

    is_partly : ((range_answer plan list upper (length lent)).partly ≡ true) ↔ FromSome N (standing upper) list
    is_partly =
        let m = law.partly_means N none (standing upper) list known rises in
        let t = told-partly (extent N (standing upper) list) in
        by_told (λ x. x.partly) (λ e. m.0 (t.0 e), λ f. t.1 (m.1 f))

    is_never : ((range_answer plan list upper (length lent)).never ≡ true) ↔ FromNone N (standing upper) list
    is_never =
        let m = law.never_means N none (standing upper) list known rises in
        let t = told-never (extent N (standing upper) list) in
        by_told (λ x. x.never) (λ e. m.0 (t.0 e), λ f. t.1 (m.1 f))

  passed : (range_answer plan list upper (length lent)).refused ≡ false → refusal ≡ 0
  unfolding range_answer
  passed e = not-refused refusal (extent N (standing upper) list) e

  tells : TellsRange plan list upper (range_answer plan list upper (length lent)) (range_need plan list upper lent)
  tells = record {
    needed = λ a. is_needed (passed a);
    from_every = λ a. is_every (passed a);
    from_some = λ a. is_partly (passed a);
    from_none = λ a. is_never (passed a);
  }

  -- at the call, by its own answer and list
  pub tells_range : {a : RangeAnswer} {exit : List ℕ} → a ≡ range_answer plan list upper (length lent) → exit ≡ range_need plan list upper lent → TellsRange plan list upper a exit
  tells_range {a} {exit} e f =
      subst (λ (x : RangeAnswer). TellsRange plan list upper x exit) (sym e)
      (subst (λ (l : List ℕ). TellsRange plan list upper (range_answer plan list upper (length lent)) l) (sym f) tells)

-- ---- the record pins the answer

-- two tests of one thing
one-test : {A : Type 0} (a b : Bool) → (a ≡ true) ↔ A → (b ≡ true) ↔ A → a ≡ b
one-test a b f g = same_test a b (λ h. holds _ (g.1 (f.0 (is_true _ h)))) (λ h. holds _ (f.1 (g.0 (is_true _ h))))

pub same_range : (plan list upper : List ℕ) (a b : RangeAnswer) (exit exit' : List ℕ) → a.refused ≡ false → b.refused ≡ false
    → TellsRange plan list upper a exit → TellsRange plan list upper b exit' → SameRange plan a b exit exit'
unfolding Covers
same_range plan list upper a b exit exit' e f x y = record {
  same_every = one-test a.every b.every (x.from_every e) (y.from_every f);
  same_partly = one-test a.partly b.partly (x.from_some e) (y.from_some f);
  same_never = one-test a.never b.never (x.from_none e) (y.from_none f);
  same_need = λ p l. omega (
    arith,
    (x.needed e).least (standing exit') (y.needed f).itself p l,
    (y.needed f).least (standing exit) (x.needed e).itself p l,
  );
}

-- ---- the need fits into its entries

pub need_fits : (plan list : List ℕ) → Bytes plan → file_refusal due.Plan plan ≡ 0 → list_refusal (net_of plan).transitions list ≡ 0 → NeedFits plan list
unfolding input list_refusal
need_fits plan list b e l =
    let short = ltb-false 65535 (length list) (refuse-0 (ltb 65535 (length list)) 10 (refuse (any (λ t. leb (net_of plan).transitions t) list) 12 0) l).0 in
    record { need_low = λ p. omega (arith, short, law.need_low (net_of plan) 268431360 (sum-small due.Plan plan b e 0) list p) }

-- ---- what people conclude

pub more_is_enough : (plan list upper : List ℕ) (a : RangeAnswer) (exit : List ℕ) → a.refused ≡ false → TellsRange plan list upper a exit → MoreIsEnough (net_of plan) list
more_is_enough plan list upper a exit e x = law.more_is_enough (net_of plan) list (standing exit) (x.needed e)

-- answers that are no refusals and agree in the rest are the same
one_answer : (a b : RangeAnswer) → a.refused ≡ false → b.refused ≡ false → a.refusal ≡ 0 → b.refusal ≡ 0
    → a.every ≡ b.every → a.partly ≡ b.partly → a.never ≡ b.never → a ≡ b
one_answer a b e f z w x y n i = record { refused = (e ∙ sym f) i; refusal = (z ∙ sym w) i; every = x i; partly = y i; never = n i }

pub asked_again : (plan list upper lent lent' : List ℕ) → (range_answer plan list upper (length lent)).refused ≡ false → (range_answer plan list upper (length lent')).refused ≡ false
    → AskedAgain plan list upper lent lent'
unfolding Covers range_answer
asked_again plan list upper lent lent' e f =
    let s = same_range plan list upper _ _ _ _ e f (tells plan list upper lent) (tells plan list upper lent') in
    let z = zero_refusal (range_refusal plan list upper (length lent)) _ e in
    let w = zero_refusal (range_refusal plan list upper (length lent')) _ f in
    record {
      same_answer = one_answer _ _ e f z w s.same_every s.same_partly s.same_never;
      same_covers = λ M. (λ c p l. omega (arith, c p l, s.same_need p l), λ c p l. omega (arith, c p l, s.same_need p l));
    }

pub from_the_need : (plan list : List ℕ) → Bytes plan → file_refusal due.Plan plan ≡ 0 → list_refusal (net_of plan).transitions list ≡ 0 → FromTheNeed plan list
unfolding output list_refusal
from_the_need plan list b e l =
    let short = ltb-false 65535 (length list) (refuse-0 (ltb 65535 (length list)) 10 (refuse (any (λ t. leb (net_of plan).transitions t) list) 12 0) l).0 in
    record {
      ends_low = λ p. omega (arith, short, (need_fits plan list b e l).need_low p, law.after-low (net_of plan) 268431360 (sum-small due.Plan plan b e 1) (need (net_of plan) list) list p);
    }
