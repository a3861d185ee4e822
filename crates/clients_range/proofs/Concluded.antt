-- What the programs here conclude from the contracts of `range` and `replay`.
use Prim.Native.Nat.{ℕ, zero, suc, ◌≤◌}
use mathlib.Core.Bool.{Bool, true, false, not, ◌||◌}
use mathlib.Core.List.{List, ◌++◌}
use mathlib.Core.Path.{◌≡◌, refl, sym, ap, ◌∙◌}
use mathlib.Core.Logic.{◌↔◌}
use native.Mathlib.Omega.{arith}
use lib.ListN.{length, drop, length-append}
use lib.Dec.{eqb}
use borrow.Author.Tests.{eqb-true, eq-eqb, not-false}
use Rattle.std.specs.Prelude.{Result, Ok, Err}
use Rattle.std.specs.Result.{is_err}
use Rattle.refusals.specs.declared.Refusal.{Refusal}
use Rattle.range.specs.Told.{range_numbers}
use Rattle.range.specs.declared.Range.{Range}
use Rattle.range.specs.declared.Range.TheVariants.{Every, Partly, Never}
use Rattle.net.specs.Net.{Answer, replay, Net, Fires, has_caps, tokens}
use Rattle.net.specs.Range.{need, Covers, covers, Between, Extent, extent}
use Rattle.net.specs.Guarantee.{PlanFires}
use Rattle.net.proofs.Numbers.{holds, is_true, same_test}
use Rattle.net.proofs.Markings.{length-tokens}
use Rattle.net.proofs.Range.{covers-is, covers-yes}
use Rattle.file.specs.Layout.{net_of}
use Rattle.file.specs.Refusal.{file_refusal}
use Rattle.file_header.specs.declared.Due.TheVariants as due
use Rattle.file_words.proofs.Laws.{refuse-0, or_else_0, or-false}
use Rattle.promise.specs.Calls.{written}
use Rattle.promise.specs.Together.{standing}
use Rattle.promise.specs.Firing.{list_refusal, replay_refusal, ReplayAnswer, replay_or, replay_answer}
use Rattle.promise.specs.Range.{upper_wrong, range_refusal, RangeAnswer, range_or, range_answer, range_need, TellsRange}
use Rattle.promise.proofs.Replays.{differ, replays}
use Rattle.promise.proofs.Range.{more_is_enough, same_range}
use Rattle.clients_range.specs.Cases.{case_by, case_of, agreeing}

-- ---- what is known where `range` is not refused

pub goes_on : (r : Result Range Refusal) → is_err r ≡ false → (range_numbers r).refused ≡ false
goes_on (Ok Every) e = refl
goes_on (Ok Partly) e = refl
goes_on (Ok Never) e = refl
goes_on (Err f) e = differ (sym e)

passed : (n : ℕ) (x : Extent) → (range_or n x).refused ≡ false → n ≡ 0
passed zero x e = refl
passed (suc n) x e = differ (sym e)

module _ (plan list upper : List ℕ) (room : ℕ) {a : RangeAnswer} (told : a ≡ range_answer plan list upper room) (goes : a.refused ≡ false) where
  abbrev N : Net
  N = net_of plan

  none : range_refusal plan list upper room ≡ 0
  unfolding range_answer
  none = passed (range_refusal plan list upper room) (extent N (standing upper) list) (sym (ap (λ (x : RangeAnswer). x.refused) told) ∙ goes)

  upper_right : upper_wrong N upper ≡ false
  unfolding range_refusal
  upper_right =
      let caps = refuse-0 (has_caps N) 16 _ (or_else_0 (file_refusal due.Plan plan) _ none).1 in
      (refuse-0 (upper_wrong N upper) 20 _ (or_else_0 (list_refusal N.transitions list) _ caps.1).1).0

  pub as_many : length upper ≡ N.places
  unfolding upper_wrong
  as_many = eqb-true (length upper) N.places (not-false _ (or-false (not (eqb (length upper) N.places)) (not (covers N (standing upper) N.marking)) upper_right).0)

  -- the plan's marking is in the range
  lowest : Between N (standing upper) N.marking
  unfolding upper_wrong Between Covers
  lowest p l =
      let rises = not-false _ (or-false (not (eqb (length upper) N.places)) (not (covers N (standing upper) N.marking)) upper_right).1 in
      (omega arith, covers-yes N (standing upper) N.marking rises p l)

  module _ {exit : List ℕ} (tells : TellsRange plan list upper a exit) where
    -- from all of the range exactly if from its least marking
    all-or_least : (a.every ≡ true) ↔ Fires N N.marking list
    unfolding Between Covers
    all-or_least =
        let law = tells.from_every goes in (
          λ e. law.0 e N.marking lowest,
          λ f. law.1 (λ M b. (more_is_enough plan list upper a exit goes tells).more N.marking M (λ p l. (b p l).0) f),
        )

    -- the entries written are enough, and nothing less is
    pub by_the_need : (tokens : List ℕ) {r : Bool} → r ≡ covers N (standing tokens) (standing exit) → (r ≡ true) ↔ Fires N (standing tokens) list
    by_the_need tokens e =
        let law = (tells.needed goes).exactly (standing tokens) in (
          λ t. law.1 (covers-yes N (standing tokens) (standing exit) (sym e ∙ t)),
          λ f. e ∙ covers-is N (standing tokens) (standing exit) (law.0 f),
        )

-- there is an entry for each place
pub as_long : (plan list upper lent : List ℕ) {a : RangeAnswer} {exit : List ℕ} → a ≡ range_answer plan list upper (length lent) → a.refused ≡ false
    → exit ≡ range_need plan list upper lent → (net_of plan).places ≤ length exit
unfolding range_need
as_long plan list upper lent {a} {exit} told goes e =
    let needed = tokens (net_of plan) (need (net_of plan) list) in
    let same : exit ≡ needed ++ drop (length needed) lent = e ∙ ap (λ (n : ℕ). written n needed lent) (none plan list upper (length lent) told goes) in
    omega (arith, ap length same, length-append needed (drop (length needed) lent), length-tokens (net_of plan) (need (net_of plan) list))

-- ---- `range` beside `replay`

replay-passed : (n : ℕ) (x : Answer) → (replay_or n x).refused ≡ false → n ≡ 0
replay-passed zero x e = refl
replay-passed (suc n) x e = differ (sym e)

either_way : (s : Bool) → (not s ≡ true) ↔ (s ≡ false)
either_way true = (λ e. differ e, λ e. differ (sym e))
either_way false = (λ e. refl, λ e. refl)

pub agrees : (plan list upper : List ℕ) (room room' : ℕ) {a : RangeAnswer} {exit : List ℕ} {o : ReplayAnswer}
    → a ≡ range_answer plan list upper room → TellsRange plan list upper a exit → a.refused ≡ false → o ≡ replay_answer plan list room' → o.refused ≡ false → a.every ≡ not o.stuck
unfolding replay_answer PlanFires
agrees plan list upper room room' {a} {exit} {o} told tells goes answered fires =
    let z = replay-passed (replay_refusal plan list room') (replay (net_of plan) list).answer (sym (ap (λ (x : ReplayAnswer). x.refused) answered) ∙ fires) in
    let law = (replays plan list room' z).fires in
    let same = ap (λ (x : ReplayAnswer). x.stuck) answered in
    let all = all-or_least plan list upper room told goes tells in
    let way = either_way o.stuck in
    same_test a.every (not o.stuck)
    (λ h. holds _ (way.1 (same ∙ law.1 (all.0 (is_true _ h)))))
    (λ h. holds _ (all.1 (law.0 (sym same ∙ way.0 (is_true _ h)))))

-- nothing else makes two answers disagree
pub none_differ : (x y f s : Bool) → (x ≡ false → y ≡ false → f ≡ not s) → agreeing x y f s ≡ true
none_differ true y f s h = refl
none_differ false true f s h = refl
none_differ false false true true h = differ (sym (h refl refl))
none_differ false false true false h = refl
none_differ false false false true h = refl
none_differ false false false false h = differ (h refl refl)

-- ---- `range` twice

pub none_apart : (x y : Bool) (m n : ℕ) → (x ≡ false → y ≡ false → m ≡ n) → ((x || y) || eqb m n) ≡ true
none_apart true y m n h = refl
none_apart false true m n h = refl
none_apart false false m n h = eq-eqb m n (h refl refl)

pub one-case : (plan list upper : List ℕ) {a b : RangeAnswer} {exit exit' : List ℕ} → a.refused ≡ false → b.refused ≡ false
    → TellsRange plan list upper a exit → TellsRange plan list upper b exit' → case_of a ≡ case_of b
one-case plan list upper {a} {b} {exit} {exit'} goes goes' tells tells' =
    let s = same_range plan list upper a b exit exit' goes goes' tells tells' in
    λ i. case_by (s.same_every i) (s.same_partly i) (s.same_never i)
