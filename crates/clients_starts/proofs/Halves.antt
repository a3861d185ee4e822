-- A list replayed in two parts: the second goes on where the first ended.
use Prim.Native.Nat.{ℕ, zero, suc, ◌+◌, ◌≤◌, ◌<◌}
use mathlib.Core.Bool.{Bool, true, false, not}
use mathlib.Core.List.{List, [], ◌∷◌, ◌++◌}
use mathlib.Core.Path.{◌≡◌, refl, sym, ap, subst, ◌∙◌}
use native.Mathlib.Omega.{arith}
use lib.ListN.{length, drop, get_or, length-append, get_or-append, get_or-eq_default}
use lib.Dec.{ltb, leb}
use borrow.Author.Tests.{ltb-true, ltb-false, lt-ltb, le-ltb, eq-eqb, ne_eqb}
use Rattle.net.specs.Numbers.{any}
use Rattle.net.specs.Net.{Net, Marking, Answer, fired, short, full, input, output, capped, fire, Enabled, WithinCaps, test_firing, Replay, replay_from, replay, tokens}
use Rattle.net.proofs.Numbers.{by_cases, holds}
use Rattle.net.proofs.Markings.{below-off, length-tokens, get_d_tokens, tokens-are}
use Rattle.net.proofs.Replay.{by_test, test_means}
use Rattle.file_words.specs.Word.{byte_at, Bytes}
use Rattle.file_words.specs.Refusal.{refuse, or_else}
use Rattle.file_words.proofs.Laws.{refuse-0, or_else_0}
use Rattle.file_header.specs.Layout.{header_of}
use Rattle.file_header.specs.declared.Due.TheVariants as due
use Rattle.file.specs.Layout.{net_of}
use Rattle.file.specs.Refusal.{file_refusal}
use Rattle.file.specs.Facts.{Sound}
use Rattle.file.proofs.Opening.{sound}
use Rattle.arcs_column.proofs.Arcs.{none_past}
use Rattle.promise.specs.Calls.{written}
use Rattle.promise.specs.Firing.{ReplayAnswer, replay_told, replay_or, list_refusal, replay_refusal, replay_answer, replay_marking}
use Rattle.promise.specs.Together.{standing}
use Rattle.promise.specs.Starts.{started, too_many, start_refusal, from_refusal, replay_from_answer, replay_from_marking, OtherMarking}
use Rattle.promise.proofs.Started.{over_none}
use Rattle.promise.proofs.Starts.{other_marking}
use Rattle.promise.proofs.Replays.{differ}
use Rattle.starting.proofs.Replayed.{from_start}
use Rattle.clients_starts.specs.Whole.{all_fired, Fits, later, AsWhole}

-- ---- of a net

-- the answer with k firings before
abbrev later_by : ℕ → Answer → Answer
later_by k fired = fired
later_by k (short i p n) = short (k + i) p n
later_by k (full i p n) = full (k + i) p n

told-later : (k n : ℕ) (a : Answer) → replay_or n (later_by k a) ≡ later k (replay_or n a)
told-later k zero fired = refl
told-later k zero (short i p n) = refl
told-later k zero (full i p n) = refl
told-later k (suc m) a = refl

module _ (N : Net) where
  -- where the first part fires, the rest is replayed from what it leaves
  after_first : (us ts : List ℕ) (i : ℕ) (M : Marking) → (replay_from N i M ts).answer ≡ fired → replay_from N i M (ts ++ us) ≡ replay_from N (i + length ts) (replay_from N i M ts).marking us
  unfolding replay_from
  after_first us [] i M e = let z : i ≡ i + 0 = omega arith in ap (λ (k : ℕ). replay_from N k M us) z
  after_first us (t ∷ ts) i M e =
      by_test (test_firing N t M)
      (λ p.
      let rest : (replay_from N (suc i) (fire N t M) ts).answer ≡ fired = rw (p, replay_from) at e in
      let z : suc i + length ts ≡ i + suc (length ts) = omega arith in
      rw (p, replay_from) (after_first us ts (suc i) (fire N t M) rest ∙ ap (λ (k : ℕ). replay_from N k (replay_from N (suc i) (fire N t M) ts).marking us) z))
      (λ q n p. let no : (replay_told (short i q n)).stuck ≡ false = ap (λ (a : Answer). (replay_told a).stuck) (rw (p, replay_from) at e) in differ (sym no))
      (λ q n p. let no : (replay_told (full i q n)).stuck ≡ false = ap (λ (a : Answer). (replay_told a).stuck) (rw (p, replay_from) at e) in differ (sym no))

  -- the count of firings done shows in the index alone
  counted-on : (k : ℕ) (us : List ℕ) (i : ℕ) (M : Marking) → replay_from N (k + i) M us ≡ record { answer = later_by k (replay_from N i M us).answer; marking = (replay_from N i M us).marking }
  unfolding replay_from
  counted-on k [] i M = refl
  counted-on k (u ∷ us) i M =
      by_test (test_firing N u M)
      (λ p. let z : suc (k + i) ≡ k + suc i = omega arith in rw (p, replay_from) (ap (λ (j : ℕ). replay_from N j (fire N u M) us) z ∙ counted-on k us (suc i) (fire N u M)))
      (λ q n p. rw (p, replay_from))
      (λ q n p. rw (p, replay_from))

  -- no place beyond the net's gets tokens
  off : ((p t : ℕ) → N.places ≤ p → (input N p t ≡ 0) × (output N p t ≡ 0)) → (ts : List ℕ) (i : ℕ) (M : Marking) → ((p : ℕ) → N.places ≤ p → M p ≡ 0)
      → (p : ℕ) → N.places ≤ p → (replay_from N i M ts).marking p ≡ 0
  unfolding replay_from fire
  off none [] i M m p l = m p l
  off none (t ∷ ts) i M m p l =
      by_test (test_firing N t M)
      (λ e. rw (e, replay_from) (off none ts (suc i) (fire N t M) (λ q k. let w = none q t k in let w0 = w.0 in let w1 = w.1 in omega (arith, m q k, w0, w1)) p l))
      (λ q n e. rw (e, replay_from) (m p l))
      (λ q n e. rw (e, replay_from) (m p l))

  -- each firing leaves the marking within the caps
  within : (ts : List ℕ) (i : ℕ) (M : Marking) → WithinCaps N M → WithinCaps N (replay_from N i M ts).marking
  unfolding replay_from
  within [] i M c = c
  within (t ∷ ts) i M c =
      by_test (test_firing N t M)
      (λ e. let w : Enabled N t M = rw e at (test_means N t M) in rw (e, replay_from) (within ts (suc i) (fire N t M) (unfold Enabled in w.1)))
      (λ q n e. rw (e, replay_from) c)
      (λ q n e. rw (e, replay_from) c)

-- ---- of a file

any-joined : (f : ℕ → Bool) (a b : List ℕ) → any f a ≡ false → any f (a ++ b) ≡ any f b
unfolding any
any-joined f [] b e = refl
any-joined f (x ∷ a) b e = by_cases (f x) (λ k. let no : true ≡ false = rw k at e in differ (sym no)) (λ k. rw k (any-joined f a b (rw k at e)))

few_tokens : (m c : ℕ) → m ≤ 4294967295 → (0 < c → m ≤ c) → too_many m c ≡ false
few_tokens m zero l f = rw (le-ltb 4294967295 m l)
few_tokens m (suc c) l f = rw (le-ltb 4294967295 m l, ne_eqb (suc c) 0 (λ z. omega (arith, z)), le-ltb (suc c) m (f (omega arith)))

-- an answer that says that all fired
none_refused : (n : ℕ) (a : Answer) → all_fired (replay_or n a) ≡ true → (n ≡ 0) × (a ≡ fired)
none_refused zero fired e = (refl, refl)
none_refused zero (short i p n) e = differ e
none_refused zero (full i p n) e = differ e
none_refused (suc n) a e = differ e

module _ (file first second middle marking : List ℕ) (b : Bytes file) (f : all_fired (replay_answer file first (length middle)) ≡ true)
    (fits : Fits (net_of file) (replay_marking file first middle)) (few : length first + length second ≤ 65535) where
  abbrev N : Net
  N = net_of file

  abbrev R : Marking
  R = (replay N first).marking

  abbrev m : List ℕ
  m = replay_marking file first middle

  both : (replay_refusal file first (length middle) ≡ 0) × ((replay N first).answer ≡ fired)
  unfolding replay_answer
  both = none_refused (replay_refusal file first (length middle)) (replay N first).answer f

  parts : (file_refusal due.Either file ≡ 0) × (list_refusal N.transitions first ≡ 0)
  unfolding replay_refusal
  parts =
      let a = or_else_0 (file_refusal due.Either file) (or_else (list_refusal N.transitions first) (refuse (ltb (length middle) N.places) 13 0)) both.0 in
      (a.0, (or_else_0 (list_refusal N.transitions first) _ a.1).0)

  read : Sound file (header_of file)
  read = sound due.Either file parts.0

  -- what the first part left
  left : m ≡ tokens N R
  unfolding replay_marking
  left = tokens-are N R (replay_marking file first middle) fits.long
      (λ p l. ap (λ (x : List ℕ). get_or x p 0) is ∙ get_or-append (tokens N R) _ 0 p (omega (arith, length-tokens N R)) ∙ get_d_tokens N R p l)
    where
      is : replay_marking file first middle ≡ tokens N R ++ drop (length (tokens N R)) middle
      is = unfold replay_marking in rw both.0

  none_off : (p t : ℕ) → N.places ≤ p → (input N p t ≡ 0) × (output N p t ≡ 0)
  unfolding input output
  none_off p t l = (none_past file (header_of file) read 0 p t l, none_past file (header_of file) read 1 p t l)

  beyond : (p : ℕ) → N.places ≤ p → standing m p ≡ 0
  beyond p l = get_or-eq_default m 0 {n = p} (omega (arith, fits.long))

  stands : standing m ≡ R
  unfolding replay
  stands = λ i p. at p i
    where
      at : (p : ℕ) → standing m p ≡ R p
      at p = by_cases (ltb p N.places)
          (λ e. ap (λ (x : List ℕ). get_or x p 0) left ∙ get_d_tokens N R p (ltb-true p N.places e))
          (λ e. let l = ltb-false p N.places e in beyond p l ∙ sym (unfold replay in off N none_off first 0 N.marking (λ q k. below-off N.places _ q k) p l))

  passes_start : from_refusal due.Either file m ≡ 0
  unfolding from_refusal start_refusal
  passes_start = rw (parts.0, eq-eqb (length m) N.places fits.long, over_none N (standing m) fit)
    where
      caps : WithinCaps N R
      caps = unfold replay in within N first 0 N.marking read.caps

      fit : (p : ℕ) → p < N.places → too_many (standing m p) (N.cap p) ≡ false
      fit p l = few_tokens (standing m p) (N.cap p) (fits.low p l) (λ some.
          let here = ap (λ (x : Marking). x p) stands in
          let c : R p ≤ N.cap p = unfold WithinCaps in caps p l (unfold capped in holds (ltb 0 (N.cap p)) (lt-ltb 0 (N.cap p) some)) in
          omega (arith, here, c))

  o : OtherMarking file m
  o = other_marking due.Either file m b passes_start

  -- the second part from there
  rest_is : replay (net_of (started file m)) second ≡ replay_from N 0 R second
  rest_is = ap (λ (X : Net). replay X second) o.net ∙ from_start (standing m) N second ∙ ap (λ (X : Marking). replay_from N 0 X second) stands

  -- the whole list
  whole_is : replay N (first ++ second) ≡ replay_from N (length first + 0) R second
  unfolding replay
  whole_is =
      let z : 0 + length first ≡ length first + 0 = omega arith in
      after_first N second first 0 N.marking (unfold replay in both.1) ∙ ap (λ (k : ℕ). replay_from N k (replay_from N 0 N.marking first).marking second) z

  joined_is : replay N (first ++ second) ≡ record { answer = later_by (length first) (replay (net_of (started file m)) second).answer; marking = (replay (net_of (started file m)) second).marking }
  joined_is =
      whole_is ∙ counted-on N (length first) second 0 R
      ∙ ap (λ (X : Replay). record { answer = later_by (length first) X.answer; marking = X.marking }) (sym rest_is)

  list_is : list_refusal N.transitions second ≡ list_refusal N.transitions (first ++ second)
  unfolding list_refusal
  list_is =
      let k = (refuse-0 (any (λ t. leb N.transitions t) first) 11 0 (refuse-0 (ltb 65535 (length first)) 10 (refuse (any (λ t. leb N.transitions t) first) 12 0) parts.1).1).0 in
      rw (le-ltb 65535 (length second) (omega (arith, few)), le-ltb 65535 (length (first ++ second)) (omega (arith, few, length-append first second)), any-joined (λ t. leb N.transitions t) first second k)

  refused_alike : (room : ℕ) → replay_refusal (started file m) second room ≡ replay_refusal file (first ++ second) room
  unfolding replay_refusal
  refused_alike room =
      rw (o.read due.Either parts.0, parts.0)
      (ap (λ (X : Net). or_else (list_refusal X.transitions second) (refuse (ltb room X.places) 13 0)) o.net
      ∙ ap (λ (n : ℕ). or_else n (refuse (ltb room N.places) 13 0)) list_is)

  begun-answer : (room : ℕ) → replay_from_answer file m second room ≡ replay_answer (started file m) second room
  unfolding replay_from_answer
  begun-answer room = rw passes_start

  begun-marking : replay_from_marking file m second marking ≡ replay_marking (started file m) second marking
  unfolding replay_from_marking
  begun-marking = rw passes_start

  answer-alike : (room : ℕ) → replay_answer file (first ++ second) room ≡ later (length first) (replay_answer (started file m) second room)
  unfolding replay_answer
  answer-alike room =
      ap (λ (X : Replay). replay_or (replay_refusal file (first ++ second) room) X.answer) joined_is
      ∙ told-later (length first) (replay_refusal file (first ++ second) room) (replay (net_of (started file m)) second).answer
      ∙ ap (λ (n : ℕ). later (length first) (replay_or n (replay (net_of (started file m)) second).answer)) (sym (refused_alike room))

  marking_alike : replay_marking (started file m) second marking ≡ replay_marking file (first ++ second) marking
  unfolding replay_marking tokens
  marking_alike =
      ap (λ (n : ℕ). written n (tokens (net_of (started file m)) (replay (net_of (started file m)) second).marking) marking) (refused_alike (length marking))
      ∙ ap (λ (X : Net). written (replay_refusal file (first ++ second) (length marking)) (tokens X (replay (net_of (started file m)) second).marking) marking) o.net
      ∙ ap (λ (X : Replay). written (replay_refusal file (first ++ second) (length marking)) (tokens N X.marking) marking) (sym joined_is)

  pub as_whole : {exit : List ℕ} {a : ReplayAnswer} → a ≡ replay_from_answer file m second (length marking) → exit ≡ replay_from_marking file m second marking
      → AsWhole file first second marking exit a
  as_whole e g = record {
    answer = answer-alike (length marking) ∙ ap (later (length first)) (sym (begun-answer (length marking)) ∙ sym e);
    ends = g ∙ begun-marking ∙ marking_alike;
  }

-- at the calls: m is what the first part left
pub two_parts : (file first second middle marking : List ℕ) {m exit : List ℕ} {a : ReplayAnswer} → ((i : ℕ) → byte_at file i < 256) → all_fired (replay_answer file first (length middle)) ≡ true
    → m ≡ replay_marking file first middle → Fits (net_of file) m → length first + length second ≤ 65535
    → a ≡ replay_from_answer file m second (length marking) → exit ≡ replay_from_marking file m second marking → AsWhole file first second marking exit a
unfolding Bytes
two_parts file first second middle marking b f e fits few ea em =
    as_whole file first second middle marking b f (subst (λ (x : List ℕ). Fits (net_of file) x) e fits) few
    (ea ∙ ap (λ (x : List ℕ). replay_from_answer file x second (length marking)) e) (em ∙ ap (λ (x : List ℕ). replay_from_marking file x second marking) e)

-- the test whether all fired
pub stopped : {A : Type 0} (r : Bool) {x a : ReplayAnswer} → not r ≡ true → r ≡ all_fired x → x ≡ a → all_fired a ≡ true → A
stopped true n e f w = differ n
stopped false n e f w = differ (e ∙ ap all_fired f ∙ w)

pub went_on : (r : Bool) {x a : ReplayAnswer} → not r ≡ false → r ≡ all_fired x → x ≡ a → all_fired a ≡ true
went_on true n e f = sym (e ∙ ap all_fired f)
went_on false n e f = differ (sym n)
