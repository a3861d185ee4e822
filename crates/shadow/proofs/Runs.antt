-- What a replay's outcome says of the run's shadow: the part that is projected, the answer, the marking.
use Prim.Native.Nat.{ℕ, zero, suc, ◌<◌, ◌≤◌}
use mathlib.Core.Bool.{Bool, true, false, ◌||◌}
use mathlib.Core.List.{List, [], ◌∷◌, ◌++◌}
use mathlib.Core.Path.{◌≡◌, refl, sym, ap, subst, ◌∙◌}
use native.Mathlib.Omega.{arith}
use borrow.Author.Tests.{le-ltb, ltb-true, ltb-false, leb-true}
use lib.ListN.{length, get_or, take, drop, length-take, length-map}
use lib.Dec.{ltb, leb}
use lib.Seq.{take-length, take_at}
use Rattle.net.specs.Numbers.{among, position}
use Rattle.net.specs.Net.{Net, Answer, fired, short, full, replay, replay_from, tokens}
use Rattle.net.specs.Slice.{Slice, strike, own, project}
use Rattle.net.proofs.Numbers.{by_cases}
use Rattle.net.proofs.Replay.{Meaning, replay-means}
use Rattle.file.specs.Facts.{Sound}
use Rattle.file.specs.Layout.{net_from}
use Rattle.file_words.specs.Refusal.{refuse, or_else}
use Rattle.file_header.specs.declared.Header.{Header}
use Rattle.file_words.proofs.Laws.{or-false, or_else_0}
use Rattle.inputs_lists.proofs.Passing.{list_short, list_known, kept-refused}
use Rattle.promise.specs.Calls.{written}
use Rattle.promise.specs.Firing.{list_refusal, ReplayAnswer, replay_told, replay_or}
use Rattle.promise.specs.Shadow.{fired_part, shadow_of, lent_refusal, ShadowAnswer, shadow_or}
use Rattle.promise.proofs.Replays.{differ, list_known as known_among}
use Rattle.net.proofs.Markings.{length-tokens}
use Rattle.replay.specs.Told.{ended_numbers, outcome_numbers, held_back}
use Rattle.replay.specs.declared.Outcome.{Outcome}
use Rattle.replay.specs.declared.Outcome.TheVariants as outcome
use Rattle.replay.proofs.Listing.{list_passes, room_enough}
use Rattle.shadow.specs.Told.{followed_numbers, shadow_numbers, fired_of, cast_by, fired_projection, Given, Casts, Follows}
use Rattle.shadow.specs.declared.Shadow.{Shadow}
use Rattle.shadow.specs.declared.Shadow.TheVariants.{Fired, Short, Full}
use Rattle.std.proofs.Common.{Result, Ok, Err}
use Rattle.refusals.specs.declared.Refusal.{Refusal}
use Rattle.replay.proofs.Apart.{ended-whole}

-- ---- the answer that an outcome tells

told-fired : (a : Answer) → ended_numbers outcome.Fired ≡ replay_told a → a ≡ fired
told-fired fired e = refl
told-fired (short i p n) e = differ (ap (λ (x : ReplayAnswer). x.stuck) e)
told-fired (full i p n) e = differ (ap (λ (x : ReplayAnswer). x.stuck) e)

told-short : (i p n : ℕ) (a : Answer) → ended_numbers (outcome.Short i p n) ≡ replay_told a → a ≡ short i p n
told-short i p n fired e = differ (sym (ap (λ (x : ReplayAnswer). x.stuck) e))
told-short i p n (short j q m) e =
    let j≡ : i ≡ j = ap (λ (x : ReplayAnswer). x.index) e in
    let q≡ : p ≡ q = ap (λ (x : ReplayAnswer). x.place) e in
    let m≡ : n ≡ m = ap (λ (x : ReplayAnswer). x.amount) e in
    sym (λ x. short (j≡ x) (q≡ x) (m≡ x))
told-short i p n (full j q m) e = differ (ap (λ (x : ReplayAnswer). x.full) e)

told-full : (i p n : ℕ) (a : Answer) → ended_numbers (outcome.Full i p n) ≡ replay_told a → a ≡ full i p n
told-full i p n fired e = differ (sym (ap (λ (x : ReplayAnswer). x.stuck) e))
told-full i p n (short j q m) e = differ (sym (ap (λ (x : ReplayAnswer). x.full) e))
told-full i p n (full j q m) e =
    let j≡ : i ≡ j = ap (λ (x : ReplayAnswer). x.index) e in
    let q≡ : p ≡ q = ap (λ (x : ReplayAnswer). x.place) e in
    let m≡ : n ≡ m = ap (λ (x : ReplayAnswer). x.amount) e in
    sym (λ x. full (j≡ x) (q≡ x) (m≡ x))

-- a refusal tells no answer
not-told : {A : Type 0} (e : Refusal) (a : Answer) → outcome_numbers (Err e) ≡ replay_told a → A
not-told e fired h = differ (sym (ap (λ (x : ReplayAnswer). x.refused) h))
not-told e (short i p m) h = differ (sym (ap (λ (x : ReplayAnswer). x.refused) h))
not-told e (full i p m) h = differ (sym (ap (λ (x : ReplayAnswer). x.refused) h))

-- ---- how far a list is fired

-- a part of a list that is not refused
pub record Part (T' : ℕ) (list : List ℕ) (n : ℕ) : Type 0 where
  pub part : n ≤ length list
  pub short : n ≤ 65535
  pub known : (i : ℕ) → i < n → get_or list i 0 < T'

part-listed : (T' : ℕ) (list : List ℕ) (n : ℕ) → list_refusal T' list ≡ 0 → n ≤ length list → Part T' list n
part-listed T' list n e l = record { part = l; short = omega (arith, l, list_short T' list e); known = λ i h. list_known T' list e i (omega (arith, h, l)) }

module _ (N : Net) (list : List ℕ) where
  -- what the answer means, for a list that is not refused
  means : (a : Answer) → list_refusal N.transitions list ≡ 0 → (replay N list).answer ≡ a → Meaning N 0 N.marking list a (replay N list).marking
  unfolding replay
  means a passes same =
      let M = (replay_from N 0 N.marking list).marking in
      subst (λ (x : Answer). Meaning N 0 N.marking list x M) same (replay-means N 0 N.marking list (known_among N.transitions list passes))

  short_inside : (i p n : ℕ) → list_refusal N.transitions list ≡ 0 → (replay N list).answer ≡ short i p n → i < length list
  short_inside i p n passes same = let m = means (short i p n) passes same in omega (arith, m.1, m.2.inside)

  full_inside : (i p n : ℕ) → list_refusal N.transitions list ≡ 0 → (replay N list).answer ≡ full i p n → i < length list
  full_inside i p n passes same = let m = means (full i p n) passes same in omega (arith, m.1, m.2.inside)

  part_by : (k : ℕ) (o : Outcome) → ended_numbers o ≡ replay_or k (replay N list).answer → (k ≡ 0 → list_refusal N.transitions list ≡ 0)
      → Part N.transitions list (fired_of o (length list))
  part_by zero outcome.Fired e z = part-listed N.transitions list (length list) (z refl) (omega arith)
  part_by zero (outcome.Short i p n) e z =
      let l = short_inside i p n (z refl) (told-short i p n (replay N list).answer e) in
      part-listed N.transitions list i (z refl) (omega (arith, l))
  part_by zero (outcome.Full i p n) e z =
      let l = full_inside i p n (z refl) (told-full i p n (replay N list).answer e) in
      part-listed N.transitions list i (z refl) (omega (arith, l))
  part_by (suc k) o e z = differ (sym (ended-whole o) ∙ ap (λ (x : ReplayAnswer). x.refused) e)

-- what is projected, by the replay's contract
pub given_by : (plan : List ℕ) (p : Header) (list : List ℕ) (room : ℕ) {slice : List ℕ} {s : Header} {o : Outcome} → Sound slice s → s.kind ≡ 1
    → ended_numbers o ≡ replay_or (held_back p list room) (replay (net_from plan p) list).answer → Given slice s list o p.transitions
given_by plan p list room {slice} {s} {o} w k e =
    let part = part_by (net_from plan p) list (held_back p list room) o e (λ z. list_passes p list room refl z) in
    record { sound = w; kind = k; part = part.part; short = part.short; known = part.known }

-- ---- the projection of what is fired is the shadow

strike-few : (os ts : List ℕ) → length (strike os ts) ≤ length ts
unfolding strike
strike-few os [] = omega arith
strike-few os (t ∷ ts) = by_cases (among t os) (λ e. rw (e, strike) (let h = strike-few os ts in omega (arith, h))) (λ e. rw (e, strike) (let h = strike-few os ts in omega (arith, h)))

project-few : (S : Slice) (ts : List ℕ) → length (project S ts) ≤ length ts
unfolding project own
project-few S ts = omega (arith, length-map (strike S.transition_origins ts) (λ t. position t S.transition_origins), strike-few S.transition_origins ts)

part-few : (a : Answer) (list : List ℕ) → length (fired_part a list) ≤ length list
part-few fired list = omega arith
part-few (short i p n) list = omega (arith, length-take i list)
part-few (full i p n) list = omega (arith, length-take i list)

module _ (N : Net) (S : Slice) (list : List ℕ) where
  abbrev answer : Answer
  answer = (replay N list).answer

  abbrev P : List ℕ
  P = shadow_of N S list

  pub shadow_few : length P ≤ length list
  unfolding shadow_of
  shadow_few = omega (arith, project-few S (fired_part answer list), part-few answer list)

  projected : (o : Outcome) → ended_numbers o ≡ replay_told answer → fired_projection S o list ≡ P
  unfolding shadow_of
  projected outcome.Fired e = ap (project S) (take-length list) ∙ sym (ap (λ (a : Answer). project S (fired_part a list)) (told-fired answer e))
  projected (outcome.Short i p n) e = sym (ap (λ (a : Answer). project S (fired_part a list)) (told-short i p n answer e))
  projected (outcome.Full i p n) e = sym (ap (λ (a : Answer). project S (fired_part a list)) (told-full i p n answer e))

  counted : (b : Bool) (o : Outcome) (n : ℕ) → ended_numbers o ≡ replay_told answer → shadow_numbers (cast_by b o n) ≡ shadow_or (refuse b 13 0) answer n
  counted true o n e = refl
  counted false outcome.Fired n e = ap (λ (x : ReplayAnswer). record { run = x; count = n }) e
  counted false (outcome.Short i p m) n e = ap (λ (x : ReplayAnswer). record { run = x; count = n }) e
  counted false (outcome.Full i p m) n e = ap (λ (x : ReplayAnswer). record { run = x; count = n }) e

  -- 13 of an output list
  abbrev space_refusal : List ℕ → ℕ
  space_refusal out = refuse (ltb (length out) (length P)) 13 0

  -- the answer and the output list, where the replay was refused by k, or not
  pub record Told (k : ℕ) (out out' : List ℕ) (r : Result Shadow Refusal) : Type 0 where
    pub told : shadow_numbers r ≡ shadow_or (or_else k (space_refusal out)) answer (length P)
    pub output : out' ≡ written (or_else k (space_refusal out)) P out

  cast_told : (k : ℕ) (o : Outcome) (out out' : List ℕ) (r : Result Shadow Refusal) → ended_numbers o ≡ replay_or k answer → Casts (fired_projection S o list) out out' o r → Told k out out' r
  cast_told zero o out out' r e c =
      let x : Casts P out out' o r = subst (λ (l : List ℕ). Casts l out out' o r) (projected o e) c in
      record { told = ap shadow_numbers x.answer ∙ counted (ltb (length out) (length P)) o (length P) e; output = x.output }
  cast_told (suc k) o out out' r e c = differ (sym (ended-whole o) ∙ ap (λ (x : ReplayAnswer). x.refused) e)

  refused_told : (k : ℕ) (e : Refusal) (out : List ℕ) → outcome_numbers (Err e) ≡ replay_or k answer → Told k out out (Err e)
  refused_told zero e out h = not-told e answer h
  refused_told (suc k) e out h = record { told = ap (λ (y : ReplayAnswer). record { run = y; count = 0 }) h; output = refl }

-- ---- all of it, once both files were read

or_else_refuse : (a : ℕ) (b : Bool) (c : ℕ) → or_else (or_else a (refuse b 13 0)) c ≡ or_else a (refuse b 13 c)
or_else_refuse zero true c = refl
or_else_refuse zero false c = refl
or_else_refuse (suc a) b c = refl

-- a marking that is written stays where nothing is refused after it
stays : (k c : ℕ) (l m : List ℕ) → (k ≡ 0 → c ≡ 0) → written k l m ≡ written (or_else k c) l m
stays zero c l m h = ap (λ (x : ℕ). written x l m) (sym (h refl))
stays (suc k) c l m h = refl

-- a refusal has a number, and an end has none
stopped : (k : ℕ) (e : Refusal) (a : Answer) (n : ℕ) → shadow_numbers (Err e) ≡ shadow_or k a n → k ≡ 0 → ⊥
stopped zero e a n h z = not-told e a (ap (λ (y : ShadowAnswer). y.run) h)
stopped (suc k) e a n h z = omega (arith, z)

pub ended-none : (r : Shadow) → (followed_numbers r).run.refused ≡ false
ended-none (Fired n) = refl
ended-none (Short i p m n) = refl
ended-none (Full i p m n) = refl

unstopped : (k : ℕ) (r : Shadow) (a : Answer) (n : ℕ) → followed_numbers r ≡ shadow_or k a n → k ≡ 0
unstopped zero r a n h = refl
unstopped (suc k) r a n h = differ (sym (ended-none r) ∙ ap (λ (y : ShadowAnswer). y.run.refused) h)

-- a marking that is copied where nothing is refused
copied : (k c places : ℕ) (l rest m m' apart : List ℕ) → length l ≡ places → or_else k c ≡ 0 → apart ≡ written k l rest → m' ≡ take places apart ++ drop places m → m' ≡ written (or_else k c) l m
copied k c places l rest m m' apart long z w f =
    let none = or_else_0 k c z in
    f ∙ ap (λ (x : List ℕ). take places x ++ drop places m) (w ∙ ap (λ (x : ℕ). written x l rest) none.0)
    ∙ ap (λ (x : List ℕ). x ++ drop places m) (take_at l (drop (length l) rest) places long)
    ∙ ap (λ (x : ℕ). l ++ drop x m) (sym long)
    ∙ ap (λ (x : ℕ). written x l m) (sym z)

-- where it is not certain that the marking stays, the marking is long enough
pub marking_long : (places : ℕ) (list out m : List ℕ) {b : Bool} → b ≡ (leb (length list) (length out) || ltb (length m) places) → b ≡ false → places ≤ length m
marking_long places list out m e f = ltb-false (length m) places (or-false (leb (length list) (length out)) (ltb (length m) places) (sym e ∙ f)).1

module _ (plan : List ℕ) (p : Header) (S : Slice) (list : List ℕ) where
  abbrev N : Net
  N = net_from plan p

  refusal_is : (room space : ℕ) → or_else (held_back p list room) (refuse (ltb space (length (shadow_of N S list))) 13 0) ≡ lent_refusal N S list room space
  unfolding lent_refusal
  refusal_is room space = or_else_refuse (list_refusal p.transitions list) (ltb room p.places) (refuse (ltb space (length (shadow_of N S list))) 13 0)

  -- with the marking afterwards
  follows : {m m' out out' : List ℕ} {r : Result Shadow Refusal} → Told N S list (held_back p list (length m)) out out' r
      → m' ≡ written (or_else (held_back p list (length m)) (space_refusal N S list out)) (tokens N (replay N list).marking) m → Follows N S list m m' out out' r
  follows {m} {m'} {out} {out'} {r} t e =
      let same = refusal_is (length m) (length out) in
      record {
        answer = t.told ∙ ap (λ (n : ℕ). shadow_or n (replay N list).answer (length (shadow_of N S list))) same;
        marking = e ∙ ap (λ (n : ℕ). written n (tokens N (replay N list).marking) m) same;
        output = t.output ∙ ap (λ (n : ℕ). written n (shadow_of N S list) out) same;
      }

  roomy : (m out : List ℕ) → (leb (length list) (length out) || ltb (length m) p.places) ≡ true → held_back p list (length m) ≡ 0 → space_refusal N S list out ≡ 0
  roomy m out c z =
      by_cases (leb (length list) (length out))
      (λ e. rw (le-ltb (length out) (length (shadow_of N S list)) (omega (arith, shadow_few N S list, leb-true (length list) (length out) e))))
      (λ e. let f : ltb (length m) p.places ≡ true = rw e at c in
      absurd (omega (arith, ltb-true (length m) p.places f, room_enough p list (length m) refl z)))

  -- the marking that is lent is replayed in
  pub follows_straight : {o : Outcome} {m m' out out' : List ℕ} {r : Result Shadow Refusal} → (leb (length list) (length out) || ltb (length m) p.places) ≡ true
      → ended_numbers o ≡ replay_or (held_back p list (length m)) (replay N list).answer → m' ≡ written (held_back p list (length m)) (tokens N (replay N list).marking) m
      → Casts (fired_projection S o list) out out' o r → Follows N S list m m' out out' r
  follows_straight {o} {m} {m'} {out} {out'} {r} c e f cast =
      follows (cast_told N S list (held_back p list (length m)) o out out' r e cast)
      (f ∙ stays (held_back p list (length m)) (space_refusal N S list out) (tokens N (replay N list).marking) m (roomy m out c))

  -- a replay that is refused leaves all as it is
  pub follows_refused : {e : Refusal} {m m' out : List ℕ} → outcome_numbers (Err e) ≡ replay_or (held_back p list (length m)) (replay N list).answer
      → m' ≡ written (held_back p list (length m)) (tokens N (replay N list).marking) m → Follows N S list m m' out out (Err e)
  follows_refused {e} {m} {m'} {out} h f =
      let t = refused_told N S list (held_back p list (length m)) e out h in
      follows t (f ∙ stays (held_back p list (length m)) (space_refusal N S list out) (tokens N (replay N list).marking) m
      (λ z. absurd (not-told e (replay N list).answer (h ∙ ap (λ (k : ℕ). replay_or k (replay N list).answer) z))))

  -- one apart
  same_back : (room room' : ℕ) → p.places ≤ room → p.places ≤ room' → held_back p list room ≡ held_back p list room'
  same_back room room' h h' = rw (le-ltb room p.places h, le-ltb room' p.places h')

  module _ (room : ℕ) (rest m out : List ℕ) (h : p.places ≤ room) (h' : p.places ≤ length m) where
    same : held_back p list room ≡ held_back p list (length m)
    same = same_back room (length m) h h'

    -- refused, before or after that, the marking keeps every entry
    stopped_told : {e : Refusal} {out' : List ℕ} → Told N S list (held_back p list (length m)) out out' (Err e) → Follows N S list m m out out' (Err e)
    stopped_told {e} t = follows t (kept-refused (or_else (held_back p list (length m)) (space_refusal N S list out)) (tokens N (replay N list).marking) m refl (stopped _ e _ _ t.told))

    pub follows_unreplayed : {e : Refusal} → outcome_numbers (Err e) ≡ replay_or (held_back p list room) (replay N list).answer → Follows N S list m m out out (Err e)
    follows_unreplayed {e} f = stopped_told (refused_told N S list (held_back p list (length m)) e out (f ∙ ap (λ (k : ℕ). replay_or k (replay N list).answer) same))

    module _ {o : Outcome} (f : ended_numbers o ≡ replay_or (held_back p list room) (replay N list).answer) {out' : List ℕ} where
      told_by : {r : Result Shadow Refusal} → Casts (fired_projection S o list) out out' o r → Told N S list (held_back p list (length m)) out out' r
      told_by {r} cast = cast_told N S list (held_back p list (length m)) o out out' r (f ∙ ap (λ (k : ℕ). replay_or k (replay N list).answer) same) cast

      pub follows_unwritten : {e : Refusal} → Casts (fired_projection S o list) out out' o (Err e) → Follows N S list m m out out' (Err e)
      follows_unwritten cast = stopped_told (told_by cast)

      -- and else it is copied
      pub follows_apart : {r : Shadow} {m' apart : List ℕ} → apart ≡ written (held_back p list room) (tokens N (replay N list).marking) rest
          → Casts (fired_projection S o list) out out' o (Ok r) → m' ≡ take p.places apart ++ drop p.places m → Follows N S list m m' out out' (Ok r)
      follows_apart {r} {m'} {apart} w cast g =
          let t = told_by cast in
          follows t (copied (held_back p list (length m)) (space_refusal N S list out) p.places (tokens N (replay N list).marking) rest m m' apart (length-tokens N (replay N list).marking)
          (unstopped _ r _ _ t.told) (w ∙ ap (λ (k : ℕ). written k (tokens N (replay N list).marking) rest) same) g)
