-- The answer and the two buffers, by how the list fares and by the room.
use Prim.Native.Nat.{ℕ, zero, suc, ◌<◌, ◌≤◌}
use mathlib.Core.Bool.{Bool, true, false}
use mathlib.Core.List.{List, ◌++◌}
use mathlib.Core.Path.{◌≡◌, refl, sym, ap, subst, ◌∙◌}
use mathlib.Core.Logic.{◌≢◌}
use native.Mathlib.Omega.{arith}
use lib.Dec.{ltb}
use lib.ListN.{length, get_or, drop}
use borrow.Author.Tests.{lt-ltb, le-ltb}
use Rattle.std.specs.Prelude.{Ok, Err}
use Rattle.refusals.specs.Numbers.{number}
use Rattle.refusals.specs.declared.Refusal.{Refusal}
use Rattle.refusals.specs.declared.Refusal.TheVariants.{Buffer}
use Rattle.refusals.proofs.Numbers.{number_above}
use Rattle.net.specs.Net.{Net, Answer, fired, short, full, Replay, replay}
use Rattle.net.specs.Slice.{Slice}
use Rattle.net.specs.Guarantee.{PlanFires}
use Rattle.net.specs.Run.{fed, run_cut}
use Rattle.net.proofs.Numbers.{at_position, position-lt, length-selected}
use Rattle.net.proofs.Replay.{replay-means, fires_replay}
use Rattle.file.specs.Layout.{net_from}
use Rattle.file_words.specs.Refusal.{refuse}
use Rattle.file.specs.Facts.{Sound}
use Rattle.file.specs.Criterion.{criterion_refusal}
use Rattle.file_writing.specs.Writing.{slice_bytes}
use Rattle.file_header.specs.declared.Header.{Header}
use Rattle.promise.specs.Calls.{CutAnswer, cut_answer, written}
use Rattle.promise.specs.Firing.{ReplayAnswer, replay_or, list_refusal}
use Rattle.promise.specs.RunCut.{RunAnswer, run_written, run_or, run_room, run_outcome}
use Rattle.promise.proofs.Replays.{differ}
use Rattle.inputs_lists.proofs.Passing.{list_short, list_known}
use Rattle.replay.specs.Told.{outcome_numbers}
use Rattle.replay.specs.declared.Outcome.TheVariants as outcome
use Rattle.sets.specs.declared.KeptSets.{KeptSets}
use Rattle.slice.specs.Kept.{cut_numbers, kept_slice, room_refusal}
use Rattle.slice.specs.declared.Written.{Written as Cut}
use Rattle.run_cut.specs.Told.{answer_to, Answers}
use Rattle.run_cut.specs.Parts.{Given, chosen_by, FedBy}
use Rattle.run_cut.specs.declared.RunCut.TheVariants.{Written, Sticks}

-- ---- how the list fares

-- what an outcome was made from: the list's refusal and the replay
told-refused : (l : ℕ) (a : Answer) (r : Refusal) → outcome_numbers (Err r) ≡ replay_or l a → l ≡ number r
told-refused zero fired r e = differ (sym (ap (λ (x : ReplayAnswer). x.refused) e))
told-refused zero (short i p n) r e = differ (sym (ap (λ (x : ReplayAnswer). x.refused) e))
told-refused zero (full i p n) r e = differ (sym (ap (λ (x : ReplayAnswer). x.refused) e))
told-refused (suc l) a r e = sym (ap (λ (x : ReplayAnswer). x.refusal) e)

told-short : (l : ℕ) (a : Answer) (i p n : ℕ) → outcome_numbers (Ok (outcome.Short i p n)) ≡ replay_or l a → (l ≡ 0) × (a ≡ short i p n)
told-short zero fired i p n e = differ (sym (ap (λ (x : ReplayAnswer). x.stuck) e))
told-short zero (short j q m) i p n e =
    let j≡ : j ≡ i = sym (ap (λ (x : ReplayAnswer). x.index) e) in
    let q≡ : q ≡ p = sym (ap (λ (x : ReplayAnswer). x.place) e) in
    let m≡ : m ≡ n = sym (ap (λ (x : ReplayAnswer). x.amount) e) in
    (refl, λ x. short (j≡ x) (q≡ x) (m≡ x))
told-short zero (full j q m) i p n e = differ (ap (λ (x : ReplayAnswer). x.full) e)
told-short (suc l) a i p n e = differ (ap (λ (x : ReplayAnswer). x.refused) e)

told-full : (l : ℕ) (a : Answer) (i p n : ℕ) → outcome_numbers (Ok (outcome.Full i p n)) ≡ replay_or l a → (l ≡ 0) × (a ≡ full i p n)
told-full zero fired i p n e = differ (sym (ap (λ (x : ReplayAnswer). x.stuck) e))
told-full zero (short j q m) i p n e = differ (sym (ap (λ (x : ReplayAnswer). x.full) e))
told-full zero (full j q m) i p n e =
    let j≡ : j ≡ i = sym (ap (λ (x : ReplayAnswer). x.index) e) in
    let q≡ : q ≡ p = sym (ap (λ (x : ReplayAnswer). x.place) e) in
    let m≡ : m ≡ n = sym (ap (λ (x : ReplayAnswer). x.amount) e) in
    (refl, λ x. full (j≡ x) (q≡ x) (m≡ x))
told-full (suc l) a i p n e = differ (ap (λ (x : ReplayAnswer). x.refused) e)

told-fired : (l : ℕ) (a : Answer) → outcome_numbers (Ok outcome.Fired) ≡ replay_or l a → (l ≡ 0) × (a ≡ fired)
told-fired zero fired e = (refl, refl)
told-fired zero (short i p n) e = differ (ap (λ (x : ReplayAnswer). x.stuck) e)
told-fired zero (full i p n) e = differ (ap (λ (x : ReplayAnswer). x.stuck) e)
told-fired (suc l) a e = differ (ap (λ (x : ReplayAnswer). x.refused) e)

-- what is lent stays where a call is refused
untouched : (n : ℕ) (file buffer : List ℕ) → n ≢ 0 → buffer ≡ written n file buffer
untouched zero file buffer r = absurd (r refl)
untouched (suc n) file buffer r = refl

module _ (s : List ℕ) (h : Header) (Q list entry slots : List ℕ) where
  abbrev N : Net
  N = net_from s h

  abbrev listed : ℕ
  listed = list_refusal h.transitions list

  abbrev due : RunAnswer
  due = run_outcome h.edition N Q list (length entry) (length slots)

  pub refused_list : (r : Refusal) → outcome_numbers (Err r) ≡ replay_or listed (replay N list).answer → Answers s h Q list (answer_to s h Q list (length entry) (length slots)) entry entry slots slots (Err r)
  refused_list r e =
      let above = number_above r in
      let same = told-refused listed (replay N list).answer r e in
      subst (λ (n : ℕ). Answers s h Q list (run_or n due) entry entry slots slots (Err r)) (sym above.1 ∙ sym same) (record {
        answer = λ i. record { refused = true; refusal = above.1 i; length = 0; places = 0; transitions = 0; count = 0; stuck = false; index = 0; place = 0; amount = 0 };
        buffer = refl;
        second = refl;
      })

  pub short_list : (i p n : ℕ) → outcome_numbers (Ok (outcome.Short i p n)) ≡ replay_or listed (replay N list).answer → Answers s h Q list (answer_to s h Q list (length entry) (length slots)) entry entry slots slots (Ok (Sticks i p n))
  unfolding run_outcome
  short_list i p n e =
      let t = told-short listed (replay N list).answer i p n e in
      rw (t.0, t.1) (record { answer = refl; buffer = refl; second = refl })

  pub full_list : (i p n : ℕ) → outcome_numbers (Ok (outcome.Full i p n)) ≡ replay_or listed (replay N list).answer → Answers s h Q list (answer_to s h Q list (length entry) (length slots)) entry entry slots slots (Ok (Sticks i p n))
  unfolding run_outcome
  full_list i p n e =
      let t = told-full listed (replay N list).answer i p n e in
      rw (t.0, t.1) (record { answer = refl; buffer = refl; second = refl })

  module _ (e : outcome_numbers (Ok outcome.Fired) ≡ replay_or listed (replay N list).answer) where
    list_passes : listed ≡ 0
    list_passes = (told-fired listed (replay N list).answer e).0

    pub given : Sound s h → criterion_refusal h.places Q ≡ 0 → Given s h Q list
    unfolding PlanFires replay
    given sound passes = record {
      sound = sound;
      criterion = passes;
      short = list_short h.transitions list list_passes;
      known = list_known h.transitions list list_passes;
      fires = (rw (told-fired listed (replay N list).answer e).1 at (replay-means N 0 N.marking list (λ t m.
          subst (λ (u : ℕ). u < h.transitions) (at_position t list m) (list_known h.transitions list list_passes _ (position-lt t list m))))).0;
    }

-- ---- the room

-- what the writer of the slice said
cut-refused : (r len : ℕ) (S : Slice) (k : Refusal) → cut_numbers (Err k) ≡ cut_answer r len S → r ≡ number k
cut-refused zero len S k e = differ (sym (ap (λ (x : CutAnswer). x.refused) e))
cut-refused (suc r) len S k e = sym (ap (λ (x : CutAnswer). x.refusal) e)

cut-written : (r len : ℕ) (S : Slice) (w : Cut) → cut_numbers (Ok w) ≡ cut_answer r len S → (r ≡ 0) × (w.length ≡ len) × (w.places ≡ S.net.places) × (w.transitions ≡ S.net.transitions)
cut-written zero len S w e = (refl, ap (λ (x : CutAnswer). x.length) e, ap (λ (x : CutAnswer). x.places) e, ap (λ (x : CutAnswer). x.transitions) e)
cut-written (suc r) len S w e = differ (ap (λ (x : CutAnswer). x.refused) e)

room_some : (b : Bool) → refuse b 13 0 ≢ 0 → b ≡ true
room_some true r = refl
room_some false r = absurd (r refl)

room_none : (b : Bool) → refuse b 13 0 ≡ 0 → b ≡ false
room_none true e = absurd (omega arith)
room_none false e = refl

second_13 : (b : Bool) → refuse b 13 13 ≡ 13
second_13 true = refl
second_13 false = refl

module _ (s : List ℕ) (h : Header) (Q list last : List ℕ) (kept : KeptSets) (end : ℕ) (g : Given s h Q list) (f : FedBy s h Q list last kept end) (entry slots : List ℕ) where
  abbrev M : Net
  M = net_from s h

  abbrev S : Slice
  S = run_cut M Q list

  abbrev chosen : List ℕ
  chosen = (fed M Q list).positions

  abbrev K : Slice
  K = kept_slice s h kept

  -- how many are chosen
  abbrev count : ℕ
  count = length (chosen_by list last)

  counted : count ≡ length chosen
  counted = ap length f.positions

  pub count_few : count < 65536
  unfolding chosen_by
  count_few = omega (arith, length-selected (λ i. ltb i (get_or last (get_or list i 0) 0)) 0 (length list), g.short)

  fires : (replay M list).answer ≡ fired
  unfolding replay PlanFires
  fires = ap (λ (r : Replay). r.answer) (fires_replay M 0 M.marking list g.fires)

  -- the answer is that of the room
  module _ (r : ℕ) (e : run_room h.edition M Q list (length entry) (length slots) ≡ r) where
    due_is : run_outcome h.edition M Q list (length entry) (length slots) ≡ run_or r (run_written (length (slice_bytes h.edition S)) S.net.places S.net.transitions (length chosen))
    unfolding run_outcome
    due_is = rw (fires, e)

  refused_13 : (k : Refusal) → run_room h.edition M Q list (length entry) (length slots) ≡ 13 → number k ≡ 13 → (exit : List ℕ) → exit ≡ entry → Answers s h Q list (run_outcome h.edition M Q list (length entry) (length slots)) entry exit slots slots (Err k)
  refused_13 k e t exit same =
      subst (λ (a : RunAnswer). Answers s h Q list a entry exit slots slots (Err k)) (sym (due_is 13 e)) (record {
        answer = λ i. record { refused = true; refusal = t i; length = 0; places = 0; transitions = 0; count = 0; stuck = false; index = 0; place = 0; amount = 0 };
        buffer = same;
        second = refl;
      })

  pub no_entries : length slots < count → Answers s h Q list (run_outcome h.edition M Q list (length entry) (length slots)) entry entry slots slots (Err Buffer)
  unfolding run_room
  no_entries l = refused_13 Buffer (rw (lt-ltb (length slots) (length chosen) (omega (arith, counted))) (second_13 (ltb (length entry) (length (slice_bytes h.edition S))))) refl entry refl

  module _ (exit : List ℕ) (buffer : exit ≡ written (room_refusal h.edition (length entry) K) (slice_bytes h.edition K) entry) where
    pub no_room : (k : Refusal) → cut_numbers (Err k) ≡ cut_answer (room_refusal h.edition (length entry) K) (length (slice_bytes h.edition K)) K
        → Answers s h Q list (run_outcome h.edition M Q list (length entry) (length slots)) entry exit slots slots (Err k)
    unfolding run_room
    no_room k e =
        let told = cut-refused (room_refusal h.edition (length entry) K) (length (slice_bytes h.edition K)) K k e in
        let some : room_refusal h.edition (length entry) K ≢ 0 = λ z. omega (arith, z, told, (number_above k).1) in
        let lacks = room_some (ltb (length entry) (length (slice_bytes h.edition K))) some in
        let is : number k ≡ 13 = sym told ∙ ap (λ (b : Bool). refuse b 13 0) lacks in
        let short : ltb (length entry) (length (slice_bytes h.edition S)) ≡ true = ap (λ (x : Slice). ltb (length entry) (length (slice_bytes h.edition x))) (sym f.slice) ∙ lacks in
        refused_13 k (rw short) is exit (buffer ∙ sym (untouched (room_refusal h.edition (length entry) K) (slice_bytes h.edition K) entry some))

    module _ (w : Cut) (told : cut_numbers (Ok w) ≡ cut_answer (room_refusal h.edition (length entry) K) (length (slice_bytes h.edition K)) K) (enough : count ≤ length slots) where
      says : (room_refusal h.edition (length entry) K ≡ 0) × (w.length ≡ length (slice_bytes h.edition K)) × (w.places ≡ K.net.places) × (w.transitions ≡ K.net.transitions)
      says = cut-written (room_refusal h.edition (length entry) K) (length (slice_bytes h.edition K)) K w told

      fits : run_room h.edition M Q list (length entry) (length slots) ≡ 0
      unfolding run_room
      fits =
          let a : ltb (length entry) (length (slice_bytes h.edition S)) ≡ false = ap (λ (x : Slice). ltb (length entry) (length (slice_bytes h.edition x))) (sym f.slice) ∙ room_none _ says.0 in
          rw (a, le-ltb (length slots) (length chosen) (omega (arith, counted)))

      module _ (c : ℕ) (told-count : c ≡ count) where
        numbers : run_written w.length w.places w.transitions c ≡ run_written (length (slice_bytes h.edition S)) S.net.places S.net.transitions (length chosen)
        numbers =
            let n≡ : w.length ≡ length (slice_bytes h.edition S) = says.1 ∙ ap (λ (x : Slice). length (slice_bytes h.edition x)) f.slice in
            let p≡ : w.places ≡ S.net.places = says.2 ∙ ap (λ (x : Slice). x.net.places) f.slice in
            let t≡ : w.transitions ≡ S.net.transitions = says.3 ∙ ap (λ (x : Slice). x.net.transitions) f.slice in
            let c≡ : c ≡ length chosen = told-count ∙ counted in
            λ i. run_written (n≡ i) (p≡ i) (t≡ i) (c≡ i)

        pub whole : (positions : List ℕ) → positions ≡ chosen_by list last ++ drop count slots → Answers s h Q list (run_outcome h.edition M Q list (length entry) (length slots)) entry exit slots positions (Ok (Written w.length w.places w.transitions c))
        whole positions e =
            let there : exit ≡ slice_bytes h.edition S ++ drop (length (slice_bytes h.edition S)) entry = buffer ∙ ap (λ (r : ℕ). written r (slice_bytes h.edition K) entry) says.0 ∙ ap (λ (x : Slice). slice_bytes h.edition x ++ drop (length (slice_bytes h.edition x)) entry) f.slice in
            let second : positions ≡ chosen ++ drop (length chosen) slots = e ∙ ap (λ (l : List ℕ). l ++ drop (length l) slots) f.positions in
            subst (λ (a : RunAnswer). Answers s h Q list a entry exit slots positions (Ok (Written w.length w.places w.transitions c))) (sym (due_is 0 fits)) (record { answer = numbers; buffer = there; second = second })
