-- The cut for one recorded run, over files (document 02, A1).
use Prim.Native.Nat.{ℕ, zero, suc, ◌≤◌, ◌<◌}
use mathlib.Core.List.{List}
use mathlib.Core.Path.{◌≡◌, refl, sym, ap, subst, subst⁻¹, ◌∙◌}
use mathlib.Core.Logic.{◌⊎◌, inl, inr, ◌≢◌}
use native.Mathlib.Omega.{arith}
use lib.ListN.{length, take, drop, get_or}
use lib.Dec.{T, ltb, leb}
use Rattle.net.specs.Numbers.{among, any, selected, Rising}
use Rattle.net.specs.Net.{Net, has_caps, Uncapped, Answer, fired, short, full, replay, StuckAt, ShortAt}
use Rattle.net.specs.Slice.{Slice, HasPlace, keeping}
use Rattle.net.specs.Guarantee.{PlanFires, plan_tokens, SliceFires, slice_tokens}
use Rattle.net.specs.Run.{fed, fired_at, run_cut}
use Rattle.net.proofs.Numbers.{below-passes, selected-rises}
use Rattle.net.proofs.Replay.{Meaning, replay-means}
use Rattle.net.proofs.Uncapped.{not-capped}
use Rattle.net.proofs.Run.{positions_rise, positions_inside, run-places_rise, run-places_below, criterion_fed, run_cut_row}
use Rattle.file_words.specs.Word.{Bytes}
use Rattle.file_header.specs.Layout.{header_of}
use Rattle.file.specs.Layout.{net_of}
use Rattle.file.specs.Refusal.{file_refusal}
use Rattle.file.specs.Criterion.{criterion_refusal}
use Rattle.file_writing.specs.Writing.{slice_bytes}
use Rattle.file_header.specs.declared.Due.TheVariants as due
use Rattle.file.proofs.Caps.{none_capped}
use Rattle.file_words.proofs.Laws.{refuse-0, or_else_0}
use Rattle.file.proofs.Criterion.{passed}
use Rattle.file.proofs.Rows.{rising_from}
use Rattle.file_writing.proofs.RoundTrip.{Writable, reads_back, edition_back, not-refused, room}
use Rattle.promise.specs.Calls.{cut_refusal, written}
use Rattle.promise.specs.Firing.{list_refusal}
use Rattle.promise.specs.RunCut.{run_file, run_chosen, run_room, run_refusal, RunAnswer, run_written, run_or, stuck_or, run_outcome, run_answer, run_buffer, run_positions, Feeds, RunsBack}
use Rattle.promise.proofs.Ranges.{refuse-le, refuse-ne, or_else_ne, file_ne, criterion_le}
use Rattle.promise.proofs.Replays.{list_known}
use Rattle.promise.proofs.Cuts.{readable, criterion_passes, in_plan, keeping-writable}
use Rattle.promise.proofs.Demands.{take-file}

-- what an answer was made from: why the plan and Q, the list, and the room are refused, and the replay
told-0 : (c g : ℕ) (a : Answer) (r : ℕ) (x : RunAnswer) → (run_or c (run_or g (stuck_or a (run_or r x)))).refusal ≡ 0 → (c ≡ 0) × (g ≡ 0) × (a ≡ fired) × (r ≡ 0)
told-0 (suc k) g a r x e = absurd (omega arith)
told-0 zero (suc k) a r x e = absurd (omega arith)
told-0 zero zero (short i p n) r x e = absurd (omega arith)
told-0 zero zero (full i p n) r x e = absurd (omega arith)
told-0 zero zero fired (suc k) x e = absurd (omega arith)
told-0 zero zero fired zero x e = (refl, refl, refl, refl)

-- the replay sticks at these numbers
StuckBy : Answer → RunAnswer → Type 0
StuckBy a r = (a ≡ short r.index r.place r.amount) ⊎ (a ≡ full r.index r.place r.amount)

told-14 : (c g : ℕ) (a : Answer) (r : ℕ) (x : RunAnswer) → c ≢ 14 → g ≤ 12 → r ≤ 13 → x.refusal ≡ 0 → (run_or c (run_or g (stuck_or a (run_or r x)))).refusal ≡ 14
    → (c ≡ 0) × (g ≡ 0) × StuckBy a (run_or c (run_or g (stuck_or a (run_or r x))))
unfolding StuckBy
told-14 (suc k) g a r x j l m w e = absurd (j e)
told-14 zero (suc k) a r x j l m w e = absurd (omega arith)
told-14 zero zero (short i p n) r x j l m w e = (refl, refl, inl refl)
told-14 zero zero (full i p n) r x j l m w e = (refl, refl, inr refl)
told-14 zero zero fired (suc k) x j l m w e = absurd (omega arith)
told-14 zero zero fired zero x j l m w e = absurd (omega arith)

list_le : (m : ℕ) (list : List ℕ) → list_refusal m list ≤ 12
unfolding list_refusal
list_le m list = refuse-le (ltb 65535 (length list)) 11 _ 12 (omega arith) (refuse-le (any (λ t. leb m t) list) 12 0 12 (omega arith) (omega arith))

room_le : (ed : ℕ) (N : Net) (Q list : List ℕ) (room entries : ℕ) → run_room ed N Q list room entries ≤ 13
unfolding run_room
room_le ed N Q list room entries =
    refuse-le (ltb room (length (slice_bytes ed (run_cut N Q list)))) 13 _ 13 (omega arith)
    (refuse-le (ltb entries (length (fed N Q list).positions)) 13 0 13 (omega arith) (omega arith))

run-ne : (plan Q : List ℕ) → run_refusal plan Q ≢ 14
unfolding run_refusal
run-ne plan Q =
    let n = criterion_le (net_of plan).places Q in
    or_else_ne _ _ 14 (file_ne 14 (omega arith) (omega arith) due.Plan plan) (refuse-ne (has_caps (net_of plan)) 17 _ 14 (λ e. omega arith) (λ e. omega arith))

-- what is not refused before the list: a cut for Q would not be, and the plan has no caps
pub run-passes : (plan Q : List ℕ) → run_refusal plan Q ≡ 0 → (cut_refusal plan Q ≡ 0) × Uncapped (net_of plan)
unfolding run_refusal cut_refusal
run-passes plan Q e =
    let a = or_else_0 (file_refusal due.Plan plan) _ e in
    let b = refuse-0 (has_caps (net_of plan)) 16 (criterion_refusal (net_of plan).places Q) a.1 in
    (rw a.0 b.1, none_capped plan (header_of plan) b.0)

module _ (plan Q list : List ℕ) (cut-passes : cut_refusal plan Q ≡ 0) (none : Uncapped (net_of plan)) (list_passes : list_refusal (net_of plan).transitions list ≡ 0) where
  known_list : (t : ℕ) → T (among t list) → t < (net_of plan).transitions
  known_list = list_known (net_of plan).transitions list list_passes

  meaning : {a : Answer} → (replay (net_of plan) list).answer ≡ a → Meaning (net_of plan) 0 (net_of plan).marking list a (replay (net_of plan) list).marking
  unfolding replay
  meaning e = rw e at (replay-means (net_of plan) 0 (net_of plan).marking list known_list)

  pub list_fires : (replay (net_of plan) list).answer ≡ fired → PlanFires (net_of plan) list
  unfolding PlanFires
  list_fires e = (meaning e).0

  -- the plan has no caps, so no place of it is full
  list_sticks : (r : RunAnswer) → StuckBy (replay (net_of plan) list).answer r
      → StuckAt (net_of plan) (net_of plan).marking list r.index (replay (net_of plan) list).marking
      × ShortAt (net_of plan) (get_or list r.index 0) (replay (net_of plan) list).marking r.place r.amount
  unfolding StuckBy
  list_sticks r (inl e) =
      let m = meaning e in
      let k≡ : m.0 ≡ r.index = omega (arith, m.1) in
      subst (λ (k : ℕ). StuckAt (net_of plan) (net_of plan).marking list k (replay (net_of plan) list).marking × ShortAt (net_of plan) (get_or list k 0) (replay (net_of plan) list).marking r.place r.amount) k≡
      (m.2, m.3)
  list_sticks r (inr e) = absurd (not-capped (net_of plan) none r.place (meaning e).3.has_cap)

  -- the slice can be written, and its file reads back as it
  module _ (bytes : Bytes plan) (f : PlanFires (net_of plan) list) where
    known : (q : ℕ) → T (among q Q) → q < (net_of plan).places
    known = in_plan plan Q bytes cut-passes

    rises : Rising Q
    rises = rising_from Q 0 (passed (net_of plan).places Q (criterion_passes plan Q bytes cut-passes)).rise

    run-writable : Writable (header_of plan).edition (run_cut (net_of plan) Q list)
    unfolding run_cut
    run-writable =
        let N = net_of plan in
        keeping-writable plan bytes (readable plan Q bytes cut-passes) (fed N Q list).places (selected (λ t. among t (fired_at list (fed N Q list).positions)) 0 N.transitions)
        (run-places_rise N Q known list f rises) (selected-rises _ 0 N.transitions) (run-places_below N Q known list f) (λ t h. (below-passes _ N.transitions t h).0)

    -- a buffer of 45,072 bytes is never too short
    pub run-enough_room : length (run_file plan Q list) ≤ 45072
    unfolding run_file
    run-enough_room = room _ _ run-writable

    kept : (q : ℕ) → T (among q Q) → HasPlace (run_cut (net_of plan) Q list) q
    unfolding run_cut keeping
    kept = criterion_fed (net_of plan) Q known list f

    run-feeds : Feeds plan Q list (run_file plan Q list) (run_chosen plan Q list)
    unfolding run_file run_chosen
    run-feeds =
        let N = net_of plan in
        let back = reads_back (header_of plan).edition (run_cut N Q list) run-writable in
        let done = run_cut_row N Q known list f none rises in
        record {
          rise = positions_rise N Q known list f;
          inside = positions_inside N Q known list f;
          chosen = refl;
          read = not-refused (header_of plan).edition (run_cut N Q list) run-writable;
          same = back;
          edition = edition_back (header_of plan).edition (run_cut N Q list) run-writable;
          criterion = λ q h. subst⁻¹ (λ (S : Slice). HasPlace S q) back (kept q h);
          fires = search (subst⁻¹ (λ (S : Slice). SliceFires S (fired_at list (fed N Q list).positions)) back done.0);
          enough = λ q h. omega (arith, subst⁻¹ (λ (S : Slice). plan_tokens N list q ≤ slice_tokens S (fired_at list (fed N Q list).positions) q) back (done.1 q h));
        }

-- what is written, where nothing is refused
taken_back : (r : ℕ) (file buffer : List ℕ) (n : ℕ) → r ≡ 0 → n ≡ length file → take n (written r file buffer) ≡ file
taken_back r file buffer n e f = rw (e, f) (take-file file (drop (length file) buffer))

-- for any plan that is a byte string, any criterion, any list, any buffers
module _ (plan Q list entry slots : List ℕ) (bytes : Bytes plan) where
  abbrev answer : RunAnswer
  answer = run_answer plan Q list (length entry) (length slots)

  abbrev exit : List ℕ
  exit = run_buffer plan Q list entry (length slots)

  abbrev positions : List ℕ
  positions = run_positions plan Q list (length entry) slots

  abbrev whole : RunAnswer
  whole =
      let S = run_cut (net_of plan) Q list in
      run_written (length (run_file plan Q list)) S.net.places S.net.transitions (length (run_chosen plan Q list))

  module _ (w : answer.refusal ≡ 0) where
    parts : (run_refusal plan Q ≡ 0) × (list_refusal (net_of plan).transitions list ≡ 0) × ((replay (net_of plan) list).answer ≡ fired) × (run_room (header_of plan).edition (net_of plan) Q list (length entry) (length slots) ≡ 0)
    unfolding run_answer run_outcome run_file run_chosen
    parts = told-0 (run_refusal plan Q) (list_refusal (net_of plan).transitions list) (replay (net_of plan) list).answer (run_room (header_of plan).edition (net_of plan) Q list (length entry) (length slots)) whole w

    told : answer ≡ whole
    unfolding run_answer run_outcome run_file run_chosen
    told = rw (parts.0, parts.1, parts.2, parts.3)

    file_there : take answer.length exit ≡ run_file plan Q list
    unfolding run_buffer
    file_there = taken_back _ (run_file plan Q list) entry answer.length w (ap (λ (a : RunAnswer). a.length) told)

    positions_there : take answer.count positions ≡ run_chosen plan Q list
    unfolding run_positions
    positions_there = taken_back _ (run_chosen plan Q list) slots answer.count w (ap (λ (a : RunAnswer). a.count) told)

    fed-back : Feeds plan Q list (take answer.length exit) (take answer.count positions)
    fed-back =
        subst⁻¹ (λ (file : List ℕ). Feeds plan Q list file (take answer.count positions)) file_there
        (subst⁻¹ (λ (is : List ℕ). Feeds plan Q list (run_file plan Q list) is) positions_there
        (let p = run-passes plan Q parts.0 in
        run-feeds plan Q list p.0 p.1 parts.1 bytes (list_fires plan Q list p.0 p.1 parts.1 parts.2)))

  stuck_there : answer.refusal ≡ 14 → StuckAt (net_of plan) (net_of plan).marking list answer.index (replay (net_of plan) list).marking
      × ShortAt (net_of plan) (get_or list answer.index 0) (replay (net_of plan) list).marking answer.place answer.amount
  unfolding run_answer run_outcome run_file run_chosen
  stuck_there w =
      let s = told-14 (run_refusal plan Q) (list_refusal (net_of plan).transitions list) (replay (net_of plan) list).answer (run_room (header_of plan).edition (net_of plan) Q list (length entry) (length slots)) whole
      (run-ne plan Q) (list_le (net_of plan).transitions list) (room_le (header_of plan).edition (net_of plan) Q list (length entry) (length slots)) refl w in
      let p = run-passes plan Q s.0 in
      list_sticks plan Q list p.0 p.1 s.1 answer s.2

  pub runs_back : RunsBack plan Q list answer exit positions
  runs_back = record {
    feeds = fed-back;
    places = λ w. ap (λ (a : RunAnswer). a.places) (told w) ∙ ap (λ (S : Slice). S.net.places) (sym (fed-back w).same);
    transitions = λ w. ap (λ (a : RunAnswer). a.transitions) (told w) ∙ ap (λ (S : Slice). S.net.transitions) (sym (fed-back w).same);
    sticks = λ w. let s = stuck_there w in search (s.0, s.1);
  }

-- at the call
pub runs_back_at : (plan Q list entry slots : List ℕ) {exit positions : List ℕ} {a : RunAnswer} → Bytes plan
    → a ≡ run_answer plan Q list (length entry) (length slots) → exit ≡ run_buffer plan Q list entry (length slots) → positions ≡ run_positions plan Q list (length entry) slots
    → RunsBack plan Q list a exit positions
runs_back_at plan Q list entry slots {exit} {positions} b e f g =
    subst⁻¹ (λ (a : RunAnswer). RunsBack plan Q list a exit positions) e
    (subst⁻¹ (λ (x : List ℕ). RunsBack plan Q list (run_answer plan Q list (length entry) (length slots)) x positions) f
    (subst⁻¹ (λ (x : List ℕ). RunsBack plan Q list (run_answer plan Q list (length entry) (length slots)) (run_buffer plan Q list entry (length slots)) x) g
    (runs_back plan Q list entry slots b)))
