-- What is written fits into what is lent, and the rooms that include/nesfoal.h names always suffice.
use Prim.Native.Nat.{ℕ, zero, suc, ◌≤◌}
use mathlib.Core.Bool.{false, not}
use mathlib.Core.List.{List, [], ◌∷◌}
use mathlib.Core.Path.{◌≡◌, refl, sym, ap}
use mathlib.Core.Logic.{◌≢◌}
use native.Mathlib.Omega.{arith}
use lib.ListN.{length, length-take, length-map}
use lib.Dec.{eqb, ltb, leb}
use borrow.Author.Tests.{le-ltb, ltb-false, eqb-true, not-false}
use Rattle.net.specs.Numbers.{among, any, position}
use Rattle.net.specs.Net.{Net, has_caps, Answer, fired, short, full, replay}
use Rattle.net.specs.Cut.{safety, branching}
use Rattle.net.specs.Slice.{Slice, strike, own, project}
use Rattle.net.specs.Run.{fed, run_cut}
use Rattle.net.specs.Together.{Takings, times, unlimited, together}
use Rattle.net.specs.Guarantee.{PlanFires}
use Rattle.net.proofs.Numbers.{by_cases, rising_selected, length-selected}
use Rattle.net.proofs.Run.{positions_rise, positions_inside}
use Rattle.file_words.specs.Word.{Bytes}
use Rattle.file_words.specs.Refusal.{refuse, or_else}
use Rattle.file_words.proofs.Laws.{refuse-0, or_else_0}
use Rattle.file_header.specs.Layout.{header_of}
use Rattle.file_header.specs.declared.Due.{Due}
use Rattle.file_header.specs.declared.Due.TheVariants as due
use Rattle.file.specs.Layout.{net_of, slice_of}
use Rattle.file.specs.Refusal.{file_refusal}
use Rattle.file.proofs.Opening.{sound}
use Rattle.file_writing.specs.Writing.{slice_bytes}
use Rattle.promise.specs.Calls.{cut_of, cut_refusal, write_refusal, safety_file, branching_file, cut_answer, safety_answer, branching_answer}
use Rattle.promise.specs.Firing.{list_refusal, replay_refusal, replay_or, replay_answer}
use Rattle.promise.specs.Shadow.{fired_part, shadow_of, lent_refusal, shadow_refusal, shadow_or, shadow_answer}
use Rattle.promise.specs.Together.{standing, together_refusal, together_or, together_answer}
use Rattle.promise.specs.RunCut.{RunAnswer, run_file, run_written, run_room, run_refusal, run_or, stuck_or, run_outcome, run_answer}
use Rattle.promise.specs.Rooms.{RoomSuffices}
use Rattle.promise.proofs.Ranges.{refuse-ne, or_else_ne, file_ne, criterion_le}
use Rattle.promise.proofs.Replays.{differ}
use Rattle.promise.proofs.Cuts.{in_plan}
use Rattle.promise.proofs.Demands.{enough_room}
use Rattle.promise.proofs.RunCut.{run-passes, list_fires, run-enough_room}

-- ---- the shadow of a list is no longer than the list

strike-few : (os ts : List ℕ) → length (strike os ts) ≤ length ts
unfolding strike
strike-few os [] = omega arith
strike-few os (t ∷ ts) = by_cases (among t os) (λ e. rw (e, strike) (let h = strike-few os ts in omega (arith, h))) (λ e. rw (e, strike) (let h = strike-few os ts in omega (arith, h)))

pub project-few : (S : Slice) (ts : List ℕ) → length (project S ts) ≤ length ts
unfolding project own
project-few S ts = omega (arith, length-map (strike S.transition_origins ts) (λ t. position t S.transition_origins), strike-few S.transition_origins ts)

part-few : (a : Answer) (list : List ℕ) → length (fired_part a list) ≤ length list
part-few fired list = omega arith
part-few (short i p n) list = omega (arith, length-take i list)
part-few (full i p n) list = omega (arith, length-take i list)

shadow_few : (N : Net) (S : Slice) (list : List ℕ) → length (shadow_of N S list) ≤ length list
unfolding shadow_of
shadow_few N S list = omega (arith, project-few S (fired_part (replay N list).answer list), part-few (replay N list).answer list)

pub list_short : (T' : ℕ) (list : List ℕ) → list_refusal T' list ≡ 0 → length list ≤ 65535
unfolding list_refusal
list_short T' list e = ltb-false 65535 (length list) (refuse-0 (ltb 65535 (length list)) 10 (refuse (any (λ t. leb T' t) list) 12 0) e).0

-- ---- what is written fits

cut_fits : (c len room : ℕ) (S : Slice) → (cut_answer (or_else c (refuse (ltb room len) 13 0)) len S).length ≤ room
cut_fits zero len room S = by_cases (ltb room len) (λ e. rw e (omega arith)) (λ e. rw e (ltb-false room len e))
cut_fits (suc c) len room S = omega arith

pub safety-fits : (plan Q : List ℕ) (room : ℕ) → (safety_answer plan Q room).length ≤ room
unfolding safety_answer write_refusal
safety-fits plan Q room = cut_fits (cut_refusal plan Q) (length (safety_file plan Q)) room (cut_of safety plan Q)

pub branching-fits : (plan Q : List ℕ) (room : ℕ) → (branching_answer plan Q room).length ≤ room
unfolding branching_answer write_refusal
branching-fits plan Q room = cut_fits (cut_refusal plan Q) (length (branching_file plan Q)) room (cut_of branching plan Q)

shadow_passed : (n : ℕ) (a : Answer) (c bound : ℕ) → (n ≡ 0 → c ≤ bound) → (shadow_or n a c).count ≤ bound
shadow_passed zero a c bound h = h refl
shadow_passed (suc n) a c bound h = omega arith

module _ (plan slice list : List ℕ) (room space : ℕ) where
  lent : shadow_refusal plan slice list room space ≡ 0 → (list_refusal (net_of plan).transitions list ≡ 0) × (length (shadow_of (net_of plan) (slice_of slice) list) ≤ space)
  unfolding shadow_refusal lent_refusal
  lent e =
      let a = or_else_0 (list_refusal (net_of plan).transitions list) _ (or_else_0 (file_refusal due.Slice slice) _ (or_else_0 (file_refusal due.Plan plan) _ e).1).1 in
      let b = refuse-0 (ltb room (net_of plan).places) 12 (refuse (ltb space (length (shadow_of (net_of plan) (slice_of slice) list))) 13 0) a.1 in
      (a.0, ltb-false space _ (refuse-0 (ltb space (length (shadow_of (net_of plan) (slice_of slice) list))) 12 0 b.1).0)

  pub shadow_fits : (shadow_answer plan slice list room space).count ≤ space
  unfolding shadow_answer
  shadow_fits = shadow_passed (shadow_refusal plan slice list room space) (replay (net_of plan) list).answer _ space (λ e. (lent e).1)

  pub shadow_short : (shadow_answer plan slice list room space).count ≤ 65535
  unfolding shadow_answer
  shadow_short =
      shadow_passed (shadow_refusal plan slice list room space) (replay (net_of plan) list).answer _ 65535
      (λ e. omega (arith, shadow_few (net_of plan) (slice_of slice) list, list_short (net_of plan).transitions list (lent e).0))

run-told : (c g : ℕ) (a : Answer) (x : RunAnswer) (room entries : ℕ) → (x.length ≤ room) × (x.count ≤ entries)
    → ((run_or c (run_or g (stuck_or a x))).length ≤ room) × ((run_or c (run_or g (stuck_or a x))).count ≤ entries)
run-told (suc k) g a x room entries h = (omega arith, omega arith)
run-told zero (suc k) a x room entries h = (omega arith, omega arith)
run-told zero zero fired x room entries h = h
run-told zero zero (short i p n) x room entries h = (omega arith, omega arith)
run-told zero zero (full i p n) x room entries h = (omega arith, omega arith)

run-written : (n p t c room entries : ℕ)
    → let x = run_or (refuse (ltb room n) 13 (refuse (ltb entries c) 13 0)) (run_written n p t c) in (x.length ≤ room) × (x.count ≤ entries)
run-written n p t c room entries =
    by_cases (ltb room n) (λ e. rw e (omega arith, omega arith))
    (λ e. by_cases (ltb entries c) (λ f. rw (e, f) (omega arith, omega arith)) (λ f. rw (e, f) (ltb-false room n e, ltb-false entries c f)))

pub run_fits : (plan Q list : List ℕ) (room entries : ℕ) → let a = run_answer plan Q list room entries in (a.length ≤ room) × (a.count ≤ entries)
unfolding run_answer run_outcome run_room
run_fits plan Q list room entries =
    run-told (run_refusal plan Q) (list_refusal (net_of plan).transitions list) (replay (net_of plan) list).answer _ room entries
    (run-written (length (slice_bytes (header_of plan).edition (run_cut (net_of plan) Q list))) _ _ (length (fed (net_of plan) Q list).positions) room entries)

run-passed : (c g : ℕ) (a : RunAnswer) → (run_or c (run_or g a)).refusal ≡ 0 → g ≡ 0
run-passed (suc c) g a e = absurd (omega arith)
run-passed zero (suc g) a e = absurd (omega arith)
run-passed zero zero a e = refl

pub run_short : (plan Q list : List ℕ) (room entries : ℕ) → (run_answer plan Q list room entries).refusal ≡ 0 → length list ≤ 65535
unfolding run_answer
run_short plan Q list room entries e = list_short (net_of plan).transitions list (run-passed (run_refusal plan Q) _ _ e)

together-passed : (n : ℕ) (x : Takings) → (together_or n x).refused ≡ false → n ≡ 0
together-passed zero x e = refl
together-passed (suc n) x e = differ (sym e)

pub together-fits : (plan : List ℕ) (t : ℕ) (marking : List ℕ) (room : ℕ) → (together_answer plan t marking room).refused ≡ false → (length marking ≡ (net_of plan).places) × ((net_of plan).places ≤ room)
unfolding together_answer together_refusal
together-fits plan t marking room e =
    let P = (net_of plan).places in
    let z = together-passed (together_refusal plan t (length marking) room) (together (net_of plan) t (standing marking)) e in
    let a = refuse-0 (leb (net_of plan).transitions t) 11 _ (or_else_0 (file_refusal due.Plan plan) _ z).1 in
    let b = refuse-0 (not (eqb (length marking) P)) 14 _ a.1 in
    (eqb-true (length marking) P (not-false _ b.0), ltb-false room P (refuse-0 (ltb room P) 12 0 b.1).0)

-- ---- 13 is not met

else_ne : (a b k : ℕ) → a ≢ k → (a ≡ 0 → b ≢ k) → or_else a b ≢ k
else_ne zero b k h l = l refl
else_ne (suc a) b k h l = h

none_ne : ◌≢◌ {A = ℕ} 0 13
none_ne e = omega arith

room_ne : (room n rest : ℕ) → n ≤ room → rest ≢ 13 → refuse (ltb room n) 13 rest ≢ 13
room_ne room n rest h l = rw (le-ltb room n h) l

list_ne : (T' : ℕ) (list : List ℕ) → list_refusal T' list ≢ 13
unfolding list_refusal
list_ne T' list = refuse-ne (ltb 65535 (length list)) 11 _ 13 (λ e. omega arith) (refuse-ne (any (λ t. leb T' t) list) 12 0 13 (λ e. omega arith) none_ne)

few_places : (kind : Due) (s : List ℕ) → file_refusal kind s ≡ 0 → (net_of s).places ≤ 1024
few_places kind s e = (sound kind s e).placed.places

file_13 : (kind : Due) (s : List ℕ) → file_refusal kind s ≢ 13
file_13 = file_ne 13 (omega arith) (omega arith)

replay-refusal : (n : ℕ) (a : Answer) → (replay_or n a).refusal ≡ n
replay-refusal zero fired = refl
replay-refusal zero (short i p n) = refl
replay-refusal zero (full i p n) = refl
replay-refusal (suc k) a = refl

shadow_refusal_lem : (n : ℕ) (a : Answer) (c : ℕ) → (shadow_or n a c).run.refusal ≡ n
shadow_refusal_lem zero a c = replay-refusal zero a
shadow_refusal_lem (suc k) a c = refl

together-refusal : (n : ℕ) (x : Takings) → (together_or n x).refusal ≡ n
together-refusal zero (times k) = refl
together-refusal zero unlimited = refl
together-refusal (suc n) x = refl

cut-refusal : (n len : ℕ) (S : Slice) → (cut_answer n len S).refusal ≡ n
cut-refusal zero len S = refl
cut-refusal (suc k) len S = refl

run-ne : (c g : ℕ) (a : Answer) (r : ℕ) (x : RunAnswer) → c ≢ 13 → g ≢ 13 → x.refusal ≢ 13 → (c ≡ 0 → g ≡ 0 → a ≡ fired → r ≢ 13) → (run_or c (run_or g (stuck_or a (run_or r x)))).refusal ≢ 13
run-ne (suc k) g a r x h l w m = h
run-ne zero (suc k) a r x h l w m = l
run-ne zero zero fired zero x h l w m = w
run-ne zero zero fired (suc k) x h l w m = m refl refl refl
run-ne zero zero (short i p n) r x h l w m = λ e. omega arith
run-ne zero zero (full i p n) r x h l w m = λ e. omega arith

module _ (file : List ℕ) where
  abbrev N : Net
  N = net_of file

  replay-room : (list : List ℕ) (room : ℕ) → 1024 ≤ room → (replay_answer file list room).refusal ≢ 13
  unfolding replay_answer replay_refusal
  replay-room list room h =
      rw (replay-refusal (replay_refusal file list room) (replay N list).answer)
      (else_ne (file_refusal due.Either file) _ 13 (file_13 due.Either file)
      (λ e. or_else_ne _ _ 13 (list_ne N.transitions list) (room_ne room N.places 0 (omega (arith, few_places due.Either file e)) none_ne)))

  shadow_room : (slice list : List ℕ) (room space : ℕ) → 1024 ≤ room → 65535 ≤ space → (shadow_answer file slice list room space).run.refusal ≢ 13
  unfolding shadow_answer shadow_refusal lent_refusal
  shadow_room slice list room space h l =
      let S = slice_of slice in
      rw (shadow_refusal_lem (shadow_refusal file slice list room space) (replay N list).answer (length (shadow_of N S list)))
      (else_ne (file_refusal due.Plan file) _ 13 (file_13 due.Plan file)
      (λ e. or_else_ne _ _ 13 (file_13 due.Slice slice) (else_ne (list_refusal N.transitions list) _ 13 (list_ne N.transitions list)
      (λ k. room_ne room N.places _ (omega (arith, few_places due.Plan file e))
      (room_ne space (length (shadow_of N S list)) 0 (omega (arith, shadow_few N S list, list_short N.transitions list k)) none_ne)))))

  together-room : (t : ℕ) (marking : List ℕ) (room : ℕ) → 1024 ≤ room → (together_answer file t marking room).refusal ≢ 13
  unfolding together_answer together_refusal
  together-room t marking room h =
      rw (together-refusal (together_refusal file t (length marking) room) (together N t (standing marking)))
      (else_ne (file_refusal due.Plan file) _ 13 (file_13 due.Plan file)
      (λ e. refuse-ne (leb N.transitions t) 12 _ 13 (λ z. omega arith) (refuse-ne (not (eqb (length marking) N.places)) 15 _ 13 (λ z. omega arith)
      (room_ne room N.places 0 (omega (arith, few_places due.Plan file e)) none_ne))))

  cut-ne : (Q : List ℕ) → cut_refusal file Q ≢ 13
  unfolding cut_refusal
  cut-ne Q = or_else_ne _ _ 13 (file_13 due.Plan file) (λ e. omega (arith, criterion_le N.places Q))

  module _ (bytes : Bytes file) where
    safety-room : (Q : List ℕ) (room : ℕ) → 45072 ≤ room → (safety_answer file Q room).refusal ≢ 13
    unfolding safety_answer write_refusal
    safety-room Q room h =
        rw (cut-refusal (write_refusal file Q room (safety_file file Q)) (length (safety_file file Q)) (cut_of safety file Q))
        (else_ne (cut_refusal file Q) _ 13 (cut-ne Q) (λ e. room_ne room _ 0 (omega (arith, (enough_room file Q bytes e).0)) none_ne))

    branching_room : (Q : List ℕ) (room : ℕ) → 45072 ≤ room → (branching_answer file Q room).refusal ≢ 13
    unfolding branching_answer write_refusal
    branching_room Q room h =
        rw (cut-refusal (write_refusal file Q room (branching_file file Q)) (length (branching_file file Q)) (cut_of branching file Q))
        (else_ne (cut_refusal file Q) _ 13 (cut-ne Q) (λ e. room_ne room _ 0 (omega (arith, (enough_room file Q bytes e).1)) none_ne))

    before-list_ne : (Q : List ℕ) → run_refusal file Q ≢ 13
    unfolding run_refusal
    before-list_ne Q = or_else_ne _ _ 13 (file_13 due.Plan file) (refuse-ne (has_caps N) 17 _ 13 (λ e. omega arith) (λ e. omega (arith, criterion_le N.places Q)))

    positions_few : (Q list : List ℕ) → cut_refusal file Q ≡ 0 → PlanFires N list → length (fed N Q list).positions ≤ length list
    positions_few Q list e f =
        let known = in_plan file Q bytes e in
        let ps = (fed N Q list).positions in
        let same = rising_selected ps 0 (length list) (positions_rise N Q known list f) (λ x h. (omega arith, omega (arith, positions_inside N Q known list f x h))) in
        omega (arith, ap length same, length-selected (λ x. among x ps) 0 (length list))

    run_room_lem : (Q list : List ℕ) (room entries : ℕ) → 45072 ≤ room → 65535 ≤ entries → (run_answer file Q list room entries).refusal ≢ 13
    unfolding run_answer run_outcome run_room run_file
    run_room_lem Q list room entries h l =
        run-ne (run_refusal file Q) (list_refusal N.transitions list) (replay N list).answer _ _ (before-list_ne Q) (list_ne N.transitions list) none_ne
        (λ c g a.
        let p = run-passes file Q c in
        let f = list_fires file Q list p.0 p.1 g a in
        room_ne room (length (slice_bytes (header_of file).edition (run_cut N Q list))) _ (omega (arith, run-enough_room file Q list p.0 p.1 g bytes f))
        (room_ne entries (length (fed N Q list).positions) 0 (omega (arith, positions_few Q list p.0 f, list_short N.transitions list g)) none_ne))

    pub rooms : RoomSuffices file
    rooms = record {
      replay = λ list room h. replay-room list room (omega (arith, h));
      shadow = λ slice list room space h l. shadow_room slice list room space (omega (arith, h)) (omega (arith, l));
      together = λ t marking room h. together-room t marking room (omega (arith, h));
      safety = λ Q room h. safety-room Q room (omega (arith, h));
      branching = λ Q room h. branching_room Q room (omega (arith, h));
      run_cut_row = λ Q list room entries h l. run_room_lem Q list room entries (omega (arith, h)) (omega (arith, l));
    }
