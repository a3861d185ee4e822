-- The calls that start from a lent marking: what is promised of a file is promised of a start.
use Prim.Native.Nat.{ℕ, zero, suc, ◌+◌, ◌≤◌}
use mathlib.Core.Bool.{false, not}
use mathlib.Core.List.{List}
use mathlib.Core.Path.{◌≡◌, refl, sym, ap, subst, subst⁻¹, ◌∙◌}
use mathlib.Core.Logic.{◌↔◌}
use native.Mathlib.Omega.{arith}
use lib.ListN.{length, take}
use lib.Dec.{eqb}
use Rattle.net.specs.Net.{Net, Answer, replay}
use Rattle.net.specs.Cut.{safety, branching}
use Rattle.net.specs.Slice.{cut, Accepted}
use Rattle.net.specs.Checker.{rules, FirstBroken}
use Rattle.net.specs.Conclusions.{SameKept}
use Rattle.net.proofs.Conclusions.{same_kept}
use Rattle.file_words.specs.Word.{Bytes}
use Rattle.file_words.specs.Refusal.{or_else}
use Rattle.file_words.proofs.Laws.{or_else_0}
use Rattle.file_header.specs.Layout.{header_of}
use Rattle.file_header.specs.declared.Due.{Due}
use Rattle.file_header.specs.declared.Due.TheVariants as due
use Rattle.file_header.specs.declared.Header.{Header}
use Rattle.file.specs.Layout.{net_of, slice_of}
use Rattle.file.specs.Refusal.{file_refusal}
use Rattle.file.specs.Criterion.{criterion_refusal}
use Rattle.promise.specs.Calls.{CutAnswer, cut_of, cut_refusal, write_refusal, safety_file, branching_file, safety_answer, safety_buffer, branching_answer, branching_buffer, check_refusal, Checked, checked, Accepts}
use Rattle.promise.specs.Firing.{replay_or, replay_refusal, replay_answer, replay_marking}
use Rattle.promise.specs.Exactness.{WritesExact, ReadInFull}
use Rattle.promise.specs.Promise.{our_cut, our_branching, Wrote, Demand3, WritesSmallest, ReadsBack, Replays}
use Rattle.promise.specs.Together.{standing}
use Rattle.promise.specs.Starts.{net_at, started, overfull, start_refusal, from_refusal, cut_unless, replay_unless, check_unless, left_unless, replay_from_answer, replay_from_marking, safety_from_answer, safety_from_buffer, branching_from_answer, branching_from_buffer, check_from_refusal, checked_from, AcceptsFrom, own_start, OtherMarking, OwnStart, JudgesFrom, our_cut_from, our_branching_from, ReadsBackFrom}
use Rattle.promise.proofs.Ranges.{refuse-le, or_else_le, file_le}
use Rattle.promise.proofs.Demands.{check_passes, judges, read_back, demand_3_by, writes_smallest_by, not-turned_back, our_cut_lem, branching-not_turned_back, our_branching_lem}
use Rattle.promise.proofs.Exactness.{writes_exact, exact_as, read_in_full_by}
use Rattle.promise.proofs.Replays.{replays, differ}
use Rattle.promise.proofs.Started.{started-header, started-bytes, started-readable, started-net, own-passes, own-started}

-- a call that is not refused before it starts
module _ (d : Due) (file start : List ℕ) (e : from_refusal d file start ≡ 0) where
  pub from_read : file_refusal d file ≡ 0
  unfolding from_refusal
  from_read = (or_else_0 (file_refusal d file) (start_refusal (net_of file) start) e).0

  pub from_start : start_refusal (net_of file) start ≡ 0
  unfolding from_refusal
  from_start = (or_else_0 (file_refusal d file) (start_refusal (net_of file) start) e).1

-- a check of a plan and a start that are not refused is the check of the plan that has it: the slice is read in its place
module _ (plan start : List ℕ) (r : file_refusal due.Plan plan ≡ 0) (o : start_refusal (net_of plan) start ≡ 0) (r' : file_refusal due.Plan (started plan start) ≡ 0) (slice Q : List ℕ) where
  by_slice : (n : ℕ) → file_refusal due.Slice slice ≡ n → check_unless (or_else 0 (or_else n 0)) (checked (started plan start) slice Q) ≡ checked (started plan start) slice Q
  unfolding checked check_refusal
  by_slice zero f = refl
  by_slice (suc k) f = rw (r', f)

  pub same_check : checked_from plan slice start Q ≡ checked (started plan start) slice Q
  unfolding checked_from check_from_refusal
  same_check = rw (r, o) (by_slice (file_refusal due.Slice slice) refl)

pub other_marking : (d : Due) (file start : List ℕ) → Bytes file → from_refusal d file start ≡ 0 → OtherMarking file start
other_marking d file start b e =
    let r = from_read d file start e in
    let o = from_start d file start e in
    record {
      net = started-net d file b r start o;
      header = started-header d file b r start o;
      bytes = started-bytes d file b r start o;
      read = started-readable d file b r start o;
      check = λ p slice Q. same_check file start p o (started-readable d file b r start o due.Plan p) slice Q;
    }

-- the check from a start accepts what the plain check accepts for the file that has it
module _ (plan start : List ℕ) (b : Bytes plan) (e : from_refusal due.Plan plan start ≡ 0) where
  same_code : (S Q : List ℕ) → (checked_from plan S start Q).code ≡ (checked (started plan start) S Q).code
  same_code S Q = ap (λ (c : Checked). c.code) ((other_marking due.Plan plan start b e).check (from_read due.Plan plan start e) S Q)

  alike : (Q S : List ℕ) → AcceptsFrom plan start S Q ↔ Accepts (started plan start) S Q
  alike Q S = (λ a. sym (same_code S Q) ∙ a, λ a. same_code S Q ∙ a)

-- demand 3
pub demand_3_from : (plan start slice Q buffer : List ℕ) → Bytes plan → from_refusal due.Plan plan start ≡ 0
    → Demand3 (λ S. AcceptsFrom plan start S Q) (started plan start) slice Q buffer
demand_3_from plan start slice Q buffer b e =
    demand_3_by (λ S. AcceptsFrom plan start S Q) (started plan start) slice Q buffer (other_marking due.Plan plan start b e).bytes (alike plan start b e Q)

-- answers by the refusal of file and start
cut_by : (n : ℕ) (a : CutAnswer) → (cut_unless n a).refusal ≡ 0 → n ≡ 0
cut_by zero a z = refl
cut_by (suc k) a z = absurd (omega arith)

-- a cut from a start, at its call
module _ (plan start Q buffer : List ℕ) (b : Bytes plan) where
  smallest_by : (n : ℕ) → from_refusal due.Plan plan start ≡ n
      → WritesSmallest (λ S. AcceptsFrom plan start S Q) (cut_unless n (safety_answer (started plan start) Q (length buffer))) (left_unless n (safety_buffer (started plan start) Q buffer) buffer)
  smallest_by zero e = writes_smallest_by (λ S. AcceptsFrom plan start S Q) (started plan start) Q buffer (other_marking due.Plan plan start b e).bytes (alike plan start b e Q)
  smallest_by (suc k) e = record {
    accepted = λ z. absurd (omega (arith, z));
    smallest = λ z. absurd (omega (arith, z));
    places = λ z. absurd (omega (arith, z));
    transitions = λ z. absurd (omega (arith, z));
    own_places = λ z. absurd (omega (arith, z));
    own_transitions = λ z. absurd (omega (arith, z));
  }

  at_safety : WritesSmallest (λ S. AcceptsFrom plan start S Q) (safety_from_answer plan start Q (length buffer)) (safety_from_buffer plan start Q buffer)
  unfolding safety_from_answer safety_from_buffer
  at_safety = smallest_by (from_refusal due.Plan plan start) refl

  exact_by : (n : ℕ) → from_refusal due.Plan plan start ≡ n
      → WritesExact (λ S. AcceptsFrom plan start S Q) (net_at plan start) (cut_unless n (branching_answer (started plan start) Q (length buffer))) (left_unless n (branching_buffer (started plan start) Q buffer) buffer)
  exact_by zero e =
      let o = other_marking due.Plan plan start b e in
      let x = writes_exact (started plan start) Q buffer o.bytes refl refl in
      subst (λ (N : Net). WritesExact (λ S. AcceptsFrom plan start S Q) N (branching_answer (started plan start) Q (length buffer)) (branching_buffer (started plan start) Q buffer)) o.net
      (exact_as (λ S. Accepts (started plan start) S Q) (λ S. AcceptsFrom plan start S Q) _ _ _ (alike plan start b e Q) x)
  exact_by (suc k) e = record {
    exact = λ z. absurd (omega (arith, z));
    own_places = λ z. absurd (omega (arith, z));
    own_transitions = λ z. absurd (omega (arith, z));
  }

  at_branching : WritesExact (λ S. AcceptsFrom plan start S Q) (net_at plan start) (branching_from_answer plan start Q (length buffer)) (branching_from_buffer plan start Q buffer)
  unfolding branching_from_answer branching_from_buffer
  at_branching = exact_by (from_refusal due.Plan plan start) refl

-- for an answer and a buffer that are what the call's contract says
pub writes_smallest_from : (plan start Q buffer : List ℕ) {exit : List ℕ} {a : CutAnswer} → Bytes plan
    → a ≡ safety_from_answer plan start Q (length buffer) → exit ≡ safety_from_buffer plan start Q buffer → WritesSmallest (λ S. AcceptsFrom plan start S Q) a exit
writes_smallest_from plan start Q buffer {exit} b e f =
    subst⁻¹ (λ (a : CutAnswer). WritesSmallest (λ S. AcceptsFrom plan start S Q) a exit) e
    (subst⁻¹ (λ (x : List ℕ). WritesSmallest (λ S. AcceptsFrom plan start S Q) (safety_from_answer plan start Q (length buffer)) x) f (at_safety plan start Q buffer b))

pub writes_exact_from : (plan start Q buffer : List ℕ) {exit : List ℕ} {a : CutAnswer} → Bytes plan
    → a ≡ branching_from_answer plan start Q (length buffer) → exit ≡ branching_from_buffer plan start Q buffer → WritesExact (λ S. AcceptsFrom plan start S Q) (net_at plan start) a exit
writes_exact_from plan start Q buffer {exit} b e f =
    subst⁻¹ (λ (a : CutAnswer). WritesExact (λ S. AcceptsFrom plan start S Q) (net_at plan start) a exit) e
    (subst⁻¹ (λ (x : List ℕ). WritesExact (λ S. AcceptsFrom plan start S Q) (net_at plan start) (branching_from_answer plan start Q (length buffer)) x) f (at_branching plan start Q buffer b))

-- replay
or_none : (n : ℕ) (a : Answer) → (replay_or n a).refused ≡ false → n ≡ 0
or_none zero a z = refl
or_none (suc k) a z = differ (sym z)

module _ (file start list : List ℕ) (room : ℕ) where
  none_refused : (replay_answer (started file start) list room).refused ≡ false → replay_refusal (started file start) list room ≡ 0
  unfolding replay_answer
  none_refused z = or_none (replay_refusal (started file start) list room) (replay (net_of (started file start)) list).answer z

  replay-by : (n : ℕ) → (replay_unless n (replay_answer (started file start) list room)).refused ≡ false
      → (replay_unless n (replay_answer (started file start) list room) ≡ replay_answer (started file start) list room) × Replays (started file start) list room
  replay-by zero z = (refl, replays (started file start) list room (none_refused z))
  replay-by (suc k) z = differ (sym z)

  pub replays_from : (replay_from_answer file start list room).refused ≡ false
      → (replay_from_answer file start list room ≡ replay_answer (started file start) list room) × Replays (started file start) list room
  unfolding replay_from_answer
  replays_from z = replay-by (from_refusal due.Either file start) z

-- from its own marking each call is the plain one; a file that cannot be read is refused by both
module _ (file : List ℕ) (b : Bytes file) where
  abbrev own : List ℕ
  own = own_start file

  own-from : (d : Due) → file_refusal d file ≡ 0 → from_refusal d file own ≡ 0
  unfolding from_refusal
  own-from d r = rw (r, own-passes d file b r)

  own-refused : (d : Due) (k : ℕ) → file_refusal d file ≡ suc k → from_refusal d file own ≡ suc k
  unfolding from_refusal
  own-refused d k r = rw r

  replay-own : (list : List ℕ) (room n : ℕ) → file_refusal due.Either file ≡ n → replay_from_answer file own list room ≡ replay_answer file list room
  unfolding replay_from_answer
  replay-own list room zero r = rw (own-from due.Either r) (ap (λ (s : List ℕ). replay_answer s list room) (own-started due.Either file b r))
  replay-own list room (suc k) r = rw (own-refused due.Either k r) (unfold replay_answer in unfold replay_refusal in rw r)

  marking_own : (list marking : List ℕ) (n : ℕ) → file_refusal due.Either file ≡ n → replay_from_marking file own list marking ≡ replay_marking file list marking
  unfolding replay_from_marking
  marking_own list marking zero r = rw (own-from due.Either r) (ap (λ (s : List ℕ). replay_marking s list marking) (own-started due.Either file b r))
  marking_own list marking (suc k) r = rw (own-refused due.Either k r) (unfold replay_marking in unfold replay_refusal in rw r)

  safety-own : (Q : List ℕ) (room n : ℕ) → file_refusal due.Plan file ≡ n → safety_from_answer file own Q room ≡ safety_answer file Q room
  unfolding safety_from_answer
  safety-own Q room zero r = rw (own-from due.Plan r) (ap (λ (s : List ℕ). safety_answer s Q room) (own-started due.Plan file b r))
  safety-own Q room (suc k) r = rw (own-refused due.Plan k r) (unfold safety_answer in unfold write_refusal in unfold cut_refusal in rw r)

  safety-buffer_own : (Q buffer : List ℕ) (n : ℕ) → file_refusal due.Plan file ≡ n → safety_from_buffer file own Q buffer ≡ safety_buffer file Q buffer
  unfolding safety_from_buffer
  safety-buffer_own Q buffer zero r = rw (own-from due.Plan r) (ap (λ (s : List ℕ). safety_buffer s Q buffer) (own-started due.Plan file b r))
  safety-buffer_own Q buffer (suc k) r = rw (own-refused due.Plan k r) (unfold safety_buffer in unfold write_refusal in unfold cut_refusal in rw r)

  branching-own : (Q : List ℕ) (room n : ℕ) → file_refusal due.Plan file ≡ n → branching_from_answer file own Q room ≡ branching_answer file Q room
  unfolding branching_from_answer
  branching-own Q room zero r = rw (own-from due.Plan r) (ap (λ (s : List ℕ). branching_answer s Q room) (own-started due.Plan file b r))
  branching-own Q room (suc k) r = rw (own-refused due.Plan k r) (unfold branching_answer in unfold write_refusal in unfold cut_refusal in rw r)

  branching-buffer_own : (Q buffer : List ℕ) (n : ℕ) → file_refusal due.Plan file ≡ n → branching_from_buffer file own Q buffer ≡ branching_buffer file Q buffer
  unfolding branching_from_buffer
  branching-buffer_own Q buffer zero r = rw (own-from due.Plan r) (ap (λ (s : List ℕ). branching_buffer s Q buffer) (own-started due.Plan file b r))
  branching-buffer_own Q buffer (suc k) r = rw (own-refused due.Plan k r) (unfold branching_buffer in unfold write_refusal in unfold cut_refusal in rw r)

  check_own : (slice Q : List ℕ) (n : ℕ) → file_refusal due.Plan file ≡ n → checked_from file slice own Q ≡ checked file slice Q
  check_own slice Q zero r =
      let same = own-started due.Plan file b r in
      same_check file own r (own-passes due.Plan file b r) (subst⁻¹ (λ (s : List ℕ). file_refusal due.Plan s ≡ 0) same r) slice Q ∙ ap (λ (s : List ℕ). checked s slice Q) same
  check_own slice Q (suc k) r = unfold checked_from in unfold check_from_refusal in unfold checked in unfold check_refusal in rw r

  pub own_start_row : OwnStart file
  own_start_row = record {
    replay = λ list room. replay-own list room (file_refusal due.Either file) refl;
    marking = λ list marking. marking_own list marking (file_refusal due.Either file) refl;
    safety = λ Q room. safety-own Q room (file_refusal due.Plan file) refl;
    safety_buffer_row = λ Q buffer. safety-buffer_own Q buffer (file_refusal due.Plan file) refl;
    branching = λ Q room. branching-own Q room (file_refusal due.Plan file) refl;
    branching_buffer_row = λ Q buffer. branching-buffer_own Q buffer (file_refusal due.Plan file) refl;
    check = λ slice Q. check_own slice Q (file_refusal due.Plan file) refl;
  }

-- the check from a start and the ten rules
check_by : (n : ℕ) (c : Checked) → (check_unless n c).code ≡ 0 → n ≡ 0
check_by zero c z = refl
check_by (suc k) c z = absurd (omega arith)

-- a code of 100 and more is no refusal
rule_by : (n : ℕ) (c : Checked) (k : ℕ) → n ≤ 24 → (check_unless n c).code ≡ 100 + k → n ≡ 0
rule_by zero c k l z = refl
rule_by (suc n) c k l z = absurd (omega arith)

start_le : (N : Net) (start : List ℕ) → start_refusal N start ≤ 24
unfolding start_refusal
start_le N start = refuse-le (not (eqb (length start) N.places)) 22 _ 24 (omega arith) (refuse-le (overfull N (standing start)) 24 0 24 (omega arith) (omega arith))

module _ (plan start slice : List ℕ) where
  from_le : check_from_refusal plan slice start ≤ 24
  unfolding check_from_refusal
  from_le =
      or_else_le (file_refusal due.Plan plan) _ 24 (omega (arith, file_le due.Plan plan))
      (or_else_le (file_refusal due.Slice slice) _ 24 (omega (arith, file_le due.Slice slice)) (start_le (net_of plan) start))

  -- what passed
  module _ (e : check_from_refusal plan slice start ≡ 0) where
    slice_passed : file_refusal due.Slice slice ≡ 0
    unfolding check_from_refusal
    slice_passed = (or_else_0 _ _ (or_else_0 (file_refusal due.Plan plan) (or_else (file_refusal due.Slice slice) (start_refusal (net_of plan) start)) e).1).0

    start_passed : from_refusal due.Plan plan start ≡ 0
    unfolding check_from_refusal from_refusal
    start_passed =
        let x = or_else_0 (file_refusal due.Plan plan) (or_else (file_refusal due.Slice slice) (start_refusal (net_of plan) start)) e in
        rw (x.0, (or_else_0 (file_refusal due.Slice slice) (start_refusal (net_of plan) start) x.1).1)

module _ (plan start slice Q : List ℕ) (b : Bytes plan) where
  not-held : AcceptsFrom plan start slice Q → check_from_refusal plan slice start ≡ 0
  unfolding checked_from
  not-held a = check_by (check_from_refusal plan slice start) (checked (started plan start) slice Q) a

  rule_told : (k : ℕ) → (checked_from plan slice start Q).code ≡ 100 + k → check_from_refusal plan slice start ≡ 0
  unfolding checked_from
  rule_told k z = rule_by (check_from_refusal plan slice start) (checked (started plan start) slice Q) k (from_le plan start slice) z

  module _ (e : check_from_refusal plan slice start ≡ 0) where
    abbrev o : OtherMarking plan start
    o = other_marking due.Plan plan start b (start_passed plan start slice e)

    same : checked_from plan slice start Q ≡ checked (started plan start) slice Q
    same = o.check (from_read due.Plan plan start (start_passed plan start slice e)) slice Q

    same_criterion : criterion_refusal (net_of (started plan start)).places Q ≡ criterion_refusal (net_of plan).places Q
    same_criterion = ap (λ (N : Net). criterion_refusal N.places Q) o.net

    not-refused : criterion_refusal (net_of plan).places Q ≡ 0 → check_refusal (started plan start) slice Q ≡ 0
    unfolding check_refusal
    not-refused q = rw (o.read due.Plan (from_read due.Plan plan start (start_passed plan start slice e)), slice_passed plan start slice e) (same_criterion ∙ q)

    accepted_by : AcceptsFrom plan start slice Q → (criterion_refusal (net_of plan).places Q ≡ 0) × Accepted (net_at plan start) (slice_of slice) Q
    accepted_by a =
        let x = (judges (started plan start) slice Q).accepts.0 (sym (ap (λ (c : Checked). c.code) same) ∙ a) in
        (sym same_criterion ∙ (check_passes (started plan start) slice Q x.0).1, subst (λ (N : Net). Accepted N (slice_of slice) Q) o.net x.1)

    accepts_by : criterion_refusal (net_of plan).places Q ≡ 0 → Accepted (net_at plan start) (slice_of slice) Q → AcceptsFrom plan start slice Q
    accepts_by q a =
        ap (λ (c : Checked). c.code) same
        ∙ (judges (started plan start) slice Q).accepts.1 (not-refused q, subst⁻¹ (λ (N : Net). Accepted N (slice_of slice) Q) o.net a)

    broken_by : (k : ℕ) → (checked_from plan slice start Q).code ≡ 100 + k → FirstBroken 1 (rules (net_at plan start) (slice_of slice) Q) k (checked_from plan slice start Q).number
    broken_by k z =
        subst⁻¹ (λ (c : Checked). FirstBroken 1 (rules (net_at plan start) (slice_of slice) Q) k c.number) same
        (subst (λ (N : Net). FirstBroken 1 (rules N (slice_of slice) Q) k (checked (started plan start) slice Q).number) o.net
        ((judges (started plan start) slice Q).broken k (sym (ap (λ (c : Checked). c.code) same) ∙ z)))

  pub judges_from : JudgesFrom plan start slice Q
  judges_from = record {
    accepts = (λ a. let e = not-held a in let x = accepted_by e a in (e, x.0, x.1), λ x. accepts_by x.0 x.1 x.2);
    broken = λ k z. broken_by (rule_told k z) k z;
  }

-- an accepted slice that is no larger than our cut
pub same_kept_from : (plan start slice Q buffer : List ℕ) → Bytes plan → (safety_from_answer plan start Q (length buffer)).refusal ≡ 0 → AcceptsFrom plan start slice Q
    → (slice_of slice).net.places + (slice_of slice).net.transitions ≤ (safety_from_answer plan start Q (length buffer)).places + (safety_from_answer plan start Q (length buffer)).transitions
    → SameKept (slice_of slice) (slice_of (our_cut_from plan start Q buffer))
same_kept_from plan start slice Q buffer b w a small =
    let d = writes_smallest_from plan start Q buffer b refl refl in
    let ours = our_cut_from plan start Q buffer in
    same_kept (slice_of slice) (slice_of ours) ((judges_from plan start slice Q b).accepts.0 a).2.subnet.well_formed ((judges_from plan start ours Q b).accepts.0 (d.accepted w)).2.subnet.well_formed
    (d.smallest w slice a) (omega (arith, d.own_places w, d.own_transitions w))

-- a cut from a start that is not refused wrote what the plain cut writes for the file that has it
module _ (plan start Q buffer : List ℕ) (b : Bytes plan) where
  module _ (z : (safety_from_answer plan start Q (length buffer)).refusal ≡ 0) where
    begun : from_refusal due.Plan plan start ≡ 0
    unfolding safety_from_answer
    begun = cut_by (from_refusal due.Plan plan start) (safety_answer (started plan start) Q (length buffer)) z

    wrote : Wrote (started plan start) Q buffer
    unfolding safety_from_answer
    wrote = rw begun at z

    same_file : our_cut_from plan start Q buffer ≡ safety_file (started plan start) Q
    unfolding safety_from_answer safety_from_buffer our_cut
    same_file = rw begun (our_cut_lem (started plan start) Q buffer wrote)

    back : ReadsBack (started plan start) Q
    back = read_back (started plan start) Q (other_marking due.Plan plan start b begun).bytes (not-turned_back (started plan start) Q buffer wrote)

    cut-there : cut_of safety (started plan start) Q ≡ cut (net_at plan start) (safety (net_at plan start) Q)
    unfolding cut_of
    cut-there = ap (λ (N : Net). cut N (safety N Q)) (other_marking due.Plan plan start b begun).net

  module _ (z : (branching_from_answer plan start Q (length buffer)).refusal ≡ 0) where
    branching-begun : from_refusal due.Plan plan start ≡ 0
    unfolding branching_from_answer
    branching-begun = cut_by (from_refusal due.Plan plan start) (branching_answer (started plan start) Q (length buffer)) z

    branching-wrote : (branching_answer (started plan start) Q (length buffer)).refusal ≡ 0
    unfolding branching_from_answer
    branching-wrote = rw branching-begun at z

    same_branching : our_branching_from plan start Q buffer ≡ branching_file (started plan start) Q
    unfolding branching_from_answer branching_from_buffer our_branching
    same_branching = rw branching-begun (our_branching_lem (started plan start) Q buffer branching-wrote)

    branching-back : ReadsBack (started plan start) Q
    branching-back = read_back (started plan start) Q (other_marking due.Plan plan start b branching-begun).bytes (branching-not_turned_back (started plan start) Q buffer branching-wrote)

    branching-there : cut_of branching (started plan start) Q ≡ cut (net_at plan start) (branching (net_at plan start) Q)
    unfolding cut_of
    branching-there = ap (λ (N : Net). cut N (branching N Q)) (other_marking due.Plan plan start b branching-begun).net

  pub reads_back_from : ReadsBackFrom plan start Q buffer
  reads_back_from = record {
    safety_read = λ z. ap (file_refusal due.Slice) (same_file z) ∙ (back z).safety_read;
    safety_same = λ z. ap slice_of (same_file z) ∙ (back z).safety_same ∙ cut-there z;
    safety_edition = λ z. ap (λ (s : List ℕ). (header_of s).edition) (same_file z) ∙ (back z).safety_edition ∙ ap (λ (h : Header). h.edition) (other_marking due.Plan plan start b (begun z)).header;
    branching_read = λ z. ap (file_refusal due.Slice) (same_branching z) ∙ (branching-back z).branching_read;
    branching_same = λ z. ap slice_of (same_branching z) ∙ (branching-back z).branching_same ∙ branching-there z;
    branching_edition = λ z. ap (λ (s : List ℕ). (header_of s).edition) (same_branching z) ∙ (branching-back z).branching_edition ∙ ap (λ (h : Header). h.edition) (other_marking due.Plan plan start b (branching-begun z)).header;
  }

  -- and so a branching slice can be read in full
  pub read_in_full_from : (branching_from_answer plan start Q (length buffer)).refusal ≡ 0
      → ReadInFull (λ S. AcceptsFrom plan start S Q) (net_at plan start) (branching_from_answer plan start Q (length buffer)) (our_branching_from plan start Q buffer)
  read_in_full_from z =
      let e = branching-begun z in
      let o = other_marking due.Plan plan start b e in
      let yes : List ℕ → Type 0 = λ S. AcceptsFrom plan start S Q in
      let a = branching_from_answer plan start Q (length buffer) in
      let exit = branching_from_buffer plan start Q buffer in
      subst (λ (N : Net). ReadInFull yes N a (take a.length exit)) o.net
      (read_in_full_by yes (started plan start) Q a exit o.bytes (alike plan start b e Q) (subst⁻¹ (λ (N : Net). WritesExact yes N a exit) o.net (writes_exact_from plan start Q buffer b refl refl)) z)
