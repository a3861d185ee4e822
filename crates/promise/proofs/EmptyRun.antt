-- The run cut for no place: nothing is chosen, and the slice is that of the two cuts.
use Prim.Native.Nat.{ℕ, zero, suc, ◌≤◌}
use mathlib.Core.Bool.{false}
use mathlib.Core.List.{List, []}
use mathlib.Core.Path.{◌≡◌, refl, ap, ◌∙◌}
use native.Mathlib.Omega.{arith}
use lib.ListN.{length}
use borrow.Author.Tests.{le-ltb}
use Rattle.net.specs.Numbers.{among, any}
use Rattle.net.specs.Net.{has_caps, Net, fired, Replay, replay}
use Rattle.net.specs.Slice.{keeping}
use Rattle.net.specs.Guarantee.{PlanFires}
use Rattle.net.specs.Run.{raised, Fed, go_back, fed, fired_at, run_cut}
use Rattle.net.proofs.Replay.{fires_replay}
use Rattle.file_words.specs.Word.{Bytes}
use Rattle.file_header.specs.Layout.{header_of}
use Rattle.file.specs.Layout.{net_of}
use Rattle.file.specs.Criterion.{places_refusal, criterion_refusal}
use Rattle.file.specs.Refusal.{file_refusal}
use Rattle.file_writing.specs.Writing.{slice_bytes}
use Rattle.file_header.specs.declared.Due.TheVariants as due
use Rattle.promise.specs.Calls.{safety_buffer}
use Rattle.promise.specs.Firing.{list_refusal}
use Rattle.promise.specs.RunCut.{run_file, run_chosen, run_written, run_room, run_refusal, run_outcome, run_answer, run_buffer, run_positions, RunForNothing}
use Rattle.promise.specs.Promise.{empty_slice}
use Rattle.promise.proofs.Empty.{none_selected, nothing_written, safety-file, fits}

none_raised : (N : Net) (ts : List ℕ) (i : ℕ) → go_back N ts i [] [] ≡ record { places = []; positions = [] }
unfolding go_back raised any
none_raised N ts zero = refl
none_raised N ts (suc i) = none_raised N ts i

nothing_fed : (N : Net) (ts : List ℕ) → fed N [] ts ≡ record { places = []; positions = [] }
unfolding fed
nothing_fed N ts = none_raised N ts (length ts)

nothing-kept : (N : Net) (ts : List ℕ) → run_cut N [] ts ≡ keeping N [] []
unfolding run_cut fired_at among
nothing-kept N ts = rw (nothing_fed N ts, none_selected (λ t. false) 0 N.transitions (λ t. refl))

module _ (plan list : List ℕ) where
  empty_file : run_file plan [] list ≡ empty_slice (header_of plan).edition
  unfolding run_file
  empty_file = ap (slice_bytes (header_of plan).edition) (nothing-kept (net_of plan) list) ∙ nothing_written (header_of plan).edition (net_of plan)

  none_chosen : run_chosen plan [] list ≡ []
  unfolding run_chosen
  none_chosen = ap (λ (r : Fed). r.positions) (nothing_fed (net_of plan) list)

  module _ (bytes : Bytes plan) (read : file_refusal due.Plan plan ≡ 0) (none : has_caps (net_of plan) ≡ false) (known : list_refusal (net_of plan).transitions list ≡ 0) (f : PlanFires (net_of plan) list)
      (buffer positions : List ℕ) (room : 16 ≤ length buffer) where
    fires : (replay (net_of plan) list).answer ≡ fired
    unfolding replay PlanFires
    fires = ap (λ (r : Replay). r.answer) (fires_replay (net_of plan) 0 (net_of plan).marking list f)

    has_room : run_room (header_of plan).edition (net_of plan) [] list (length buffer) (length positions) ≡ 0
    unfolding run_room empty_slice
    has_room = rw (nothing-kept (net_of plan) list, nothing_written (header_of plan).edition (net_of plan), nothing_fed (net_of plan) list, le-ltb (length buffer) 16 room, le-ltb (length positions) 0 (omega arith))

    answer : run_answer plan [] list (length buffer) (length positions) ≡ run_written 16 0 0 0
    unfolding run_refusal run_answer run_outcome criterion_refusal places_refusal keeping empty_slice
    answer = rw (read, none, known, fires, has_room, nothing-kept (net_of plan) list, nothing_written (header_of plan).edition (net_of plan), nothing_fed (net_of plan) list)

    wrote : run_buffer plan [] list buffer (length positions) ≡ safety_buffer plan [] buffer
    unfolding run_buffer safety_buffer
    wrote = rw (answer, empty_file, safety-file plan, fits plan bytes read (length buffer) room)

    pub run_for_nothing : RunForNothing plan list buffer positions
    unfolding run_positions
    run_for_nothing = record {
      answer = answer;
      same_bytes = cc wrote;
      none = rw (answer, none_chosen);
    }
