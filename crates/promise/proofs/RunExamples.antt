-- The run cut's rows, by computation.
use Prim.Native.Nat.{◌≤◌}
use mathlib.Core.List.{[], ◌∷◌}
use mathlib.Core.Path.{refl}
use native.Mathlib.Omega.{arith}
use Rattle.net.specs.Numbers.{among, position, any, selected, first}
use Rattle.net.specs.Net.{below, weight_on, input, output, changes, raises, takes_from, adds_to, capped, has_caps, Supplied, Enabled, fire, Fires, after, short_place, full_place, test_inputs, test_caps, test_firing, replay_from, replay, tokens}
use Rattle.net.specs.Slice.{strike, own, project, renumber, restrict, arcs_of, slice_run, plan_run, place_of, transition_of, keeping}
use Rattle.net.specs.Guarantee.{plan_tokens, SliceFires, slice_tokens, struck}
use Rattle.net.specs.Run.{marking_after, raised_on, raised, with_inputs, go_back, fed, fired_at, run_cut}
use Rattle.net.specs.Checker.{breaks, breaker, same_arc, same_arcs, lacks_input, lacks_output, rule1, rule2, rule3, rule4, rule5, rule6, rule7, rule8, rule9, rule10, rules, verdict_from, verdict}
use Rattle.file_words.specs.Word.{le16, le32, bytes16, bytes32}
use Rattle.file_arcs.specs.Layout.{arcs_from}
use Rattle.file_header.specs.Layout.{trailer_of, header_of}
use Rattle.file.specs.Layout.{words_from}
use Rattle.file_words.specs.Refusal.{caps_refusal, table_refusal}
use Rattle.file_arcs.specs.Refusal.{arcs_refusal}
use Rattle.file_header.specs.Refusal.{trailer_refusal}
use Rattle.file.specs.Refusal.{origins_refusal, links_refusal, body_refusal, file_refusal}
use Rattle.file.specs.Criterion.{places_refusal, criterion_refusal}
use Rattle.file_writing.specs.Writing.{places_bytes, arc_bytes, arcs_bytes, origins_bytes, slice_body, trailer_bytes, slice_bytes}
use Rattle.promise.specs.Calls.{cut_refusal, check_refusal, checked}
use Rattle.promise.specs.Firing.{list_refusal, replay_refusal, replay_answer}
use Rattle.promise.specs.RunCut.{run_file, run_chosen, run_room, run_refusal, run_outcome, run_answer, run_buffer, run_positions}
use Rattle.promise.specs.Promise.{empty_slice}
use Rattle.promise.specs.Example.{small_plan, parallel_plan}
use Rattle.promise.specs.RunExample.{SmallRuns, again_plan, again_file, Printed, Again}

pub small_runs : SmallRuns
unfolding among position any selected first below weight_on input output raises takes_from adds_to capped has_caps fire after short_place full_place test_inputs test_caps test_firing replay_from replay renumber restrict keeping marking_after raised_on raised with_inputs go_back fed fired_at run_cut le16 le32 bytes16 bytes32 trailer_of header_of arcs_from words_from trailer_refusal arcs_refusal table_refusal origins_refusal links_refusal caps_refusal body_refusal file_refusal places_refusal criterion_refusal places_bytes arc_bytes arcs_bytes origins_bytes slice_body trailer_bytes slice_bytes cut_refusal list_refusal run_file run_chosen run_room run_refusal run_outcome run_answer run_buffer run_positions small_plan parallel_plan empty_slice
small_runs = record {
  all_chosen = record { answer = refl; positions = refl };
  taker_left_out = record { answer = refl; positions = refl };
  only_what_feeds = record { answer = refl; positions = refl };
  kept = record { read = refl; places = refl; transitions = refl; arc_count = refl; byte_count = refl };
  nothing_fed = record { answer = refl; positions = refl };
  empty_list = record { answer = refl; positions = refl };
  no_place = record { answer = refl; positions = refl };
  empty_slice_row = refl;
  given_back = record { answer = refl; positions = refl };
  by_sums = record { answer = refl; positions = refl };
  parallel = record { answer = refl; positions = refl };
  sticks = refl;
  sticks_for_no_place = refl;
  unknown_first = refl;
  criterion_first = refl;
  no_room = refl;
  no_entries = refl;
  file_kept = refl;
  entries_kept = refl;
}

-- the third of the kept firings 0, 1, 0 wants a token that is not there
refuted : ¬ Printed
unfolding Printed SliceFires struck strike own Fires Enabled Supplied among position any selected first below weight_on input output raises takes_from adds_to capped has_caps fire after short_place full_place test_inputs test_caps test_firing replay_from replay renumber restrict keeping marking_after raised_on raised with_inputs go_back fed fired_at run_cut le16 le32 bytes16 bytes32 trailer_of header_of arcs_from words_from trailer_refusal arcs_refusal table_refusal origins_refusal links_refusal caps_refusal body_refusal file_refusal places_refusal criterion_refusal places_bytes arc_bytes arcs_bytes origins_bytes slice_body trailer_bytes slice_bytes cut_refusal list_refusal run_file run_chosen run_room run_refusal run_outcome run_answer run_buffer run_positions again_plan
refuted claim =
    let f = claim again_plan (2 ∷ []) (0 ∷ 1 ∷ 2 ∷ 0 ∷ []) refl in
    let short : 1 ≤ 0 = f.1.2.2.1.0 0 (omega arith) in
    omega arith

pub again : Again
unfolding among position any selected first below weight_on input output raises takes_from adds_to capped has_caps fire after short_place full_place test_inputs test_caps test_firing replay_from replay renumber restrict keeping marking_after raised_on raised with_inputs go_back fed fired_at run_cut tokens changes strike own project arcs_of slice_run plan_run place_of transition_of plan_tokens slice_tokens struck breaks breaker same_arc same_arcs lacks_input lacks_output rule1 rule2 rule3 rule4 rule5 rule6 rule7 rule8 rule9 rule10 rules verdict_from verdict le16 le32 bytes16 bytes32 trailer_of header_of arcs_from words_from trailer_refusal arcs_refusal table_refusal origins_refusal links_refusal caps_refusal body_refusal file_refusal places_refusal criterion_refusal places_bytes arc_bytes arcs_bytes origins_bytes slice_body trailer_bytes slice_bytes cut_refusal list_refusal run_file run_chosen run_room run_refusal run_outcome run_answer run_buffer run_positions check_refusal checked replay_refusal replay_answer again_plan again_file
again = record {
  chosen = record { answer = refl; positions = refl };
  kept = record { read = refl; places = refl; transitions = refl; arc_count = refl; byte_count = refl };
  kept_firings = refl;
  kept_stick = refl;
  refuted = refuted;
  in_plan = refl;
  in_the_slice = refl;
  more_in_slice = refl;
  less_in_plan = refl;
  not_accepted = refl;
}
