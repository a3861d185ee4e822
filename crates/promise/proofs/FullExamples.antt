-- The rows of edition 2, by computation.
use mathlib.Core.Path.{refl}
use Rattle.net.specs.Numbers.{among, position, any, selected, first}
use Rattle.net.specs.Net.{below, weight_on, input, output, effect, changes, raises, takes_from, adds_to, capped, has_caps, fire, after, short_place, full_place, test_inputs, test_caps, test_firing, replay_from, replay, tokens}
use Rattle.net.specs.Cut.{growth, safety, branching, drawn_by, grown, rounds, kept_places, kept_transitions}
use Rattle.net.specs.Slice.{strike, own, project, renumber, restrict, arcs_of, slice_run, plan_run, place_of, transition_of, keeping, cut}
use Rattle.net.specs.Guarantee.{plan_tokens, slice_tokens}
use Rattle.net.specs.Checker.{breaks, breaker, same_arc, same_arcs, lacks_input, lacks_output, rule1, rule2, rule3, rule4, rule5, rule6, rule7, rule8, rule9, rule10, rules, verdict_from, verdict}
use Rattle.file_words.specs.Word.{le16, le32, bytes16, bytes32}
use Rattle.file_arcs.specs.Layout.{arcs_from}
use Rattle.file_header.specs.Layout.{trailer_of, header_of}
use Rattle.file.specs.Layout.{words_from}
use Rattle.file_words.specs.Refusal.{caps_refusal, table_refusal}
use Rattle.file_arcs.specs.Refusal.{arcs_refusal}
use Rattle.file_header.specs.Refusal.{trailer_refusal}
use Rattle.file.specs.Refusal.{origins_refusal, links_refusal, body_refusal, file_refusal}
use Rattle.file.specs.Criterion.{places_refusal, criterion_refusal, criterion_of, criterion_bytes_refusal}
use Rattle.file_writing.specs.Writing.{places_bytes, arc_bytes, arcs_bytes, origins_bytes, slice_body, trailer_bytes, slice_bytes}
use Rattle.promise.specs.Calls.{cut_of, safety_file, branching_file, cut_refusal, write_refusal, safety_answer, check_refusal, checked, checked_bytes}
use Rattle.promise.specs.Firing.{effect_refusal, effect_answer, list_refusal, replay_refusal, replay_answer, replay_marking, before, run_in, arc_run}
use Rattle.promise.specs.Shadow.{shadow_of, lent_refusal, shadow_refusal, shadow_answer, shadow_marking, shadow_output}
use Rattle.promise.specs.Promise.{empty_slice}
use Rattle.promise.specs.Example.{small_plan}
use Rattle.promise.specs.FullExample.{full_plan, zero_plan, FullRows}
use Rattle.net.specs.Run.{marking_after, raised_on, raised, with_inputs, go_back, fed, fired_at, run_cut}
use Rattle.promise.specs.RunCut.{run_file, run_chosen, run_room, run_refusal, run_outcome, run_answer, run_buffer, run_positions}

pub full_rows : FullRows
unfolding among position any selected first below weight_on input output effect changes raises takes_from adds_to capped fire short_place full_place test_inputs test_caps test_firing replay_from replay tokens growth safety branching drawn_by grown rounds kept_places kept_transitions strike own project renumber restrict arcs_of slice_run plan_run place_of transition_of keeping cut breaks breaker same_arc same_arcs lacks_input lacks_output rule1 rule2 rule3 rule4 rule5 rule6 rule7 rule8 rule9 rule10 rules verdict_from verdict le16 le32 bytes16 bytes32 trailer_of header_of arcs_from words_from trailer_refusal arcs_refusal table_refusal origins_refusal links_refusal caps_refusal body_refusal file_refusal places_refusal criterion_refusal places_bytes arc_bytes arcs_bytes origins_bytes slice_body trailer_bytes slice_bytes cut_of safety_file branching_file check_refusal checked small_plan effect_refusal effect_answer list_refusal replay_refusal replay_answer replay_marking shadow_of lent_refusal shadow_refusal shadow_answer shadow_marking shadow_output after plan_tokens slice_tokens cut_refusal write_refusal safety_answer criterion_of criterion_bytes_refusal checked_bytes before run_in arc_run has_caps marking_after raised_on raised with_inputs go_back fed fired_at run_cut run_file run_chosen run_room run_refusal run_outcome run_answer run_buffer run_positions empty_slice full_plan zero_plan
full_rows = record {
  read = refl;
  fourth_full = refl;
  before = refl;
  short_first = refl;
  no_cap = refl;
  safety_cut = record { read = refl; places = refl; transitions = refl; arc_count = refl; byte_count = refl };
  branching_cut_row = record { read = refl; places = refl; transitions = refl; arc_count = refl; byte_count = refl };
  own_cut = refl;
  zero_caps = record { read = refl; places = refl; transitions = refl; arc_count = refl; byte_count = refl };
  no_place = refl;
  no_output = refl;
  no_changer = refl;
  other_cap = refl;
  older_slice = refl;
  newer_slice = refl;
  shadow = refl;
  full_shadow = refl;
  edition_3 = refl;
  over = refl;
  at_cap = refl;
  after_5 = refl;
  before_6 = refl;
  slice_over = refl;
  in_check = refl;
  in_effect = refl;
  capped_run = refl;
  over_run = refl;
  zero_run = record { read = refl; places = refl; transitions = refl; arc_count = refl; byte_count = refl };
  keeps_edition = (refl, refl);
}
