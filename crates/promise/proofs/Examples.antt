-- The starred examples, by computation.
use mathlib.Core.Path.{refl}
use Rattle.net.specs.Numbers.{among, position, any, selected, first}
use Rattle.net.specs.Net.{below, weight_on, input, output, effect, changes, raises, takes_from, adds_to, capped, fire, after, short_place, full_place, test_inputs, test_caps, test_firing, replay_from, replay, tokens}
use Rattle.net.specs.Cut.{growth, safety, branching, drawn_by, grown, rounds, kept_places, kept_transitions}
use Rattle.net.specs.Slice.{strike, own, project, renumber, restrict, arcs_of, slice_run, plan_run, place_of, transition_of, keeping, cut}
use Rattle.net.specs.Guarantee.{plan_tokens, slice_tokens}
use Rattle.net.specs.Together.{allowed, fewest, together, remainder}
use Rattle.net.specs.Checker.{breaks, breaker, same_arc, same_arcs, lacks_input, lacks_output, rule1, rule2, rule3, rule4, rule5, rule6, rule7, rule8, rule9, rule10, rules, verdict_from, verdict}
use Rattle.file_words.specs.Word.{le16, le32, bytes16, bytes32}
use Rattle.file_arcs.specs.Layout.{arcs_from}
use Rattle.file_header.specs.Layout.{trailer_of, header_of}
use Rattle.file.specs.Layout.{words_from}
use Rattle.file_words.specs.Refusal.{caps_refusal, table_refusal}
use Rattle.file_arcs.specs.Refusal.{arcs_refusal}
use Rattle.file_header.specs.Refusal.{trailer_refusal}
use Rattle.file.specs.Refusal.{origins_refusal, links_refusal, body_refusal, file_refusal}
use Rattle.file.specs.Criterion.{places_refusal, criterion_refusal, criterion_of, criterion_bytes_refusal}
use Rattle.file_writing.specs.Writing.{places_bytes, arc_bytes, arcs_bytes, origins_bytes, slice_body, trailer_bytes, slice_bytes}
use Rattle.promise.specs.Calls.{cut_of, safety_file, branching_file, cut_refusal, write_refusal, safety_answer, check_refusal, checked, checked_bytes}
use Rattle.promise.specs.Firing.{effect_refusal, effect_answer, list_refusal, replay_refusal, replay_answer, replay_marking, before, run_in, arc_run}
use Rattle.promise.specs.Shadow.{shadow_of, lent_refusal, shadow_refusal, shadow_answer, shadow_marking, shadow_output}
use Rattle.promise.specs.Together.{together_refusal, together_answer, together_rest}
use Rattle.promise.specs.Promise.{empty_slice}
use Rattle.promise.specs.Example.{small_plan, one_place_plan, one_place_cut, parallel_plan, Starred, Noted, Followed, ForNoPlace, Parallels, TakenTogether, with_caps, one_cap, two_caps, loop_net, over_net, Capped}

pub starred : Starred
unfolding among position any selected first below weight_on input output effect changes raises takes_from adds_to capped fire short_place full_place test_inputs test_caps test_firing replay_from replay tokens growth safety branching drawn_by grown rounds kept_places kept_transitions strike own project renumber restrict arcs_of slice_run plan_run place_of transition_of keeping cut breaks breaker same_arc same_arcs lacks_input lacks_output rule1 rule2 rule3 rule4 rule5 rule6 rule7 rule8 rule9 rule10 rules verdict_from verdict le16 le32 bytes16 bytes32 trailer_of header_of arcs_from words_from trailer_refusal arcs_refusal table_refusal origins_refusal links_refusal caps_refusal body_refusal file_refusal places_refusal criterion_refusal places_bytes arc_bytes arcs_bytes origins_bytes slice_body trailer_bytes slice_bytes cut_of safety_file branching_file check_refusal checked small_plan effect_refusal effect_answer list_refusal replay_refusal replay_answer replay_marking shadow_of lent_refusal shadow_refusal shadow_answer shadow_marking shadow_output
starred = record {
  file = (refl, refl);
  fires = record { answer = refl; marking = refl };
  empty = record { answer = refl; marking = refl };
  second_sticks = refl;
  third_sticks = refl;
  takes_two = refl;
  no_effect = refl;
  safety_for_2 = record { read = refl; places = refl; transitions = refl; arc_count = refl; byte_count = refl };
  branching_for_2 = record { read = refl; places = refl; transitions = refl; arc_count = refl; byte_count = refl };
  safety_for_3 = record { read = refl; places = refl; transitions = refl; arc_count = refl; byte_count = refl };
  projection = refl;
}

pub noted : Noted
unfolding among position any selected first below weight_on input output effect changes raises takes_from adds_to capped fire short_place full_place test_inputs test_caps test_firing replay_from replay tokens growth safety branching drawn_by grown rounds kept_places kept_transitions strike own project renumber restrict arcs_of slice_run plan_run place_of transition_of keeping cut breaks breaker same_arc same_arcs lacks_input lacks_output rule1 rule2 rule3 rule4 rule5 rule6 rule7 rule8 rule9 rule10 rules verdict_from verdict le16 le32 bytes16 bytes32 trailer_of header_of arcs_from words_from trailer_refusal arcs_refusal table_refusal origins_refusal links_refusal caps_refusal body_refusal file_refusal places_refusal criterion_refusal places_bytes arc_bytes arcs_bytes origins_bytes slice_body trailer_bytes slice_bytes cut_of safety_file branching_file check_refusal checked small_plan one_place_plan one_place_cut effect_refusal effect_answer list_refusal replay_refusal replay_answer replay_marking shadow_of lent_refusal shadow_refusal shadow_answer shadow_marking shadow_output after plan_tokens slice_tokens cut_refusal write_refusal safety_answer criterion_of criterion_bytes_refusal checked_bytes before run_in arc_run
noted = record {
  one_place = refl;
  too_short = refl;
  a_plan = refl;
  weightless = refl;
  heaviest = refl;
  many_places = refl;
  four_missing = refl;
  four_of_a_sum = refl;
  none_missing = refl;
  no_place = refl;
  no_transition = refl;
  little_room = refl;
  cut_counts = refl;
  cut_no_room = refl;
  not_rising = refl;
  own_cut = refl;
  own_branching_cut = refl;
  too_small = refl;
  in_bytes = refl;
  odd_bytes = refl;
  run = refl;
  no_run = refl;
  tokens_in_plan = refl;
  tokens_in_slice = refl;
  tokens_in_branching = refl;
}

pub followed : Followed
unfolding among position any selected first below weight_on input output effect changes raises takes_from adds_to capped fire short_place full_place test_inputs test_caps test_firing replay_from replay tokens growth safety branching drawn_by grown rounds kept_places kept_transitions strike own project renumber restrict arcs_of slice_run plan_run place_of transition_of keeping cut breaks breaker same_arc same_arcs lacks_input lacks_output rule1 rule2 rule3 rule4 rule5 rule6 rule7 rule8 rule9 rule10 rules verdict_from verdict le16 le32 bytes16 bytes32 trailer_of header_of arcs_from words_from trailer_refusal arcs_refusal table_refusal origins_refusal links_refusal caps_refusal body_refusal file_refusal places_refusal criterion_refusal places_bytes arc_bytes arcs_bytes origins_bytes slice_body trailer_bytes slice_bytes cut_of safety_file branching_file check_refusal checked small_plan one_place_plan one_place_cut effect_refusal effect_answer list_refusal replay_refusal replay_answer replay_marking shadow_of lent_refusal shadow_refusal shadow_answer shadow_marking shadow_output after plan_tokens slice_tokens cut_refusal write_refusal safety_answer criterion_of criterion_bytes_refusal checked_bytes before run_in arc_run
followed = record {
  fires = record { answer = refl; marking = refl; output = refl };
  sticks = record { answer = refl; marking = refl; output = refl };
  sticks_early = record { answer = refl; marking = refl; output = refl };
  empty = record { answer = refl; marking = refl; output = refl };
  exact_room = refl;
  no_room = refl;
  marking_kept = refl;
  output_kept = refl;
  no_plan = refl;
  no_slice = refl;
  unknown = refl;
  no_marking = refl;
}

pub for_no_place : ForNoPlace
unfolding among position any selected first below weight_on input output effect changes raises takes_from adds_to capped fire short_place full_place test_inputs test_caps test_firing replay_from replay tokens growth safety branching drawn_by grown rounds kept_places kept_transitions strike own project renumber restrict arcs_of slice_run plan_run place_of transition_of keeping cut breaks breaker same_arc same_arcs lacks_input lacks_output rule1 rule2 rule3 rule4 rule5 rule6 rule7 rule8 rule9 rule10 rules verdict_from verdict le16 le32 bytes16 bytes32 trailer_of header_of arcs_from words_from trailer_refusal arcs_refusal table_refusal origins_refusal links_refusal caps_refusal body_refusal file_refusal places_refusal criterion_refusal places_bytes arc_bytes arcs_bytes origins_bytes slice_body trailer_bytes slice_bytes cut_of safety_file branching_file check_refusal checked small_plan one_place_plan one_place_cut effect_refusal effect_answer list_refusal replay_refusal replay_answer replay_marking shadow_of lent_refusal shadow_refusal shadow_answer shadow_marking shadow_output after plan_tokens slice_tokens cut_refusal write_refusal safety_answer criterion_of criterion_bytes_refusal checked_bytes before run_in arc_run empty_slice
for_no_place = record {
  safety_cut = refl;
  branching_cut_row = refl;
  answer = refl;
  no_room = refl;
  its_own = refl;
  no_bytes = refl;
  one_byte = refl;
  another = refl;
  passes = (refl, refl);
  empty_plan = (refl, refl);
  no_plan = refl;
  fires = refl;
  no_number = refl;
  no_effect = refl;
  no_run = refl;
  no_shadow = refl;
  larger = refl;
  other_marking = refl;
  no_input = refl;
  no_raiser = refl;
  may_lower = refl;
  no_changer = refl;
}

pub parallels : Parallels
unfolding among position any selected first below weight_on input output effect changes raises takes_from adds_to capped fire short_place full_place test_inputs test_caps test_firing replay_from replay tokens growth safety branching drawn_by grown rounds kept_places kept_transitions strike own project renumber restrict arcs_of slice_run plan_run place_of transition_of keeping cut breaks breaker same_arc same_arcs lacks_input lacks_output rule1 rule2 rule3 rule4 rule5 rule6 rule7 rule8 rule9 rule10 rules verdict_from verdict le16 le32 bytes16 bytes32 trailer_of header_of arcs_from words_from trailer_refusal arcs_refusal table_refusal origins_refusal links_refusal caps_refusal body_refusal file_refusal places_refusal criterion_refusal places_bytes arc_bytes arcs_bytes origins_bytes slice_body trailer_bytes slice_bytes cut_of safety_file branching_file check_refusal checked small_plan one_place_plan one_place_cut effect_refusal effect_answer list_refusal replay_refusal replay_answer replay_marking shadow_of lent_refusal shadow_refusal shadow_answer shadow_marking shadow_output after plan_tokens slice_tokens cut_refusal write_refusal safety_answer criterion_of criterion_bytes_refusal checked_bytes before run_in arc_run parallel_plan
parallels = record {
  file = (refl, refl);
  takes_two = refl;
  fires = record { answer = refl; marking = refl };
  sticks = refl;
  run = refl;
  safety_for_3 = record { read = refl; places = refl; transitions = refl; arc_count = refl; byte_count = refl };
  joined = refl;
  falling = refl;
}

pub taken_together : TakenTogether
unfolding selected below weight_on input takes_from tokens allowed fewest together remainder le16 le32 trailer_of header_of arcs_from trailer_refusal arcs_refusal table_refusal origins_refusal links_refusal caps_refusal body_refusal file_refusal small_plan parallel_plan empty_slice together_refusal together_answer together_rest
taken_together = record {
  fewest = record { answer = refl; rest = refl };
  first_fewest = record { answer = refl; rest = refl };
  rounded_down = record { answer = refl; rest = refl };
  of_a_sum = record { answer = refl; rest = refl };
  not_once = record { answer = refl; rest = refl };
  most = record { answer = refl; rest = refl };
  no_inputs = refl;
  same = refl;
  no_plan = refl;
  no_transition = refl;
  four_entries = refl;
  six_entries = refl;
  little_room = refl;
  kept = refl;
}

pub with-caps : Capped
unfolding among position any selected first below weight_on input output effect changes raises takes_from adds_to capped fire short_place full_place test_inputs test_caps test_firing replay_from replay tokens growth safety branching drawn_by grown rounds kept_places kept_transitions strike own project renumber restrict arcs_of slice_run plan_run place_of transition_of keeping cut breaks breaker same_arc same_arcs lacks_input lacks_output rule1 rule2 rule3 rule4 rule5 rule6 rule7 rule8 rule9 rule10 rules verdict_from verdict le16 le32 bytes16 bytes32 trailer_of header_of arcs_from words_from trailer_refusal arcs_refusal table_refusal origins_refusal links_refusal caps_refusal body_refusal file_refusal places_refusal criterion_refusal places_bytes arc_bytes arcs_bytes origins_bytes slice_body trailer_bytes slice_bytes cut_of safety_file branching_file check_refusal checked small_plan effect_refusal effect_answer list_refusal replay_refusal replay_answer replay_marking shadow_of lent_refusal shadow_refusal shadow_answer shadow_marking shadow_output with_caps one_cap two_caps loop_net over_net allowed fewest together
with-caps = record {
  fourth_full = refl;
  before = refl;
  lowest_full = refl;
  short_first = refl;
  refilled = refl;
  overfilled = refl;
  safety_places = refl;
  safety_transitions = refl;
  branching_places = refl;
  branching_transitions = refl;
  own_cut = refl;
  own_branching_cut = refl;
  no_cap = refl;
  other_cap = refl;
  no_output = refl;
  output_by_out = refl;
  no_changer = refl;
  no_changer_of_two = refl;
  over_accepted = refl;
  over_in_slice = refl;
  over_in_plan = refl;
  caps_aside = refl;
}
