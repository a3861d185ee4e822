-- The rows of the change of plan, by computation.
use mathlib.Core.Path.{refl}
use Rattle.net.specs.Numbers.{among, position, any, selected, first}
use Rattle.net.specs.Net.{below, weight_on, input, output, effect, changes, raises, takes_from, adds_to, capped, fire, after, short_place, full_place, test_inputs, test_caps, test_firing, replay_from, replay, tokens}
use Rattle.net.specs.Cut.{growth, safety, branching, drawn_by, grown, rounds, kept_places, kept_transitions}
use Rattle.net.specs.Slice.{strike, own, renumber, restrict, arcs_of, slice_run, plan_run, place_of, transition_of, keeping, cut}
use Rattle.net.specs.Checker.{breaks, breaker, same_arc, same_arcs, lacks_input, lacks_output, rule1, rule2, rule3, rule4, rule5, rule6, rule7, rule8, rule9, rule10, rules, verdict_from, verdict}
use Rattle.file_words.specs.Word.{le16, le32, bytes16, bytes32}
use Rattle.file_arcs.specs.Layout.{arcs_from}
use Rattle.file_header.specs.Layout.{trailer_of, header_of}
use Rattle.file.specs.Layout.{words_from}
use Rattle.file_words.specs.Refusal.{caps_refusal, table_refusal}
use Rattle.file_arcs.specs.Refusal.{arcs_refusal}
use Rattle.file_header.specs.Refusal.{trailer_refusal}
use Rattle.file.specs.Refusal.{origins_refusal, links_refusal, body_refusal, file_refusal}
use Rattle.file.specs.Criterion.{places_refusal, criterion_refusal}
use Rattle.file_writing.specs.Writing.{places_bytes, arc_bytes, arcs_bytes, origins_bytes, slice_body, trailer_bytes, slice_bytes}
use Rattle.promise.specs.Calls.{cut_of, safety_file, branching_file, cut_refusal, write_refusal, safety_answer, branching_answer, check_refusal, checked}
use Rattle.promise.specs.Firing.{list_refusal, replay_refusal, replay_answer, replay_marking}
use Rattle.promise.specs.Example.{small_plan, one_place_plan, one_place_cut}
use Rattle.promise.specs.Starts.{started_from, overfull, start_refusal, from_refusal, replay_from_answer, replay_from_marking, safety_from_answer, branching_from_answer, check_from_refusal, checked_from}
use Rattle.promise.specs.Transfer.{carried_to, table_wrong, strands, carry_refusal, transfer_answer, transfer_marking}
use Rattle.promise.specs.StartExample.{three_places, to_three, Transfers, FromThere, AllTheWay}

-- all of them at once, so that the definitions computed are named once
rows : Transfers × FromThere × AllTheWay
unfolding among position any selected first below weight_on input output effect changes raises takes_from adds_to capped fire short_place full_place test_inputs test_caps test_firing replay_from replay tokens growth safety branching drawn_by grown rounds kept_places kept_transitions strike own renumber restrict arcs_of slice_run plan_run place_of transition_of keeping cut breaks breaker same_arc same_arcs lacks_input lacks_output rule1 rule2 rule3 rule4 rule5 rule6 rule7 rule8 rule9 rule10 rules verdict_from verdict le16 le32 bytes16 bytes32 trailer_of header_of arcs_from words_from trailer_refusal arcs_refusal table_refusal origins_refusal links_refusal caps_refusal body_refusal file_refusal places_refusal criterion_refusal places_bytes arc_bytes arcs_bytes origins_bytes slice_body trailer_bytes slice_bytes cut_of safety_file branching_file check_refusal checked small_plan list_refusal replay_refusal replay_answer replay_marking after cut_refusal write_refusal safety_answer branching_answer one_place_plan one_place_cut three_places to_three started_from overfull start_refusal from_refusal replay_from_answer replay_from_marking safety_from_answer branching_from_answer check_from_refusal checked_from carried_to table_wrong strands carry_refusal transfer_answer transfer_marking
rows = (
  record {
    answer = refl;
    marking = refl;
    sums = refl;
    most = refl;
    above_most = refl;
    above_cap = refl;
    stranded = refl;
    no_such_place = refl;
    short_running = refl;
    long_table = refl;
    unknown_first = refl;
    stranded_next = refl;
    sum_next = refl;
    no_room = refl;
    lent_kept = refl;
    old_first = refl;
    no_plan = refl;
  },
  record {
    fires = refl;
    ends = refl;
    sticks = refl;
    file_first = refl;
    short_start = refl;
    short_and_large = refl;
    large_start = refl;
    then_list = refl;
    then_room = refl;
    largest_start = refl;
    above_cap = refl;
    lent_kept = refl;
    of_a_slice = refl;
    cut = refl;
    branches = refl;
    marked = refl;
    accepted = refl;
    other_start = refl;
    cut_plan = refl;
    cut_short = refl;
    cut_large = refl;
    cut_criterion = refl;
    cut_room = refl;
    branching_plan = refl;
    branching_short = refl;
    branching_large = refl;
    branching_criterion = refl;
    branching_room = refl;
    plan_first = refl;
    slice_first = refl;
    start_next = refl;
    start_large = refl;
    then_criterion = refl;
    slices_length = refl;
  },
  record {
    carries = refl;
    fires = refl;
    accepted = refl;
    moved_on = refl;
    all_entries = refl;
  },
)

pub transfers : Transfers
transfers = rows.0

pub from_there : FromThere
from_there = rows.1

pub all_the_way : AllTheWay
all_the_way = rows.2
