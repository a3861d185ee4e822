-- The order of refusals, by computation; of long lists by their length.
use Prim.Native.Nat.{ℕ, ◌<◌}
use mathlib.Core.List.{List}
use mathlib.Core.Path.{◌≡◌, refl}
use lib.ListN.{length}
use borrow.Author.Tests.{lt-ltb}
use Rattle.net.specs.Numbers.{among, position, any, selected, first}
use Rattle.net.specs.Net.{below, weight_on, input, output, changes, raises, takes_from, adds_to, capped}
use Rattle.net.specs.Cut.{growth, safety, branching, drawn_by, grown, rounds, kept_places, kept_transitions}
use Rattle.net.specs.Slice.{renumber, restrict, keeping, cut}
use Rattle.file_words.specs.Word.{le16, le32, bytes16, bytes32}
use Rattle.file_arcs.specs.Layout.{arcs_from}
use Rattle.file_header.specs.Layout.{trailer_of, header_of}
use Rattle.file.specs.Layout.{words_from, net_of}
use Rattle.file_words.specs.Refusal.{caps_refusal, table_refusal}
use Rattle.file_arcs.specs.Refusal.{arcs_refusal}
use Rattle.file_header.specs.Refusal.{trailer_refusal}
use Rattle.file.specs.Refusal.{origins_refusal, links_refusal, body_refusal, file_refusal}
use Rattle.file.specs.Criterion.{places_refusal, criterion_refusal, criterion_of, criterion_bytes_refusal}
use Rattle.file_writing.specs.Writing.{places_bytes, arc_bytes, arcs_bytes, origins_bytes, slice_body, trailer_bytes, slice_bytes}
use Rattle.promise.specs.Calls.{cut_of, safety_file, branching_file, cut_refusal, write_refusal, safety_answer, branching_answer, check_refusal, checked, checked_bytes}
use Rattle.promise.specs.Firing.{effect_refusal, effect_answer, list_refusal, replay_refusal, replay_answer}
use Rattle.promise.specs.Shadow.{lent_refusal, shadow_refusal, shadow_answer}
use Rattle.promise.specs.Together.{together_refusal, together_answer}
use Rattle.promise.specs.Example.{small_plan, one_place_cut}
use Rattle.promise.specs.RunCut.{run_refusal, run_answer}
use Rattle.promise.specs.OrderExample.{FileOrder, CallOrder, LongList, RefusalOrder}

files : FileOrder
unfolding any le16 le32 trailer_of header_of trailer_refusal arcs_refusal table_refusal origins_refusal links_refusal caps_refusal body_refusal file_refusal among position selected first below weight_on input output raises changes takes_from adds_to capped growth safety drawn_by grown rounds kept_places kept_transitions renumber restrict keeping cut arcs_from bytes16 bytes32 places_bytes arc_bytes arcs_bytes origins_bytes slice_body trailer_bytes slice_bytes cut_of safety_file small_plan
files = record {
  letters_before_kind = refl;
  kind_before_counts = refl;
  range_before_order = refl;
  arc_by_arc = refl;
  arcs_before_origins = refl;
}

calls : CallOrder
unfolding any le16 le32 trailer_of header_of trailer_refusal arcs_refusal table_refusal origins_refusal links_refusal caps_refusal body_refusal file_refusal words_from places_refusal criterion_refusal criterion_of criterion_bytes_refusal cut_refusal write_refusal safety_answer branching_answer check_refusal checked checked_bytes effect_refusal effect_answer list_refusal replay_refusal replay_answer lent_refusal shadow_refusal shadow_answer together_refusal together_answer run_refusal run_answer small_plan one_place_cut among position selected first below weight_on input output raises changes takes_from adds_to capped growth safety drawn_by grown rounds kept_places kept_transitions renumber restrict keeping cut arcs_from bytes16 bytes32 places_bytes arc_bytes arcs_bytes origins_bytes slice_body trailer_bytes slice_bytes cut_of safety_file branching branching_file
calls = record {
  effect_file = refl;
  replay_file = refl;
  replay_list = refl;
  shadow_plan = refl;
  shadow_slice = refl;
  together_plan = refl;
  safety_plan = refl;
  safety_criterion = refl;
  branching_plan = refl;
  branching_criterion = refl;
  run_plan = refl;
  check_plan = refl;
  check_slice = refl;
  bytes_plan = refl;
  bytes_slice = refl;
  odd_before_place = refl;
}

-- what is asked first of a list is its length
eleven : (T : ℕ) (list : List ℕ) → 65535 < length list → list_refusal T list ≡ 11
unfolding list_refusal
eleven T list h = rw (lt-ltb 65535 (length list) h)

long_list : (list : List ℕ) → 65535 < length list → LongList list
unfolding replay_refusal replay_answer lent_refusal shadow_refusal shadow_answer run_answer
long_list list h = record {
  replayed = λ file room read. rw (read, eleven (net_of file).transitions list h);
  shadowed = λ plan slice room space read read'. rw (read, read', eleven (net_of plan).transitions list h);
  cut = λ plan Q room entries read. rw (read, eleven (net_of plan).transitions list h);
}

pub refusal_order : RefusalOrder
refusal_order = record { files = files; calls = calls; long_list = long_list }
