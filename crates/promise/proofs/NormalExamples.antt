-- The rows of the normal form, by computation.
use mathlib.Core.Path.{refl}
use Rattle.net.specs.Numbers.{among, position, any, selected}
use Rattle.net.specs.Net.{below, weight_on, input, output, changes, raises, takes_from, adds_to, capped}
use Rattle.net.specs.Cut.{growth, safety, drawn_by, grown, rounds, kept_places, kept_transitions}
use Rattle.net.specs.Slice.{renumber, restrict, keeping, cut}
use Rattle.net.specs.Normal.{joined_to, joined, normal_of}
use Rattle.file_words.specs.Word.{le16, le32, bytes16, bytes32}
use Rattle.file_arcs.specs.Layout.{arcs_from}
use Rattle.file_header.specs.Layout.{trailer_of, header_of}
use Rattle.file_words.specs.Refusal.{caps_refusal, table_refusal}
use Rattle.file_arcs.specs.Refusal.{arcs_refusal}
use Rattle.file_header.specs.Refusal.{trailer_refusal}
use Rattle.file.specs.Refusal.{origins_refusal, links_refusal, body_refusal, file_refusal}
use Rattle.file_writing.specs.Writing.{places_bytes, arc_bytes, arcs_bytes, origins_bytes, slice_body, trailer_bytes, slice_bytes, plan_body, plan_bytes}
use Rattle.promise.specs.Calls.{cut_of, safety_file}
use Rattle.promise.specs.Normal.{weights_refusal, normal_refusal, normal_file, normal_write_refusal, normal_answer, normal_buffer}
use Rattle.promise.specs.Example.{small_plan, parallel_plan}
use Rattle.promise.specs.FullExample.{full_plan, zero_plan}
use Rattle.promise.specs.NormalExample.{two_arcs, NormalRows}

pub normal_rows : NormalRows
unfolding among position any selected below weight_on input output changes raises takes_from adds_to capped growth safety drawn_by grown rounds kept_places kept_transitions renumber restrict keeping cut joined_to joined normal_of le16 le32 bytes16 bytes32 trailer_of header_of arcs_from trailer_refusal arcs_refusal table_refusal origins_refusal links_refusal caps_refusal body_refusal file_refusal places_bytes arc_bytes arcs_bytes origins_bytes slice_body trailer_bytes slice_bytes plan_body plan_bytes cut_of safety_file weights_refusal normal_refusal normal_file normal_write_refusal normal_answer normal_buffer small_plan parallel_plan full_plan zero_plan two_arcs
normal_rows = record {
  small = refl;
  long = refl;
  twin = refl;
  noted = refl;
  twice = refl;
  capped = refl;
  heavier = refl;
  both_ways = refl;
  above = refl;
  most = refl;
  joined = refl;
  one_more = refl;
  a_slice = refl;
  slice_above = refl;
  no_room_above = refl;
  little_room = refl;
  kept = refl;
  past = refl;
}
