-- The rows of plans from PNML, by computation.
use mathlib.Core.Path.{refl}
use Rattle.pnml_text.specs.Rest.{decimal}
use Rattle.pnml_page.specs.Profile.{starts, run, next, reads, element, content, body, of_profile, drawing}
use Rattle.pnml_names.specs.Names.{entries_of, same_id, position, among, repeats}
use Rattle.pnml_net.specs.Named.{entries, names, arcs_of, misnamed, any_off, unfit, insert, sort_onto, arcs_named, net_named}
use Rattle.file_words.specs.Word.{bytes16, bytes32}
use Rattle.file_writing.specs.Writing.{places_bytes, arc_bytes, arcs_bytes, trailer_bytes, plan_body, plan_bytes}
use Rattle.promise.specs.Pnml.{pnml_refusal, pnml_file, pnml_write_refusal, pnml_answer, pnml_buffer}
use Rattle.promise.specs.PnmlExample.{PnmlRows, OutsideRows}

pub pnml_rows : PnmlRows
unfolding decimal starts run next reads element content body of_profile drawing entries_of same_id position among repeats entries names arcs_of misnamed any_off unfit insert sort_onto arcs_named net_named bytes16 bytes32 places_bytes arc_bytes arcs_bytes trailer_bytes plan_body plan_bytes pnml_refusal pnml_file pnml_write_refusal pnml_answer pnml_buffer
pnml_rows = record {
  file = refl;
  answer = refl;
  little_room = refl;
  kept = refl;
  past = refl;
  most = refl;
  fits = refl;
  marking_above = refl;
  weight_above = refl;
  weight_none = refl;
  blank = refl;
  no_digits = refl;
  in_order = refl;
  long_id = refl;
  longer_id = refl;
  no_id = refl;
  no_text = refl;
  net_id = refl;
  page_id = refl;
  arc_id = refl;
  no_end = refl;
  same_sort = refl;
  outside_first = refl;
  name_next = refl;
  number_next = refl;
}

pub outside_rows : OutsideRows
unfolding decimal starts run next reads element content body of_profile drawing entries_of same_id position among repeats entries names arcs_of misnamed any_off unfit insert sort_onto arcs_named net_named pnml_refusal
outside_rows = record {
  declaration = refl;
  comment = refl;
  entity = refl;
  other_character = refl;
  spaced_name = refl;
  name_element = refl;
  single_quotes = refl;
  two_spaces = refl;
  space_before_close = refl;
  other_attribute = refl;
  attributes_exchanged = refl;
  marking_twice = refl;
  marking_of_transition = refl;
  inscription_of_place = refl;
  empty_text = refl;
  blank_after_digits = refl;
  sign = refl;
  upper_case = refl;
  other_text = refl;
  second_page = refl;
  other_space = refl;
  after_the_end = refl;
}
