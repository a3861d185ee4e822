-- The rows of a range, by computation.
use mathlib.Core.Path.{refl}
use Rattle.net.specs.Numbers.{any, selected}
use Rattle.net.specs.Net.{below, weight_on, input, output, capped, has_caps, tokens}
use Rattle.net.specs.Range.{need, covers, extent}
use Rattle.file_words.specs.Word.{le16, le32}
use Rattle.file_arcs.specs.Layout.{arcs_from}
use Rattle.file_header.specs.Layout.{trailer_of, header_of}
use Rattle.file_words.specs.Refusal.{caps_refusal, table_refusal}
use Rattle.file_arcs.specs.Refusal.{arcs_refusal}
use Rattle.file_header.specs.Refusal.{trailer_refusal}
use Rattle.file.specs.Refusal.{origins_refusal, links_refusal, body_refusal, file_refusal}
use Rattle.promise.specs.Firing.{list_refusal}
use Rattle.promise.specs.Range.{upper_wrong, range_refusal, range_answer, range_need}
use Rattle.promise.specs.Example.{small_plan, parallel_plan}
use Rattle.promise.specs.FullExample.{full_plan, zero_plan}
use Rattle.promise.specs.RangeExample.{RangeRows}

pub range_rows : RangeRows
unfolding any selected below weight_on input output capped has_caps tokens need covers extent le16 le32 trailer_of header_of arcs_from trailer_refusal arcs_refusal table_refusal origins_refusal links_refusal caps_refusal body_refusal file_refusal list_refusal upper_wrong range_refusal range_answer range_need small_plan parallel_plan full_plan zero_plan
range_rows = record {
  starred = record { answer = refl; need = refl };
  wide = record { answer = refl; need = refl };
  less = record { answer = refl; need = refl };
  no_firing = record { answer = refl; need = refl };
  third = record { answer = refl; need = refl };
  two_wanted = record { answer = refl; need = refl };
  one_marking = record { answer = refl; need = refl };
  given_first = record { answer = refl; need = refl };
  given_later = record { answer = refl; need = refl };
  given_back = record { answer = refl; need = refl };
  of_a_sum = record { answer = refl; need = refl };
  no_caps = record { answer = refl; need = refl };
  just_room = refl;
  no_plan = λ list upper lent. record { answer = refl; kept = refl };
  capped = λ list upper lent. record { answer = refl; kept = refl };
  long = λ list upper lent e. record { answer = rw e; kept = rw e };
  unknown = λ upper lent. record { answer = refl; kept = refl };
  four_entries = λ lent. record { answer = refl; kept = refl };
  six_entries = λ lent. record { answer = refl; kept = refl };
  below_the_plan = λ lent. record { answer = refl; kept = refl };
  little_room = record { answer = refl; kept = refl };
}
