-- Why the arcs of a file cannot be read: refusals 6 and 7 of document 01.
use Rattle.std.specs.Prelude.{ℕ, zero, suc, ◌+◌, ◌*◌, Bool, not, ◌||◌, List, ◌==◌, nat_le, nat_lt}
use Rattle.net.specs.declared.Arc.{Arc}
use Rattle.file_words.specs.Word.{byte_at}
use Rattle.file_words.specs.Refusal.{refuse}
use Rattle.file_arcs.specs.Layout.{arc_at}

-- "Arcs now need only not fall in order", by (transition, direction, place): this number is that order, since a direction is at most 1 and a place below 65536
abbrev pub key : Arc → ℕ
key a = 131072 * a.transition + 65536 * a.direction + a.place

-- 6: "zero byte, direction, place, transition or weight out of range", in a net of P places and T transitions
abbrev pub arc_wrong : ℕ → ℕ → Arc → ℕ → Bool
arc_wrong P T a spare =
    not (spare == 0) || nat_lt 1 a.direction || nat_le P a.place || nat_le T a.transition || a.weight == 0

-- 6, then 7 "below the arc before", arc by arc: n arcs in a row, of which the first may not have a key below `least`
unfoldable pub arcs_refusal : List ℕ → ℕ → ℕ → ℕ → ℕ → ℕ → ℕ
arcs_refusal s P T at least zero = 0
arcs_refusal s P T at least (suc n) =
    refuse (arc_wrong P T (arc_at s at) (byte_at s (at + 3))) 6
    (refuse (nat_lt (key (arc_at s at)) least) 7 (arcs_refusal s P T (at + 8) (key (arc_at s at)) n))
