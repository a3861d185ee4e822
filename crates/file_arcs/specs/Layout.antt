-- The arcs of a file: the section "Plan and slice files" of document 01.
use Rattle.std.specs.Prelude.{ℕ, zero, suc, ◌+◌, List, [], ◌∷◌}
use Rattle.net.specs.declared.Arc.{Arc}
use Rattle.file_words.specs.Word.{byte_at, le16}

-- "arcs of 8 bytes: transition (2), direction (1), a zero byte, place (2), weight (2)"
abbrev pub arc_at : List ℕ → ℕ → Arc
arc_at s at = record { transition = le16 s at; direction = byte_at s (at + 2); place = le16 s (at + 4); weight = le16 s (at + 6) }

-- n arcs in a row
unfoldable pub arcs_from : List ℕ → ℕ → ℕ → List Arc
arcs_from s at zero = []
arcs_from s at (suc n) = arc_at s at ∷ arcs_from s (at + 8) n
