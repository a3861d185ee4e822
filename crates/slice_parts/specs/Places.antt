-- The places of a slice file.
use Rattle.std.specs.Prelude.{ℕ, List, length, get_or}
use Rattle.net.specs.Net.{Net}
use Rattle.file_writing.specs.Writing.{places_bytes}

-- those of a list: "the kept places .. renumbered in rising order, their markings"; in edition 2 their caps too
abbrev pub kept_place_bytes : ℕ → Net → List ℕ → List ℕ
kept_place_bytes edition N ps = places_bytes edition (λ i. N.marking (get_or ps i 0)) (λ i. N.cap (get_or ps i 0)) 0 (length ps)
