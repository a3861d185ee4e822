-- What a text in PNML draws between two ids: to say what the net that it names is, without its numbers.
use Rattle.std.specs.Prelude.{ℕ, ◌+◌, ◌&&◌, List, [], ◌∷◌, eqb}
use Rattle.net.specs.Net.{counted}
use Rattle.net.specs.declared.Arc.{Arc}
use Rattle.file_arcs.specs.Refusal.{key}
use Rattle.pnml_page.specs.Profile.{Element}
use Rattle.pnml_names.specs.Names.{pick, same_id}

-- the sum of the inscriptions of those arcs that go from one id to another
unfoldable pub drawn : List ℕ → List ℕ → List Element → ℕ
drawn a b [] = 0
drawn a b (e ∷ l) = counted (same_id e.source a && same_id e.target b) e.number + drawn a b l

-- the arcs with one key, in their order
unfoldable pub parallels : ℕ → List Arc → List Arc
parallels k [] = []
parallels k (a ∷ l) = pick (eqb (key a) k) (a ∷ parallels k l) (parallels k l)
