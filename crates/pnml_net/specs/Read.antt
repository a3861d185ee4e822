-- What the code reads of a text, and the same of it as Named says of a drawing: for the code's contracts, not for a reader of the public calls. A text of the profile
-- within 65,536 bytes is read as Profile says, but that a number past every limit is read as 4294967296 (proofs/Reading).
use Rattle.std.specs.Prelude.{ℕ, Bool, true, false, ◌||◌, ◌&&◌, eqb, ltb, length, List, [], ◌∷◌}
use Rattle.net.specs.Net.{Net}
use Rattle.net.specs.declared.Arc.{Arc}
use Rattle.pnml_text.specs.Rest
use Rattle.pnml_text.specs.Rest.{more}
use Rattle.pnml_page.specs.Profile.{Element, Drawing}
use Rattle.pnml_page.specs.Steps.{net, page, inside, content, most}
use Rattle.pnml_names.specs.Names.{repeats}
use Rattle.pnml_names.specs.declared.Which.{Which}
use Rattle.pnml_names.specs.declared.Which.TheVariants.{Places, Transitions, Arcs}
use Rattle.pnml_net.specs.Named
use Rattle.pnml_net.specs.Named.{joined}

unfoldable pub read_of : List ℕ → Drawing
read_of s = record {
  heads = Rest.id_of (net (more s)) ∷ Rest.id_of (page (more s)) ∷ [];
  elements = (content most (inside (more s))).elements;
}

abbrev pub entries : Which → List ℕ → List Element
entries w s = Named.entries w (read_of s)

abbrev pub ids : Which → List ℕ → List (List ℕ)
ids w s = Named.ids w (read_of s)

abbrev pub names : List ℕ → List (List ℕ)
names s = Named.names (read_of s)

-- "an id used twice"
abbrev pub twice_in : Drawing → Bool
twice_in d = repeats (Named.names d)

abbrev pub id_twice : List ℕ → Bool
id_twice s = twice_in (read_of s)

-- "an end that names no place or transition, or an arc between two of the same sort"
abbrev pub wrong_in : Drawing → Bool
wrong_in d = ltb (length (Named.arcs_named d)) (length (Named.entries Arcs d))

abbrev pub unfit : List ℕ → Bool
unfit s = Named.unfit (read_of s)

abbrev pub arcs_named : List ℕ → List Arc
arcs_named s = Named.arcs_named (read_of s)

abbrev pub sorted : List Arc → List Arc
sorted l = Named.sort_onto [] l

-- "a count .. past its limit", "or neither place nor transition"
abbrev pub counts_off : ℕ → ℕ → ℕ → Bool
counts_off P T A = ltb 1024 P || ltb 1024 T || ltb 4096 A || (eqb P 0 && eqb T 0)

abbrev pub net_named : List ℕ → Net
net_named s = Named.net_named (read_of s)

-- the id and the number of an element
abbrev pub id_of : Element → List ℕ
id_of e = e.id

abbrev pub number_of : Element → ℕ
number_of e = e.number

-- no arc
abbrev pub is_none : List Arc → Bool
is_none [] = true
is_none (a ∷ l) = false

-- some element has ends that do not join
unfoldable pub any_apart : List (List ℕ) → List (List ℕ) → List Element → Bool
any_apart places transitions [] = false
any_apart places transitions (e ∷ l) = is_none (joined places transitions e) || any_apart places transitions l

-- the same as wrong_in (proofs/Arcs, apart_is)
unfoldable pub end_wrong : List ℕ → Bool
end_wrong s = any_apart (ids Places s) (ids Transitions s) (entries Arcs s)
