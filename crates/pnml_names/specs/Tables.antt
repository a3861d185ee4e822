-- The code's tables of positions: for callers, not for a reader of the contracts.
use Rattle.std.specs.Prelude.{ℕ, ◌+◌, ◌≡◌, Bool, true, false, Option, Some, None, List, [], ◌∷◌, ◌++◌, map, eqb, length, take}
use Rattle.pnml_text.specs.Rest.{rest_at}
use Rattle.pnml_page.specs.Meant.{id_at}
use Rattle.pnml_page.specs.Profile
use Rattle.pnml_page.specs.Steps.{content, most, place_read, transition_read, arc_read}
use Rattle.pnml_page.specs.declared.Element.{Element}
use Rattle.pnml_page.specs.declared.Element.TheVariants.{Place, Transition, Arc}
use Rattle.pnml_names.specs.Names.{pick, sort_of, entries_of}
use Rattle.pnml_names.specs.declared.Which.{Which}
use Rattle.pnml_names.specs.declared.Which.TheVariants.{Places, Transitions, Arcs}

-- x where the test holds
abbrev pub kept_if : {A : Type 0} → Bool → A → List A
kept_if b x = pick b (x ∷ []) []

-- the first character of an id, where there is one
abbrev pub head_of : List ℕ → Option ℕ
head_of [] = None
head_of (b ∷ x) = Some b

-- whether an element is one of those that are asked for: as the text has it, and as the code holds it
abbrev pub is_wanted : Which → Profile.Element → Bool
is_wanted w e = eqb e.sort (sort_of w)

abbrev pub wanted_at : Which → Element → Bool
wanted_at Places (Place a n) = true
wanted_at Places (Transition a) = false
wanted_at Places (Arc a b e n) = false
wanted_at Transitions (Place a n) = false
wanted_at Transitions (Transition a) = true
wanted_at Transitions (Arc a b e n) = false
wanted_at Arcs (Place a n) = false
wanted_at Arcs (Transition a) = false
wanted_at Arcs (Arc a b e n) = true

-- a table of k positions with one more, if it is kept: r positions
pub record Kept (table : List ℕ) (k a : ℕ) (kept : Bool) (later : List ℕ) (r : ℕ) : Type 0 where
  pub taken : take r later ≡ take k table ++ kept_if kept a
  pub count : r ≡ k + length (kept_if kept a)
  pub room : length later ≡ length table

-- the ids at the positions of a table
abbrev pub ids_in : List ℕ → List ℕ → List (List ℕ)
ids_in s table = map (id_at s) table

-- what stands from a position on, for a table of those that are asked for
abbrev pub wanted_read : Which → List ℕ → ℕ → Profile.Element
wanted_read Places s a = (place_read (rest_at s a)).element
wanted_read Transitions s a = (transition_read (rest_at s a)).element
wanted_read Arcs s a = (arc_read (rest_at s a)).element

abbrev pub entries_in : Which → List ℕ → List ℕ → List Profile.Element
entries_in w s table = map (wanted_read w s) table

-- a table of k positions with those of the ids that are asked for, from a position of the text on: r positions
pub record Collected (s : List ℕ) (at : ℕ) (which : Which) (table : List ℕ) (k : ℕ) (later : List ℕ) (r : ℕ) : Type 0 where
  pub found : List ℕ
  pub taken : take r later ≡ take k table ++ found
  pub entries : entries_in which s found ≡ entries_of which (content most (rest_at s at)).elements
  pub count : r ≡ k + length found
  pub room : length later ≡ length table
