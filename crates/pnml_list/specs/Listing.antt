-- The table of a text's ids: for callers, not for a reader of the contracts.
use Rattle.std.specs.Prelude.{ℕ, ◌+◌, ◌≤◌, ◌≡◌, List, length, take, drop}
use Rattle.pnml_names.specs.Tables.{ids_in, entries_in}
use Rattle.pnml_names.specs.declared.Which.TheVariants.{Places, Transitions, Arcs}
use Rattle.pnml_net.specs.Read.{entries, names}
use Rattle.pnml_list.specs.declared.Counts.{Counts}

-- `table` has the positions of the ids of the text s, which has P places and T transitions
pub record Listing (s table : List ℕ) (P T : ℕ) : Type 0 where
  pub ids : ids_in s table ≡ names s
  pub few : length table ≤ 4372
  pub place_count : P ≡ length (entries Places s)
  pub transition_count : T ≡ length (entries Transitions s)
  pub places : entries_in Places s (take P (drop 2 table)) ≡ entries Places s
  pub arcs : entries_in Arcs s (drop (2 + P + T) table) ≡ entries Arcs s

-- how many ids there are
abbrev pub id_count : Counts → ℕ
id_count r = 2 + r.places + r.transitions + r.arcs

-- the first entries of `later` are that table
pub record Listed (s later : List ℕ) (r : Counts) : Type 0 where
  pub room : id_count r ≤ length later
  pub table : Listing s (take (id_count r) later) r.places r.transitions
  pub arc_count : r.arcs ≡ length (entries Arcs s)
