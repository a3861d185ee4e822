-- What the parts of the writer know of each other: for its own functions, not for a reader of its contract.
use Rattle.std.specs.Prelude.{ℕ, ◌/◌, ◌%◌, ◌≤◌, ◌≡◌, Bool, false, ◌||◌, List, map, length, get_or}
use Rattle.net.specs.declared.Arc.{Arc}
use Rattle.pnml_names.specs.Tables.{entries_in}
use Rattle.pnml_names.specs.declared.Which.TheVariants.{Places, Transitions, Arcs}
use Rattle.file_writing.specs.Writing.{plan_bytes}
use Rattle.pnml_net.specs.Read.{entries, unfit, number_of, arcs_named, net_named, counts_off, sorted}
use Rattle.pnml_net.specs.Named.{any_off}

-- the plan file of what the code reads of a text
unfoldable pub read_file : List ℕ → List ℕ
read_file s = plan_bytes 1 (net_named s)

-- the markings of the places whose ids stand at the positions of a table
abbrev pub marking_in : List ℕ → List ℕ → ℕ → ℕ
marking_in s places p = get_or (map number_of (entries_in Places s places)) p 0

-- the arc that a number is
abbrev pub arc_of : ℕ → Arc
arc_of w = record { transition = w / 8589934592; direction = w / 4294967296 % 2; place = w / 65536 % 65536; weight = w % 65536 }

abbrev pub arcs_in : List ℕ → List Arc
arcs_in words = map arc_of words

-- the parts of the net that a text names, each within its limit
pub record Ready (s places : List ℕ) (T : ℕ) (words : List ℕ) : Type 0 where
  pub few_places : length places ≤ 1024
  pub few_transitions : T ≤ 1024
  pub few_arcs : length words ≤ 4096
  pub places_are : entries_in Places s places ≡ entries Places s
  pub transitions_are : T ≡ length (entries Transitions s)
  pub arcs_are : arcs_in words ≡ sorted (arcs_named s)

-- refusal 20, where `off` says whether a weight is 0 or past its limit
abbrev pub unfit_but : List ℕ → Bool → Bool
unfit_but s off = counts_off (length (entries Places s)) (length (entries Transitions s)) (length (entries Arcs s)) || any_off 0 4294967295 (entries Places s) || off

-- numbers that are the arcs of a text that refusal 20 lets pass, in order
pub record Sorted (s words : List ℕ) : Type 0 where
  pub fit : unfit s ≡ false
  pub count : length words ≡ length (entries Arcs s)
  pub arcs_are : arcs_in words ≡ sorted (arcs_named s)
