-- Going back over a list of firings: what is needed before each.
use Rattle.std.specs.Prelude.{ℕ, ◌+◌, ◌-◌, ◌<◌, ◌≤◌, true, false, List, ◌≡◌, length, get_or}
use Rattle.net.specs.Net.{Net, Marking, input, output}
use Rattle.net.specs.Range.{covers, Extent, every, partly, never}
use Rattle.file.specs.Facts.{Sound}
use Rattle.file_header.specs.declared.Header.{Header}
use Rattle.promise.specs.Firing.{list_refusal}
use Rattle.arcs_column.specs.Gain.{sum_to}

-- the weights of the arcs from..to are taken off, down to 0
pub record Credits (s : List ℕ) (start from to : ℕ) (was is : List ℕ) : Type 0 where
  pub long : length is ≡ length was
  pub at : (p : ℕ) → get_or is p 0 ≡ get_or was p 0 - (sum_to s start p to - sum_to s start p from)

-- what is needed before a firing of t, M being needed after it
abbrev pub wanted : Net → ℕ → Marking → Marking
wanted N t M = λ p. input N p t + (M p - output N p t)

-- the list has few enough firings, each of a transition
pub record Known (h : Header) (list : List ℕ) : Type 0 where
  pub short : length list ≤ 65535
  pub known : (i : ℕ) → i < length list → get_or list i 0 < h.transitions

-- which markings of a range cover M: the plan's, or else the upper one
unfoldable pub extent_for : Net → Marking → Marking → Extent
extent_for N upper M = elim (covers N N.marking M) [ true ↦ every | false ↦ elim (covers N upper M) [ true ↦ partly | false ↦ never ] ]

-- the file was read, the list is not refused, and both other lists have an entry for each place
pub record Passed (s : List ℕ) (h : Header) (list upper need : List ℕ) : Type 0 where
  pub sound : Sound s h
  pub listed : list_refusal h.transitions list ≡ 0
  pub entries : length upper ≡ h.places
  pub room : length need ≡ h.places
