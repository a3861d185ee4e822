-- Parts of a file by its header: the run of a transition's arcs (document 01, "Firing": "The run handed back is that part of the file named").
use Rattle.std.specs.Prelude.{ℕ, ◌+◌, ◌*◌, ◌≤◌, ◌<◌, List, ◌≡◌, length, take, drop, ltb}
use Rattle.file_arcs.specs.Layout.{arc_at}
use Rattle.file_header.specs.declared.Header.{Header}
use Rattle.promise.specs.Firing.{run_if, run_from, run_start, start_if}
use Rattle.arcs_effect.specs.declared.Part.{Part}

-- the run of transition t; none where the number is unknown
unfoldable pub run_of : List ℕ → Header → ℕ → List ℕ
run_of s h t = run_if (ltb t h.transitions) (run_from s h t)

-- where it starts; 0 where it is empty
unfoldable pub start_of : List ℕ → Header → ℕ → ℕ
start_of s h t = start_if (length (run_of s h t)) (run_start s h t)

-- r says where the run stands
pub record PartOf (s : List ℕ) (h : Header) (t : ℕ) (r : Part) : Type 0 where
  pub start : r.start ≡ start_of s h t
  pub long : r.length ≡ length (run_of s h t)
  pub part : take r.length (drop r.start s) ≡ run_of s h t
  pub fits : r.start + r.length ≤ length s
  pub short : length s ≤ 65536

-- the arcs from..to stand in the file, and their places do not fall
pub record Within (s : List ℕ) (start from to : ℕ) : Type 0 where
  pub rising : from ≤ to
  pub few : to ≤ 4096
  pub fit : start + 8 * to ≤ length s
  pub order : (i j : ℕ) → from ≤ i → i ≤ j → j < to → (arc_at s (start + 8 * i)).place ≤ (arc_at s (start + 8 * j)).place

-- of the arcs from..to, those before r have a place below p, and the rest have not
pub record FromPlace (s : List ℕ) (start from to p r : ℕ) : Type 0 where
  pub after : from ≤ r
  pub within : r ≤ to
  pub below : (i : ℕ) → from ≤ i → i < r → (arc_at s (start + 8 * i)).place < p
  pub above : (i : ℕ) → r ≤ i → i < to → p ≤ (arc_at s (start + 8 * i)).place
