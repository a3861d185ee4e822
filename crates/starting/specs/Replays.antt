-- What a replay from a start asks of its file, start, list and marking.
use Rattle.std.specs.Prelude.{ℕ, List, ◌≡◌, length}
use Rattle.file_header.specs.declared.Header.{Header}
use Rattle.file_header.specs.declared.Due.TheVariants.{Either}
use Rattle.promise.specs.Firing.{list_refusal}
use Rattle.inputs_starts.specs.Startable.{Startable}

-- none of them is refused, and m has an entry for each place
pub record Replayable (s : List ℕ) (h : Header) (start ts m : List ℕ) : Type 0 where
  pub startable : Startable Either s h start
  pub list : list_refusal h.transitions ts ≡ 0
  pub places : length m ≡ h.places
