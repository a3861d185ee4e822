-- What the code holds of a text: positions for what stands there. For callers, not for a reader of the contracts.
use Rattle.std.specs.Prelude.{◌≡◌, ℕ, ◌≤◌, ◌<◌, List, Option, Some, None, length, drop}
use Rattle.pnml_text.specs.Rest.{Rest, outside, front, rest_at}
use Rattle.pnml_page.specs.Profile
use Rattle.pnml_page.specs.Steps
use Rattle.pnml_page.specs.Steps.{a_place, a_transition, an_arc}
use Rattle.pnml_text.specs.declared.Run.TheVariants.{Id}
use Rattle.pnml_page.specs.declared.Element.{Element}
use Rattle.pnml_page.specs.declared.Element.TheVariants.{Place, Transition, Arc}
use Rattle.pnml_page.specs.declared.Found.{Found}
use Rattle.pnml_page.specs.declared.Ends.{Ends}

-- the id at a position
unfoldable pub id_at : List ℕ → ℕ → List ℕ
id_at s a = front Id (drop a s)

-- the element that positions and a number stand for
abbrev pub meant : List ℕ → Element → Profile.Element
meant s (Place a n) = a_place (id_at s a) n
meant s (Transition a) = a_transition (id_at s a)
meant s (Arc a b e n) = an_arc (id_at s a) (id_at s b) (id_at s e) n

-- what stands from an element's id on
abbrev pub from_id : List ℕ → Element → Profile.Element
from_id s (Place a n) = (Steps.place_read (rest_at s a)).element
from_id s (Transition a) = (Steps.transition_read (rest_at s a)).element
from_id s (Arc a b e n) = (Steps.arc_read (rest_at s a)).element

-- where the id of an element stands
abbrev pub name_at : Element → ℕ
name_at (Place a n) = a
name_at (Transition a) = a
name_at (Arc a b e n) = a

-- what was found is the element that stands there
pub record Reads (s : List ℕ) (f : Found) (r : Steps.Read) : Type 0 where
  pub element : meant s f.element ≡ r.element
  pub here : meant s f.element ≡ from_id s f.element
  pub rest : rest_at s f.next ≡ r.rest
  pub within : f.next ≤ length s → name_at f.element < length s

-- the element that stands there is found, if one does
abbrev pub MayRead : List ℕ → Option Found → Steps.Read → Type 0
MayRead s (Some f) r = Reads s f r × (f.next ≤ length s)
MayRead s None r = r.rest ≡ outside

-- the ends and the number of an arc
pub record HasEnds (s : List ℕ) (e : Ends) (r : Rest) : Type 0 where
  pub source : rest_at s e.source ≡ Steps.source r
  pub target : rest_at s e.target ≡ Steps.target r
  pub number : e.number ≡ (Steps.arc r).number
  pub rest : rest_at s e.next ≡ (Steps.arc r).rest
