-- What the checker asks of its arguments and of the arrays that it works in.
use Rattle.std.specs.Prelude.{ℕ, ◌*◌, ◌≤◌, ◌<◌, List, [], ◌∷◌, ◌≡◌, length}
use Rattle.net.specs.Net.{Net}
use Rattle.net.specs.Slice.{Slice}
use Rattle.net.specs.Checker.{Rule, rule4, rule5, rule6, rule7, rule8, rule9, rule10}
use Rattle.file.specs.Layout.{slice_from}
use Rattle.file.specs.Facts.{Sound}
use Rattle.file.specs.Criterion.{criterion_refusal}
use Rattle.file_header.specs.declared.Header.{Header}
use Rattle.numbering.specs.Own.{Own}

-- rules 9 and 10
abbrev pub rules_from9 : Net → Slice → List Rule
rules_from9 N S = rule9 N S ∷ rule10 N S ∷ []

-- rules 6 to 10
abbrev pub rules_from6 : Net → Slice → List ℕ → List Rule
rules_from6 N S Q = rule6 N S Q ∷ rule7 N S ∷ rule8 N S ∷ rules_from9 N S

-- rules 4 to 10
abbrev pub rules_from4 : Net → Slice → List ℕ → List Rule
rules_from4 N S Q = rule4 N S ∷ rule5 N S Q ∷ rules_from6 N S Q

-- a plan, a slice and a criterion that are not turned back
pub record Judged (plan : List ℕ) (hp : Header) (slice : List ℕ) (hs : Header) (Q : List ℕ) : Type 0 where
  pub planned : Sound plan hp
  pub sliced : Sound slice hs
  pub kind : hs.kind ≡ 1
  pub criterion : criterion_refusal hp.places Q ≡ 0

-- the tables are long enough: starts of the plan's and the slice's arcs, own places and transitions
pub record Room (hp hs : Header) (table runs ownp ownt : ℕ) : Type 0 where
  pub starts : 2 * hp.transitions < table
  pub runs_start : 2 * hs.transitions < runs
  pub places : hp.places ≤ ownp
  pub transitions : hp.transitions ≤ ownt

-- two tables, as long as they were, with the slice's own places and transitions
pub record Filled (slice : List ℕ) (hs : Header) (ownp ownp' ownt ownt' : List ℕ) : Type 0 where
  pub long_p : length ownp' ≡ length ownp
  pub long_t : length ownt' ≡ length ownt
  pub places : Own (slice_from slice hs).place_origins ownp'
  pub transitions : Own (slice_from slice hs).transition_origins ownt'
