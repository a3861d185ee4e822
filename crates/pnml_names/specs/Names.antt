-- The ids of a text in PNML (document 02, A10): "Numbers follow order of appearance".
use Rattle.std.specs.Prelude.{ℕ, suc, Bool, true, false, ◌||◌, ◌&&◌, List, [], ◌∷◌, ◌++◌, eqb}
use Rattle.pnml_page.specs.Profile.{Element}
use Rattle.pnml_names.specs.declared.Which.{Which}
use Rattle.pnml_names.specs.declared.Which.TheVariants.{Places, Transitions, Arcs}

-- the sort of the elements that are asked for
abbrev pub sort_of : Which → ℕ
sort_of Places = 0
sort_of Transitions = 1
sort_of Arcs = 2

-- the first where the test holds, else the second
abbrev pub pick : {A : Type 0} → Bool → A → A → A
pick true x y = x
pick false x y = y

-- the elements that are asked for, in order of appearance
unfoldable pub entries_of : Which → List Element → List Element
entries_of w [] = []
entries_of w (e ∷ l) = pick (eqb e.sort (sort_of w)) (e ∷ []) [] ++ entries_of w l

-- two ids are the same where their bytes are
unfoldable pub same_id : List ℕ → List ℕ → Bool
same_id [] [] = true
same_id [] (b ∷ y) = false
same_id (a ∷ x) [] = false
same_id (a ∷ x) (b ∷ y) = eqb a b && same_id x y

-- where an id stands in a list, counted from 0; the list's length where it does not
unfoldable pub position : List ℕ → List (List ℕ) → ℕ
position x [] = 0
position x (y ∷ l) = pick (same_id x y) 0 (suc (position x l))

-- an id is one of a list
unfoldable pub among : List ℕ → List (List ℕ) → Bool
among x [] = false
among x (y ∷ l) = same_id x y || among x l

-- an id of a list stands in it again
unfoldable pub repeats : List (List ℕ) → Bool
repeats [] = false
repeats (x ∷ l) = among x l || repeats l
