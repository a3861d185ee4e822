-- The net that a text in PNML names, and refusals 19 and 20 (document 02, A10). `d` is what a text of the profile says.
use Rattle.std.specs.Prelude.{ℕ, Bool, false, ◌||◌, ◌&&◌, List, [], ◌∷◌, ◌++◌, map, eqb, ltb, length, get_or}
use Rattle.net.specs.Net.{Net}
use Rattle.net.specs.declared.Arc.{Arc}
use Rattle.file_arcs.specs.Refusal.{key}
use Rattle.pnml_page.specs.Profile.{Element, Drawing}
use Rattle.pnml_names.specs.Names.{pick, entries_of, position, among, repeats}
use Rattle.pnml_names.specs.declared.Which.{Which}
use Rattle.pnml_names.specs.declared.Which.TheVariants.{Places, Transitions, Arcs}

-- the places, the transitions or the arcs of a text: "Numbers follow order of appearance"
unfoldable pub entries : Which → Drawing → List Element
entries w d = entries_of w d.elements

-- their ids
abbrev pub ids : Which → Drawing → List (List ℕ)
ids w d = map (λ e. e.id) (entries w d)

-- every id: of the net, of the page, of the places, the transitions and the arcs
unfoldable pub names : Drawing → List (List ℕ)
names d = d.heads ++ (ids Places d ++ (ids Transitions d ++ ids Arcs d))

-- the arc that joins a place to a transition (direction 0) or a transition to a place (1), by their numbers; none where the ends are not such two
abbrev pub joined : List (List ℕ) → List (List ℕ) → Element → List Arc
joined places transitions e =
    pick (among e.source places && among e.target transitions)
    (record { transition = position e.target transitions; direction = 0; place = position e.source places; weight = e.number } ∷ [])
    (pick (among e.target places && among e.source transitions)
    (record { transition = position e.source transitions; direction = 1; place = position e.target places; weight = e.number } ∷ [])
    [])

unfoldable pub arcs_of : List (List ℕ) → List (List ℕ) → List Element → List Arc
arcs_of places transitions [] = []
arcs_of places transitions (e ∷ l) = joined places transitions e ++ arcs_of places transitions l

-- the arcs of the text, in order of appearance
unfoldable pub arcs_named : Drawing → List Arc
arcs_named d = arcs_of (ids Places d) (ids Transitions d) (entries Arcs d)

-- 19: "an id used twice, an end that names no place or transition, or an arc between two of the same sort"
unfoldable pub misnamed : Drawing → Bool
misnamed d = repeats (names d) || ltb (length (arcs_named d)) (length (entries Arcs d))

-- a number is not from one limit to another
unfoldable pub any_off : ℕ → ℕ → List Element → Bool
any_off least most [] = false
any_off least most (e ∷ l) = (ltb e.number least || ltb most e.number) || any_off least most l

-- 20: "a count or number past its limit, a weight of 0, or neither place nor transition"
unfoldable pub unfit : Drawing → Bool
unfit d =
    (ltb 1024 (length (entries Places d)) || ltb 1024 (length (entries Transitions d)) || ltb 4096 (length (entries Arcs d)) || (eqb (length (entries Places d)) 0 && eqb (length (entries Transitions d)) 0))
    || any_off 0 4294967295 (entries Places d) || any_off 1 65535 (entries Arcs d)

-- an arc among others in order: after those that are not above it
unfoldable pub insert : Arc → List Arc → List Arc
insert a [] = a ∷ []
insert a (b ∷ l) = pick (ltb (key a) (key b)) (a ∷ b ∷ l) (b ∷ insert a l)

-- "arcs are sorted, parallels kept in order of appearance": each arc, in order of appearance, put among those before it
unfoldable pub sort_onto : List Arc → List Arc → List Arc
sort_onto done [] = done
sort_onto done (a ∷ l) = sort_onto (insert a done) l

-- "the net that the text names"
unfoldable pub net_named : Drawing → Net
net_named d =
    record {
      places = length (entries Places d);
      transitions = length (entries Transitions d);
      marking = λ p. get_or (map (λ e. e.number) (entries Places d)) p 0;
      cap = λ p. 0;
      arcs = sort_onto [] (arcs_named d);
    }
