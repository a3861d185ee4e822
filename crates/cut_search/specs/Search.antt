-- The steps of a cut: for the contracts of its parts, not for a reader of `kept`.
use Rattle.std.specs.Prelude.{ℕ, ◌≤◌, ◌<◌, Bool, false, not, ◌&&◌, ◌||◌, List, Option, Some, None, ◌⊎◌, ◌≡◌, T, eqb, length, get_or}
use Rattle.net.specs.Net.{Net, takes_from, adds_to, capped}
use Rattle.net.specs.declared.Arc.{Arc}
use Rattle.net.specs.Cut.{Growth}
use Rattle.net.proofs.Worklist.{Searching}
use Rattle.file.specs.Layout.{net_from}
use Rattle.file_header.specs.declared.Header.{Header}
use Rattle.sets.specs.Member.{member, count_below, Inserted}
use Rattle.sets.specs.Lowest.{IsLowest}
use Rattle.sets_pending.specs.Growing.{waits, Marked, PlacesKept}
use Rattle.arcs_column.specs.Ways.{transition_at, direction_at, place_at}
use Rattle.arcs_groups.specs.Groups.{Opens}
use Rattle.cut_rows.specs.Rows.{moves, Last}

-- the two sets have sixteen words each
pub record Sets (places transitions : List ℕ) : Type 0 where
  pub places_long : length places ≡ 16
  pub transitions_long : length transitions ≡ 16

-- t needs p: "keep the input places of kept transitions", and "capped places with out above 0 from a kept transition"
abbrev pub needs_of : Net → ℕ → ℕ → Bool
needs_of N t p = takes_from N t p || capped N p && adds_to N t p

-- the same by one arc: it takes from its place, or its place has a cap
abbrev pub needs_place : Net → Arc → Bool
needs_place N a = eqb a.direction 0 || capped N a.place

-- p draws in what lowers it too, and not only what raises it: all do, p is one of `both`, or p has a cap
abbrev pub draws_both : Net → Bool → List ℕ → ℕ → Bool
draws_both N all both p = (all || member both p) || capped N p

-- the file is that of the growth G
pub record Grows (G : Growth) (s : List ℕ) (h : Header) (all : Bool) (both : List ℕ) : Type 0 where
  pub places : G.places ≡ h.places
  pub transitions : G.transitions ≡ h.transitions
  pub needs : (t p : ℕ) → G.needs t p ≡ needs_of (net_from s h) t p
  pub draws : (p t : ℕ) → G.draws p t ≡ draws_both (net_from s h) all both p && moves (net_from s h) 0 p t || moves (net_from s h) 1 p t

-- t is kept, and if it is new the places that it needs are
pub record TransitionKept (needs : ℕ → Bool) (t marks marks' : ℕ) (places transitions places' transitions' : List ℕ) : Type 0 where
  pub members : (k : ℕ) → member transitions' k ≡ member transitions k || eqb k t
  pub long : length transitions' ≡ 16
  pub needed : PlacesKept (λ k. not (member transitions t) && needs k) marks marks' places places'

-- next leads from a group of a row to the one before it
pub record Nexts (s : List ℕ) (h : Header) (next : List ℕ) : Type 0 where
  pub long : h.arcs ≤ length next
  pub nexts : (j : ℕ) → j < h.arcs → Opens s h.arcstart j → T (moves (net_from s h) (direction_at s h.arcstart j) (place_at s h.arcstart j) (transition_at s h.arcstart j))
      → Last s h j (direction_at s h.arcstart j) (place_at s h.arcstart j) (get_or next j 0)

-- e starts the row of a place in a direction
pub record Row (s : List ℕ) (h : Header) (e : ℕ) : Type 0 where
  pub direction : ℕ
  pub place : ℕ
  pub way : direction ≤ 1
  pub last : Last s h h.arcs direction place e

-- what is kept stays kept, places are of the net, and the words of pending places are marked, whatever places were gone through
pub record Grown (h : Header) (marks marks' : ℕ) (places transitions places' transitions' : List ℕ) : Type 0 where
  pub sets : Sets places' transitions'
  pub more_places : (k : ℕ) → T (member places k) → T (member places' k)
  pub more_transitions : (k : ℕ) → T (member transitions k) → T (member transitions' k)
  pub inside : ((k : ℕ) → T (member places k) → k < h.places) → (k : ℕ) → T (member places' k) → k < h.places
  pub marked : (gone : ℕ → Bool) → Marked places gone marks → Marked places' gone marks'

-- the search for the cut G stands at these sets: the places of `gone` are gone through, f up to the transition i
abbrev pub At : Growth → List ℕ → (ℕ → Bool) → List ℕ → ℕ → ℕ → Type 0
At G places gone transitions f i = Searching G (member places) (waits places gone) (member transitions) f i

-- the transitions that move p in the direction d are kept, and where p draws them in the search goes on
pub record Followed (s : List ℕ) (h : Header) (d p marks marks' : ℕ) (places transitions places' transitions' : List ℕ) : Type 0 where
  pub grown : Grown h marks marks' places transitions places' transitions'
  pub met : (t : ℕ) → T (moves (net_from s h) d p t) → T (member transitions' t)
  pub search : (G : Growth) (all : Bool) (both : List ℕ) → Grows G s h all both → ((t : ℕ) → T (moves (net_from s h) d p t) → T (G.draws p t))
      → (gone : ℕ → Bool) → ((k : ℕ) → T (gone k) → T (member places k)) → T (member places p) → At G places gone transitions p 0 → At G places' gone transitions' p 0

-- p is gone through
pub record Turned (s : List ℕ) (h : Header) (all : Bool) (both : List ℕ) (p marks marks' : ℕ) (places transitions places' transitions' : List ℕ) : Type 0 where
  pub grown : Grown h marks marks' places transitions places' transitions'
  pub search : (G : Growth) → Grows G s h all both → (gone : ℕ → Bool) → ((k : ℕ) → T (gone k) → T (member places k)) → T (member places p)
      → At G places gone transitions p 0 → At G places' gone transitions' p G.transitions

-- how many numbers are not gone through
unfoldable pub to_go : List ℕ → ℕ
to_go gone = count_below (λ k. not (member gone k)) 1024

-- between two places: those of `gone` are gone through, and the words of pending places are marked
pub record Ready (h : Header) (marks : ℕ) (places transitions gone : List ℕ) : Type 0 where
  pub sets : Sets places transitions
  pub long : length gone ≡ 16
  pub inside : (k : ℕ) → T (member places k) → k < h.places
  pub part : (k : ℕ) → T (member gone k) → T (member places k)
  pub marked : Marked places (member gone) marks

-- one place more is gone through, or none
abbrev pub GoneThrough : Option ℕ → List ℕ → List ℕ → Type 0
GoneThrough (Some p) gone gone' = Inserted p gone gone'
GoneThrough None gone gone' = gone' ≡ gone

-- the lowest pending place is gone through, and the search goes on; where there is none, nothing is marked
pub record Stepped (s : List ℕ) (h : Header) (all : Bool) (both : List ℕ) (marks' : ℕ) (places transitions gone places' transitions' gone' : List ℕ) : Type 0 where
  pub ready : Ready h marks' places' transitions' gone'
  -- "While places are pending, the pending place with the lowest number is taken next"
  pub lowest : (r : Option ℕ) × IsLowest 1024 (waits places (member gone)) r × GoneThrough r gone gone'
  pub search : (G : Growth) → Grows G s h all both → At G places (member gone) transitions 0 G.transitions → At G places' (member gone') transitions' 0 G.transitions
  pub less : (to_go gone' < to_go gone) ⊎ ((marks' ≡ 0) × (gone' ≡ gone))

-- from places of which some are gone through to sets of which nothing is pending
pub record Finished (s : List ℕ) (h : Header) (all : Bool) (both places transitions gone places' transitions' : List ℕ) : Type 0 where
  pub sets : Sets places' transitions'
  pub search : (G : Growth) → Grows G s h all both → At G places (member gone) transitions 0 G.transitions → Searching G (member places') (λ k. false) (member transitions') 0 G.transitions

-- nothing is pending
pub record Closed (s : List ℕ) (h : Header) (all : Bool) (both places transitions places' transitions' : List ℕ) : Type 0 where
  pub sets : Sets places' transitions'
  pub search : (G : Growth) → Grows G s h all both → Searching G (member places) (member places) (member transitions) 0 G.transitions
      → Searching G (member places') (λ k. false) (member transitions') 0 G.transitions
