-- One pass over the plan's arcs, against the slice's.
use Rattle.std.specs.Prelude.{ℕ, ◌+◌, ◌-◌, ◌*◌, ◌/◌, ◌%◌, ◌≤◌, ◌<◌, Bool, true, false, ◌&&◌, ◌||◌, List, ◌≡◌, eqb, ltb, length, get_or}
use Rattle.net.specs.Numbers.{among, selected}
use Rattle.net.specs.Net.{Net, changes, raises, capped}
use Rattle.net.specs.Slice.{Slice, restrict}
use Rattle.net.specs.declared.Arc.{Arc}
use Rattle.file_arcs.specs.Layout.{arc_at, arcs_from}
use Rattle.file.specs.Layout.{net_from, slice_from}
use Rattle.file_arcs.specs.Facts.{ArcWord, arc_of}
use Rattle.file.specs.Facts.{Sound}
use Rattle.file_header.specs.declared.Header.{Header}
use Rattle.check_fast.specs.Entries.{left_place, left_capped, left_transition, numbered, marked, either, Reached}

-- the places that no transition left out may change: those of the criterion, and the capped ones that are kept
unfoldable pub watched : List ℕ → Header → List ℕ → Header → List ℕ → List ℕ
watched plan hp slice hs Q = selected (λ p. among p Q || among p (slice_from slice hs).place_origins && capped (net_from plan hp) p) 0 hp.places

-- a plan, a slice and the tables for them
pub record Ready (plan : List ℕ) (hp : Header) (slice : List ℕ) (hs : Header) (Q places transitions : List ℕ) : Type 0 where
  pub planned : Sound plan hp
  pub sliced : Sound slice hs
  pub kind : hs.kind ≡ 1
  pub places_reached : hp.places ≤ length places
  pub transitions_reached : hp.transitions ≤ length transitions
  pub place_entry : (x : ℕ) → x < hp.places → get_or places x 0 ≡ marked (watched plan hp slice hs Q) (numbered 4294967296 (slice_from slice hs).place_origins (either (capped (net_from plan hp) x) left_capped left_place) x) x
  pub transition_entry : (x : ℕ) → x < hp.transitions → get_or transitions x 0 ≡ numbered 1 (slice_from slice hs).transition_origins left_transition x
  pub watches : (q : ℕ) → among q (watched plan hp slice hs Q) ≡ true → among q (slice_from slice hs).place_origins ≡ true

-- an arc's number with the entries of its place and its transition
abbrev pub joined_of : ℕ → List ℕ → List ℕ → ℕ
joined_of w places transitions = w + get_or places (arc_of w).place 0 + get_or transitions (arc_of w).transition 0

-- both ends of the arc are kept
abbrev pub kept_of : ℕ → Bool
kept_of z = ltb (z % 4294967296) 262144

-- the slice's arc as one word, of an arc whose ends are kept: without the 1024 in both own numbers and the criterion's mark
abbrev pub due_of : ℕ → ℕ
due_of z = z - 4398046512128 - z / 131072 % 2 * 131072

-- what comes after the slice's arc k, for an arc of the plan: k where that is left out, k + 1 where the slice has the arc due, past all arcs where not
pub record Meets (z : ℕ) (slice : List ℕ) (hs : Header) (k r : ℕ) : Type 0 where
  pub out : kept_of z ≡ false → r ≡ k
  pub same : kept_of z ≡ true → r ≤ hs.arcs → (r ≡ k + 1) × (k < hs.arcs) × ArcWord slice (hs.arcstart + 8 * k) (due_of z)
  pub other : kept_of z ≡ true → hs.arcs < r → k < hs.arcs → (v : ℕ) × ArcWord slice (hs.arcstart + 8 * k) v × (v ≡ due_of z → ⊥)

-- the arc wants a closer look
abbrev pub odd_of : ℕ → Bool
odd_of z = eqb (z / 524288 % 2) 1

-- every bit is 0 but those of 1024 in both own numbers and the criterion's mark
abbrev pub quiet_of : ℕ → Bool
quiet_of d = eqb (d % 1024) 0 && eqb (d / 2048 % 64) 0 && eqb (d / 262144 % 16777216) 0 && eqb (d / 8796093022208) 0

-- the arc breaks none of the rules 6 to 10 that come before rule d; Q has the places of rule 10 too
pub record Fine (N : Net) (ps ts Q : List ℕ) (d : ℕ) (a : Arc) : Type 0 where
  pub fed : 7 < d → among a.transition ts ≡ true → a.direction ≡ 0 → among a.place ps ≡ true
  pub unchanged : 6 < d → among a.transition ts ≡ false → among a.place Q ≡ true → changes N a.transition a.place ≡ false
  pub unraised : 8 < d → among a.transition ts ≡ false → among a.place ps ≡ true → a.direction ≡ 1 → raises N a.transition a.place ≡ false
  pub held : 9 < d → among a.transition ts ≡ true → a.direction ≡ 1 → capped N a.place ≡ true → among a.place ps ≡ true

-- the same of the two files
abbrev pub FineIn : List ℕ → Header → List ℕ → Header → List ℕ → ℕ → Arc → Type 0
FineIn plan hp slice hs Q d a = Fine (net_from plan hp) (slice_from slice hs).place_origins (slice_from slice hs).transition_origins (watched plan hp slice hs Q) d a

-- such an arc, not between what is kept
pub record Settled (plan : List ℕ) (hp : Header) (slice : List ℕ) (hs : Header) (Q : List ℕ) (d : ℕ) (a : Arc) : Type 0 where
  pub fine : FineIn plan hp slice hs Q d a
  pub out : (among a.place (slice_from slice hs).place_origins && among a.transition (slice_from slice hs).transition_origins) ≡ false

-- the slice's arcs are "every plan arc between" what is kept
abbrev pub Same : List ℕ → Header → List ℕ → Header → Type 0
Same plan hp slice hs = (net_from slice hs).arcs ≡ restrict (slice_from slice hs).place_origins (slice_from slice hs).transition_origins (net_from plan hp).arcs

-- j of the plan's arcs and k of the slice's are gone through, and d is the first rule in doubt; where nothing differs, the rest decides
pub record Walked (plan : List ℕ) (hp : Header) (slice : List ℕ) (hs : Header) (Q : List ℕ) (j k differs d : ℕ) : Type 0 where
  pub within : j ≤ hp.arcs
  pub behind : k ≤ j
  pub fine : (i : ℕ) → i < j → FineIn plan hp slice hs Q d (arc_at plan (hp.arcstart + 8 * i))
  pub same : k ≤ hs.arcs → quiet_of differs ≡ true
      → arcs_from slice (hs.arcstart + 8 * k) (hs.arcs - k) ≡ restrict (slice_from slice hs).place_origins (slice_from slice hs).transition_origins (arcs_from plan (hp.arcstart + 8 * j) (hp.arcs - j))
      → Same plan hp slice hs

-- all arcs are gone through, and d is the first rule in doubt
pub record Passed (plan : List ℕ) (hp : Header) (slice : List ℕ) (hs : Header) (Q : List ℕ) (d : ℕ) : Type 0 where
  pub same : Same plan hp slice hs
  pub fine : (i : ℕ) → i < hp.arcs → FineIn plan hp slice hs Q d (arc_at plan (hp.arcstart + 8 * i))

-- tables that tell each place and transition of the plan as left out
pub record Blank (hp : Header) (S : Slice) (places transitions : List ℕ) : Type 0 where
  pub places_reached : hp.places ≤ length places
  pub transitions_reached : hp.transitions ≤ length transitions
  pub origins : Reached S.place_origins (length places)
  pub origins_of_transitions : Reached S.transition_origins (length transitions)
  pub place_entry : (x : ℕ) → x < length places → get_or places x 0 ≡ left_place
  pub transition_entry : (x : ℕ) → x < length transitions → get_or transitions x 0 ≡ left_transition
