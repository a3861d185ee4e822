-- "every plan arc between" kept places and transitions (document 01, "The two cuts"), as a program finds them that goes through the plan's arcs.
-- `places` and `transitions` are the tables of the new numbers: one more than it at a kept number, 0 elsewhere.
use Rattle.std.specs.Prelude.{ℕ, zero, suc, ◌+◌, ◌*◌, ◌≤◌, ◌<◌, List, [], ◌∷◌, ◌++◌, ◌≡◌, length, get_or}
use Rattle.std.proofs.lemmas.List.Edits.{sets}
use Rattle.net.specs.declared.Arc.{Arc}
use Rattle.file_arcs.specs.Layout.{arc_at}

-- an arc by the entries of its transition and its place: in 16 bits one less than each, the new number
abbrev pub renumbered : ℕ → ℕ → Arc → Arc
renumbered t p a = record { transition = t + 65535; direction = a.direction; place = p + 65535; weight = a.weight }

-- nothing where one of the two is not kept, and its entry is 0
unfoldable pub kept_arc : ℕ → ℕ → Arc → List Arc
kept_arc zero p a = []
kept_arc (suc t) zero a = []
kept_arc (suc t) (suc p) a = record { transition = t; direction = a.direction; place = p; weight = a.weight } ∷ []

-- the kept ones of a list of arcs
unfoldable pub kept_arcs : List ℕ → List ℕ → List Arc → List Arc
kept_arcs places transitions [] = []
kept_arcs places transitions (a ∷ rest) = kept_arc (get_or transitions a.transition 0) (get_or places a.place 0) a ++ kept_arcs places transitions rest

-- `count` arcs stand in the file from `start` on, and each has an entry for its place and one for its transition
pub record Arcs (s : List ℕ) (start count : ℕ) (places transitions : List ℕ) : Type 0 where
  pub few : count ≤ 4096
  pub fit : start + 8 * count ≤ length s
  pub places_known : (j : ℕ) → j < count → (arc_at s (start + 8 * j)).place < length places
  pub transitions_known : (j : ℕ) → j < count → (arc_at s (start + 8 * j)).transition < length transitions

-- the list `all` stands in the buffer from `first` to `end`, once what follows it, eight bytes or more, is written too
pub record ArcsWritten (entry : List ℕ) (first : ℕ) (all exit : List ℕ) (end : ℕ) : Type 0 where
  pub long : length exit ≡ length entry
  pub count : end ≡ first + length all
  pub same : (rest : List ℕ) → 8 ≤ length rest → sets exit end rest ≡ sets entry first (all ++ rest)
