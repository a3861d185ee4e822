-- Arcs by the numbers of their ends: for callers, not for a reader of the contracts.
use Rattle.std.specs.Prelude.{ℕ, ◌+◌, ◌-◌, ◌≤◌, ◌<◌, ◌≡◌, Bool, ◌&&◌, Option, Some, None, Result, IfOk, List, [], ◌∷◌, map, ltb, leb, length, take}
use Rattle.refusals.specs.Numbers.{refusal_number}
use Rattle.refusals.specs.declared.Refusal.{Refusal}
use Rattle.file_words.specs.Refusal.{refuse}
use Rattle.net.specs.declared.Arc.{Arc}
use Rattle.pnml_names.specs.declared.Which.TheVariants.{Arcs}
use Rattle.pnml_net.specs.Read.{entries, end_wrong, arcs_named}
use Rattle.pnml_names.specs.Names.{pick}
use Rattle.pnml_net.specs.Named.{any_off}
use Rattle.pnml_sort.specs.Words.{word_of}

-- the arc that an answer tells, or none
abbrev pub arc_in : Option Arc → List Arc
arc_in (Some a) = a ∷ []
arc_in None = []

-- the arc from the id of number i to that of number j: two ids, then P places, then T transitions
abbrev pub between_at : ℕ → ℕ → ℕ → ℕ → ℕ → List Arc
between_at P T i j n =
    pick (leb 2 i && ltb i (2 + P) && leb (2 + P) j && ltb j (2 + P + T))
    (record { transition = j - (2 + P); direction = 0; place = i - 2; weight = n } ∷ [])
    (pick (leb 2 j && ltb j (2 + P) && leb (2 + P) i && ltb i (2 + P + T))
    (record { transition = i - (2 + P); direction = 1; place = j - 2; weight = n } ∷ [])
    [])

-- an arc that can be one number
pub record Lowest (a : Arc) : Type 0 where
  pub transition : a.transition < 65536
  pub direction : a.direction ≤ 1
  pub place : a.place < 65536

-- what is known of the arcs of a text, and the table that has them, which was `entry` before: refused where an arc is apart, else whether a weight is off
pub record Weighed (s entry later : List ℕ) (r : Result Bool Refusal) : Type 0 where
  pub apart : refusal_number r ≡ refuse (end_wrong s) 19 0
  pub off : IfOk r (λ b. b ≡ any_off 1 65535 (entries Arcs s))
  pub words : IfOk r (λ b. take (length (entries Arcs s)) later ≡ map word_of (arcs_named s))
  pub room : length later ≡ length entry
