-- The cut for one recorded run (document 02, A1): algorithm 2 of source document 002, as it is printed there. σ is the list t₁ .. tₙ, Mᵢ the marking after its first i firings:
--     slice(M₀, σ, W) = W
--     slice(Mᵢ, σ, W) = slice(Mᵢ₋₁, σ, W)                        if every p in W has Mᵢ₋₁(p) at least Mᵢ(p)
--     slice(Mᵢ, σ, W) = {tᵢ} ∪ slice(Mᵢ₋₁, σ, W ∪ •tᵢ)           if some p in W has Mᵢ₋₁(p) below Mᵢ(p)
-- Here firings are counted from 0, so firing i is tᵢ₊₁ and leads from Mᵢ to Mᵢ₊₁.
use Rattle.std.specs.Prelude.{ℕ, zero, suc, Bool, true, false, ◌||◌, List, [], ◌∷◌, map, length, take, get_or, ltb}
use Rattle.net.specs.Numbers.{among, any, selected}
use Rattle.net.specs.Net.{Marking, Net, takes_from, after}
use Rattle.net.specs.Slice.{Slice, keeping}

-- Mᵢ, the marking after the first i firings
unfoldable pub marking_after : Net → List ℕ → ℕ → Marking
marking_after N ts i = after N N.marking (take i ts)

-- firing i raised the marking of p
unfoldable pub raised_on : Net → List ℕ → ℕ → ℕ → Bool
raised_on N ts i p = ltb (marking_after N ts i p) (marking_after N ts (suc i) p)

-- "the firing raised the marking of some place of W"
unfoldable pub raised : Net → List ℕ → ℕ → List ℕ → Bool
raised N ts i W = any (raised_on N ts i) W

-- W ∪ •t: "add the transition's input places to W"
unfoldable pub with_inputs : Net → ℕ → List ℕ → List ℕ
with_inputs N t W = selected (λ p. among p W || takes_from N t p) 0 N.places

-- what fed the places of Q: the final W, and the chosen positions, "from 0 and rising"
pub record Fed : Type 0 where
  pub places : List ℕ
  pub positions : List ℕ

-- slice(Mᵢ, σ, W): the first i firings are left to go back over; those of the others that were chosen are given
unfoldable pub go_back : Net → List ℕ → ℕ → List ℕ → List ℕ → Fed
go_back N ts zero W chosen = record { places = W; positions = chosen }
go_back N ts (suc i) W chosen = elim (raised N ts i W) [
  | true ↦ go_back N ts i (with_inputs N (get_or ts i 0) W) (i ∷ chosen)
  | false ↦ go_back N ts i W chosen
]

-- "go back from the last firing with W = Q"
unfoldable pub fed : Net → List ℕ → List ℕ → Fed
fed N Q ts = go_back N ts (length ts) Q []

-- the transitions that the list fires at these positions
unfoldable pub fired_at : List ℕ → List ℕ → List ℕ
fired_at ts positions = map (λ i. get_or ts i 0) positions

-- "The slice file has the final W and the chosen transitions"
unfoldable pub run_cut : Net → List ℕ → List ℕ → Slice
run_cut N Q ts =
    let r = fed N Q ts in
    keeping N r.places (selected (λ t. among t (fired_at ts r.positions)) 0 N.transitions)
