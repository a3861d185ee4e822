-- The transitions that move a place past its limit, by one column of numbers.
use Rattle.std.specs.Prelude.{ℕ, ◌+◌, ◌-◌, ◌≤◌, ◌<◌, Bool, true, false, ◌≡◌, List, eqb, length, get_or}
use Rattle.net.specs.Numbers.{any, selected}
use Rattle.net.specs.Net.{Net, input, output}
use Rattle.arcs_column.specs.Gain.{pulls}

-- the limit n where the place counts, and m where it does not
abbrev pub limit_on : Bool → ℕ → ℕ → ℕ
limit_on true n m = n
limit_on false n m = m

-- by its own number, 0 where it is not kept, and its cap: every change of a kept capped place counts
abbrev pub change_limit : ℕ → ℕ → ℕ
change_limit own cap = limit_on (eqb own 0) 4294967295 (limit_on (eqb cap 0) 4294967295 0)

-- t changes a place whose column, 2 ^ 30 and its effect, then stands above the place's limit
unfoldable pub moved : Net → List ℕ → ℕ → Bool
moved N limit t = any (λ p. pulls (get_or limit p 0) (1073741824 + output N p t - input N p t)) (selected (λ p. true) 0 N.places)

-- the column has an entry for each of P places, and all of it is at rest
pub record Resting (P : ℕ) (column : List ℕ) : Type 0 where
  pub reached : P ≤ length column
  pub rest : (p : ℕ) → p < length column → get_or column p 0 ≡ 1073741824
