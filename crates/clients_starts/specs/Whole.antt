-- A list in two parts, and the whole of it.
use Rattle.std.specs.Prelude.{ℕ, ◌+◌, ◌≤◌, ◌<◌, Bool, true, false, not, ◌||◌, List, ◌++◌, ◌≡◌, length, get_or}
use Rattle.net.specs.Net.{Net}
use Rattle.promise.specs.Firing.{ReplayAnswer, replay_answer, replay_marking}

-- neither refused nor stuck
abbrev pub all_fired : ReplayAnswer → Bool
all_fired a = not (a.refused || a.stuck)

-- m has an entry for each place, and none that 24 refuses
pub record Fits (N : Net) (m : List ℕ) : Type 0 where
  pub long : length m ≡ N.places
  pub low : (p : ℕ) → p < N.places → get_or m p 0 ≤ 4294967295

-- the same answer, k firings being done before
abbrev pub later : ℕ → ReplayAnswer → ReplayAnswer
later k a = record {
  refused = a.refused;
  refusal = a.refusal;
  stuck = a.stuck;
  full = a.full;
  index = elim a.stuck [ true ↦ k + a.index | false ↦ a.index ];
  place = a.place;
  amount = a.amount;
}

-- `a` is the answer of the second part, `exit` the marking after it
pub record AsWhole (file first second marking exit : List ℕ) (a : ReplayAnswer) : Type 0 where
  pub answer : replay_answer file (first ++ second) (length marking) ≡ later (length first) a
  pub ends : exit ≡ replay_marking file (first ++ second) marking
