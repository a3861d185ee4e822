-- What a replay asks of its file, list and marking, and how it ends.
use Rattle.std.specs.Prelude.{ℕ, List, ◌≡◌, length, drop}
use Rattle.net.specs.Net.{tokens, replay_from}
use Rattle.file.specs.Layout.{net_from}
use Rattle.file.specs.Facts.{Sound}
use Rattle.file_header.specs.declared.Header.{Header}
use Rattle.promise.specs.Firing.{replay_told, list_refusal}
use Rattle.replay_steps.specs.Steps.{held, Holds, Underway}
use Rattle.replay.specs.Told.{ended_numbers}
use Rattle.replay.specs.declared.Outcome.{Outcome}

-- the initial marking, as a list
abbrev pub begun : List ℕ → Header → List ℕ
begun s h = tokens (net_from s h) (net_from s h).marking

-- the file was read, the list is not refused, and m has an entry for each place
pub record Passed (s : List ℕ) (h : Header) (ts m : List ℕ) : Type 0 where
  pub sound : Sound s h
  pub list : list_refusal h.transitions ts ≡ 0
  pub places : length m ≡ h.places

-- the outcome and the marking m are those of the replay of the list from m₀
abbrev pub Ended : List ℕ → Header → List ℕ → List ℕ → List ℕ → Outcome → Type 0
Ended s h ts m₀ m o =
    (ended_numbers o ≡ replay_told (replay_from (net_from s h) 0 (held m₀) ts).answer) × Holds m₀ m (replay_from (net_from s h) 0 (held m₀) ts).marking

-- a replay from some first marking, that was at m₁ after n firings, is at m after k
pub record Going (s : List ℕ) (h : Header) (ts m₁ : List ℕ) (n : ℕ) (m : List ℕ) (k : ℕ) : Type 0 where
  pub initial : List ℕ
  pub was : Underway s h ts initial m₁ n
  pub is : Underway s h ts initial m k

-- the outcome and the marking m are those of the rest of the list, after n firings, from m₁
pub record EndedFrom (s : List ℕ) (h : Header) (ts m₁ : List ℕ) (n : ℕ) (m : List ℕ) (o : Outcome) : Type 0 where
  pub answer : ended_numbers o ≡ replay_told (replay_from (net_from s h) n (held m₁) (drop n ts)).answer
  pub marking : Holds m₁ m (replay_from (net_from s h) n (held m₁) (drop n ts)).marking
