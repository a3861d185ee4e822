-- The refusal of a start, by the way out.
use Prim.Native.Nat.{ℕ}
use mathlib.Core.Bool.{Bool}
use mathlib.Core.List.{List}
use mathlib.Core.Path.{◌≡◌}
use lib.ListN.{length}
use borrow.Author.Tests.{eq-eqb, ne_eqb}
use Rattle.net.specs.Net.{Net}
use Rattle.file_words.specs.Refusal.{refuse}
use Rattle.promise.specs.Together.{standing}
use Rattle.promise.specs.Starts.{overfull, start_refusal}

module _ (N : Net) (start : List ℕ) where
  pub wrong_length : (length start ≡ N.places → ⊥) → 22 ≡ start_refusal N start
  unfolding start_refusal
  wrong_length d = rw (ne_eqb (length start) N.places d)

  pub filled : {b : Bool} → length start ≡ N.places → b ≡ overfull N (standing start) → refuse b 24 0 ≡ start_refusal N start
  unfolding start_refusal
  filled l e = rw (eq-eqb (length start) N.places l, ← e)
