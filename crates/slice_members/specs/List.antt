-- The members of a set as a rising list, and the table of their places in it.
use Rattle.std.specs.Prelude.{ℕ, ◌-◌, ◌≤◌, ◌<◌, List, ◌≡◌, length, get_or}
use Rattle.net.specs.Numbers.{selected, Rising}
use Rattle.sets.specs.Member.{bit}

-- the bits of a word that are 1, rising, each with `base` added
unfoldable pub bits_from : ℕ → ℕ → List ℕ
bits_from base w = selected (λ k. bit w (k - base)) base 64

-- a rising list whose numbers the table reaches, the table being clear
pub record Listed (list table : List ℕ) : Type 0 where
  pub short : length list ≤ 1024
  pub rises : Rising list
  pub within : (i : ℕ) → i < length list → get_or list i 0 < length table
  pub clear : (x : ℕ) → get_or table x 0 ≡ 0
