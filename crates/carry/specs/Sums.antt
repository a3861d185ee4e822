-- Sums that are made entry by entry, and what is refused by them.
use Rattle.std.specs.Prelude.{ℕ, ◌≤◌, ◌<◌, Bool, true, false, List, ◌≡◌, length, get_or, ltb}
use Rattle.net.specs.Numbers.{any}
use Rattle.net.specs.Net.{Net}
use Rattle.file_words.specs.Refusal.{refuse}
use Rattle.promise.specs.Starts.{overfull}
use Rattle.promise.specs.Transfer.{carried_to, names_no_place, strands}

-- table and running marking are not refused by 22 or 23, and no sum is begun; there is a sum for each new place
pub record Passed (table running sums : List ℕ) : Type 0 where
  pub long : length table ≡ length running
  pub few : length table ≤ 1024
  pub small : length sums ≤ 1024
  pub placed : any (names_no_place (length sums)) table ≡ false
  pub targets : strands table running ≡ false
  pub zeros : (q : ℕ) → get_or sums q 0 ≡ 0

-- each sum is what is carried there; or one is above what a plan can hold
pub record AddsUp (table running sums₀ sums : List ℕ) (whole : Bool) : Type 0 where
  pub long : length sums ≡ length sums₀
  pub all : whole ≡ true → (q : ℕ) → q < length sums → get_or sums q 0 ≡ carried_to q table running
  pub above : whole ≡ false → (q : ℕ) × (q < length sums) × (4294967295 < carried_to q table running)

-- "24: a sum above 4,294,967,295 or the new cap", then 13
abbrev pub sums_refusal : Net → List ℕ → List ℕ → ℕ → ℕ
sums_refusal N running table room = refuse (overfull N (λ q. carried_to q table running)) 24 (refuse (ltb room N.places) 13 0)
