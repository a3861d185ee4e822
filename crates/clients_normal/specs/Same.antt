-- What the clients of the normal form answer.
use Rattle.std.specs.Prelude.{ℕ, Bool, true, List, ◌≡◌, ◌↔◌, take, Result, Ok, Err}
use Rattle.refusals.specs.Numbers.{number}
use Rattle.refusals.specs.declared.Refusal.{Refusal}
use Rattle.net.specs.Normal.{SameNet}
use Rattle.file.specs.Layout.{net_of}
use Rattle.file_words.specs.Refusal.{or_else}
use Rattle.promise.specs.Normal.{normal_answer}
use Rattle.clients_normal.specs.declared.Same.{Same}
use Rattle.clients_normal.specs.declared.Same.TheVariants.{One, Two}

-- whether two lists have the same first n entries
abbrev pub StartsAlike : ℕ → List ℕ → List ℕ → Bool → Type 0
StartsAlike n a b r = (r ≡ true) ↔ (take n a ≡ take n b)

-- One: the same net; Two: not the same net; else the first refusal
abbrev pub Tells : List ℕ → List ℕ → ℕ → ℕ → Result Same Refusal → Type 0
Tells a b room room' (Ok One) = SameNet (net_of a) (net_of b)
Tells a b room room' (Ok Two) = SameNet (net_of a) (net_of b) → ⊥
Tells a b room room' (Err e) = or_else (normal_answer a room).refusal (normal_answer b room').refusal ≡ number e
