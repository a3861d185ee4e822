-- What a box knows once it has made its calls.
use Rattle.std.specs.Prelude.{ℕ, suc, ◌+◌, ◌*◌, ◌≤◌, ◌<◌, Bool, true, not, ◌&&◌, List, ◌++◌, ◌≡◌, ◌↔◌, drop, get_or, T}
use Rattle.net.specs.Numbers.{among}
use Rattle.net.specs.Net.{Marking, fired, input, Leads, tokens}
use Rattle.net.specs.Slice.{own_place}
use Rattle.file.specs.Layout.{net_of, slice_of}
use Rattle.promise.specs.Firing.{ReplayAnswer, replay_told}
use Rattle.promise.specs.Together.{standing, TogetherAnswer}

-- a replay's numbers say that all fired
abbrev pub all_fired : ReplayAnswer → Bool
all_fired a = not a.refused && not a.stuck

-- the answer is yes exactly if the list leads to some marking, and then the lent list has it first
pub record Led (file list entry : List ℕ) (yes : Bool) (exit : List ℕ) : Type 0 where
  pub leads : (yes ≡ true) ↔ ((M : Marking) × Leads (net_of file) (net_of file).marking list M)
  pub marking : (M : Marking) → Leads (net_of file) (net_of file).marking list M → exit ≡ tokens (net_of file) M ++ drop (net_of file).places entry

-- a replay on the slice answered fired, and left each place of Q with the tokens of M
pub record EndedWith (slice Q : List ℕ) (a : ReplayAnswer) (exit : List ℕ) (M : Marking) : Type 0 where
  pub fired : a ≡ replay_told fired
  pub tokens : (q : ℕ) → T (among q Q) → get_or exit (own_place (slice_of slice) q) 0 ≡ M q

-- the same with at least those tokens
pub record EndedAbove (slice Q : List ℕ) (a : ReplayAnswer) (exit : List ℕ) (M : Marking) : Type 0 where
  pub fired : a ≡ replay_told fired
  pub tokens : (q : ℕ) → T (among q Q) → M q ≤ get_or exit (own_place (slice_of slice) q) 0

-- the numbers of takings say that there is a largest one
abbrev pub is_limited : TogetherAnswer → Bool
is_limited a = not a.refused && not a.unlimited

-- k takings from the marking leave `rest`, and one more does not fit
pub record Emptied (plan : List ℕ) (t : ℕ) (marking : List ℕ) (k : ℕ) (rest : List ℕ) : Type 0 where
  pub left : (p : ℕ) → p < (net_of plan).places → standing rest p + k * input (net_of plan) p t ≡ standing marking p
  pub no_more : (p : ℕ) × (p < (net_of plan).places) × (standing marking p < suc k * input (net_of plan) p t)
