-- What a program has that carries a running marking to a new plan and goes on from there.
use Rattle.std.specs.Prelude.{ℕ, ◌<◌, false, List, ◌++◌, ◌≡◌, ◌↔◌, ◌≢◌, get_or, drop}
use Rattle.net.specs.Net.{after, tokens}
use Rattle.net.specs.Guarantee.{PlanFires}
use Rattle.file.specs.Layout.{net_of}
use Rattle.promise.specs.Firing.{ReplayAnswer}
use Rattle.promise.specs.Together.{standing}
use Rattle.promise.specs.Starts.{net_at}
use Rattle.promise.specs.Transfer.{carried_to, total}

-- `start` is what the transfer left, `a` the answer of the replay, `marking` and `exit` its list before and after
pub record Continues (new running table start list marking exit : List ℕ) (a : ReplayAnswer) : Type 0 where
  -- nothing is lost on the way
  pub all : total start ≡ total running
  pub sums : (q : ℕ) → q < (net_of new).places → get_or start q 0 ≡ carried_to q table running
  -- the start is not why the replay is refused
  pub not_22 : a.refusal ≢ 22
  pub not_24 : a.refusal ≢ 24
  -- the list fires from there exactly if the answer says so, and then the marking is the one after it
  pub fires : a.refused ≡ false → (a.stuck ≡ false) ↔ PlanFires (net_at new start) list
  pub ends : a.refused ≡ false → a.stuck ≡ false → exit ≡ tokens (net_of new) (after (net_at new start) (standing start) list) ++ drop (net_of new).places marking
