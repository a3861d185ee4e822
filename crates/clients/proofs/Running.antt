-- The run cut and the replays after it: from what the calls ensure.
use Prim.Native.Nat.{ℕ, ◌≤◌}
use mathlib.Core.Bool.{true, false}
use mathlib.Core.List.{List}
use mathlib.Core.Path.{◌≡◌, ap, subst, subst⁻¹, ◌∙◌}
use native.Mathlib.Omega.{arith}
use lib.ListN.{length, take, get_or}
use Rattle.net.specs.Slice.{own, own_place}
use Rattle.net.specs.Guarantee.{plan_tokens}
use Rattle.net.specs.Run.{fired_at}
use Rattle.file.specs.Layout.{net_of, slice_of}
use Rattle.promise.specs.Firing.{ReplayAnswer, replay_refusal, replay_answer, replay_marking}
use Rattle.promise.specs.RunCut.{RunAnswer, run_answer, RunsBack}
use Rattle.promise.specs.Uses.{EnoughOn}
use Rattle.promise.proofs.Rooms.{run_short}
use Rattle.promise.proofs.Theorem.{promise}
use Rattle.promise.proofs.Uses.{uses}
use Rattle.clients.specs.Ended.{EndedAbove}

module _ (plan Q list : List ℕ) (room entries : ℕ) where
  abbrev a : RunAnswer
  a = run_answer plan Q list room entries

  module _ (exit positions : List ℕ) (x : RunsBack plan Q list a exit positions) where
    above : (chosen lent : List ℕ) → a.refusal ≡ 0 → chosen ≡ own (slice_of (take a.length exit)).transition_origins (fired_at list (take a.count positions))
        → (net_of (take a.length exit)).places ≤ length lent → EnoughOn (take a.length exit) chosen lent Q (plan_tokens (net_of plan) list)
    above chosen lent z c h =
        subst⁻¹ (λ (l : List ℕ). EnoughOn (take a.length exit) l lent Q (plan_tokens (net_of plan) list)) c
        ((uses promise).fed_on plan Q list (take a.length exit) (take a.count positions) lent (x.feeds z) (run_short plan Q list room entries z) h)

    pub ended-above : (chosen lent last : List ℕ) {r : ReplayAnswer} {end : ℕ} → end ≡ a.length → r ≡ replay_answer (take end exit) chosen (length lent) → last ≡ replay_marking (take end exit) chosen lent
        → a.refusal ≡ 0 → chosen ≡ own (slice_of (take a.length exit)).transition_origins (fired_at list (take a.count positions))
        → (net_of (take a.length exit)).places ≤ length lent → EndedAbove (take a.length exit) Q r last (plan_tokens (net_of plan) list)
    ended-above chosen lent last n e f z c h =
        let y = above chosen lent z c h in
        let f' = f ∙ ap (λ (k : ℕ). replay_marking (take k exit) chosen lent) n in
        record {
          fired = e ∙ ap (λ (k : ℕ). replay_answer (take k exit) chosen (length lent)) n ∙ y.fired;
          tokens = λ q i. omega (arith, y.tokens q i, ap (λ (l : List ℕ). get_or l (own_place (slice_of (take a.length exit)) q) 0) f');
        }

    pub stuck_there : {r : ReplayAnswer} (entries' : ℕ) → r ≡ replay_answer plan list entries' → a.refusal ≡ 14 → replay_refusal plan list entries' ≡ 0
        → r ≡ record { refused = false; refusal = 0; stuck = true; full = false; index = a.index; place = a.place; amount = a.amount }
    stuck_there entries' e w z = e ∙ (uses promise).stuck_alike plan Q list a exit positions entries' x w z

-- at the call, by its own numbers
pub told_back : (plan Q list : List ℕ) (room entries : ℕ) (exit positions : List ℕ) {r : RunAnswer} → r ≡ run_answer plan Q list room entries → RunsBack plan Q list r exit positions
    → RunsBack plan Q list (run_answer plan Q list room entries) exit positions
told_back plan Q list room entries exit positions e x = subst (λ (y : RunAnswer). RunsBack plan Q list y exit positions) e x
