-- The shadow's promise, as a C program reads the answer: 0, 100 and 101 are no refusals.
use Prim.Native.Nat.{ℕ, zero, suc, ◌≤◌}
use mathlib.Core.Bool.{false}
use mathlib.Core.List.{List}
use mathlib.Core.Path.{◌≡◌, refl, sym, ap, subst⁻¹, ◌∙◌}
use native.Mathlib.Omega.{arith}
use lib.ListN.{length, take}
use Rattle.net.specs.Net.{Answer, fired, short, full, replay}
use Rattle.file.specs.Layout.{net_of, slice_of}
use Rattle.promise.specs.Firing.{replay_told}
use Rattle.promise.specs.Shadow.{ShadowAnswer, shadow_of, shadow_or, shadow_refusal, shadow_answer, FollowedIn}
use Rattle.promise.proofs.Ranges.{shadow_le}
use Rattle.nesfoal.specs.Replays.{replay_code}

told : (a : Answer) → (replay_told a).refused ≡ false
told fired = refl
told (short i p n) = refl
told (full i p n) = refl

at_0 : (n : ℕ) (a : Answer) (c : ℕ) → replay_code (shadow_or n a c).run ≡ 0 → (shadow_or n a c).run.refused ≡ false
at_0 zero a c e = told a
at_0 (suc n) a c e = absurd (omega (arith, e))

stuck_at : (n : ℕ) (a : Answer) (c k : ℕ) → n ≤ 16 → 100 ≤ k → replay_code (shadow_or n a c).run ≡ k → (shadow_or n a c).run.refused ≡ false
stuck_at zero a c k few high e = told a
stuck_at (suc n) a c k few high e = absurd (omega (arith, e, few))

module _ (plan slice list : List ℕ) (room space : ℕ) where
  abbrev answer : ShadowAnswer
  answer = shadow_answer plan slice list room space

  none_at_0 : replay_code answer.run ≡ 0 → answer.run.refused ≡ false
  unfolding shadow_answer
  none_at_0 = at_0 (shadow_refusal plan slice list room space) (replay (net_of plan) list).answer (length (shadow_of (net_of plan) (slice_of slice) list))

  none_stuck : (k : ℕ) → 100 ≤ k → replay_code answer.run ≡ k → answer.run.refused ≡ false
  unfolding shadow_answer
  none_stuck k = stuck_at (shadow_refusal plan slice list room space) (replay (net_of plan) list).answer (length (shadow_of (net_of plan) (slice_of slice) list)) k (shadow_le plan slice list room space)

  module _ (out : List ℕ) {m : List ℕ} {a : ShadowAnswer} {code count : ℕ} (e : a ≡ answer) (f : a.run.refused ≡ false → FollowedIn plan slice (take a.count out) m)
      (told : code ≡ replay_code answer.run) (counted : count ≡ answer.count) where
    by : answer.run.refused ≡ false → FollowedIn plan slice (take count out) m
    by z = subst⁻¹ (λ (n : ℕ). FollowedIn plan slice (take n out) m) (counted ∙ sym (ap (λ (x : ShadowAnswer). x.count) e)) (f (ap (λ (x : ShadowAnswer). x.run.refused) e ∙ z))

    pub followed_fired : code ≡ 0 → FollowedIn plan slice (take count out) m
    followed_fired z = by (none_at_0 (sym told ∙ z))

    pub followed_stuck : (k : ℕ) → 100 ≤ k → code ≡ k → FollowedIn plan slice (take count out) m
    followed_stuck k high z = by (none_stuck k high (sym told ∙ z))
