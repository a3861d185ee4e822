-- Replays on the plan and on the slice: from what the calls ensure.
use Prim.Native.Nat.{ℕ, zero, suc, ◌≤◌}
use mathlib.Core.Bool.{Bool, true, false}
use mathlib.Core.List.{List}
use mathlib.Core.Path.{◌≡◌, refl, sym, ap, subst⁻¹, ◌∙◌}
use native.Mathlib.Omega.{arith}
use lib.ListN.{length, take, get_or, length-take}
use Rattle.net.specs.Net.{Answer, fired, short, full, replay}
use Rattle.net.specs.Slice.{project, own_place}
use Rattle.net.specs.Guarantee.{Guarantee}
use Rattle.file.specs.Layout.{net_of, slice_of}
use Rattle.promise.specs.Calls.{Checked, checked, Accepts}
use Rattle.promise.specs.Firing.{ReplayAnswer, replay_told, replay_or, replay_refusal, replay_answer, replay_marking}
use Rattle.promise.specs.Shadow.{ShadowAnswer, shadow_answer, FollowedIn}
use Rattle.promise.specs.Together.{standing}
use Rattle.promise.specs.Uses.{EqualOn}
use Rattle.promise.proofs.Replays.{differ}
use Rattle.promise.proofs.Rooms.{shadow_short}
use Rattle.promise.proofs.Theorem.{promise}
use Rattle.promise.proofs.Uses.{uses}
use Rattle.clients.specs.Ended.{all_fired, Led, EndedWith}

-- the answer yes is the answer fired
told-fired : (a : Answer) → all_fired (replay_told a) ≡ true → replay_told a ≡ replay_told fired
told-fired fired e = refl
told-fired (short i p n) e = differ e
told-fired (full i p n) e = differ e

yes_or : (n : ℕ) (a : Answer) → all_fired (replay_or n a) ≡ true → replay_or n a ≡ replay_told fired
yes_or zero a e = told-fired a e
yes_or (suc n) a e = differ e

pub yes_fired : (file list : List ℕ) (room : ℕ) → all_fired (replay_answer file list room) ≡ true → replay_answer file list room ≡ replay_told fired
unfolding replay_answer
yes_fired file list room = yes_or (replay_refusal file list room) (replay (net_of file) list).answer

pub led : (file list entry exit : List ℕ) {a : ReplayAnswer} {yes : Bool} → replay_refusal file list (length entry) ≡ 0 → a ≡ replay_answer file list (length entry) → exit ≡ replay_marking file list entry
    → yes ≡ all_fired a → Led file list entry yes exit
led file list entry exit z e f y =
    let x = (uses promise).leads_on file list entry z in
    let same = y ∙ ap all_fired e in
    record {
      leads = (
        λ h. x.fired.0 (yes_fired file list (length entry) (sym same ∙ h)),
        λ m. same ∙ ap all_fired (x.fired.1 m),
      );
      marking = λ M l. f ∙ x.written M l;
    }

-- the replay's own numbers and marking
pub ended : (slice Q own lent exit marking marking' : List ℕ) {a : ReplayAnswer} → EqualOn slice own lent Q (standing marking) → a ≡ replay_answer slice own (length lent) → exit ≡ replay_marking slice own lent
    → marking' ≡ marking → EndedWith slice Q a exit (standing marking')
ended slice Q own lent exit marking marking' x e f m = record {
  fired = e ∙ x.fired;
  tokens = λ q h. ap (λ (l : List ℕ). get_or l (own_place (slice_of slice) q) 0) f ∙ x.tokens q h ∙ ap (λ (l : List ℕ). get_or l q 0) (sym m);
}

-- a check that does not answer 0 did not accept
pub not_accepted : (plan slice Q : List ℕ) {A : Type 0} {v : Checked} {code : ℕ} → v ≡ checked plan slice Q → code ≡ v.code → (code ≡ 0 → ⊥) → Accepts plan slice Q → A
not_accepted plan slice Q e r n a = absurd (n (r ∙ ap (λ (x : Checked). x.code) e ∙ a))

-- a replay that is not answered yes is not answered fired
pub not-fired : (plan list : List ℕ) (room : ℕ) {A : Type 0} {a : ReplayAnswer} {yes : Bool} → a ≡ replay_answer plan list room → yes ≡ all_fired a → yes ≡ false → replay_answer plan list room ≡ replay_told fired → A
not-fired plan list room e y n t = differ (sym n ∙ y ∙ ap all_fired (e ∙ t))

pub on_slice : (plan slice Q list marking own lent exit marking' : List ℕ) {a : ReplayAnswer} {v : Checked} → v ≡ checked plan slice Q → (v.code ≡ 0 → Guarantee (net_of plan) (slice_of slice) Q)
    → marking' ≡ replay_marking plan list marking → a ≡ replay_answer slice own (length lent) → exit ≡ replay_marking slice own lent
    → Accepts plan slice Q → replay_answer plan list (length marking) ≡ replay_told fired → own ≡ project (slice_of slice) list → (net_of slice).places ≤ length lent
    → EndedWith slice Q a exit (standing marking')
on_slice plan slice Q list marking own lent exit marking' v g m e f acc t p h =
    ended slice Q own lent exit (replay_marking plan list marking) marking'
    (subst⁻¹ (λ (l : List ℕ). EqualOn slice l lent Q (standing (replay_marking plan list marking))) p
    ((uses promise).projected plan slice Q list lent marking (g (ap (λ (x : Checked). x.code) v ∙ acc)) acc t h)) e f m

-- the shadow, by the count that was told
pub shadow_ended : (plan slice list : List ℕ) (room space : ℕ) (out marking lent exit Q : List ℕ) {s : ShadowAnswer} {a : ReplayAnswer} {end : ℕ} → s ≡ shadow_answer plan slice list room space
    → (s.run.refused ≡ false → FollowedIn plan slice (take s.count out) marking) → end ≡ s.count
    → Accepts plan slice Q → (shadow_answer plan slice list room space).run.refused ≡ false → (net_of slice).places ≤ length lent
    → a ≡ replay_answer slice (take end out) (length lent) → exit ≡ replay_marking slice (take end out) lent → EndedWith slice Q a exit (standing marking)
shadow_ended plan slice list room space out marking lent exit Q {s} {a} {end} e x n acc z h r f =
    let x' = subst⁻¹ (λ (k : ℕ). FollowedIn plan slice (take k out) marking) n (x (ap (λ (y : ShadowAnswer). y.run.refused) e ∙ z)) in
    let few : length (take end out) ≤ 65535 = omega (arith, length-take end out, n, ap (λ (y : ShadowAnswer). y.count) e, shadow_short plan slice list room space) in
    ended slice Q (take end out) lent exit marking marking ((uses promise).followed plan slice (take end out) marking lent Q x' acc few h) r f refl
