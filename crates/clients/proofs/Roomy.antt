-- The header's rooms: from what the calls ensure.
use Prim.Native.Nat.{ℕ}
use mathlib.Core.List.{List}
use mathlib.Core.Path.{◌≡◌, sym, ap, ◌∙◌}
use mathlib.Core.Logic.{◌≢◌}
use native.Mathlib.Omega.{arith}
use Rattle.file_words.specs.Word.{Bytes}
use Rattle.promise.specs.Calls.{CutAnswer, safety_answer, branching_answer}
use Rattle.promise.specs.Firing.{ReplayAnswer, replay_answer}
use Rattle.promise.specs.Shadow.{ShadowAnswer, shadow_answer}
use Rattle.promise.specs.Together.{TogetherAnswer, together_answer}
use Rattle.promise.specs.RunCut.{RunAnswer, run_answer}
use Rattle.promise.proofs.Theorem.{promise}

module _ (file : List ℕ) (b : Bytes file) where
  pub replay-roomy : (list : List ℕ) (room : ℕ) {a : ReplayAnswer} → a ≡ replay_answer file list room → room ≡ 1024 → a.refusal ≢ 13
  replay-roomy list room e h z = (promise.rooms file b).replay list room (omega (arith, h)) (ap (λ (x : ReplayAnswer). x.refusal) (sym e) ∙ z)

  pub shadow_roomy : (slice list : List ℕ) (room space : ℕ) {a : ShadowAnswer} → a ≡ shadow_answer file slice list room space → room ≡ 1024 → space ≡ 65535 → a.run.refusal ≢ 13
  shadow_roomy slice list room space e h l z = (promise.rooms file b).shadow slice list room space (omega (arith, h)) (omega (arith, l)) (ap (λ (x : ShadowAnswer). x.run.refusal) (sym e) ∙ z)

  pub together-roomy : (t : ℕ) (marking : List ℕ) (room : ℕ) {a : TogetherAnswer} → a ≡ together_answer file t marking room → room ≡ 1024 → a.refusal ≢ 13
  together-roomy t marking room e h z = (promise.rooms file b).together t marking room (omega (arith, h)) (ap (λ (x : TogetherAnswer). x.refusal) (sym e) ∙ z)

  pub safety-roomy : (Q : List ℕ) (room : ℕ) {a : CutAnswer} → a ≡ safety_answer file Q room → room ≡ 45072 → a.refusal ≢ 13
  safety-roomy Q room e h z = (promise.rooms file b).safety Q room (omega (arith, h)) (ap (λ (x : CutAnswer). x.refusal) (sym e) ∙ z)

  pub branching-roomy : (Q : List ℕ) (room : ℕ) {a : CutAnswer} → a ≡ branching_answer file Q room → room ≡ 45072 → a.refusal ≢ 13
  branching-roomy Q room e h z = (promise.rooms file b).branching Q room (omega (arith, h)) (ap (λ (x : CutAnswer). x.refusal) (sym e) ∙ z)

  pub run-roomy : (Q list : List ℕ) (room entries : ℕ) {a : RunAnswer} → a ≡ run_answer file Q list room entries → room ≡ 45072 → entries ≡ 65535 → a.refusal ≢ 13
  run-roomy Q list room entries e h l z = (promise.rooms file b).run_cut_row Q list room entries (omega (arith, h)) (omega (arith, l)) (ap (λ (x : RunAnswer). x.refusal) (sym e) ∙ z)
