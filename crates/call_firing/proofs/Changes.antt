-- The answer of `effect`, by the way out that it took.
use Prim.Native.Nat.{ℕ, ◌≤◌, ◌<◌}
use mathlib.Core.Path.{◌≡◌, ap}
use mathlib.Core.List.{List}
use lib.IntN.{ℤ}
use borrow.Author.Tests.{le-leb, lt-leb}
use Rattle.net.specs.Net.{effect}
use Rattle.file.specs.Layout.{net_from}
use Rattle.file.specs.Refusal.{file_refusal}
use Rattle.file.specs.Facts.{Opened}
use Rattle.file_header.specs.declared.Due.TheVariants.{Either}
use Rattle.file_header.specs.declared.Header.{Header}
use Rattle.file_words.proofs.Laws.{or_else_stop}
use Rattle.promise.specs.Firing.{effect_refusal, effect_answer, effect_or}
use Rattle.call_firing.specs.Effect.{change_numbers}
use Rattle.std.proofs.Common.{Ok, Err}
use Rattle.refusals.specs.Numbers.{number}
use Rattle.refusals.specs.declared.Refusal.{Refusal}
use Rattle.refusals.proofs.Numbers.{number_above, number_some}
use Rattle.refusals.specs.declared.Refusal.TheVariants.{Place, Transition}

refused : (e : Refusal) {n : ℕ} (v : ℤ) → n ≡ number e → change_numbers (Err e) ≡ effect_or n v
refused e v q = let z = number_above e in rw (q, z.1)

pub effect_file : (s : List ℕ) (p t : ℕ) (e : Refusal) → file_refusal Either s ≡ number e → change_numbers (Err e) ≡ effect_answer s p t
unfolding effect_answer effect_refusal
effect_file s p t e a = refused e _ (rw (a, or_else_stop (number e) _ (number_some e)))

module _ (s : List ℕ) (h : Header) (o : Opened Either s h) (p t : ℕ) where
  pub effect-10 : h.places ≤ p → change_numbers (Err Place) ≡ effect_answer s p t
  unfolding effect_answer effect_refusal
  effect-10 a = rw (o.read, ← o.same, le-leb _ _ a)

  pub effect-12 : p < h.places → h.transitions ≤ t → change_numbers (Err Transition) ≡ effect_answer s p t
  unfolding effect_answer effect_refusal
  effect-12 a b = rw (o.read, ← o.same, lt-leb _ _ a, le-leb _ _ b)

  pub effect-by : (v : ℤ) → p < h.places → t < h.transitions → v ≡ effect (net_from s h) p t → change_numbers (Ok v) ≡ effect_answer s p t
  unfolding effect_answer effect_refusal
  effect-by v a b e = rw (o.read, ← o.same, lt-leb _ _ a, lt-leb _ _ b) (ap (λ (x : ℤ). change_numbers (Ok x)) e)
