-- What is known of a list that is not refused, and a lent buffer after a call that is refused or not.
use Prim.Native.Nat.{ℕ, zero, suc, ◌<◌, ◌≤◌}
use mathlib.Core.Path.{◌≡◌, refl, sym, ◌∙◌}
use mathlib.Core.Bool.{false}
use mathlib.Core.List.{List, ◌++◌}
use borrow.Author.Tests.{ltb-false, leb-false}
use lib.Dec.{ltb, leb}
use lib.ListN.{length, get_or, drop}
use Rattle.net.specs.Numbers.{any}
use Rattle.net.proofs.Numbers.{by_cases, holds, fails, any-has, among-at}
use Rattle.file_words.specs.Refusal.{refuse}
use Rattle.file_words.proofs.Laws.{refuse-0}
use Rattle.promise.specs.Calls.{written}
use Rattle.promise.specs.Firing.{list_refusal}

module _ (T' : ℕ) (list : List ℕ) (e : list_refusal T' list ≡ 0) where
  tests : (ltb 65535 (length list) ≡ false) × (any (λ t. leb T' t) list ≡ false)
  unfolding list_refusal
  tests =
      let a = refuse-0 (ltb 65535 (length list)) 10 (refuse (any (λ t. leb T' t) list) 12 0) e in
      (a.0, (refuse-0 (any (λ t. leb T' t) list) 11 0 a.1).0)

  pub list_short : length list ≤ 65535
  list_short = ltb-false 65535 (length list) tests.0

  pub list_known : (i : ℕ) → i < length list → get_or list i 0 < T'
  list_known i l =
      by_cases (leb T' (get_or list i 0))
      (λ k. absurd (fails (any (λ t. leb T' t) list) tests.1 (any-has (λ t. leb T' t) list (get_or list i 0) (among-at list i l) (holds _ k))))
      (λ k. leb-false T' (get_or list i 0) k)

-- "lent buffers keep every byte"
pub kept-refused : (m : ℕ) {n : ℕ} (file buffer : List ℕ) → n ≡ m → (n ≡ 0 → ⊥) → buffer ≡ written m file buffer
kept-refused zero file buffer e z = absurd (z e)
kept-refused (suc m) file buffer e z = refl

-- and what was written stands before what is kept
pub written-whole : (m k : ℕ) {n : ℕ} (l file buffer : List ℕ) → n ≡ m → n ≡ 0 → length file ≡ k → l ≡ file → l ++ drop k buffer ≡ written m file buffer
written-whole m k l file buffer e z g f = rw (sym e ∙ z, f, g)
