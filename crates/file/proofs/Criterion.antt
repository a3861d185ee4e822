-- What is known of a criterion that is not refused.
use Prim.Native.Nat.{ℕ, zero, suc, ◌+◌, ◌%◌, ◌≤◌, ◌<◌}
use mathlib.Core.Path.{◌≡◌}
use mathlib.Core.Bool.{not}
use mathlib.Core.List.{List, [], ◌∷◌}
use native.Mathlib.Omega.{arith}
use lib.Dec.{T, eqb, ltb, leb, eqb→eq}
use lib.ListN.{length, get_or}
use borrow.Author.Tests.{leb-false, ltb-false}
use Rattle.net.specs.Numbers.{among}
use Rattle.net.proofs.Numbers.{by_or}
use Rattle.file.specs.Facts.{RisingFrom}
use Rattle.file.specs.Criterion.{places_refusal, criterion_refusal, criterion_of, criterion_bytes_refusal}
use Rattle.file_words.proofs.Laws.{refuse-0, or-false}

-- the numbers rise, are places, and so are not more than these
pub record Passed (P : ℕ) (Q : List ℕ) : Type 0 where
  pub few : length Q ≤ P
  pub rise : RisingFrom 0 Q
  pub known : (q : ℕ) → T (among q Q) → q < P
  pub known_at : (i : ℕ) → i < length Q → get_or Q i 0 < P

step_0 : (P least q : ℕ) (Q : List ℕ) → places_refusal P least (q ∷ Q) ≡ 0 → (q < P) × (least ≤ q) × (places_refusal P (q + 1) Q ≡ 0)
unfolding places_refusal
step_0 P least q Q e =
    let a = refuse-0 _ 9 _ e in
    let b = or-false (leb P q) (ltb q least) a.0 in
    (leb-false P q b.0, ltb-false q least b.1, a.1)

rises_0 : (P least : ℕ) (Q : List ℕ) → places_refusal P least Q ≡ 0 → RisingFrom least Q
rises_0 P least [] e = tt
rises_0 P least (q ∷ Q) e = let a = step_0 P least q Q e in (a.1, rises_0 P (q + 1) Q a.2)

few_0 : (P least : ℕ) (Q : List ℕ) → places_refusal P least Q ≡ 0 → least ≤ P → length Q + least ≤ P
few_0 P least [] e h = omega arith
few_0 P least (q ∷ Q) e h = let a = step_0 P least q Q e in omega (arith, few_0 P (q + 1) Q a.2 (omega arith))

known_0 : (P least : ℕ) (Q : List ℕ) → places_refusal P least Q ≡ 0 → (i : ℕ) → i < length Q → get_or Q i 0 < P
known_0 P least [] e i h = absurd (omega arith)
known_0 P least (q ∷ Q) e zero h = (step_0 P least q Q e).0
known_0 P least (q ∷ Q) e (suc i) h = known_0 P (q + 1) Q (step_0 P least q Q e).2 i (omega arith)

among-0 : (P least : ℕ) (Q : List ℕ) → places_refusal P least Q ≡ 0 → (q : ℕ) → T (among q Q) → q < P
unfolding among
among-0 P least [] e q h = elim h [ ]
among-0 P least (x ∷ Q) e q h =
    let a = step_0 P least x Q e in
    by_or (eqb q x) (among q Q) h (λ t. omega (arith, eqb→eq q x t)) (among-0 P (x + 1) Q a.2 q)

pub passed : (P : ℕ) (Q : List ℕ) → criterion_refusal P Q ≡ 0 → Passed P Q
unfolding criterion_refusal
passed P Q e = record {
  few = omega (arith, few_0 P 0 Q e (omega arith));
  rise = rises_0 P 0 Q e;
  known = among-0 P 0 Q e;
  known_at = known_0 P 0 Q e;
}

-- the C call's criterion passes where its places do
pub bytes-passed : (P : ℕ) (s : List ℕ) → criterion_bytes_refusal P s ≡ 0 → criterion_refusal P (criterion_of s) ≡ 0
unfolding criterion_bytes_refusal
bytes-passed P s e = (refuse-0 (not (eqb (length s % 2) 0)) 8 (criterion_refusal P (criterion_of s)) e).1
