-- The net of a file of edition 1 has no caps; every marking of a file that was read is within its caps.
use Prim.Native.Nat.{ℕ, ◌+◌, ◌*◌, ◌<◌}
use mathlib.Core.Bool.{Bool, true, false}
use mathlib.Core.List.{List}
use mathlib.Core.Path.{◌≡◌, ◌∙◌}
use native.Mathlib.Omega.{arith}
use lib.Dec.{ltb, eqb}
use borrow.Author.Tests.{ltb-true, ltb-false}
use Rattle.net.specs.Net.{below, has_caps, Uncapped, WithinCaps}
use Rattle.net.proofs.Uncapped as net
use Rattle.net.proofs.Numbers.{by_cases}
use Rattle.net.proofs.Markings.{below_at, below-off}
use Rattle.file_words.specs.Word.{le32, Bytes}
use Rattle.file_header.specs.Layout.{pick, places_length}
use Rattle.file.specs.Layout.{marking_at, cap_at, net_from, net_of}
use Rattle.file.specs.Refusal.{file_refusal}
use Rattle.file_header.specs.declared.Due.{Due}
use Rattle.file_header.specs.declared.Header.{Header}
use Rattle.file.proofs.Opening.{sound}
use Rattle.file_words.proofs.Bytes.{le32-lt}

none_by : (b : Bool) (n : ℕ) → b ≡ false → pick b n 0 ≡ 0
none_by b n e = rw e

-- edition 2
pub cap_at_lem : (s : List ℕ) (h : Header) → eqb h.edition 2 ≡ true → (p : ℕ) → p < h.places → (net_from s h).cap p ≡ le32 s (h.markstart + 8 * p + 4)
cap_at_lem s h e p l = below_at h.places (cap_at s h) p l ∙ two (eqb h.edition 2) e
  where
    two : {n : ℕ} (b : Bool) → b ≡ true → pick b n 0 ≡ n
    two b k = rw k

-- an edition other than 2
pub no_cap_by : (s : List ℕ) (h : Header) → eqb h.edition 2 ≡ false → (p : ℕ) → (net_from s h).cap p ≡ 0
no_cap_by s h e p = by_cases (ltb p h.places)
    (λ k. below_at h.places (cap_at s h) p (ltb-true p h.places k) ∙ none_by (eqb h.edition 2) _ e)
    (λ k. below-off h.places (cap_at s h) p (ltb-false p h.places k))

-- a file without caps, whatever its edition
pub none_capped : (s : List ℕ) (h : Header) → has_caps (net_from s h) ≡ false → Uncapped (net_from s h)
none_capped s h e = net.none_capped (net_from s h) (below-off h.places (cap_at s h)) e

pub marking_within : (due : Due) (s : List ℕ) → file_refusal due s ≡ 0 → WithinCaps (net_of s) (net_of s).marking
marking_within due s e = (sound due s e).caps

-- markings and caps of a byte string have 4 bytes
module _ (s : List ℕ) (bytes : Bytes s) (h : Header) where
  pick-lt : (b : Bool) (n : ℕ) → n < 4294967296 → pick b n 0 < 4294967296
  pick-lt true n l = l
  pick-lt false n l = omega arith

  below-lt : (M : ℕ → ℕ) → ((p : ℕ) → M p < 4294967296) → (p : ℕ) → below h.places M p < 4294967296
  below-lt M small p = by_cases (ltb p h.places)
      (λ k. omega (arith, below_at h.places M p (ltb-true p h.places k), small p))
      (λ k. omega (arith, below-off h.places M p (ltb-false p h.places k)))

  pub marking_lt : (p : ℕ) → (net_from s h).marking p < 4294967296
  marking_lt = below-lt (marking_at s h) (λ p. le32-lt s bytes (h.markstart + places_length h.edition p))

  pub cap_lt : (p : ℕ) → (net_from s h).cap p < 4294967296
  cap_lt = below-lt (cap_at s h) (λ p. pick-lt (eqb h.edition 2) _ (le32-lt s bytes (h.markstart + 8 * p + 4)))
