-- Bytes that stand in a file: what is read where a number was written.
use Prim.Native.Nat.{ℕ, ◌+◌, ◌/◌, ◌%◌, ◌<◌}
use mathlib.Core.Path.{◌≡◌, refl, sym, ap, subst, ◌∙◌}
use mathlib.Core.List.{List, [], ◌∷◌, ◌++◌}
use native.Mathlib.Omega.{arith}
use native.Mathlib.Nat.{add-zero, zero-add, suc-add, add_assoc}
use lib.ListN.{length, get_or, length-append, get_or-append}
use Rattle.file_words.specs.Word.{byte_at, le16, le32, bytes16, bytes32, Bytes}

-- numbers read from a byte string are small
pub le16-lt : (s : List ℕ) → Bytes s → (i : ℕ) → le16 s i < 65536
unfolding le16 Bytes
le16-lt s b i = omega (arith, b i, b (i + 1))

pub le32-lt : (s : List ℕ) → Bytes s → (i : ℕ) → le32 s i < 4294967296
unfolding le32
le32-lt s b i = omega (arith, le16-lt s b i, le16-lt s b (i + 2))

-- the bytes l stand in s from `at` on
unfoldable pub Stands : List ℕ → ℕ → List ℕ → Type 0
Stands s at l = (k : ℕ) → k < length l → byte_at s (at + k) ≡ byte_at l k

pub stands_all : (s : List ℕ) → Stands s 0 s
unfolding Stands
stands_all s k h = ap (byte_at s) (zero-add k)

pub stands_left : (s : List ℕ) (at : ℕ) (l m : List ℕ) → Stands s at (l ++ m) → Stands s at l
unfolding Stands
stands_left s at l m st k h = st k (omega (arith, length-append l m)) ∙ get_or-append l m 0 k h

get_d_after : (l m : List ℕ) (k : ℕ) → get_or (l ++ m) (length l + k) 0 ≡ get_or m k 0
get_d_after [] m k = ap (λ i. get_or m i 0) (zero-add k)
get_d_after (x ∷ l) m k = rw (suc-add (length l) k) (get_d_after l m k)

pub stands_right : (s : List ℕ) (at n : ℕ) (l m : List ℕ) → Stands s at (l ++ m) → length l ≡ n → Stands s (at + n) m
unfolding Stands
stands_right s at n l m st e k h =
    rw (← e, add_assoc at (length l) k) (st (length l + k) (omega (arith, length-append l m)) ∙ get_d_after l m k)

pub stands_at : (s : List ℕ) (l : List ℕ) {at at' : ℕ} → Stands s at l → at ≡ at' → Stands s at' l
stands_at s l st e = subst (λ (i : ℕ). Stands s i l) e st

-- a byte, a number of 2 bytes, a number of 4 bytes
pub stands_head : (s : List ℕ) (at x : ℕ) (l : List ℕ) → Stands s at (x ∷ l) → byte_at s at ≡ x
unfolding Stands
stands_head s at x l st = ap (byte_at s) (sym (add-zero at)) ∙ st 0 (omega arith)

pub stands_tail : (s : List ℕ) (at x : ℕ) (l : List ℕ) → Stands s at (x ∷ l) → Stands s (at + 1) l
stands_tail s at x l st = stands_right s at 1 (x ∷ []) l st refl

pub length-16 : (n : ℕ) → length (bytes16 n) ≡ 2
unfolding bytes16
length-16 n = refl

pub length-32 : (n : ℕ) → length (bytes32 n) ≡ 4
unfolding bytes32 bytes16
length-32 n = refl

low_16 : (s : List ℕ) (at n : ℕ) → Stands s at (bytes16 n) → le16 s at ≡ n % 65536
unfolding le16 bytes16
low_16 s at n st = omega (arith, stands_head s at _ _ st, stands_head s (at + 1) _ _ (stands_tail s at _ _ st))

pub read_16 : (s : List ℕ) (at n : ℕ) → Stands s at (bytes16 n) → n < 65536 → le16 s at ≡ n
read_16 s at n st h = omega (arith, low_16 s at n st)

pub read_32 : (s : List ℕ) (at n : ℕ) → Stands s at (bytes32 n) → n < 4294967296 → le32 s at ≡ n
unfolding le32 bytes32
read_32 s at n st h =
    omega (
      arith,
      low_16 s at n (stands_left s at (bytes16 n) (bytes16 (n / 65536)) st),
      low_16 s (at + 2) (n / 65536) (stands_right s at 2 (bytes16 n) (bytes16 (n / 65536)) st (length-16 n)),
    )
