-- Places by two names, and one turn of the loop over origins.
use Prim.Native.Nat.{ℕ, zero, suc, ◌+◌, ◌<◌}
use mathlib.Core.List.{List, [], ◌++◌}
use mathlib.Core.Path.{◌≡◌, refl, ap, ◌∙◌}
use native.Mathlib.Numerals.{add-one}
use native.Mathlib.Omega.{arith}
use lib.Dec.{eqb}
use lib.ListN.{length, get_or, drop}
use lib.Seq.{drop-cons, drop-length}
use Rattle.file_words.specs.Word.{bytes16}
use Rattle.file_writing.specs.Writing.{place_bytes, places_bytes, origins_bytes}

-- places by two names
pub places_same : (e : ℕ) (M m C c : ℕ → ℕ) (a n : ℕ) → ((i : ℕ) → i < n → (m (a + i) ≡ M (a + i)) × (c (a + i) ≡ C (a + i))) → places_bytes e m c a n ≡ places_bytes e M C a n
unfolding places_bytes
places_same e M m C c a zero h = refl
places_same e M m C c a (suc n) h =
    let here : (m a ≡ M a) × (c a ≡ C a) = let z : a + 0 ≡ a = omega arith in rw z at (h 0 (omega arith)) in
    let rest = places_same e M m C c (suc a) n (λ i l. let z : a + suc i ≡ suc a + i = omega arith in rw z at (h (suc i) (omega arith))) in
    λ x. place_bytes (eqb e 2) (here.0 x) (here.1 x) ++ rest x

module _ (l : List ℕ) (i : ℕ) where
  pub origins_next : i < length l → origins_bytes (drop i l) ≡ bytes16 (get_or l i 0) ++ origins_bytes (drop (i + 1) l)
  unfolding origins_bytes
  origins_next h = rw (drop-cons l i 0 h, origins_bytes, add-one i)

  pub origins_end : i ≡ length l → origins_bytes (drop i l) ≡ []
  unfolding origins_bytes
  origins_end e = ap (λ (k : ℕ). origins_bytes (drop k l)) e ∙ ap origins_bytes (drop-length l)
