-- Places and arcs of a file of either kind, stored one after the other.
use Prim.Native.Nat.{ℕ, suc, ◌+◌, ◌-◌, ◌*◌, ◌≤◌, ◌<◌}
use mathlib.Core.Bool.{Bool, true, false}
use mathlib.Core.List.{List, [], ◌∷◌, ◌++◌}
use mathlib.Core.Logic.{◌≢◌}
use mathlib.Core.Path.{◌≡◌, refl, sym, ap, ◌∙◌}
use native.Mathlib.Numerals.{add-one}
use native.Mathlib.Omega.{arith}
use lib.Dec.{eqb}
use lib.ListN.{length, length-append}
use lib.Seq.{sets}
use borrow.Author.Tests.{eq-eqb, ne_eqb}
use Rattle.net.specs.declared.Arc.{Arc}
use Rattle.file_words.specs.Word.{bytes32}
use Rattle.file_words.proofs.Bytes.{length-32}
use Rattle.file_header.specs.Layout.{pick, places_length}
use Rattle.file_writing.specs.Writing.{place_bytes, places_bytes, arc_bytes, arcs_bytes}
use Rattle.file_writing.proofs.Bytes.{length-arc}
use Rattle.tables.proofs.Sets.{sets_after}
use Rattle.tables.proofs.Storing.{Storing, storing_as, storing_part}

-- ---- a place by edition

pub place-next : (e p : ℕ) → places_length e (p + 1) ≡ places_length e p + pick (eqb e 2) 8 4
place-next e p = go (eqb e 2)
  where
    go : (b : Bool) → pick b (8 * (p + 1)) (4 * (p + 1)) ≡ pick b (8 * p) (4 * p) + pick b 8 4
    go true = omega arith
    go false = omega arith

pub places_none : (e : ℕ) → 0 ≡ places_length e 0
places_none e = go (eqb e 2)
  where
    go : (b : Bool) → 0 ≡ pick b (8 * 0) (4 * 0)
    go true = refl
    go false = refl

-- one more of n places lies within the bytes of all
pub places_within : (e p n : ℕ) → p < n → places_length e (p + 1) ≤ places_length e n
places_within e p n l = go (eqb e 2)
  where
    go : (b : Bool) → pick b (8 * (p + 1)) (4 * (p + 1)) ≤ pick b (8 * n) (4 * n)
    go true = omega arith
    go false = omega arith

pub capped-length : (e n : ℕ) → e ≡ 2 → places_length e n ≡ 8 * n
capped-length e n h = ap (λ (b : Bool). pick b (8 * n) (4 * n)) (eq-eqb e 2 h)

pub plain_length : (e n : ℕ) → e ≢ 2 → places_length e n ≡ 4 * n
plain_length e n h = ap (λ (b : Bool). pick b (8 * n) (4 * n)) (ne_eqb e 2 h)

module _ (l : List ℕ) (e p m c : ℕ) where
  pub capped-put : {a b : List ℕ} → e ≡ 2 → a ≡ sets l (8 * p) (bytes32 m) → b ≡ sets a (8 * p + 4) (bytes32 c) → b ≡ sets l (places_length e p) (place_bytes (eqb e 2) m c)
  capped-put h f g =
      sets_after (bytes32 m) (bytes32 c) l (8 * p) (8 * p + 4) f g (omega (arith, length-32 m))
      ∙ (λ i. sets l (sym (capped-length e p h) i) (place_bytes (sym (eq-eqb e 2 h) i) m c))

  pub plain_put : {a : List ℕ} → e ≢ 2 → a ≡ sets l (4 * p) (bytes32 m) → a ≡ sets l (places_length e p) (place_bytes (eqb e 2) m c)
  plain_put h f = f ∙ (λ i. sets l (sym (plain_length e p h) i) (place_bytes (sym (ne_eqb e 2 h) i) m c))

place-long : (b : Bool) (m c : ℕ) → length (place_bytes b m c) ≡ pick b 8 4
place-long true m c = omega (arith, length-append (bytes32 m) (bytes32 c), length-32 m, length-32 c)
place-long false m c = length-32 m

-- ---- a row of n places, of which those from p on are left

module _ (e : ℕ) (M C : ℕ → ℕ) (n : ℕ) where
  abbrev pub places_from : ℕ → List ℕ
  places_from p = places_bytes e M C p (n - p)

  pub places_all : places_bytes e M C 0 n ≡ places_from 0
  places_all = let z : n ≡ n - 0 = omega arith in ap (places_bytes e M C 0) z

  places_next : (p : ℕ) → p < n → places_from p ≡ place_bytes (eqb e 2) (M p) (C p) ++ places_from (p + 1)
  unfolding places_bytes
  places_next p l = let z : n - p ≡ suc (n - (p + 1)) = omega arith in rw (z, add-one p)

  pub places_end : (p : ℕ) → n ≤ p → places_from p ≡ []
  unfolding places_bytes
  places_end p l = let z : n - p ≡ 0 = omega arith in rw z

  pub place-stored : {l₀ l next : List ℕ} {first : ℕ} {all : List ℕ} (p : ℕ) → p < n → Storing l₀ first all l (places_length e p) (places_from p)
      → next ≡ sets l (places_length e p) (place_bytes (eqb e 2) (M p) (C p)) → Storing l₀ first all next (places_length e (p + 1)) (places_from (p + 1))
  place-stored p l s f =
      storing_part (place_bytes (eqb e 2) (M p) (C p)) (places_from (p + 1)) _ (places_length e (p + 1)) (storing_as s (places_next p l)) f
      (omega (arith, place-next e p, place-long (eqb e 2) (M p) (C p)))

-- ---- a row of arcs

pub arc-stored : {l₀ l next : List ℕ} {first : ℕ} {all : List ℕ} {at k : ℕ} (a : Arc) (rest : List Arc) → Storing l₀ first all l at (arcs_bytes (a ∷ rest))
    → next ≡ sets l at (arc_bytes a) → k ≡ at + 8 → Storing l₀ first all next k (arcs_bytes rest)
unfolding arcs_bytes
arc-stored a rest s f e = storing_part (arc_bytes a) (arcs_bytes rest) _ _ s f (omega (arith, e, length-arc a))
