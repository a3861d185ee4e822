-- Bytes that stand in a file: what is read where a row of places, arcs or origins was written.
use Prim.Native.Nat.{ℕ, zero, suc, ◌+◌, ◌*◌, ◌<◌}
use mathlib.Core.Path.{◌≡◌, refl, sym, ap, ◌∙◌}
use mathlib.Core.Bool.{Bool, true, false}
use mathlib.Core.List.{List, [], ◌∷◌, ◌++◌}
use native.Mathlib.Omega.{arith}
use native.Mathlib.Nat.{add-zero}
use lib.ListN.{length, length-append}
use lib.Dec.{eqb}
use Rattle.net.specs.declared.Arc.{Arc}
use Rattle.file_words.specs.Word.{byte_at, le32, bytes16, bytes32}
use Rattle.file_words.proofs.Bytes.{Stands, stands_left, stands_right, stands_at, stands_head, stands_tail, length-16, length-32, read_16, read_32}
use Rattle.file_arcs.specs.Layout.{arc_at, arcs_from}
use Rattle.file_arcs.specs.Facts.{ArcSmall}
use Rattle.file_header.specs.Layout.{pick, places_length}
use Rattle.file.specs.Layout.{words_from}
use Rattle.file_writing.specs.Writing.{place_bytes, places_bytes, arc_bytes, arcs_bytes, origins_bytes}

-- a place by edition: its length, its marking, its cap
pub pick_next : (b : Bool) (n : ℕ) → pick b (8 * suc n) (4 * suc n) ≡ pick b 8 4 + pick b (8 * n) (4 * n)
pick_next true n = omega arith
pick_next false n = omega arith

pub length-place : (b : Bool) (m c : ℕ) → length (place_bytes b m c) ≡ pick b 8 4
length-place true m c = omega (arith, length-append (bytes32 m) (bytes32 c), length-32 m, length-32 c)
length-place false m c = length-32 m

place-marking : (b : Bool) (s : List ℕ) (at m c : ℕ) → Stands s at (place_bytes b m c) → m < 4294967296 → le32 s at ≡ m
place-marking true s at m c st h = read_32 s at m (stands_left s at (bytes32 m) (bytes32 c) st) h
place-marking false s at m c st h = read_32 s at m st h

place-cap : (b : Bool) (s : List ℕ) (at m c : ℕ) → Stands s at (place_bytes b m c) → c < 4294967296 → (b ≡ false → c ≡ 0) → pick b (le32 s (at + 4)) 0 ≡ c
place-cap true s at m c st h none = read_32 s (at + 4) c (stands_right s at 4 (bytes32 m) (bytes32 c) st (length-32 m)) h
place-cap false s at m c st h none = sym (none refl)

-- a row of places, of origins, of arcs: its length, and what is read from it
pub length-places : (e : ℕ) (M C : ℕ → ℕ) (p n : ℕ) → length (places_bytes e M C p n) ≡ places_length e n
unfolding places_bytes
length-places e M C p zero = none (eqb e 2)
  where
    none : (b : Bool) → 0 ≡ pick b (8 * 0) (4 * 0)
    none true = refl
    none false = refl
length-places e M C p (suc n) =
    omega (
      arith,
      length-append (place_bytes (eqb e 2) (M p) (C p)) (places_bytes e M C (suc p) n),
      length-place (eqb e 2) (M p) (C p),
      length-places e M C (suc p) n,
      pick_next (eqb e 2) n,
    )

module _ (e : ℕ) (s : List ℕ) (M C : ℕ → ℕ) where
  -- the places after the first
  rest : (at p n : ℕ) → Stands s at (places_bytes e M C p (suc n)) → Stands s (at + pick (eqb e 2) 8 4) (places_bytes e M C (suc p) n)
  unfolding places_bytes
  rest at p n st = stands_right s at _ (place_bytes (eqb e 2) (M p) (C p)) (places_bytes e M C (suc p) n) st (length-place (eqb e 2) (M p) (C p))

  first : (at p n : ℕ) → Stands s at (places_bytes e M C p (suc n)) → Stands s at (place_bytes (eqb e 2) (M p) (C p))
  unfolding places_bytes
  first at p n st = stands_left s at (place_bytes (eqb e 2) (M p) (C p)) (places_bytes e M C (suc p) n) st

  start : (b : Bool) (at : ℕ) → at + pick b (8 * 0) (4 * 0) ≡ at
  start true at = omega arith
  start false at = omega arith

  pub read_markings : (at p n : ℕ) → Stands s at (places_bytes e M C p n) → ((q : ℕ) → q < p + n → M q < 4294967296)
      → (k : ℕ) → k < n → le32 s (at + places_length e k) ≡ M (p + k)
  read_markings at p zero st small k h = absurd (omega arith)
  read_markings at p (suc n) st small zero h =
      ap (le32 s) (start (eqb e 2) at) ∙ place-marking (eqb e 2) s at (M p) (C p) (first at p n st) (small p (omega arith)) ∙ ap M (sym (add-zero p))
  read_markings at p (suc n) st small (suc k) h =
      let r = read_markings (at + pick (eqb e 2) 8 4) (suc p) n (rest at p n st) (λ q l. small q (omega arith)) k (omega arith) in
      let a : at + places_length e (suc k) ≡ at + pick (eqb e 2) 8 4 + places_length e k = omega (arith, pick_next (eqb e 2) k) in
      let b : suc p + k ≡ p + suc k = omega arith in
      ap (le32 s) a ∙ r ∙ ap M b

  cap_start : (b : Bool) (at : ℕ) → pick b (le32 s (at + 8 * 0 + 4)) 0 ≡ pick b (le32 s (at + 4)) 0
  cap_start true at = let z : at + 8 * 0 + 4 ≡ at + 4 = omega arith in ap (le32 s) z
  cap_start false at = refl

  cap_next : (b : Bool) (at k : ℕ) → pick b (le32 s (at + 8 * suc k + 4)) 0 ≡ pick b (le32 s (at + pick b 8 4 + 8 * k + 4)) 0
  cap_next true at k = let z : at + 8 * suc k + 4 ≡ at + 8 + 8 * k + 4 = omega arith in ap (le32 s) z
  cap_next false at k = refl

  pub read_caps : (at p n : ℕ) → Stands s at (places_bytes e M C p n) → ((q : ℕ) → q < p + n → C q < 4294967296) → (eqb e 2 ≡ false → (q : ℕ) → C q ≡ 0)
      → (k : ℕ) → k < n → pick (eqb e 2) (le32 s (at + 8 * k + 4)) 0 ≡ C (p + k)
  read_caps at p zero st small none k h = absurd (omega arith)
  read_caps at p (suc n) st small none zero h =
      cap_start (eqb e 2) at ∙ place-cap (eqb e 2) s at (M p) (C p) (first at p n st) (small p (omega arith)) (λ f. none f p) ∙ ap C (sym (add-zero p))
  read_caps at p (suc n) st small none (suc k) h =
      let r = read_caps (at + pick (eqb e 2) 8 4) (suc p) n (rest at p n st) (λ q l. small q (omega arith)) none k (omega arith) in
      let b : suc p + k ≡ p + suc k = omega arith in
      cap_next (eqb e 2) at k ∙ r ∙ ap C b

pub length-origins : (l : List ℕ) → length (origins_bytes l) ≡ 2 * length l
unfolding origins_bytes
length-origins [] = refl
length-origins (o ∷ l) = omega (arith, length-append (bytes16 o) (origins_bytes l), length-16 o, length-origins l)

-- each number fits 2 bytes
abbrev pub Small : List ℕ → Type 0
Small [] = Unit {0}
Small (o ∷ l) = (o < 65536) × Small l

pub read_origins : (s : List ℕ) (at : ℕ) (l : List ℕ) → Stands s at (origins_bytes l) → Small l → words_from s at (length l) ≡ l
unfolding origins_bytes words_from
read_origins s at [] st small = refl
read_origins s at (o ∷ l) st small =
    let o≡ = read_16 s at o (stands_left s at (bytes16 o) (origins_bytes l) st) small.0 in
    let l≡ = read_origins s (at + 2) l (stands_right s at 2 (bytes16 o) (origins_bytes l) st (length-16 o)) small.1 in
    λ i. o≡ i ∷ l≡ i

pub length-arc : (a : Arc) → length (arc_bytes a) ≡ 8
unfolding arc_bytes bytes16
length-arc a = refl

pub length-arcs : (l : List Arc) → length (arcs_bytes l) ≡ 8 * length l
unfolding arcs_bytes
length-arcs [] = refl
length-arcs (a ∷ l) = omega (arith, length-append (arc_bytes a) (arcs_bytes l), length-arc a, length-arcs l)

-- one arc: its fields, and its zero byte
module _ (s : List ℕ) (at : ℕ) (a : Arc) (st : Stands s at (arc_bytes a)) (fits : ArcSmall a) where
  at_direction : Stands s (at + 2) (a.direction ∷ 0 ∷ [])
  at_direction =
      let x = stands_left s at (bytes16 a.transition ++ (a.direction ∷ 0 ∷ []) ++ bytes16 a.place) (bytes16 a.weight) (unfold arc_bytes in st) in
      let y = stands_left s at (bytes16 a.transition ++ (a.direction ∷ 0 ∷ [])) (bytes16 a.place) x in
      stands_right s at 2 (bytes16 a.transition) (a.direction ∷ 0 ∷ []) y (length-16 a.transition)

  pub read_arc : arc_at s at ≡ a
  unfolding arc_bytes bytes16
  read_arc =
      let x = stands_left s at (bytes16 a.transition ++ (a.direction ∷ 0 ∷ []) ++ bytes16 a.place) (bytes16 a.weight) st in
      let y = stands_left s at (bytes16 a.transition ++ (a.direction ∷ 0 ∷ [])) (bytes16 a.place) x in
      let z = stands_left s at (bytes16 a.transition) (a.direction ∷ 0 ∷ []) y in
      let t≡ = read_16 s at a.transition z fits.transition in
      let d≡ = stands_head s (at + 2) a.direction (0 ∷ []) at_direction in
      let p≡ = read_16 s (at + 4) a.place (stands_right s at 4 (bytes16 a.transition ++ (a.direction ∷ 0 ∷ [])) (bytes16 a.place) x refl) fits.place in
      let w≡ = read_16 s (at + 6) a.weight (stands_right s at 6 (bytes16 a.transition ++ (a.direction ∷ 0 ∷ []) ++ bytes16 a.place) (bytes16 a.weight) st refl) fits.weight in
      λ i. record { transition = t≡ i; direction = d≡ i; place = p≡ i; weight = w≡ i }

  pub read_spare : byte_at s (at + 3) ≡ 0
  read_spare = stands_head s (at + 3) 0 [] (stands_at s (0 ∷ []) (stands_tail s (at + 2) a.direction (0 ∷ []) at_direction) (omega arith))

-- each arc fits
abbrev pub AllFit : List Arc → Type 0
AllFit [] = Unit {0}
AllFit (a ∷ l) = ArcSmall a × AllFit l

pub read_arcs : (s : List ℕ) (at : ℕ) (l : List Arc) → Stands s at (arcs_bytes l) → AllFit l → arcs_from s at (length l) ≡ l
unfolding arcs_from arcs_bytes
read_arcs s at [] st fit = refl
read_arcs s at (a ∷ l) st fit =
    let a≡ = read_arc s at a (stands_left s at (arc_bytes a) (arcs_bytes l) st) fit.0 in
    let l≡ = read_arcs s (at + 8) l (stands_right s at 8 (arc_bytes a) (arcs_bytes l) st (length-arc a)) fit.1 in
    λ i. a≡ i ∷ l≡ i
