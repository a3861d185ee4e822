-- A file whose places, arcs and trailer stand where they belong, of either kind: its header, its net, and why it is not refused.
use Prim.Native.Nat.{ℕ, zero, suc, ◌+◌, ◌-◌, ◌*◌, ◌/◌, ◌%◌, ◌≤◌, ◌<◌}
use mathlib.Core.Path.{◌≡◌, refl, ap, subst, subst⁻¹, ◌∙◌}
use mathlib.Core.Bool.{Bool, true, false, not, ◌&&◌}
use mathlib.Core.List.{List, [], ◌∷◌, ◌++◌, map}
use native.Mathlib.Omega.{arith}
use native.Mathlib.Nat.{zero-add}
use native.Mathlib.Numerals.{sub-one}
use lib.ListN.{length}
use lib.Dec.{eqb, ltb}
use borrow.Author.Tests.{lt-ltb, le-ltb, lt-leb, eq-eqb, ne_eqb}
use Rattle.net.specs.Net.{Net, capped, Uncapped, WithinCaps}
use Rattle.net.specs.declared.Arc.{Arc}
use Rattle.net.proofs.Numbers.{holds}
use Rattle.net.proofs.Markings.{below-is}
use Rattle.file_words.specs.Word.{byte_at, le16, le32, bytes16, bytes32, Bytes}
use Rattle.file_header.specs.Layout.{in_slice, pick, places_length, trailer_of, header_from, header_of}
use Rattle.file.specs.Layout.{marking_at, cap_at, net_from}
use Rattle.file_words.specs.Refusal.{caps_refusal, table_refusal}
use Rattle.file_arcs.specs.Refusal.{key, arc_wrong, arcs_refusal}
use Rattle.file_header.specs.Refusal.{edition_wrong, kind_wrong, counts_wrong, body_wrong, trailer_refusal}
use Rattle.file.specs.Refusal.{length_wrong, links_refusal, origins_refusal, body_refusal, file_refusal}
use Rattle.file_arcs.specs.Facts.{ArcGood, InRange, OrderedFrom}
use Rattle.file.specs.Facts.{RisingFrom}
use Rattle.file_writing.specs.Writing.{place_bytes, places_bytes, arc_bytes, arcs_bytes, origins_bytes, trailer_bytes}
use Rattle.file_header.specs.declared.Due.{Due}
use Rattle.file_header.specs.declared.Header.{Header}
use Rattle.file_header.specs.declared.Trailer.{Trailer}
use Rattle.file_arcs.proofs.Laws.{arcs_on, arcs_end}
use Rattle.file_header.proofs.Laws.{places_most}
use Rattle.file_words.proofs.Bytes.{Stands, stands_left, stands_right, length-16, read_16, read_32}
use Rattle.file_writing.proofs.Bytes.{read_markings, read_caps, Small, length-arc, AllFit, read_arc, read_spare, read_arcs}

-- a net that a file of that edition can hold
pub record NetWritable (edition : ℕ) (N : Net) : Type 0 where
  pub edition_known : edition_wrong edition ≡ false
  pub edition_small_lem : edition < 256
  pub places : N.places ≤ 1024
  pub transitions : N.transitions ≤ 1024
  pub arcs : length N.arcs ≤ 4096
  pub markings : (p : ℕ) → p < N.places → N.marking p < 4294967296
  pub no_others : (p : ℕ) → N.places ≤ p → N.marking p ≡ 0
  pub caps : (p : ℕ) → p < N.places → N.cap p < 4294967296
  pub no_other_caps : (p : ℕ) → N.places ≤ p → N.cap p ≡ 0
  pub no_caps : eqb edition 2 ≡ false → Uncapped N
  pub within : WithinCaps N N.marking
  pub in_range : InRange N.places N.transitions N.arcs
  pub fit : AllFit N.arcs
  pub order : OrderedFrom 0 (map key N.arcs)

-- rows that pass refusals 6, 7 and 8
arc-right : (P T : ℕ) (a : Arc) (spare : ℕ) → ArcGood P T a → spare ≡ 0 → arc_wrong P T a spare ≡ false
arc-right P T a spare g e =
    rw (e, le-ltb 1 a.direction g.direction, lt-leb P a.place g.place, lt-leb T a.transition g.transition, ne_eqb a.weight 0 (λ z. let w = g.weight in omega arith))

pub arcs_pass : (s : List ℕ) (P T at least : ℕ) (l : List Arc) → Stands s at (arcs_bytes l) → AllFit l → InRange P T l → OrderedFrom least (map key l)
    → arcs_refusal s P T at least (length l) ≡ 0
unfolding arcs_bytes
arcs_pass s P T at least [] st fit good rise = arcs_end s P T at least 0 (omega arith)
arcs_pass s P T at least (a ∷ l) st fit good rise =
    let here = stands_left s at (arc_bytes a) (arcs_bytes l) st in
    let rest = arcs_pass s P T (at + 8) (key a) l (stands_right s at 8 (arc_bytes a) (arcs_bytes l) st (length-arc a)) fit.1 good.1 rise.1 in
    let e = read_arc s at a here fit.0 in
    arcs_on s P T at least (suc (length l)) (omega arith)
    (subst⁻¹ (λ (b : Arc). arc_wrong P T b (byte_at s (at + 3)) ≡ false) e (arc-right P T a (byte_at s (at + 3)) good.0 (read_spare s at a here fit.0)))
    (subst⁻¹ (λ (b : Arc). least ≤ key b) e rise.0)
    ∙ subst⁻¹ (λ (b : Arc). arcs_refusal s P T (at + 8) (key b) (suc (length l) - 1) ≡ 0) e (rw sub-one rest)

pub table_pass : (s : List ℕ) (at least : ℕ) (l : List ℕ) → Stands s at (origins_bytes l) → Small l → RisingFrom least l → table_refusal s at least (length l) ≡ 0
unfolding table_refusal origins_bytes
table_pass s at least [] st small rise = refl
table_pass s at least (o ∷ l) st small rise =
    let here = stands_left s at (bytes16 o) (origins_bytes l) st in
    let rest = table_pass s (at + 2) (o + 1) l (stands_right s at 2 (bytes16 o) (origins_bytes l) st (length-16 o)) small.1 rise.1 in
    rw (read_16 s at o here small.0, le-ltb o least rise.0) rest

-- what is written are bytes
pub bytes-join : (l m : List ℕ) → Bytes l → Bytes m → Bytes (l ++ m)
unfolding Bytes
bytes-join [] m bl bm i = bm i
bytes-join (x ∷ l) m bl bm zero = bl zero
bytes-join (x ∷ l) m bl bm (suc i) = bytes-join l m (λ j. bl (suc j)) bm i

bytes-none : Bytes []
unfolding Bytes
bytes-none i = omega arith

bytes-more : (x : ℕ) (l : List ℕ) → x < 256 → Bytes l → Bytes (x ∷ l)
unfolding Bytes
bytes-more x l h b zero = h
bytes-more x l h b (suc i) = b i

bytes-16 : (n : ℕ) → Bytes (bytes16 n)
unfolding bytes16
bytes-16 n = bytes-more (n % 256) _ (omega arith) (bytes-more (n / 256 % 256) [] (omega arith) bytes-none)

bytes-32 : (n : ℕ) → Bytes (bytes32 n)
unfolding bytes32
bytes-32 n = bytes-join (bytes16 n) (bytes16 (n / 65536)) (bytes-16 n) (bytes-16 (n / 65536))

bytes-place : (b : Bool) (m c : ℕ) → Bytes (place_bytes b m c)
bytes-place true m c = bytes-join (bytes32 m) (bytes32 c) (bytes-32 m) (bytes-32 c)
bytes-place false m c = bytes-32 m

pub bytes-places : (e : ℕ) (M C : ℕ → ℕ) (p n : ℕ) → Bytes (places_bytes e M C p n)
unfolding places_bytes
bytes-places e M C p zero = bytes-none
bytes-places e M C p (suc n) = bytes-join (place_bytes (eqb e 2) (M p) (C p)) (places_bytes e M C (suc p) n) (bytes-place (eqb e 2) (M p) (C p)) (bytes-places e M C (suc p) n)

pub bytes-arcs : (l : List Arc) → AllFit l → Bytes (arcs_bytes l)
unfolding arcs_bytes arc_bytes
bytes-arcs [] fit = bytes-none
bytes-arcs (a ∷ l) fit =
    let d = bytes-more a.direction (0 ∷ []) fit.0.direction (bytes-more 0 [] (omega arith) bytes-none) in
    let td = bytes-join (bytes16 a.transition) (a.direction ∷ 0 ∷ []) (bytes-16 a.transition) d in
    let tdp = bytes-join (bytes16 a.transition ++ (a.direction ∷ 0 ∷ [])) (bytes16 a.place) td (bytes-16 a.place) in
    bytes-join (arc_bytes a) (arcs_bytes l) (bytes-join (bytes16 a.transition ++ (a.direction ∷ 0 ∷ []) ++ bytes16 a.place) (bytes16 a.weight) tdp (bytes-16 a.weight)) (bytes-arcs l fit.1)

pub bytes-origins : (l : List ℕ) → Bytes (origins_bytes l)
unfolding origins_bytes
bytes-origins [] = bytes-none
bytes-origins (o ∷ l) = bytes-join (bytes16 o) (origins_bytes l) (bytes-16 o) (bytes-origins l)

-- the trailer
pub length-trailer : (k e b P T A : ℕ) → length (trailer_bytes k e b P T A) ≡ 16
unfolding trailer_bytes bytes16 bytes32
length-trailer k e b P T A = refl

pub bytes-trailer : (k e b P T A : ℕ) → k < 256 → e < 256 → Bytes (trailer_bytes k e b P T A)
unfolding trailer_bytes
bytes-trailer k e b P T A low small =
    let ends : Bytes (k ∷ e ∷ 0x42 ∷ 0x45 ∷ 0x4C ∷ 0x4C ∷ []) =
    bytes-more _ _ low (bytes-more _ _ small (bytes-more _ _ (omega arith) (bytes-more _ _ (omega arith) (bytes-more _ _ (omega arith) (bytes-more _ _ (omega arith) bytes-none))))) in
    bytes-join (bytes32 b ++ bytes16 P ++ bytes16 T ++ bytes16 A) _
    (bytes-join (bytes32 b ++ bytes16 P ++ bytes16 T) (bytes16 A) (bytes-join (bytes32 b ++ bytes16 P) (bytes16 T) (bytes-join (bytes32 b) (bytes16 P) (bytes-32 _) (bytes-16 _)) (bytes-16 _)) (bytes-16 _)) ends

-- the caps pass 16
pub caps_pass : (s : List ℕ) (at n : ℕ) → ((p : ℕ) → p < n → 0 < le32 s (at + 8 * p + 4) → le32 s (at + 8 * p) ≤ le32 s (at + 8 * p + 4)) → caps_refusal s at n ≡ 0
unfolding caps_refusal
caps_pass s at zero h = refl
caps_pass s at (suc n) h =
    let z : at + 8 * 0 ≡ at = omega arith in
    let y : (p : ℕ) → at + 8 * suc p ≡ at + 8 + 8 * p = λ p. omega arith in
    rw (cap_right (le32 s at) (le32 s (at + 4)) (subst (λ (x : ℕ). 0 < le32 s (x + 4) → le32 s x ≤ le32 s (x + 4)) z (h 0 (omega arith))))
    (caps_pass s (at + 8) n (λ p l. subst (λ (x : ℕ). 0 < le32 s (x + 4) → le32 s x ≤ le32 s (x + 4)) (y p) (h (suc p) (omega arith))))
  where
    cap_right : (m c : ℕ) → (0 < c → m ≤ c) → not (eqb c 0) && ltb c m ≡ false
    cap_right m zero k = refl
    cap_right m (suc c) k = let some : suc c ≡ 0 → ⊥ = λ z. omega arith in rw (ne_eqb (suc c) 0 some) (le-ltb (suc c) m (k (omega arith)))

-- how many bytes of the body are origins
abbrev pub origin_bytes : ℕ → Net → ℕ
origin_bytes kind N = in_slice kind (2 * N.places + 2 * N.transitions)

few_origins : (kind n : ℕ) → in_slice kind n ≤ n
few_origins zero n = omega arith
few_origins (suc k) n = omega arith

-- the parts of a file of that kind and edition stand where they belong
pub record Laid (kind ed : ℕ) (N : Net) (s : List ℕ) : Type 0 where
  pub long : length s ≡ places_length ed N.places + 8 * length N.arcs + origin_bytes kind N + 16
  pub places : Stands s 0 (places_bytes ed N.marking N.cap 0 N.places)
  pub arcs : Stands s (places_length ed N.places) (arcs_bytes N.arcs)
  pub trailer : Stands s (length s - 16) (trailer_bytes kind ed (places_length ed N.places + 8 * length N.arcs + origin_bytes kind N) N.places N.transitions (length N.arcs))

module _ (kind ed : ℕ) (N : Net) (w : NetWritable ed N) (s : List ℕ) (laid : Laid kind ed N s) where
  abbrev P : ℕ
  P = N.places

  abbrev T : ℕ
  T = N.transitions

  abbrev A : ℕ
  A = length N.arcs

  -- the bytes of the places
  abbrev L : ℕ
  L = places_length ed P

  abbrev body : ℕ
  body = L + 8 * A + origin_bytes kind N

  body-most : body ≤ 45056
  body-most = let p = w.places in let t = w.transitions in let a = w.arcs in omega (arith, places_most ed P, few_origins kind (2 * P + 2 * T))

  -- the trailer and the header
  abbrev tail : Trailer
  tail = record { body = body; places = P; transitions = T; arcs = A; kind = kind; edition = ed; letters = 0x4C4C4542 }

  abbrev head : Header
  head = record { places = P; transitions = T; arcs = A; kind = kind; edition = ed; markstart = 0; arcstart = L; originstart = L + 8 * A }

  abbrev ends : List ℕ
  ends = kind ∷ ed ∷ 0x42 ∷ 0x45 ∷ 0x4C ∷ 0x4C ∷ []

  letters_read : (at : ℕ) → Stands s at ends → (byte_at s at ≡ kind) × (byte_at s (at + 1) ≡ ed) × (le32 s (at + 2) ≡ 0x4C4C4542)
  unfolding le32 le16 Stands
  letters_read at st =
      let k : at + 0 ≡ at = omega arith in
      let a = st 2 (omega arith) in
      let b = st 3 (omega arith) in
      let c = st 4 (omega arith) in
      let d = st 5 (omega arith) in
      let b' : at + 2 + 1 ≡ at + 3 = omega arith in
      let c' : at + 2 + 2 ≡ at + 4 = omega arith in
      let d' : at + 4 + 1 ≡ at + 5 = omega arith in
      (rw k at (st 0 (omega arith)), st 1 (omega arith), rw (b', c', d', a, b, c, d) refl)

  trailer_is : trailer_of s ≡ tail
  unfolding trailer_of trailer_bytes bytes16 bytes32
  trailer_is =
      let at = length s - 16 in
      let p = w.places in
      let t = w.transitions in
      let a = w.arcs in
      let B = bytes32 body in
      let to-a = stands_left s at (B ++ bytes16 P ++ bytes16 T ++ bytes16 A) ends laid.trailer in
      let to-t = stands_left s at (B ++ bytes16 P ++ bytes16 T) (bytes16 A) to-a in
      let to-p = stands_left s at (B ++ bytes16 P) (bytes16 T) to-t in
      let to-b = stands_left s at B (bytes16 P) to-p in
      let b≡ = read_32 s at body to-b (omega (arith, body-most)) in
      let p≡ = read_16 s (at + 4) P (stands_right s at 4 B (bytes16 P) to-p refl) (omega arith) in
      let t≡ = read_16 s (at + 6) T (stands_right s at 6 (B ++ bytes16 P) (bytes16 T) to-t refl) (omega arith) in
      let a≡ = read_16 s (at + 8) A (stands_right s at 8 (B ++ bytes16 P ++ bytes16 T) (bytes16 A) to-a refl) (omega arith) in
      let z = letters_read (at + 10) (stands_right s at 10 (B ++ bytes16 P ++ bytes16 T ++ bytes16 A) ends laid.trailer refl) in
      let k : at + 10 + 1 ≡ at + 11 = omega arith in
      let l : at + 10 + 2 ≡ at + 12 = omega arith in
      let e≡ = rw k at z.1 in
      let l≡ = rw l at z.2 in
      λ i. record { body = b≡ i; places = p≡ i; transitions = t≡ i; arcs = a≡ i; kind = z.0 i; edition = e≡ i; letters = l≡ i }

  pub header_is : header_of s ≡ head
  unfolding header_of
  header_is =
      let m≡ : length s - 16 - body ≡ 0 = omega (arith, laid.long) in
      ap (header_from (length s)) trailer_is
      ∙ (λ i. record { places = P; transitions = T; arcs = A; kind = kind; edition = ed; markstart = m≡ i; arcstart = (ap (λ x. x + L) m≡ ∙ zero-add (L)) i; originstart = (ap (λ x. x + L + 8 * A) m≡ ∙ ap (λ x. x + 8 * A) (zero-add (L))) i })

  marking_read : (p : ℕ) → p < P → le32 s (0 + places_length ed p) ≡ N.marking p
  marking_read p h = read_markings ed s N.marking N.cap 0 0 P laid.places (λ q l. w.markings q (omega arith)) p h ∙ ap N.marking (zero-add p)

  cap_read : (p : ℕ) → p < P → pick (eqb ed 2) (le32 s (0 + 8 * p + 4)) 0 ≡ N.cap p
  unfolding Uncapped
  cap_read p h = read_caps ed s N.marking N.cap 0 0 P laid.places (λ q l. w.caps q (omega arith)) w.no_caps p h ∙ ap N.cap (zero-add p)

  -- what is read is what was written
  pub net-back : net_from s head ≡ N
  net-back =
      let m≡ = below-is P (marking_at s head) N.marking marking_read w.no_others in
      let c≡ = below-is P (cap_at s head) N.cap cap_read w.no_other_caps in
      let a≡ = read_arcs s L N.arcs laid.arcs w.fit in
      λ i. record { places = P; transitions = T; marking = m≡ i; cap = c≡ i; arcs = a≡ i }

  -- and reading it is not refused
  length-right : length_wrong (length s) ≡ false
  length-right =
      let n = laid.long in
      let b = body-most in
      rw (le-ltb (length s) 16 (omega arith), le-ltb 65536 (length s) (omega arith))

  body-right : body_wrong (length s) tail ≡ false
  body-right = let n = laid.long in rw (eq-eqb body body refl, le-ltb (length s - 16) body (omega arith))

  caps_right : (b : Bool) → b ≡ eqb ed 2 → pick b (caps_refusal s 0 P) 0 ≡ 0
  unfolding WithinCaps capped
  caps_right false e = refl
  caps_right true e = caps_pass s 0 P (λ p l some.
      let m : le32 s (0 + 8 * p) ≡ N.marking p = ap (λ (b : Bool). le32 s (0 + pick b (8 * p) (4 * p))) e ∙ marking_read p l in
      let c : le32 s (0 + 8 * p + 4) ≡ N.cap p = ap (λ (b : Bool). pick b (le32 s (0 + 8 * p + 4)) 0) e ∙ cap_read p l in
      omega (arith, m, c, w.within p l (holds (ltb 0 (N.cap p)) (lt-ltb 0 (N.cap p) (omega (arith, c))))))

  module _ (due : Due) (kind_due : kind_wrong due kind ≡ false) (counts_right : counts_wrong tail ≡ false) (origins : origins_refusal s head ≡ 0) where
    trailer_right : trailer_refusal due (length s) tail ≡ 0
    unfolding trailer_refusal
    trailer_right = rw (w.edition_known, kind_due, counts_right, body-right)

    body-passes : body_refusal s head ≡ 0
    unfolding body_refusal links_refusal
    body-passes = rw (caps_right (eqb ed 2) refl, arcs_pass s P T L 0 N.arcs laid.arcs w.fit w.in_range w.order) origins

    pub passes : file_refusal due s ≡ 0
    unfolding file_refusal
    passes = rw (length-right, trailer_is, header_is, trailer_right) body-passes
