-- The file in which a start stands for the markings: it can be read, and nothing but the marking is another.
use Prim.Native.Nat.{ℕ, zero, suc, ◌+◌, ◌-◌, ◌*◌, ◌≤◌, ◌<◌}
use mathlib.Core.Bool.{Bool, true, false, not}
use mathlib.Core.List.{List, ◌∷◌, ◌++◌}
use mathlib.Core.Path.{◌≡◌, refl, sym, ap, subst, subst⁻¹, ◌∙◌}
use native.Mathlib.Omega.{arith}
use native.Mathlib.Nat.{zero-add}
use lib.ListN.{length, take, drop, length-append, length-take, length-drop, get_or-append, get_or-eq_default}
use lib.Seq.{ext_get_or, get_or-take, get_or-drop, get_or-append-add}
use lib.Dec.{eqb, ltb}
use borrow.Author.Tests.{ltb-true, ltb-false, lt-ltb, le-ltb, eqb-true, eq-eqb, ne_eqb, not-false}
use Rattle.net.specs.Numbers.{any, selected}
use Rattle.net.specs.Net.{Net, capped, WithinCaps}
use Rattle.net.specs.declared.Arc.{Arc}
use Rattle.net.proofs.Numbers.{by_cases, holds, fails, is_true, is_false, any-has, any-finds, below-has, below-passes}
use Rattle.net.proofs.Markings.{below_at, below-off, below-is, length-tokens, get_d_tokens}
use Rattle.file_words.specs.Word.{byte_at, le16, le32, bytes16, bytes32, Bytes}
use Rattle.file_words.specs.Refusal.{refuse, or_else, over_cap, table_refusal, caps_refusal}
use Rattle.file_words.proofs.Laws.{refuse-0, or_else_0, or-false}
use Rattle.file_words.proofs.Bytes.{Stands, stands_all, stands_left, stands_right, stands_at, length-32}
use Rattle.file_arcs.specs.Layout.{arc_at, arcs_from}
use Rattle.file_arcs.specs.Refusal.{key, arc_wrong, arcs_refusal}
use Rattle.file_header.specs.Layout.{pick, places_length, in_slice, trailer_of, header_from, header_of}
use Rattle.file_header.specs.Refusal.{trailer_refusal}
use Rattle.file_header.specs.declared.Due.{Due}
use Rattle.file_header.specs.declared.Header.{Header}
use Rattle.file.specs.Layout.{marking_at, cap_at, net_from, net_of}
use Rattle.file.specs.Refusal.{length_wrong, origins_refusal, links_refusal, body_refusal, file_refusal}
use Rattle.file.specs.Facts.{Sound, Opened}
use Rattle.file.proofs.Opening.{sound, kind_due}
use Rattle.file.proofs.Caps.{no_cap_by, cap_at_lem, marking_lt, cap_lt}
use Rattle.file_writing.specs.Writing.{place_bytes, places_bytes}
use Rattle.file_writing.proofs.Bytes.{pick_next, length-place, length-places, read_markings, read_caps}
use Rattle.file_writing.proofs.Parts.{bytes-join, bytes-places, caps_pass}
use Rattle.promise.specs.Together.{standing}
use Rattle.promise.specs.Starts.{starting_at, started_from, started, too_many, overfull, start_refusal, own_start}

-- two byte strings that agree from a on
module _ (s s' : List ℕ) (a : ℕ) (same : (i : ℕ) → a ≤ i → byte_at s' i ≡ byte_at s i) where
  same_16 : (i : ℕ) → a ≤ i → le16 s' i ≡ le16 s i
  unfolding le16
  same_16 i l = rw (same i l, same (i + 1) (omega arith))

  same_32 : (i : ℕ) → a ≤ i → le32 s' i ≡ le32 s i
  unfolding le32
  same_32 i l = rw (same_16 i l, same_16 (i + 2) (omega arith))

  same_arc_lem : (i : ℕ) → a ≤ i → arc_at s' i ≡ arc_at s i
  same_arc_lem i l =
      let t = same_16 i l in
      let d = same (i + 2) (omega arith) in
      let p = same_16 (i + 4) (omega arith) in
      let w = same_16 (i + 6) (omega arith) in
      λ x. record { transition = t x; direction = d x; place = p x; weight = w x }

  same_arcs_lem : (i n : ℕ) → a ≤ i → arcs_from s' i n ≡ arcs_from s i n
  unfolding arcs_from
  same_arcs_lem i zero l = refl
  same_arcs_lem i (suc n) l = let h = same_arc_lem i l in let t = same_arcs_lem (i + 8) n (omega arith) in λ x. h x ∷ t x

  same_arcs_refusal : (P T' i least n : ℕ) → a ≤ i → arcs_refusal s' P T' i least n ≡ arcs_refusal s P T' i least n
  unfolding arcs_refusal
  same_arcs_refusal P T' i least zero l = refl
  same_arcs_refusal P T' i least (suc n) l =
      let h = same_arc_lem i l in
      let z = same (i + 3) (omega arith) in
      let r = ap (λ (b : Arc). arcs_refusal s' P T' (i + 8) (key b) n) h ∙ same_arcs_refusal P T' (i + 8) (key (arc_at s i)) n (omega arith) in
      λ x. refuse (arc_wrong P T' (h x) (z x)) 6 (refuse (ltb (key (h x)) least) 7 (r x))

  same_table_refusal : (i least n : ℕ) → a ≤ i → table_refusal s' i least n ≡ table_refusal s i least n
  unfolding table_refusal
  same_table_refusal i least zero l = refl
  same_table_refusal i least (suc n) l =
      let h = same_16 i l in
      let r = ap (λ (b : ℕ). table_refusal s' (i + 2) (b + 1) n) h ∙ same_table_refusal (i + 2) (le16 s i + 1) n (omega arith) in
      λ x. refuse (ltb (h x) least) 8 (r x)

  same_trailer : length s' ≡ length s → a ≤ length s - 16 → trailer_of s' ≡ trailer_of s
  unfolding trailer_of
  same_trailer e l =
      let at = length s - 16 in
      rw e (
      let b = same_32 at l in
      let p = same_16 (at + 4) (omega arith) in
      let t = same_16 (at + 6) (omega arith) in
      let n = same_16 (at + 8) (omega arith) in
      let k = same (at + 10) (omega arith) in
      let d = same (at + 11) (omega arith) in
      let w = same_32 (at + 12) (omega arith) in
      λ x. record { body = b x; places = p x; transitions = t x; arcs = n x; kind = k x; edition = d x; letters = w x })

-- bytes that stand one after the other
stands_join : (s : List ℕ) (at : ℕ) (l m : List ℕ) → Stands s at l → Stands s (at + length l) m → Stands s at (l ++ m)
unfolding Stands
stands_join s at l m sl sm k h = by_cases (ltb k (length l))
    (λ e. sl k (ltb-true k (length l) e) ∙ sym (get_or-append l m 0 k (ltb-true k (length l) e)))
    (λ e.
    let j = k - length l in
    let past = ltb-false k (length l) e in
    let k≡ : k ≡ length l + j = omega (arith, past) in
    let i≡ : at + k ≡ at + length l + j = omega (arith, past) in
    ap (byte_at s) i≡ ∙ sm j (omega (arith, past, length-append l m)) ∙ sym (get_or-append-add l m j 0) ∙ ap (byte_at (l ++ m)) (sym k≡))

-- the bytes of a number that is read
stands_32 : (s : List ℕ) → Bytes s → (at : ℕ) → Stands s at (bytes32 (le32 s at))
unfolding Stands Bytes bytes32 bytes16 le32 le16
stands_32 s b at zero h = let z : at + 0 ≡ at = omega arith in ap (byte_at s) z ∙ omega (arith, b at, b (at + 1), b (at + 2), b (at + 2 + 1))
stands_32 s b at (suc zero) h = omega (arith, b at, b (at + 1), b (at + 2), b (at + 2 + 1))
stands_32 s b at (suc (suc zero)) h = omega (arith, b at, b (at + 1), b (at + 2), b (at + 2 + 1))
stands_32 s b at (suc (suc (suc zero))) h = let z : at + 3 ≡ at + 2 + 1 = omega arith in ap (byte_at s) z ∙ omega (arith, b at, b (at + 1), b (at + 2), b (at + 2 + 1))
stands_32 s b at (suc (suc (suc (suc k)))) h = absurd (omega arith)

-- the places of a file that is a byte string are the bytes of their markings and caps
module _ (s : List ℕ) (b : Bytes s) where
  stands_place : (two : Bool) (at : ℕ) → Stands s at (place_bytes two (le32 s at) (le32 s (at + 4)))
  stands_place true at = stands_join s at _ _ (stands_32 s b at) (stands_at s _ (stands_32 s b (at + 4)) (omega (arith, length-32 (le32 s at))))
  stands_place false at = stands_32 s b at

  module _ (ed base : ℕ) (M C : ℕ → ℕ) where
    first-stands : (two : Bool) (at p : ℕ) → M p ≡ le32 s at → (two ≡ true → C p ≡ le32 s (at + 4)) → Stands s at (place_bytes two (M p) (C p))
    first-stands true at p m c =
        let c≡ = c refl in
        subst⁻¹ (λ (x : ℕ). Stands s at (place_bytes true x (C p))) m (subst⁻¹ (λ (x : ℕ). Stands s at (place_bytes true (le32 s at) x)) c≡ (stands_place true at))
    first-stands false at p m c = subst⁻¹ (λ (x : ℕ). Stands s at (bytes32 x)) m (stands_place false at)

    cap_offset : (q : ℕ) → eqb ed 2 ≡ true → base + places_length ed q + 4 ≡ base + 8 * q + 4
    cap_offset q two = rw two

    stands_places : (p n : ℕ) → ((q : ℕ) → q < p + n → M q ≡ le32 s (base + places_length ed q)) → (eqb ed 2 ≡ true → (q : ℕ) → q < p + n → C q ≡ le32 s (base + 8 * q + 4))
        → Stands s (base + places_length ed p) (places_bytes ed M C p n)
    unfolding places_bytes Stands
    stands_places p zero m c = λ k l. absurd (omega arith)
    stands_places p (suc n) m c =
        let here = first-stands (eqb ed 2) (base + places_length ed p) p (m p (omega arith)) (λ two. c two p (omega arith) ∙ ap (le32 s) (sym (cap_offset p two))) in
        let rest = stands_places (suc p) n (λ q l. m q (omega arith)) (λ two q l. c two q (omega arith)) in
        stands_join s (base + places_length ed p) (place_bytes (eqb ed 2) (M p) (C p)) (places_bytes ed M C (suc p) n) here
        (stands_at s (places_bytes ed M C (suc p) n) rest (omega (arith, length-place (eqb ed 2) (M p) (C p), pick_next (eqb ed 2) p)))

-- a file that was read, with another marking in the places of its markings
module _ (d : Due) (s : List ℕ) (bytes : Bytes s) (e : file_refusal d s ≡ 0) (M : ℕ → ℕ) where
  abbrev h : Header
  h = header_of s

  abbrev Ms : List ℕ
  Ms = places_bytes h.edition M (net_from s h).cap 0 h.places

  abbrev s' : List ℕ
  s' = take h.markstart s ++ Ms ++ drop h.arcstart s

  sound_file : Sound s h
  sound_file = sound d s e

  length_before : length (take h.markstart s) ≡ h.markstart
  length_before = let p = sound_file.placed in omega (arith, length-take h.markstart s, p.markings_fit, p.arcs_fit, p.origins_fit)

  length_both : length (take h.markstart s ++ Ms) ≡ h.arcstart
  length_both = let p = sound_file.placed in omega (arith, length-append (take h.markstart s) Ms, length_before, length-places h.edition M (net_from s h).cap 0 h.places, p.markings_fit)

  same_length : length s' ≡ length s
  same_length =
      let p = sound_file.placed in
      omega (arith, length-append (take h.markstart s ++ Ms) (drop h.arcstart s), length_both, length-drop h.arcstart s, p.arcs_fit, p.origins_fit)

  -- the places stand where they stood
  at_places : Stands s' h.markstart Ms
  at_places = stands_at s' Ms (stands_right s' 0 h.markstart (take h.markstart s) Ms (stands_left s' 0 (take h.markstart s ++ Ms) (drop h.arcstart s) (stands_all s')) length_before) (zero-add _)

  -- and the bytes after them are the same
  after_same : (i : ℕ) → h.arcstart ≤ i → byte_at s' i ≡ byte_at s i
  after_same i l =
      let j = i - h.arcstart in
      let i≡ : i ≡ length (take h.markstart s ++ Ms) + j = omega (arith, length_both) in
      let j≡ : h.arcstart + j ≡ i = omega arith in
      ap (byte_at s') i≡ ∙ get_or-append-add (take h.markstart s ++ Ms) (drop h.arcstart s) j 0 ∙ get_or-drop h.arcstart s j 0 ∙ ap (byte_at s) j≡

  before_same : (i : ℕ) → i < h.markstart → byte_at s' i ≡ byte_at s i
  before_same i l =
      let p = sound_file.placed in
      get_or-append (take h.markstart s ++ Ms) (drop h.arcstart s) 0 i (omega (arith, length_both, p.markings_fit))
      ∙ get_or-append (take h.markstart s) Ms 0 i (omega (arith, length_before))
      ∙ get_or-take h.markstart s i 0 l

  fits : (h.arcstart ≤ length s - 16) × (h.arcstart ≤ h.originstart)
  fits = let p = sound_file.placed in (omega (arith, p.arcs_fit, p.origins_fit), omega (arith, p.arcs_fit))

  trailer_same : trailer_of s' ≡ trailer_of s
  trailer_same = same_trailer s s' h.arcstart after_same same_length fits.0

  header_same : header_of s' ≡ h
  unfolding header_of
  header_same = let n = same_length in let t = trailer_same in λ i. header_from (n i) (t i)

  links_same : links_refusal s' h ≡ links_refusal s h
  unfolding links_refusal origins_refusal
  links_same =
      let a = same_arcs_refusal s s' h.arcstart after_same h.places h.transitions h.arcstart 0 h.arcs (omega arith) in
      let p = same_table_refusal s s' h.arcstart after_same h.originstart 0 h.places fits.1 in
      let t = same_table_refusal s s' h.arcstart after_same (h.originstart + 2 * h.places) 0 h.transitions (omega (arith, fits.1)) in
      λ i. or_else (a i) (in_slice h.kind (or_else (p i) (t i)))

  byte_lt : (i : ℕ) → byte_at s i < 256
  unfolding Bytes
  byte_lt i = bytes i

  bytes-before : Bytes (take h.markstart s)
  unfolding Bytes
  bytes-before i = by_cases (ltb i h.markstart)
      (λ l. omega (arith, get_or-take h.markstart s i 0 (ltb-true i h.markstart l), byte_lt i))
      (λ l. omega (arith, get_or-eq_default (take h.markstart s) 0 {n = i} (omega (arith, length_before, ltb-false i h.markstart l))))

  bytes_after : Bytes (drop h.arcstart s)
  unfolding Bytes
  bytes_after i = omega (arith, get_or-drop h.arcstart s i 0, byte_lt (h.arcstart + i))

  bytes_same : Bytes s'
  bytes_same =
      bytes-join (take h.markstart s ++ Ms) (drop h.arcstart s)
      (bytes-join (take h.markstart s) Ms bytes-before (bytes-places h.edition M (net_from s h).cap 0 h.places)) bytes_after

  -- a marking that a file can hold, within the caps
  module _ (small : (p : ℕ) → p < h.places → M p < 4294967296) (within : (p : ℕ) → p < h.places → 0 < (net_from s h).cap p → M p ≤ (net_from s h).cap p)
      (none : (p : ℕ) → h.places ≤ p → M p ≡ 0) where
    no_cap : eqb h.edition 2 ≡ false → (q : ℕ) → (net_from s h).cap q ≡ 0
    no_cap f = no_cap_by s h f

    marking_read : (p : ℕ) → p < h.places → marking_at s' h p ≡ M p
    marking_read p l = read_markings h.edition s' M (net_from s h).cap h.markstart 0 h.places at_places (λ q k. small q (omega arith)) p l ∙ ap M (zero-add p)

    cap_read : (p : ℕ) → p < h.places → cap_at s' h p ≡ (net_from s h).cap p
    cap_read p l = read_caps h.edition s' M (net_from s h).cap h.markstart 0 h.places at_places (λ q k. cap_lt s bytes h q) no_cap p l ∙ ap (net_from s h).cap (zero-add p)

    net-same : net_from s' h ≡ starting_at M (net_from s h)
    net-same =
        let m = below-is h.places (marking_at s' h) M marking_read none in
        let c = below-is h.places (cap_at s' h) (net_from s h).cap cap_read (below-off h.places (cap_at s h)) in
        let a = same_arcs_lem s s' h.arcstart after_same h.arcstart h.arcs (omega arith) in
        λ i. record { places = h.places; transitions = h.transitions; marking = m i; cap = c i; arcs = a i }

    -- the caps pass 16
    cap_at_two : eqb h.edition 2 ≡ true → (p : ℕ) → cap_at s' h p ≡ le32 s' (h.markstart + 8 * p + 4)
    cap_at_two two p = rw two

    marking_at_two : eqb h.edition 2 ≡ true → (p : ℕ) → marking_at s' h p ≡ le32 s' (h.markstart + 8 * p)
    marking_at_two two p = rw two

    caps_by : (two : Bool) → eqb h.edition 2 ≡ two → pick two (caps_refusal s' h.markstart h.places) 0 ≡ 0
    caps_by false f = refl
    caps_by true two = caps_pass s' h.markstart h.places (λ p l some.
        let m = marking_at_two two p in
        let c = cap_at_two two p in
        let c' = cap_read p l in
        omega (arith, m, c, c', marking_read p l, within p l (omega (arith, c, c'))))

    caps_right : pick (eqb h.edition 2) (caps_refusal s' h.markstart h.places) 0 ≡ 0
    caps_right = caps_by (eqb h.edition 2) refl

    readable : (d' : Due) → file_refusal d' s ≡ 0 → file_refusal d' s' ≡ 0
    unfolding file_refusal body_refusal
    readable d' r =
        let l = refuse-0 (length_wrong (length s)) 0 _ r in
        let t = or_else_0 (trailer_refusal d' (length s) (trailer_of s)) _ l.1 in
        let c = or_else_0 (pick (eqb h.edition 2) (caps_refusal s h.markstart h.places) 0) (links_refusal s h) t.1 in
        rw (same_length, trailer_same, header_same, l.0, t.0, caps_right) (links_same ∙ c.1)

  -- with its own marking it is the same file
  own_same : ((p : ℕ) → p < h.places → M p ≡ marking_at s h p) → s' ≡ s
  unfolding Stands
  own_same own = ext_get_or 0 s' s same_length (λ i l. by_cases (ltb i h.markstart)
      (λ k. before_same i (ltb-true i h.markstart k))
      (λ k. by_cases (ltb i h.arcstart)
      (λ n.
      let p = sound_file.placed in
      let past = ltb-false i h.markstart k in
      let i≡ : h.markstart + (i - h.markstart) ≡ i = omega (arith, past) in
      let inside : i - h.markstart < length Ms = omega (arith, ltb-true i h.arcstart n, past, p.markings_fit, length-places h.edition M (net_from s h).cap 0 h.places) in
      ap (byte_at s') (sym i≡) ∙ at_places (i - h.markstart) inside ∙ sym (own-stands own (i - h.markstart) inside) ∙ ap (byte_at s) i≡)
      (λ n. after_same i (ltb-false i h.arcstart n))))
    where
      at_first : (two : Bool) → h.markstart + pick two (8 * 0) (4 * 0) ≡ h.markstart
      at_first true = omega arith
      at_first false = omega arith

      own-stands : ((p : ℕ) → p < h.places → M p ≡ marking_at s h p) → (k : ℕ) → k < length Ms → byte_at s (h.markstart + k) ≡ byte_at Ms k
      own-stands own = stands_at s Ms (stands_places s bytes h.edition h.markstart M (net_from s h).cap 0 h.places (λ q l. own q (omega arith)) (λ two q l. cap_at_lem s h two q (omega arith))) (at_first (eqb h.edition 2))

-- what 22 and 24 let pass
tokens-fit : (m c : ℕ) → too_many m c ≡ false → (m < 4294967296) × (0 < c → m ≤ c)
tokens-fit m c f =
    let x = or-false (ltb 4294967295 m) (over_cap m c) f in
    (omega (arith, ltb-false 4294967295 m x.0), λ some. ltb-false c m (rw (ne_eqb c 0 (λ z. omega (arith, z))) at x.1))

-- no place of a net has too many, each by itself
module _ (N : Net) (M : ℕ → ℕ) where
  pub none_over : overfull N M ≡ false → (p : ℕ) → p < N.places → too_many (M p) (N.cap p) ≡ false
  unfolding overfull
  none_over f p l = is_false (too_many (M p) (N.cap p)) (λ k.
      fails _ f (any-has (λ q. too_many (M q) (N.cap q)) (selected (λ q. true) 0 N.places) p (below-has (λ q. true) N.places p l tt) k))

  pub over_some : (p : ℕ) → p < N.places → too_many (M p) (N.cap p) ≡ true → overfull N M ≡ true
  unfolding overfull
  over_some p l k =
      is_true _ (any-has (λ q. too_many (M q) (N.cap q)) (selected (λ q. true) 0 N.places) p (below-has (λ q. true) N.places p l tt) (holds (too_many (M p) (N.cap p)) k))

  over_at : overfull N M ≡ true → (p : ℕ) × (p < N.places) × (too_many (M p) (N.cap p) ≡ true)
  unfolding overfull
  over_at t =
      let x = any-finds (λ q. too_many (M q) (N.cap q)) (selected (λ q. true) 0 N.places) (holds _ t) in
      (x.0, (below-passes (λ q. true) N.places x.0 x.1).0, is_true _ x.2)

  pub over_none : ((p : ℕ) → p < N.places → too_many (M p) (N.cap p) ≡ false) → overfull N M ≡ false
  unfolding overfull
  over_none f = is_false (any (λ q. too_many (M q) (N.cap q)) (selected (λ q. true) 0 N.places)) (λ t.
      let x = any-finds (λ q. too_many (M q) (N.cap q)) (selected (λ q. true) 0 N.places) t in
      fails _ (f x.0 (below-passes (λ q. true) N.places x.0 x.1).0) x.2)

-- by another name of the marking
pub over_same : (N : Net) (M M' : ℕ → ℕ) → ((p : ℕ) → p < N.places → M p ≡ M' p) → overfull N M ≡ overfull N M'
over_same N M M' same = by_cases (overfull N M')
    (λ t. let x = over_at N M' t in over_some N M x.0 x.1 (ap (λ (m : ℕ). too_many m (N.cap x.0)) (same x.0 x.1) ∙ x.2) ∙ sym t)
    (λ f. over_none N M (λ p l. ap (λ (m : ℕ). too_many m (N.cap p)) (same p l) ∙ none_over N M' f p l) ∙ sym f)

module _ (N : Net) (start : List ℕ) (ok : start_refusal N start ≡ 0) where
  pub start_length : length start ≡ N.places
  unfolding start_refusal
  start_length = eqb-true (length start) N.places (not-false _ (refuse-0 _ 21 (refuse (overfull N (standing start)) 24 0) ok).0)

  pub start_fits : (p : ℕ) → p < N.places → (standing start p < 4294967296) × (0 < N.cap p → standing start p ≤ N.cap p)
  unfolding start_refusal
  start_fits p l =
      let full = (refuse-0 (not (eqb (length start) N.places)) 21 (refuse (overfull N (standing start)) 24 0) ok).1 in
      tokens-fit (standing start p) (N.cap p) (none_over N (standing start) (refuse-0 (overfull N (standing start)) 23 0 full).0 p l)

  pub start_none : (p : ℕ) → N.places ≤ p → standing start p ≡ 0
  start_none p l = get_or-eq_default start 0 {n = p} (omega (arith, start_length))

-- a file that was read and a start that is not refused
module _ (d : Due) (s : List ℕ) (bytes : Bytes s) (e : file_refusal d s ≡ 0) (start : List ℕ) (ok : start_refusal (net_of s) start ≡ 0) where
  small_start : (p : ℕ) → p < (header_of s).places → standing start p < 4294967296
  small_start p l = (start_fits (net_of s) start ok p l).0

  within_start : (p : ℕ) → p < (header_of s).places → 0 < (net_of s).cap p → standing start p ≤ (net_of s).cap p
  within_start p l = (start_fits (net_of s) start ok p l).1

  pub started-header : header_of (started s start) ≡ header_of s
  unfolding started_from
  started-header = header_same d s bytes e (standing start)

  pub started-bytes : Bytes (started s start)
  unfolding started_from
  started-bytes = bytes_same d s bytes e (standing start)

  pub started-readable : (d' : Due) → file_refusal d' s ≡ 0 → file_refusal d' (started s start) ≡ 0
  unfolding started_from
  started-readable = readable d s bytes e (standing start) small_start within_start (start_none (net_of s) start ok)

  pub started-sound : Sound (started s start) (header_of s)
  started-sound = subst (λ (g : Header). Sound (started s start) g) started-header (sound d (started s start) (started-readable d e))

  pub started-from : net_from (started s start) (header_of s) ≡ starting_at (standing start) (net_of s)
  unfolding started_from
  started-from = net-same d s bytes e (standing start) small_start within_start (start_none (net_of s) start ok)

  pub started-net : net_of (started s start) ≡ starting_at (standing start) (net_of s)
  started-net = ap (net_from (started s start)) started-header ∙ started-from

-- the file's own marking is a start, and the file with it is the file
module _ (d : Due) (s : List ℕ) (bytes : Bytes s) (e : file_refusal d s ≡ 0) where
  own-entry : (p : ℕ) → p < (net_of s).places → standing (own_start s) p ≡ (net_of s).marking p
  own-entry p l = get_d_tokens (net_of s) (net_of s).marking p l

  own-fits : (p : ℕ) → p < (net_of s).places → too_many (standing (own_start s) p) ((net_of s).cap p) ≡ false
  unfolding WithinCaps capped
  own-fits p l =
      let m = own-entry p l in
      let small = marking_lt s bytes (header_of s) p in
      by_cases (eqb ((net_of s).cap p) 0)
      (λ z. rw (le-ltb 4294967295 (standing (own_start s) p) (omega (arith, m, small)), z))
      (λ z.
      let some : 0 < (net_of s).cap p = omega (arith, borrowed ((net_of s).cap p) z) in
      let in_cap = (sound d s e).caps p l (holds (ltb 0 ((net_of s).cap p)) (lt-ltb 0 ((net_of s).cap p) some)) in
      rw (le-ltb 4294967295 (standing (own_start s) p) (omega (arith, m, small)), z, le-ltb ((net_of s).cap p) (standing (own_start s) p) (omega (arith, m, in_cap))))
    where
      borrowed : (c : ℕ) → eqb c 0 ≡ false → 0 < c
      borrowed zero z = let y : ◌≡◌ {A = ℕ} 0 1 = cc in absurd (omega (arith, y))
      borrowed (suc c) z = omega arith

  pub own-passes : start_refusal (net_of s) (own_start s) ≡ 0
  unfolding start_refusal
  own-passes =
      rw (
        eq-eqb (length (own_start s)) (net_of s).places (length-tokens (net_of s) (net_of s).marking),
        over_none (net_of s) (standing (own_start s)) own-fits,
      )

  pub own-started : started s (own_start s) ≡ s
  unfolding started_from
  own-started = own_same d s bytes e (standing (own_start s)) (λ p l. own-entry p l ∙ below_at (header_of s).places (marking_at s (header_of s)) p l)

-- for a caller who has read the file: the file from the start has its header
pub started-opened : (d : Due) (s : List ℕ) (h : Header) (start : List ℕ) → Bytes s → Opened d s h → start_refusal (net_from s h) start ≡ 0 → Opened d (started_from s h start) h
started-opened d s h start b o ok =
    subst⁻¹ (λ (g : Header). start_refusal (net_from s g) start ≡ 0 → Opened d (started_from s g start) g) o.same (λ ok'. record {
      same = sym (started-header d s b o.read start ok');
      read = started-readable d s b o.read start ok' d o.read;
      kind = kind_due d s o.read;
      good = started-sound d s b o.read start ok';
    }) ok
