-- A slice that is written reads back as it was: reading its bytes is not refused, and gives the slice.
use Prim.Native.Nat.{ℕ, ◌+◌, ◌-◌, ◌*◌, ◌≤◌}
use mathlib.Core.Path.{◌≡◌, refl, sym, ap, subst, ◌∙◌}
use mathlib.Core.Bool.{and-false, false, ◌&&◌}
use mathlib.Core.List.{List, ◌++◌}
use native.Mathlib.Omega.{arith}
use native.Mathlib.Nat.{zero-add}
use lib.ListN.{length, length-append}
use lib.Dec.{eqb}
use borrow.Author.Tests.{le-ltb}
use Rattle.net.specs.Slice.{Slice}
use Rattle.file_words.specs.Word.{Bytes}
use Rattle.file_header.specs.Layout.{places_length, header_of}
use Rattle.file.specs.Layout.{words_from, slice_from, slice_of}
use Rattle.file_words.specs.Refusal.{table_refusal}
use Rattle.file_header.specs.Refusal.{counts_wrong}
use Rattle.file.specs.Refusal.{origins_refusal, file_refusal}
use Rattle.file.specs.Facts.{RisingFrom}
use Rattle.file_writing.specs.Writing.{places_bytes, arcs_bytes, origins_bytes, slice_body, trailer_bytes, slice_bytes}
use Rattle.file_header.specs.declared.Due.TheVariants as due
use Rattle.file_header.specs.declared.Header.{Header}
use Rattle.file_header.proofs.Laws.{places_most}
use Rattle.file_words.proofs.Bytes.{Stands, stands_all, stands_left, stands_right, stands_at}
use Rattle.file_writing.proofs.Bytes.{length-places, length-origins, Small, read_origins, length-arcs}
use Rattle.file_writing.proofs.Parts.{NetWritable, Laid, length-trailer, table_pass, bytes-join, bytes-places, bytes-arcs, bytes-origins, bytes-trailer, header_is, net-back, passes}

-- a slice that a file of that edition can hold
pub record Writable (edition : ℕ) (S : Slice) : Type 0 where
  pub net : NetWritable edition S.net
  pub place_count : length S.place_origins ≡ S.net.places
  pub transition_count : length S.transition_origins ≡ S.net.transitions
  pub places_rise : RisingFrom 0 S.place_origins
  pub places_small : Small S.place_origins
  pub transitions_rise : RisingFrom 0 S.transition_origins
  pub transitions_small : Small S.transition_origins

module _ (ed : ℕ) (S : Slice) (w : Writable ed S) where
  abbrev P : ℕ
  P = S.net.places

  abbrev T : ℕ
  T = S.net.transitions

  abbrev A : ℕ
  A = length S.net.arcs

  -- the bytes of the places
  abbrev L : ℕ
  L = places_length ed P

  abbrev s : List ℕ
  s = slice_bytes ed S

  abbrev Ms : List ℕ
  Ms = places_bytes ed S.net.marking S.net.cap 0 P

  abbrev As : List ℕ
  As = arcs_bytes S.net.arcs

  abbrev Ps : List ℕ
  Ps = origins_bytes S.place_origins

  abbrev Ts : List ℕ
  Ts = origins_bytes S.transition_origins

  -- the parts of the file, and where each stands
  length-1 : length Ms ≡ L
  length-1 = length-places ed S.net.marking S.net.cap 0 P

  length-2 : length (Ms ++ As) ≡ L + 8 * A
  length-2 = omega (arith, length-append Ms As, length-1, length-arcs S.net.arcs)

  length-3 : length (Ms ++ As ++ Ps) ≡ L + 8 * A + 2 * P
  length-3 = let c = w.place_count in omega (arith, length-append (Ms ++ As) Ps, length-2, length-origins S.place_origins)

  length-4 : length (Ms ++ As ++ Ps ++ Ts) ≡ L + 8 * A + 2 * P + 2 * T
  length-4 = let c = w.transition_count in omega (arith, length-append (Ms ++ As ++ Ps) Ts, length-3, length-origins S.transition_origins)

  abbrev Rs : List ℕ
  Rs = trailer_bytes 1 ed (slice_body ed S) P T A

  pub length-file : length (slice_bytes ed S) ≡ L + 8 * A + 2 * P + 2 * T + 16
  unfolding slice_bytes
  length-file = omega (arith, length-append (Ms ++ As ++ Ps ++ Ts) Rs, length-4, length-trailer 1 ed (slice_body ed S) P T A)

  whole : Stands s 0 (Ms ++ As ++ Ps ++ Ts ++ Rs)
  unfolding slice_bytes
  whole = stands_all s

  upto_4 : Stands s 0 (Ms ++ As ++ Ps ++ Ts)
  upto_4 = stands_left s 0 (Ms ++ As ++ Ps ++ Ts) Rs whole

  upto_3 : Stands s 0 (Ms ++ As ++ Ps)
  upto_3 = stands_left s 0 (Ms ++ As ++ Ps) Ts upto_4

  upto_2 : Stands s 0 (Ms ++ As)
  upto_2 = stands_left s 0 (Ms ++ As) Ps upto_3

  at_markings : Stands s 0 Ms
  at_markings = stands_left s 0 Ms As upto_2

  at_arcs : Stands s (L) As
  at_arcs = stands_at s As (stands_right s 0 (L) Ms As upto_2 length-1) (zero-add _)

  at_places : Stands s (L + 8 * A) Ps
  at_places = stands_at s Ps (stands_right s 0 (L + 8 * A) (Ms ++ As) Ps upto_3 length-2) (zero-add _)

  at_transitions : Stands s (L + 8 * A + 2 * P) Ts
  at_transitions = stands_at s Ts (stands_right s 0 (L + 8 * A + 2 * P) (Ms ++ As ++ Ps) Ts upto_4 length-3) (zero-add _)

  at_trailer : Stands s (length s - 16) Rs
  at_trailer = stands_at s Rs (stands_right s 0 (L + 8 * A + 2 * P + 2 * T) (Ms ++ As ++ Ps ++ Ts) Rs whole length-4) (let l = length-file in omega arith)

  laid : Laid 1 ed S.net s
  unfolding slice_body
  laid =
      let body : slice_body ed S ≡ L + 8 * A + (2 * P + 2 * T) = omega arith in
      record {
        long = omega (arith, length-file);
        places = at_markings;
        arcs = at_arcs;
        trailer = subst (λ (b : ℕ). Stands s (length s - 16) (trailer_bytes 1 ed b P T A)) body at_trailer;
      }

  abbrev head : Header
  head = record { places = P; transitions = T; arcs = A; kind = 1; edition = ed; markstart = 0; arcstart = L; originstart = L + 8 * A }

  header_read : header_of s ≡ head
  header_read = header_is 1 ed S.net w.net s laid

  -- what is read is what was written
  pub reads_back : slice_of (slice_bytes ed S) ≡ S
  reads_back =
      let n≡ = net-back 1 ed S.net w.net s laid in
      let p≡ : words_from s (L + 8 * A) P ≡ S.place_origins = ap (words_from s (L + 8 * A)) (sym w.place_count) ∙ read_origins s (L + 8 * A) S.place_origins at_places w.places_small in
      let t≡ : words_from s (L + 8 * A + 2 * P) T ≡ S.transition_origins = ap (words_from s (L + 8 * A + 2 * P)) (sym w.transition_count) ∙ read_origins s (L + 8 * A + 2 * P) S.transition_origins at_transitions w.transitions_small in
      ap (slice_from s) header_read ∙ (λ i. record { net = n≡ i; place_origins = p≡ i; transition_origins = t≡ i })

  pub edition_back : (header_of (slice_bytes ed S)).edition ≡ ed
  edition_back = ap (λ (h : Header). h.edition) header_read

  -- and reading it is not refused
  counts_right : counts_wrong (record { body = L + 8 * A + (2 * P + 2 * T); places = P; transitions = T; arcs = A; kind = 1; edition = ed; letters = 0x4C4C4542 }) ≡ false
  counts_right = rw (le-ltb 1024 P w.net.places, le-ltb 1024 T w.net.transitions, le-ltb 4096 A w.net.arcs) (and-false (eqb P 0 && eqb T 0))

  origins_pass : origins_refusal s head ≡ 0
  unfolding origins_refusal
  origins_pass =
      let p : table_refusal s (L + 8 * A) 0 P ≡ 0 = ap (table_refusal s (L + 8 * A) 0) (sym w.place_count) ∙ table_pass s (L + 8 * A) 0 S.place_origins at_places w.places_small w.places_rise in
      let t : table_refusal s (L + 8 * A + 2 * P) 0 T ≡ 0 = ap (table_refusal s (L + 8 * A + 2 * P) 0) (sym w.transition_count) ∙ table_pass s (L + 8 * A + 2 * P) 0 S.transition_origins at_transitions w.transitions_small w.transitions_rise in
      rw (p, t)

  pub not-refused : file_refusal due.Slice (slice_bytes ed S) ≡ 0
  not-refused = passes 1 ed S.net w.net s laid due.Slice refl counts_right origins_pass

  pub are_bytes : Bytes (slice_bytes ed S)
  unfolding slice_bytes
  are_bytes =
      bytes-join (Ms ++ As ++ Ps ++ Ts) Rs
      (bytes-join (Ms ++ As ++ Ps) Ts (bytes-join (Ms ++ As) Ps (bytes-join Ms As (bytes-places ed S.net.marking S.net.cap 0 P) (bytes-arcs S.net.arcs w.net.fit)) (bytes-origins S.place_origins)) (bytes-origins S.transition_origins))
      (bytes-trailer 1 ed (slice_body ed S) P T A (omega arith) w.net.edition_small_lem)

  -- 45,072 bytes hold any slice
  pub room : length (slice_bytes ed S) ≤ 45072
  room = let p = w.net.places in let t = w.net.transitions in let a = w.net.arcs in omega (arith, length-file, places_most ed P)
