-- A plan that is written reads back as it was: reading its bytes is not refused, and gives the net, without note.
use Prim.Native.Nat.{ℕ, ◌+◌, ◌-◌, ◌*◌, ◌≤◌}
use mathlib.Core.Path.{◌≡◌, refl, ap, subst, ◌∙◌}
use mathlib.Core.Bool.{false, ◌&&◌}
use mathlib.Core.List.{List, ◌++◌}
use native.Mathlib.Omega.{arith}
use native.Mathlib.Nat.{zero-add}
use lib.ListN.{length, length-append}
use lib.Dec.{eqb}
use borrow.Author.Tests.{le-ltb}
use Rattle.net.specs.Net.{Net}
use Rattle.file_words.specs.Word.{Bytes}
use Rattle.file_header.specs.Layout.{places_length, header_of}
use Rattle.file.specs.Layout.{net_from, net_of}
use Rattle.file_header.specs.Refusal.{counts_wrong}
use Rattle.file.specs.Refusal.{origins_refusal, file_refusal}
use Rattle.file_writing.specs.Writing.{places_bytes, arcs_bytes, plan_body, trailer_bytes, plan_bytes}
use Rattle.file_header.specs.declared.Due.TheVariants as due
use Rattle.file_header.specs.declared.Header.{Header}
use Rattle.file_header.proofs.Laws.{places_most}
use Rattle.file_words.proofs.Bytes.{Stands, stands_all, stands_left, stands_right, stands_at}
use Rattle.file_writing.proofs.Bytes.{length-places, length-arcs}
use Rattle.file_writing.proofs.Parts.{NetWritable, Laid, length-trailer, bytes-join, bytes-places, bytes-arcs, bytes-trailer, header_is, net-back, passes}

module _ (ed : ℕ) (N : Net) where
  abbrev P : ℕ
  P = N.places

  abbrev T : ℕ
  T = N.transitions

  abbrev A : ℕ
  A = length N.arcs

  -- the bytes of the places
  abbrev L : ℕ
  L = places_length ed P

  abbrev s : List ℕ
  s = plan_bytes ed N

  abbrev Ms : List ℕ
  Ms = places_bytes ed N.marking N.cap 0 P

  abbrev As : List ℕ
  As = arcs_bytes N.arcs

  abbrev Rs : List ℕ
  Rs = trailer_bytes 0 ed (plan_body ed N) P T A

  -- the parts of the file, and where each stands
  length-1 : length Ms ≡ L
  length-1 = length-places ed N.marking N.cap 0 P

  length-2 : length (Ms ++ As) ≡ L + 8 * A
  length-2 = omega (arith, length-append Ms As, length-1, length-arcs N.arcs)

  pub length-plan : length (plan_bytes ed N) ≡ L + 8 * A + 16
  unfolding plan_bytes
  length-plan = omega (arith, length-append (Ms ++ As) Rs, length-2, length-trailer 0 ed (plan_body ed N) P T A)

  whole : Stands s 0 (Ms ++ As ++ Rs)
  unfolding plan_bytes
  whole = stands_all s

  upto_2 : Stands s 0 (Ms ++ As)
  upto_2 = stands_left s 0 (Ms ++ As) Rs whole

  laid : Laid 0 ed N s
  unfolding plan_body
  laid =
      let body : plan_body ed N ≡ L + 8 * A + 0 = omega arith in
      let at : 0 + (L + 8 * A) ≡ length s - 16 = omega (arith, length-plan) in
      record {
        long = omega (arith, length-plan);
        places = stands_left s 0 Ms As upto_2;
        arcs = stands_at s As (stands_right s 0 L Ms As upto_2 length-1) (zero-add _);
        trailer = subst (λ (b : ℕ). Stands s (length s - 16) (trailer_bytes 0 ed b P T A)) body (stands_at s Rs (stands_right s 0 (L + 8 * A) (Ms ++ As) Rs whole length-2) at);
      }

  module _ (w : NetWritable ed N) where
    abbrev head : Header
    head = record { places = P; transitions = T; arcs = A; kind = 0; edition = ed; markstart = 0; arcstart = L; originstart = L + 8 * A }

    -- its header: kind 0, that edition, no note
    pub plan_header : header_of (plan_bytes ed N) ≡ head
    plan_header = header_is 0 ed N w s laid

    -- what is read is what was written
    pub plan_back : net_of (plan_bytes ed N) ≡ N
    plan_back = ap (net_from s) plan_header ∙ net-back 0 ed N w s laid

    -- and reading it is not refused, unless it has neither place nor transition
    no_origins : origins_refusal s head ≡ 0
    unfolding origins_refusal
    no_origins = refl

    counts_right : eqb P 0 && eqb T 0 ≡ false → counts_wrong (record { body = L + 8 * A + 0; places = P; transitions = T; arcs = A; kind = 0; edition = ed; letters = 0x4C4C4542 }) ≡ false
    counts_right some = rw (le-ltb 1024 P w.places, le-ltb 1024 T w.transitions, le-ltb 4096 A w.arcs, some)

    pub plan_passes : eqb P 0 && eqb T 0 ≡ false → file_refusal due.Plan (plan_bytes ed N) ≡ 0
    plan_passes some = passes 0 ed N w s laid due.Plan refl (counts_right some) no_origins

    pub plan_are_bytes : Bytes (plan_bytes ed N)
    unfolding plan_bytes
    plan_are_bytes =
        bytes-join (Ms ++ As) Rs (bytes-join Ms As (bytes-places ed N.marking N.cap 0 P) (bytes-arcs N.arcs w.fit))
        (bytes-trailer 0 ed (plan_body ed N) P T A (omega arith) w.edition_small_lem)

    -- 40,976 bytes hold any plan without note
    pub plan_room : length (plan_bytes ed N) ≤ 40976
    plan_room = let p = w.places in let a = w.arcs in omega (arith, length-plan, places_most ed P)
