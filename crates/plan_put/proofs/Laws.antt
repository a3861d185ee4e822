-- Places, arcs and trailer stored one after the other are the plan's file.
use Prim.Native.Nat.{ℕ, ◌+◌, ◌*◌, ◌≤◌, ◌<◌}
use mathlib.Core.Bool.{true, false}
use mathlib.Core.List.{List, ◌++◌}
use mathlib.Core.Path.{◌≡◌, refl, sym, subst, ◌∙◌}
use native.Mathlib.Omega.{arith}
use lib.ListN.{length, length-append}
use lib.Seq.{sets}
use borrow.Author.Tests.{lt-ltb, le-ltb}
use Rattle.std.specs.Prelude.{Ok, Err}
use Rattle.refusals.specs.Numbers.{number}
use Rattle.refusals.specs.declared.Refusal.{Refusal}
use Rattle.refusals.specs.declared.Refusal.TheVariants.{Buffer}
use Rattle.refusals.proofs.Numbers.{number_above}
use Rattle.net.specs.Net.{Net}
use Rattle.file_header.specs.Layout.{places_length}
use Rattle.file_writing.specs.Writing.{places_bytes, arcs_bytes, plan_body, trailer_bytes, plan_bytes}
use Rattle.file_writing.proofs.Bytes.{length-places, length-arcs}
use Rattle.tables.proofs.Sets.{sets_after, sets_first}
use Rattle.plan_put.specs.Told.{room_refusal, Answers}

-- ---- the file

module _ (e : ℕ) (N : Net) where
  abbrev L : ℕ
  L = places_length e N.places

  abbrev A : ℕ
  A = length N.arcs

  pub plan_stored : (s : List ℕ) {b₁ b₂ b₃ : List ℕ} → b₁ ≡ sets s 0 (places_bytes e N.marking N.cap 0 N.places) → b₂ ≡ sets b₁ L (arcs_bytes N.arcs)
      → b₃ ≡ sets b₂ (L + 8 * A) (trailer_bytes 0 e (L + 8 * A) N.places N.transitions A) → b₃ ≡ sets s 0 (plan_bytes e N)
  unfolding plan_bytes plan_body
  plan_stored s f g h =
      let Ms = places_bytes e N.marking N.cap 0 N.places in
      let As = arcs_bytes N.arcs in
      let long = length-places e N.marking N.cap 0 N.places in
      sets_after (Ms ++ As) (trailer_bytes 0 e (L + 8 * A) N.places N.transitions A) s 0 (L + 8 * A) (sets_after Ms As s 0 L f g (omega (arith, long))) h
      (omega (arith, length-append Ms As, long, length-arcs N.arcs))

-- ---- the answers

module _ (file entry : List ℕ) where
  pub no_room : length entry < length file → Answers (room_refusal (length entry) file) file entry entry (Err Buffer)
  no_room h = record { answer = rw (lt-ltb (length entry) (length file) h); buffer = rw (lt-ltb (length entry) (length file) h) }

  pub room : {exit : List ℕ} {k : ℕ} → length file ≤ length entry → exit ≡ sets entry 0 file → k ≡ length file → Answers (room_refusal (length entry) file) file entry exit (Ok k)
  room h f e = record {
    answer = rw (le-ltb (length entry) (length file) h) (λ i. record { refused = false; refusal = 0; length = e i });
    buffer = rw (le-ltb (length entry) (length file) h) (f ∙ sets_first file entry h);
  }

  pub refused : {n : ℕ} (e : Refusal) → number e ≡ n → Answers n file entry entry (Err e)
  refused e f =
      let above = number_above e in
      subst (λ (n : ℕ). Answers n file entry entry (Err e)) (sym above.1 ∙ f) (record { answer = λ i. record { refused = true; refusal = above.1 i; length = 0 }; buffer = refl })
