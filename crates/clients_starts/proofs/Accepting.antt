-- What a cut from a start wrote, and the check from the same start.
use Rattle.std.specs.Prelude.{Result, Ok, Err}
use Prim.Native.Nat.{ℕ, zero, suc, ◌≤◌}
use mathlib.Core.Bool.{true, false}
use mathlib.Core.List.{List}
use mathlib.Core.Path.{◌≡◌, refl, sym, ap, subst, ◌∙◌}
use native.Mathlib.Omega.{arith}
use lib.ListN.{length, take, drop, length-append, length-drop}
use lib.Dec.{eqb, ltb}
use borrow.Author.Tests.{ltb-false, eqb-true, eq-eqb}
use Rattle.net.specs.Cut.{safety, branching}
use Rattle.net.specs.Slice.{Slice}
use Rattle.net.specs.Guarantee.{Guarantee}
use Rattle.file_words.proofs.Laws.{refuse-0, or_else_0}
use Rattle.file_header.specs.declared.Due.TheVariants as due
use Rattle.file.specs.Layout.{slice_of}
use Rattle.promise.specs.Calls.{CutAnswer, cut_answer, cut_of, cut_refusal, write_refusal, safety_file, branching_file, written, safety_answer, safety_buffer, branching_answer, branching_buffer, Checked}
use Rattle.promise.specs.Promise.{WritesSmallest}
use Rattle.promise.specs.Exactness.{WritesExact}
use Rattle.promise.specs.Starts.{net_at, started, from_refusal, cut_unless, left_unless, safety_from_answer, safety_from_buffer, branching_from_answer, branching_from_buffer, checked_from, AcceptsFrom}
use Rattle.promise.proofs.Replays.{differ}
use Rattle.slice.specs.Kept.{cut_numbers}
use Rattle.slice.specs.declared.Written.{Written}
use Rattle.refusals.specs.declared.Refusal.{Refusal}
use Rattle.clients_starts.specs.Compared.{NoSmaller}

-- a file that was written is no longer than its buffer
room_for : (plan Q file : List ℕ) (room : ℕ) → write_refusal plan Q room file ≡ 0 → length file ≤ room
unfolding write_refusal
room_for plan Q file room e = ltb-false room (length file) (refuse-0 (ltb room (length file)) 12 0 (or_else_0 (cut_refusal plan Q) _ e).1).0

answer-fits : (w len : ℕ) (S : Slice) (room : ℕ) → (w ≡ 0 → len ≤ room) → (cut_answer w len S).length ≤ room
answer-fits zero len S room f = f refl
answer-fits (suc w) len S room f = omega arith

unless_fits : (n : ℕ) (a : CutAnswer) (room : ℕ) → a.length ≤ room → (cut_unless n a).length ≤ room
unless_fits zero a room l = l
unless_fits (suc n) a room l = omega arith

module _ (plan start Q : List ℕ) (room : ℕ) where
  safety-fits : (safety_from_answer plan start Q room).length ≤ room
  unfolding safety_from_answer safety_answer
  safety-fits =
      let s = started plan start in
      unless_fits (from_refusal due.Plan plan start) _ room (answer-fits (write_refusal s Q room (safety_file s Q)) (length (safety_file s Q)) (cut_of safety s Q) room (room_for s Q (safety_file s Q) room))

  branching-fits : (branching_from_answer plan start Q room).length ≤ room
  unfolding branching_from_answer branching_answer
  branching-fits =
      let s = started plan start in
      unless_fits (from_refusal due.Plan plan start) _ room (answer-fits (write_refusal s Q room (branching_file s Q)) (length (branching_file s Q)) (cut_of branching s Q) room (room_for s Q (branching_file s Q) room))

-- an answer without a refusal is no refusal
answer-none : (w len : ℕ) (S : Slice) → (cut_answer w len S).refusal ≡ 0 → (cut_answer w len S).refused ≡ false
answer-none zero len S z = refl
answer-none (suc w) len S z = absurd (omega (arith, z))

unless_none : (n : ℕ) (a : CutAnswer) → (a.refusal ≡ 0 → a.refused ≡ false) → (cut_unless n a).refusal ≡ 0 → (cut_unless n a).refused ≡ false
unless_none zero a f z = f z
unless_none (suc n) a f z = absurd (omega (arith, z))

module _ (plan start Q : List ℕ) (room : ℕ) where
  safety-none : (safety_from_answer plan start Q room).refusal ≡ 0 → (safety_from_answer plan start Q room).refused ≡ false
  unfolding safety_from_answer safety_answer
  safety-none = let s = started plan start in unless_none (from_refusal due.Plan plan start) _ (answer-none (write_refusal s Q room (safety_file s Q)) (length (safety_file s Q)) (cut_of safety s Q))

  branching-none : (branching_from_answer plan start Q room).refusal ≡ 0 → (branching_from_answer plan start Q room).refused ≡ false
  unfolding branching_from_answer branching_answer
  branching-none = let s = started plan start in unless_none (from_refusal due.Plan plan start) _ (answer-none (write_refusal s Q room (branching_file s Q)) (length (branching_file s Q)) (cut_of branching s Q))

  -- at the calls: r is what the cut answered
  module _ {r : Result Written Refusal} where
    pub safety-refused : {A : Type 0} {k : Refusal} → cut_numbers r ≡ safety_from_answer plan start Q room → r ≡ Err k → (safety_from_answer plan start Q room).refusal ≡ 0 → A
    safety-refused e f z = differ (sym (safety-none z) ∙ ap (λ (a : CutAnswer). a.refused) (sym e) ∙ ap (λ (c : Result Written Refusal). (cut_numbers c).refused) f)

    pub branching-refused : {A : Type 0} {k : Refusal} → cut_numbers r ≡ branching_from_answer plan start Q room → r ≡ Err k → (branching_from_answer plan start Q room).refusal ≡ 0 → A
    branching-refused e f z = differ (sym (branching-none z) ∙ ap (λ (a : CutAnswer). a.refused) (sym e) ∙ ap (λ (c : Result Written Refusal). (cut_numbers c).refused) f)

-- a buffer keeps its length
written-long : (n : ℕ) (file entry : List ℕ) → (n ≡ 0 → length file ≤ length entry) → length (written n file entry) ≡ length entry
written-long zero file entry f = omega (arith, f refl, length-append file (drop (length file) entry), length-drop (length file) entry)
written-long (suc n) file entry f = refl

left-long : (n : ℕ) (exit entry : List ℕ) → length exit ≡ length entry → length (left_unless n exit entry) ≡ length entry
left-long zero exit entry e = e
left-long (suc n) exit entry e = refl

module _ (plan start Q entry : List ℕ) where
  safety-long : length (safety_from_buffer plan start Q entry) ≡ length entry
  unfolding safety_from_buffer safety_buffer
  safety-long =
      let s = started plan start in
      left-long (from_refusal due.Plan plan start) _ entry (written-long (write_refusal s Q (length entry) (safety_file s Q)) (safety_file s Q) entry (room_for s Q (safety_file s Q) (length entry)))

  branching-long : length (branching_from_buffer plan start Q entry) ≡ length entry
  unfolding branching_from_buffer branching_buffer
  branching-long =
      let s = started plan start in
      left-long (from_refusal due.Plan plan start) _ entry (written-long (write_refusal s Q (length entry) (branching_file s Q)) (branching_file s Q) entry (room_for s Q (branching_file s Q) (length entry)))

  -- at the calls: what was written is a part of the buffer
  module _ {r : Result Written Refusal} {exit : List ℕ} {w : Written} where
    pub safety-room : cut_numbers r ≡ safety_from_answer plan start Q (length entry) → exit ≡ safety_from_buffer plan start Q entry → r ≡ Ok w → w.length ≤ length exit
    safety-room e g f =
        let z = ap (λ (c : Result Written Refusal). (cut_numbers c).length) (sym f) ∙ ap (λ (a : CutAnswer). a.length) e in
        let l = ap (λ (x : List ℕ). length x) g ∙ safety-long in
        omega (arith, z, l, safety-fits plan start Q (length entry))

    pub branching_room : cut_numbers r ≡ branching_from_answer plan start Q (length entry) → exit ≡ branching_from_buffer plan start Q entry → r ≡ Ok w → w.length ≤ length exit
    branching_room e g f =
        let z = ap (λ (c : Result Written Refusal). (cut_numbers c).length) (sym f) ∙ ap (λ (a : CutAnswer). a.length) e in
        let l = ap (λ (x : List ℕ). length x) g ∙ branching-long in
        omega (arith, z, l, branching-fits plan start Q (length entry))

-- c is what the check answered, k its code
no_refusal : {r : Result Written Refusal} {w : Written} → r ≡ Ok w → (cut_numbers r).refusal ≡ 0
no_refusal f = ap (λ (x : Result Written Refusal). (cut_numbers x).refusal) f

as_long : {r : Result Written Refusal} {w : Written} → r ≡ Ok w → (cut_numbers r).length ≡ w.length
as_long f = ap (λ (x : Result Written Refusal). (cut_numbers x).length) f

module _ (plan start Q : List ℕ) {r : Result Written Refusal} {exit : List ℕ} {c : Checked} {k : ℕ} {f : Written} (told : r ≡ Ok f) (code : k ≡ c.code) where
  pub safety-accepted : WritesSmallest (λ S. AcceptsFrom plan start S Q) (cut_numbers r) exit → c ≡ checked_from plan (take f.length exit) start Q → eqb k 0 ≡ true
  safety-accepted w e =
      eq-eqb k 0 (code ∙ ap (λ (x : Checked). x.code) e ∙ ap (λ (l : ℕ). (checked_from plan (take l exit) start Q).code) (sym (as_long told)) ∙ w.accepted (no_refusal told))

  pub branching-accepted : WritesExact (λ S. AcceptsFrom plan start S Q) (net_at plan start) (cut_numbers r) exit → c ≡ checked_from plan (take f.length exit) start Q → eqb k 0 ≡ true
  branching-accepted w e =
      eq-eqb k 0 (code ∙ ap (λ (x : Checked). x.code) e ∙ ap (λ (l : ℕ). (checked_from plan (take l exit) start Q).code) (sym (as_long told)) ∙ (w.exact (no_refusal told)).accepted)

  -- the other slice
  pub compared : (other entry : List ℕ) → cut_numbers r ≡ safety_from_answer plan start Q (length entry) → WritesSmallest (λ S. AcceptsFrom plan start S Q) (cut_numbers r) exit
      → c ≡ checked_from plan other start Q → (c.code ≡ 0 → Guarantee (net_at plan start) (slice_of other) Q) → eqb k 0 ≡ true → NoSmaller plan start Q other entry exit
  compared other entry ea w e g yes-0 =
      let zero-code : c.code ≡ 0 = sym code ∙ eqb-true k 0 yes-0 in
      let agreed : AcceptsFrom plan start other Q = ap (λ (x : Checked). x.code) (sym e) ∙ zero-code in
      let ours = safety_from_answer plan start Q (length entry) in
      let d : WritesSmallest (λ S. AcceptsFrom plan start S Q) ours exit = subst (λ (x : CutAnswer). WritesSmallest (λ S. AcceptsFrom plan start S Q) x exit) ea w in
      let z : ours.refusal ≡ 0 = ap (λ (x : CutAnswer). x.refusal) (sym ea) ∙ no_refusal told in
      record {
        wrote = z;
        own_places = d.own_places z;
        own_transitions = d.own_transitions z;
        contains = d.smallest z other agreed;
        places = d.places z other agreed;
        transitions = d.transitions z other agreed;
        guarantee = g zero-code;
      }
