-- The answer and the buffer of `convert`, by the way out that the call took.
use Prim.Native.Nat.{ℕ, zero, suc, ◌≤◌}
use mathlib.Core.Path.{◌≡◌, refl, sym, ap, subst, ◌∙◌}
use mathlib.Core.Bool.{Bool, true, false, not, ◌||◌}
use mathlib.Core.List.{List}
use native.Mathlib.Omega.{arith}
use lib.Dec.{ltb}
use lib.ListN.{length}
use borrow.Author.Tests.{ltb-false}
use Rattle.net.proofs.Numbers.{by_cases}
use Rattle.file_words.specs.Refusal.{refuse, or_else}
use Rattle.file_writing.specs.Writing.{plan_bytes}
use Rattle.pnml_page.specs.Profile.{Drawing, drawing, of_profile}
use Rattle.pnml_page.specs.Steps.{read_whole}
use Rattle.pnml_net.specs.Named.{misnamed, unfit}
use Rattle.pnml_net.specs.Read.{twice_in, wrong_in}
use Rattle.pnml_same.proofs.Reading.{profile_same, twice_same, wrong_same, unfit-same, net-same}
use Rattle.promise.specs.Calls.{written}
use Rattle.promise.specs.Normal.{file_answer}
use Rattle.promise.specs.Pnml.{pnml_refusal, pnml_file, pnml_write_refusal, pnml_answer, pnml_buffer, WritesNamed}
use Rattle.promise.proofs.Pnml.{writes_named}
use Rattle.plan_put.specs.Told.{file_numbers, Answers, room_refusal}
use Rattle.refusals.specs.declared.Refusal.{Refusal}
use Rattle.refusals.specs.declared.Refusal.TheVariants.{Length, Profile}
use Rattle.std.specs.Prelude.{Result, Err}
use Rattle.plan_put.proofs.Laws.{refused}
use Rattle.pnml_file.specs.Ready.{read_file}
use Rattle.pnml_plan.specs.Chain.{after_profile}

-- the refusals one by one
one_by_one : (a b c d e : Bool) (x : ℕ)
    → refuse a 1 (refuse b 18 (refuse c 19 (refuse d 19 (refuse e 20 x)))) ≡ or_else (refuse a 1 (refuse b 18 (refuse (c || d) 19 (refuse e 20 0)))) x
one_by_one true b c d e x = refl
one_by_one false true c d e x = refl
one_by_one false false true d e x = refl
one_by_one false false false true e x = refl
one_by_one false false false false true x = refl
one_by_one false false false false false x = refl

-- no test before it holds
none_off : (a b c : Bool) (x : ℕ) → refuse a 19 (refuse b 19 (refuse c 20 x)) ≡ 0 → c ≡ false
none_off true b c x e = absurd (omega (arith, e))
none_off false true c x e = absurd (omega (arith, e))
none_off false false true x e = absurd (omega (arith, e))
none_off false false false x e = refl

-- where a call is refused, it does not matter what the file would be
other_file : {file other entry exit : List ℕ} {r : Result ℕ Refusal} (n : ℕ) → (n ≡ 0 → file ≡ other) → Answers n file entry exit r → Answers n other entry exit r
other_file {file} {other} {entry} {exit} {r} zero e a = subst (λ (l : List ℕ). Answers 0 l entry exit r) (e refl) a
other_file (suc n) e a = record { answer = a.answer; buffer = a.buffer }

module _ (s entry : List ℕ) where
  abbrev d : Drawing
  d = drawing s

  -- once the text is of the profile
  abbrev later : ℕ
  later = refuse (twice_in d) 19 (refuse (wrong_in d) 19 (refuse (unfit d) 20 (room_refusal (length entry) (pnml_file s))))

  refusal_is : refuse (ltb 65536 (length s)) 1 (refuse (not (of_profile s)) 18 later) ≡ pnml_write_refusal s (length entry)
  unfolding pnml_write_refusal pnml_refusal misnamed
  refusal_is = one_by_one (ltb 65536 (length s)) (not (of_profile s)) (twice_in d) (wrong_in d) (unfit d) _

  -- all three promises
  abbrev pub Converts : Result ℕ Refusal → List ℕ → Type 0
  Converts r exit = (file_numbers r ≡ pnml_answer s (length entry)) × ((exit ≡ pnml_buffer s entry) × WritesNamed s (file_numbers r) exit)

  converts : {r : Result ℕ Refusal} {exit : List ℕ} (n : ℕ) → n ≡ pnml_write_refusal s (length entry) → Answers n (pnml_file s) entry exit r → Converts r exit
  unfolding pnml_answer pnml_buffer
  converts n e a =
      let x = a.answer ∙ ap (λ (k : ℕ). file_answer k (length (pnml_file s))) e in
      let y = a.buffer ∙ ap (λ (k : ℕ). written k (pnml_file s) entry) e in
      (x, (y, writes_named s entry x y))

  pub too_long : ltb 65536 (length s) ≡ true → Converts (Err Length) entry
  too_long e = converts _ (sym (rw e) ∙ refusal_is) (refused (pnml_file s) entry Length refl)

  module _ (e : ltb 65536 (length s) ≡ false) where
    short : length s ≤ 65536
    short = ltb-false 65536 (length s) e

    pub outside : read_whole s ≡ false → Converts (Err Profile) entry
    outside f = let g = sym (profile_same s short) ∙ f in converts _ (sym (rw (e, g)) ∙ refusal_is) (refused (pnml_file s) entry Profile refl)

    module _ (f : read_whole s ≡ true) where
      of : of_profile s ≡ true
      of = sym (profile_same s short) ∙ f

      file_same : unfit d ≡ false → read_file s ≡ pnml_file s
      unfolding read_file pnml_file
      file_same g = ap (plan_bytes 1) (net-same s short of g)

      -- the code's refusals are those of the definition
      later_same : after_profile s (length entry) ≡ later
      later_same =
          (λ j. refuse (twice_same s short of j) 19 (refuse (wrong_same s short of j) 19 (refuse (unfit-same s short of j) 20 (room_refusal (length entry) (read_file s)))))
          ∙ ap (λ (n : ℕ). refuse (twice_in d) 19 (refuse (wrong_in d) 19 n)) twenty
        where
          twenty : refuse (unfit d) 20 (room_refusal (length entry) (read_file s)) ≡ refuse (unfit d) 20 (room_refusal (length entry) (pnml_file s))
          twenty = by_cases (unfit d) (λ t. rw t) (λ g. rw g (ap (room_refusal (length entry)) (file_same g)))

      pub of_profile_lem : {r : Result ℕ Refusal} {exit : List ℕ} → Answers (after_profile s (length entry)) (read_file s) entry exit r → Converts r exit
      of_profile_lem a =
          converts _ (later_same ∙ sym (rw (e, of)) ∙ refusal_is)
          (other_file _ (λ z. file_same (none_off (twice_in d) (wrong_in d) (unfit d) _ (sym later_same ∙ z))) a)
