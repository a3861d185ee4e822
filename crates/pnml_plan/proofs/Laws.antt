-- The refusals in their order.
use Prim.Native.Nat.{ℕ, ◌≤◌}
use mathlib.Core.Path.{◌≡◌, refl, sym, ap, ◌∙◌}
use mathlib.Core.Bool.{Bool, true, false}
use mathlib.Core.List.{List, []}
use native.Mathlib.Omega.{arith}
use lib.ListN.{length, take, replicate, length-replicate}
use Rattle.file_words.specs.Refusal.{refuse}
use Rattle.plan_put.specs.Told.{Answers}
use Rattle.refusals.specs.Numbers.{number}
use Rattle.refusals.proofs.Numbers.{number_some}
use Rattle.refusals.specs.declared.Refusal.{Refusal}
use Rattle.plan_put.proofs.Laws.{refused}
use Rattle.tables.proofs.Zeros.{zeros_at}
use Rattle.pnml_names.specs.declared.Which.TheVariants.{Arcs}
use Rattle.pnml_names.specs.Names.{repeats}
use Rattle.pnml_names.specs.Tables.{ids_in}
use Rattle.pnml_net.specs.Named
use Rattle.pnml_net.specs.Read.{entries, id_twice, unfit, arcs_named}
use Rattle.pnml_sort.specs.Words.{sort_words}
use Rattle.pnml_sort.proofs.Sorting.{sort_words_lem}
use Rattle.pnml_index.specs.Rows.{Blank}
use Rattle.pnml_list.specs.Listing.{Listing}
use Rattle.pnml_arcs.specs.Ends.{Weighed}
use Rattle.std.proofs.Common.{Result, Ok, Err}
use Rattle.pnml_file.specs.Ready.{read_file, Sorted, unfit_but}
use Rattle.pnml_file.proofs.Laws.{words_are}
use Rattle.pnml_plan.specs.Chain.{Blanks}

-- a test that passes, and one that does not
pub passed : (s : List ℕ) {entry exit : List ℕ} {r : Result ℕ Refusal} {b : Bool} (n k : ℕ) → b ≡ false → Answers k (read_file s) entry exit r → Answers (refuse b n k) (read_file s) entry exit r
passed s n k e a = rw e a

pub told : (s entry : List ℕ) {b : Bool} (e : Refusal) (k : ℕ) → b ≡ true → Answers (refuse b (number e) k) (read_file s) entry entry (Err e)
told s entry e k t = rw t (refused (read_file s) entry e refl)

-- an arc that joins no place and transition, and none
pub turned : (s entry : List ℕ) (b : Bool) (e : Refusal) (k : ℕ) → number e ≡ refuse b 19 0 → Answers (refuse b 19 k) (read_file s) entry entry (Err e)
turned s entry true e k t = refused (read_file s) entry e t
turned s entry false e k t = absurd (number_some e t)

pub joins : (b : Bool) → 0 ≡ refuse b 19 0 → b ≡ false
joins true e = absurd (omega (arith, e))
joins false e = refl

-- tables of zeros have no rows
pub blank : {names next : List ℕ} → length names ≤ 4372 → Blanks names next → Blank names (replicate 2048 0) next
blank h b = record {
  few = omega arith;
  heads = omega (arith, length-replicate {A = ℕ} 2048 0);
  room = b.room;
  no_heads = λ i. zeros_at 2048 i;
  no_rows = b.none;
}

-- a table as it is made
pub blanks : (names : List ℕ) (n : ℕ) → length names ≤ n → Blanks names (replicate n 0)
blanks names n h = record { room = omega (arith, length-replicate {A = ℕ} n 0); none = λ i. zeros_at n i }

-- an id used twice, by the table of the ids
pub twice_is : {s table : List ℕ} {P T : ℕ} {b : Bool} → Listing s table P T → b ≡ repeats (ids_in s table) → b ≡ id_twice s
twice_is g e = e ∙ ap repeats g.ids

-- refusal 20 by the weights that were looked at
pub unfit-by : {s entry later : List ℕ} {off : Bool} → Weighed s entry later (Ok off) → unfit_but s off ≡ unfit s
unfolding Named.unfit
unfit-by {s} w = ap (unfit_but s) w.off

-- the numbers that were sorted
pub sorted-are : {s entry later : List ℕ} (exit : List ℕ) {off : Bool} {n : ℕ} → Weighed s entry later (Ok off) → unfit s ≡ false → n ≡ length (entries Arcs s)
    → take n exit ≡ sort_words [] (take n later) → Sorted s (take n exit)
sorted-are {s} {entry} {later} exit w fit count order =
    words_are s fit (joins _ w.apart)
    (order ∙ ap (sort_words []) (ap (λ (i : ℕ). take i later) count ∙ w.words) ∙ sym (sort_words_lem [] (arcs_named s)))
