use Prim.Native.Nat.{ℕ}
use mathlib.Core.Bool.{false}
use mathlib.Core.Path.{◌≡◌, sym, subst⁻¹, ◌∙◌}
use native.Mathlib.Omega.{arith}
use lib.ListN.{replicate, length-replicate}
use lib.Seq.{length-take-le}
use Rattle.net.specs.Numbers.{any}
use Rattle.promise.specs.Transfer.{names_no_place}
use Rattle.carry.proofs.Sums.{right, carry_22, carry_23, carry_rest, zeros_taken}
use Rattle.carry.proofs.carry.Goals as goal

pub returns-then-table_wrong-clause-answer : goal.returns-then-table_wrong-clause-answer
returns-then-table_wrong-clause-answer c = carry_22 _ _ _ _ _ (sym c.if-table_wrong.true ∙ c.table_wrong.ensures)

pub stranded-requires : goal.stranded-requires
stranded-requires c =
    let known = right _ _ _ _ (sym c.table_wrong.ensures ∙ c.if-table_wrong.false) in
    known.1 ∙ sym known.0

pub returns-then-stranded-clause-answer : goal.returns-then-stranded-clause-answer
returns-then-stranded-clause-answer c = carry_23 _ _ _ _ _ (sym c.table_wrong.ensures ∙ c.if-table_wrong.false) (sym c.stranded.ensures ∙ c.if-stranded.true)

pub carry_in-requires-clause-passed : goal.carry_in-requires-clause-passed
carry_in-requires-clause-passed c =
    let known = right _ _ _ _ (sym c.table_wrong.ensures ∙ c.if-table_wrong.false) in
    let places = c.requires.sound.placed.places in
    let long = length-take-le {A = ℕ} c.args.h.places (replicate 1024 0) (omega (arith, places, length-replicate {A = ℕ} 1024 0)) in
    record {
      long = known.1 ∙ sym known.0;
      few = omega (arith, known.1, c.requires.bound);
      small = omega (arith, long, places);
      placed = subst⁻¹ (λ (P : ℕ). any (names_no_place P) c.args.table.now ≡ false) long known.2;
      targets = sym c.stranded.ensures ∙ c.if-stranded.false;
      zeros = zeros_taken c.args.h.places 1024;
    }

pub returns-clause-answer : goal.returns-clause-answer
returns-clause-answer c =
    carry_rest _ _ _ _ _ (sym c.table_wrong.ensures ∙ c.if-table_wrong.false) (sym c.stranded.ensures ∙ c.if-stranded.false) c.carry_in.ensures.value
