use borrow.Author.Tests.{not-true, not-false}
use Prim.Native.Nat.{◌+◌}
use mathlib.Core.Path.{sym, ap, ap₂, ◌∙◌}
use native.Mathlib.Omega.{arith}
use Rattle.net.specs.declared.Arc.{Arc}
use Rattle.arcs_groups.proofs.Groups.{only_one, one_more, test_true, test_false, run-one, run_more}
use Rattle.arcs_groups.proofs.several.Goals as goal

pub loop-e-init : goal.loop-e-init
loop-e-init c =
    let w = c.word-w in
    (only_one _ _ _, ap (λ (a : Arc). a.weight) w.ensures.arc ∙ sym (run-one _ _ _), omega (arith, w.type_inv))

pub returns-then-not-parallel : goal.returns-then-not-parallel
returns-then-not-parallel c =
    let x = c.loop-e.invariant in (
      record {
        after = omega arith;
        within = omega arith;
        same = x.0;
        other = λ l. test_false _ _ _ _ _ _ c.word-v.ensures c.word-w.ensures (sym c.parallel.ensures ∙ not-true _ c.if-not-parallel.true-raw);
      },
      x.1,
      x.2,
    )

pub loop-e-preserved : goal.loop-e-preserved
loop-e-preserved c =
    let x = c.loop-e.invariant in
    let v = c.word-v in (
      one_more _ _ _ _ x.0 (test_true _ _ _ _ _ _ v.ensures c.word-w.ensures (sym c.parallel.ensures ∙ not-false _ c.if-not-parallel.false-raw)),
      ap₂ ◌+◌ x.1 (ap (λ (a : Arc). a.weight) v.ensures.arc) ∙ sym (run_more _ _ _ _ (omega arith)),
      omega (arith, x.2, v.type_inv),
    )
