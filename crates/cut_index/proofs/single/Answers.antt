use borrow.Author.Tests.{not-true, eqb-false}
use mathlib.Core.Path.{sym, ◌∙◌}
use native.Mathlib.Omega.{arith}
use Rattle.arcs_groups.proofs.Groups.{only_one}
use Rattle.cut_index.proofs.Beside.{same_middle}
use Rattle.cut_index.proofs.single.Goals as goal

pub returns : goal.returns
returns c = λ e.
    let s = c in
    let differ = eqb-false _ _ (not-true _ e) in
    record {
      after = omega arith;
      within = omega (arith, s.requires.0.some);
      same = only_one _ _ _;
      other = λ l y. differ (c.get32.ensures.0 ∙ same_middle s.args.file.now s.args.start s.args.i (s.requires.2 _ (omega (arith, s.requires.0.some))) (s.requires.2 _ l) y ∙ sym c.get32-2.ensures.0);
    }
