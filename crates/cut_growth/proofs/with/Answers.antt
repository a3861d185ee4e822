use mathlib.Core.Bool.{or_comm}
use mathlib.Core.Path.{refl, ◌∙◌}
use lib.Dec.{eqb}
use Rattle.sets.specs.Member.{member}
use Rattle.cut_growth.proofs.with.Goals as goal

pub returns : goal.returns
returns c =
    let start = c in
    record {
      places = λ k. c.with-more.ensures.members k ∙ or_comm (member start.args.kept.places k) (eqb k start.args.p);
      transitions = λ k. refl;
      places_long = c.with-more.ensures.long;
      transitions_long = start.well_formed.0.1.1.1.0.1.0.1;
    }
