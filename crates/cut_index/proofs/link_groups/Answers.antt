use borrow.Author.Rules.{rules}
use mathlib.Core.Path.{refl, sym, ap, ◌∙◌}
use native.Mathlib.Omega.{arith}
use lib.ListN.{length, length-set}
use Rattle.cut_index.proofs.link_groups.Goals as goal
use Rattle.cut_index.proofs.link_groups.Goals.{After-group-given, Else-given-taken, Else-taken-given, Start}

-- ---- the states: both groups summed, then the one that gives not the lighter, then not as heavy

abbrev call : After-group-given → Start
call c = (goal.at.After-group-given c).Start

abbrev summed : Else-given-taken → After-group-given
summed c = (goal.at.Else-given-taken c).After-group-given

abbrev not_less : Else-taken-given → Else-given-taken
not_less c = (goal.at.Else-taken-given c).Else-given-taken

pub group-taken-requires : goal.group-taken-requires
group-taken-requires c =
    let x = c.requires.0 in
    record { some = omega (arith, x.within, c.requires.1); few = omega (arith, x.stands.some, x.stands.few); fit = omega (arith, x.stands.some, x.stands.fit); short = x.stands.short }

pub group-given-requires : goal.group-given-requires
group-given-requires c = c.requires.0.stands

pub returns-then-given-taken : goal.returns-then-given-taken
returns-then-given-taken c =
    let sums = c in
    let taken = sums.group-taken in
    let given = sums.group-given in
    record {
      own = given.ensures.0;
      until = taken.result.end;
      group = taken.ensures.0;
      less = λ l. (refl, refl);
      level = λ e. absurd (omega (arith, e, c.if-given-taken.true, taken.ensures.1, given.ensures.1));
      more = λ l. absurd (omega (arith, l, c.if-given-taken.true, taken.ensures.1, given.ensures.1));
    }

pub returns-then-taken-given : goal.returns-then-taken-given
returns-then-taken-given c =
    let sums = summed (goal.at.returns-then-taken-given c).Else-given-taken in
    let taken = sums.group-taken in
    let given = sums.group-given in
    record {
      own = given.ensures.0;
      until = taken.result.end;
      group = taken.ensures.0;
      less = λ l. absurd (omega (arith, l, c.if-taken-given.true, taken.ensures.1, given.ensures.1));
      level = λ e. (refl, refl);
      more = λ l. absurd (omega (arith, l, c.if-taken-given.true, taken.ensures.1, given.ensures.1));
    }

pub link_arc-requires : goal.link_arc-requires
link_arc-requires c =
    let stands = (call (summed (not_less (goal.at.link_arc-requires c).Else-taken-given))).requires.0.stands in
    (omega (arith, stands.few, stands.some), search rules, search rules, search rules)

pub shape_of-head : goal.shape_of-head
shape_of-head c = ap length c.link_arc.ensures.head_is ∙ simp length-set

pub returns : goal.returns
returns c =
    let more = c in
    let sums = summed (not_less (goal.at.returns more).Else-taken-given) in
    let taken = sums.group-taken in
    let given = sums.group-given in
    record {
      own = given.ensures.0;
      until = taken.result.end;
      group = taken.ensures.0;
      less = λ l. absurd (omega (arith, l, (not_less (goal.at.returns more).Else-taken-given).if-given-taken.false, taken.ensures.1, given.ensures.1));
      level = λ e. absurd (more.if-taken-given.false (taken.ensures.1 ∙ e ∙ sym given.ensures.1));
      more = λ l. c.link_arc.ensures;
    }
