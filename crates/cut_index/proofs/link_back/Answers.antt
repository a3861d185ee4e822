use borrow.Author.Rules.{rules}
use borrow.Author.Tests.{not-false}
use Prim.Native.Nat.{◌+◌, ◌-◌, ◌*◌}
use mathlib.Core.Path.{◌≡◌, refl, sym, ap, ◌∙◌}
use native.Mathlib.Omega.{arith}
use lib.ListN.{length, length-set, get_or}
use Rattle.file_words.specs.Word.{le16}
use Rattle.arcs_groups.specs.Groups.{GroupEnd, run_weight}
use Rattle.arcs_groups.proofs.Groups.{only_one, run-one}
use Rattle.cut_index.specs.Steps.{arc_in}
use Rattle.cut_index.proofs.link_back.Goals as goal
use Rattle.cut_index.proofs.link_back.Goals.{After-get16-given}

pub single-requires : goal.single-requires
single-requires c =
    let start = c in
    let x = start.requires.0 in (
      record { some = omega (arith, x.within, start.requires.1); few = omega (arith, x.stands.some, x.stands.few); fit = omega (arith, x.stands.some, x.stands.fit); short = x.stands.short },
      omega (arith, x.stands.some, x.stands.fit),
      λ i l. x.zeros i (omega (arith, l, x.stands.some)),
    )

pub several_taken-requires : goal.several_taken-requires
several_taken-requires c = c.requires

pub returns-then-not-single : goal.returns-then-not-single
returns-then-not-single c = c.several_taken.ensures

pub get16-requires : goal.get16-requires
get16-requires c = let x = c.requires.0 in omega (arith, x.stands.some, x.behind)

pub get16-requires-2 : goal.get16-requires-2
get16-requires-2 c = let first = c in let x = first.requires.0 in omega (arith, x.stands.some, x.stands.fit)

pub several_given-requires : goal.several_given-requires
several_given-requires c = let first = c in first.requires

pub returns-then-get16 : goal.returns-then-get16
returns-then-get16 c = c.several_given.ensures

pub get16-taken-requires : goal.get16-taken-requires
get16-taken-requires c = let first = c in let start = first in let x = start.requires.0 in omega (arith, x.within, start.requires.1, x.stands.some, x.stands.fit)

pub get16-given-requires : goal.get16-given-requires
get16-given-requires c = let first = c in let x = first.requires.0 in omega (arith, x.stands.some, x.stands.fit)

-- both groups have one arc
ones : (c : After-get16-given) → let first = c in
    let a = first.args in
    let s = a.file.now in
    let i = arc_in (get_or a.head.now (2 * a.p) 0) in
    GroupEnd s a.start i a.j (i + 1) × GroupEnd s a.start a.j a.arcs (a.j + 1) × (c.get16-taken.result ≡ run_weight s a.start i (i + 1 - i)) × (c.get16-given.result ≡ run_weight s a.start a.j (a.j + 1 - a.j))
ones c =
    let both = c in
    let first = both in
    let x = first.requires.0 in (
      first.single.ensures (not-false _ first.if-not-single.false-raw),
      record {
        after = omega arith;
        within = omega (arith, x.stands.some);
        same = only_one _ _ _;
        other = λ l y. both.if-get16.false (both.get16.ensures.0 ∙ ap (le16 _) (omega arith) ∙ y.place ∙ sym both.get16-2.ensures.0);
      },
      c.get16-taken.ensures.0 ∙ sym (run-one _ _ _),
      c.get16-given.ensures.0 ∙ sym (run-one _ _ _),
    )

pub returns-then-given-taken : goal.returns-then-given-taken
returns-then-given-taken c =
    let x = ones (goal.at.returns-then-given-taken c).After-get16-given in
    record {
      own = x.1;
      until = _;
      group = x.0;
      less = λ l. (refl, refl);
      level = λ e. absurd (omega (arith, e, c.if-given-taken.true, x.2, x.3));
      more = λ l. absurd (omega (arith, l, c.if-given-taken.true, x.2, x.3));
    }

pub returns-then-taken-given : goal.returns-then-taken-given
returns-then-taken-given c =
    let x = ones (goal.at.returns-then-taken-given c).After-get16-given in
    record {
      own = x.1;
      until = _;
      group = x.0;
      less = λ l. absurd (omega (arith, l, c.if-taken-given.true, x.2, x.3));
      level = λ e. (refl, refl);
      more = λ l. absurd (omega (arith, l, c.if-taken-given.true, x.2, x.3));
    }

pub link_arc-requires : goal.link_arc-requires
link_arc-requires c =
    let asked = c in
    let first = asked in
    let x = first.requires.0 in
    (omega (arith, x.stands.few, x.stands.some), search rules, search rules, search rules)

pub shape_of-head : goal.shape_of-head
shape_of-head c = ap length c.link_arc.ensures.head_is ∙ simp length-set

pub returns : goal.returns
returns c =
    let unlike = c in
    let x = ones (goal.at.returns unlike).After-get16-given in
    record {
      own = x.1;
      until = _;
      group = x.0;
      less = λ l. absurd (omega (arith, l, unlike.if-given-taken.false, x.2, x.3));
      level = λ e. absurd (unlike.if-taken-given.false (x.2 ∙ e ∙ sym x.3));
      more = λ l. c.link_arc.ensures;
    }
