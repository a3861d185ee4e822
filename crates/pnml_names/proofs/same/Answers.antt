use Rattle.std.proofs.Common.{arith, sym, ◌∙◌}
use Rattle.pnml_names.proofs.Ids as ids
use Rattle.pnml_names.proofs.same.Goals as goal

pub returns-in-None-None : goal.returns-in-None-None
returns-in-None-None c = ids.over c.loop-x.invariant (sym c.in-None-None.is-0 ∙ c.character.ensures) (sym c.in-None-None.is-1 ∙ c.character-in-loop-x.ensures)

pub returns-in_default : goal.returns-in_default
returns-in_default c = ids.unlike c.loop-x.invariant (sym c.in_default.is-0 ∙ c.character.ensures) (sym c.in_default.is-1 ∙ c.character-in-loop-x.ensures) (λ e. ids.some_none (sym e))

pub returns-in_default-2 : goal.returns-in_default-2
returns-in_default-2 c = ids.unlike c.loop-x.invariant (sym c.in-Some-Some.is-0 ∙ c.character.ensures) (sym c.in-Some-Some.is-1 ∙ c.character-in-loop-x.ensures) (λ e. c.if-x-y.false (ids.same_some e))

pub returns-in_default-3 : goal.returns-in_default-3
returns-in_default-3 c = ids.unlike c.loop-x.invariant (sym c.in_default.is-0 ∙ c.character.ensures) (sym c.in_default.is-1 ∙ c.character-in-loop-x.ensures) ids.some_none

pub overflow_add-i : goal.overflow_add-i
overflow_add-i c = omega (arith, ids.within c.args.text.now c.loop-x.i (sym c.in-Some-Some.is-0 ∙ c.character.ensures))

pub overflow_add-j : goal.overflow_add-j
overflow_add-j c = omega (arith, ids.within c.args.text.now c.loop-x.j (sym c.in-Some-Some.is-1 ∙ c.character-in-loop-x.ensures))

pub loop-x-smaller : goal.loop-x-smaller
loop-x-smaller c = omega (arith, ids.within c.args.text.now c.loop-x.i (sym c.in-Some-Some.is-0 ∙ c.character.ensures))

pub loop-x-preserved : goal.loop-x-preserved
loop-x-preserved c = ids.on c.loop-x.invariant (sym c.in-Some-Some.is-0 ∙ c.character.ensures) (sym c.in-Some-Some.is-1 ∙ c.character-in-loop-x.ensures) c.if-x-y.true
