use Rattle.std.proofs.Common.{◌≡◌, ◌<◌, get_or, length, take, arith, ◌∙◌}
use Rattle.std.proofs.lemmas.List.{get_or-take, length-take-le}
use Rattle.projection.proofs.Choices.{written_none, written_next, written_all, fits}
use Rattle.projection.proofs.write.Goals as goal
use Rattle.projection.proofs.write.Goals.{At-loop-t}

-- The numbers of the entries passed stand first, then what was lent past all of them (`Written`).

-- the part of the list that is gone over is as long as its end says
long : (c : At-loop-t) → length (take c.last_chosen-end.result c.args.list.now) ≡ c.last_chosen-end.result
long c = length-take-le _ c.args.list.now c.last_chosen-end.ensures.within

pub loop-t-init : goal.loop-t-init
loop-t-init c = written_none c.requires.reached c.requires.list_in_bounds c.last_chosen-end.ensures

pub bounds-out-n : goal.bounds-out-n
bounds-out-n c =
    let x = c.loop-t.invariant in
    omega (arith, fits x (omega (arith, c.loop-t-test.true, long (goal.at.bounds-out-n c).At-loop-t)), x.room, x.long)

pub loop-t-preserved : goal.loop-t-preserved
loop-t-preserved c =
    let l : c.loop-t.t-index < c.last_chosen-end.result = omega (arith, c.loop-t-test.true, long (goal.at.loop-t-preserved c).At-loop-t) in
    let is : c.from.result ≡ get_or c.args.list.now c.loop-t.t-index 0 = c.from.ensures ∙ get_or-take _ c.args.list.now _ 0 l in
    rw is (written_next c.loop-t.invariant l (omega (arith, c.type_inv.table (get_or c.args.list.now c.loop-t.t-index 0))) (rw is at c.share-n.ensures))

pub returns-clause-output : goal.returns-clause-output
returns-clause-output c = written_all c.loop-t.invariant (omega (arith, c.loop-t-test.false, long (goal.at.returns-clause-output c).At-loop-t))
