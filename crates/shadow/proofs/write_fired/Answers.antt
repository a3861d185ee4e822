use mathlib.Core.Path.{ap}
use Rattle.std.proofs.Common.{Ok}
use native.Mathlib.Omega.{arith}
use Rattle.shadow.proofs.Casting.{part-long, part-reached, few_chosen, cast_none, space_enough, cast_all}
use Rattle.shadow.proofs.write_fired.Goals as goal
use Rattle.shadow.proofs.write_fired.Goals.{After-fired-end, After-lacks-lacking, Start}

-- ---- the states: the end of what is fired known, then the room tested

abbrev call : After-fired-end → Start
call c = (goal.at.After-fired-end c).Start

abbrev ended : After-lacks-lacking → After-fired-end
ended c = (goal.at.After-lacks-lacking c).After-fired-end

pub slice_bounds-part-end : goal.slice_bounds-part-end
slice_bounds-part-end c = part-long (call c).requires c.fired-end.ensures

pub lacks-lacking-requires : goal.lacks-lacking-requires
lacks-lacking-requires c = part-reached (call c).requires c.fired-end.ensures

pub returns-then-lacking : goal.returns-then-lacking
returns-then-lacking c =
    let end = ended (goal.at.returns-then-lacking c).After-lacks-lacking in
    cast_none (call end).requires end.fired-end.ensures c.lacks-lacking.ensures c.if-lacking.true

pub write-n-requires : goal.write-n-requires
write-n-requires c =
    let room = c in
    let end = ended (goal.at.write-n-requires room).After-lacks-lacking in
    record { reached = part-reached (call end).requires end.fired-end.ensures; list_in_bounds = space_enough (call end).requires end.fired-end.ensures (call end).args.out.now room.lacks-lacking.ensures room.if-lacking.false }

pub overflow_cast-count : goal.overflow_cast-count
overflow_cast-count c =
    let written = c in
    let end = ended (goal.at.overflow_cast-count written).After-lacks-lacking in
    omega (arith, written.write-n.ensures.count, few_chosen (call end).requires end.fired-end.ensures)

pub returns : goal.returns
returns c =
    let written = c in
    let room = written in
    let end = ended (goal.at.returns room).After-lacks-lacking in
    cast_all (call end).requires end.fired-end.ensures room.lacks-lacking.ensures room.if-lacking.false written.write-n.ensures.count written.write-n.ensures.output (ap Ok c.with_count.ensures)
