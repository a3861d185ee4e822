use Rattle.std.proofs.Common.{ℕ, ltb, length, sym, ap, arith, le-ltb}
use Rattle.projection.specs.Choice.{chosen_by}
use Rattle.projection.proofs.Choices.{chosen-few}
use Rattle.projection.proofs.lacks.Goals as goal

pub returns-then-list-room : goal.returns-then-list-room
returns-then-list-room c =
    let start = c in
    sym (le-ltb start.args.room (length (chosen_by start.args.table.now start.args.list.now)) (omega (arith, c.if-list-room.true, chosen-few start.args.table.now start.args.list.now)))

pub returns : goal.returns
returns c = ap (λ (x : ℕ). ltb c.args.room x) c.count.ensures
