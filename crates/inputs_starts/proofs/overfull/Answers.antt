use Rattle.std.proofs.Common.{◌≡◌, sym, ap, ◌∙◌, ltb, lt-ltb, arith}
use Rattle.file.specs.Layout.{net_from}
use Rattle.promise.specs.Together.{standing}
use Rattle.promise.specs.Starts.{too_many}
use Rattle.promise.proofs.Started.{over_some, over_none}
use Rattle.inputs_starts.proofs.overfull.Goals as goal
use Rattle.inputs_starts.proofs.overfull.Goals.{After-limit-most}

-- one comparison is the test of the place
tested : (c : After-limit-most) →
    ltb c.limit-most.result (standing c.args.marking.now c.loop-p.p) ≡ too_many (standing c.args.marking.now c.loop-p.p) ((net_from c.args.file.now c.args.h).cap c.loop-p.p)
tested c =
    let tokens = standing c.args.marking.now c.loop-p.p in
    c.limit-most.ensures tokens ∙ ap (too_many tokens) c.cap.ensures.0

pub returns-then-most-marking : goal.returns-then-most-marking
returns-then-most-marking c =
    sym (over_some (net_from c.args.file.now c.args.h) (standing c.args.marking.now) c.loop-p.p c.loop-p-test.true (sym (tested (goal.at.returns-then-most-marking c).After-limit-most) ∙ lt-ltb _ _ c.if-most-marking.true))

pub returns : goal.returns
returns c =
    sym (over_none (net_from c.args.file.now c.args.h) (standing c.args.marking.now) (λ q u. c.loop-p.invariant q (omega (arith, u, c.loop-p-test.false))))
