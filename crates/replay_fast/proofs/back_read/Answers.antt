use Rattle.std.proofs.Common.{ap}
use Rattle.net.specs.declared.Arc.{Arc}
use Rattle.replay_fast.proofs.Moving.{place_inside, read_weighs, read_change, back_more}
use Rattle.replay_fast.proofs.back_read.Goals as goal

pub added-c-requires : goal.added-c-requires
added-c-requires c = read_weighs c.requires c.loop-j.j c.loop-j-test.true c.arc-a.ensures.0

pub bounds-marking-p : goal.bounds-marking-p
bounds-marking-p c = place_inside c.requires c.loop-j.j c.loop-j-test.true (ap (λ (a : Arc). a.place) c.arc-a.ensures.0) c.loop-j.invariant.moved.long

pub bounds-marking-p-in-loop-j : goal.bounds-marking-p-in-loop-j
bounds-marking-p-in-loop-j c = place_inside c.requires c.loop-j.j c.loop-j-test.true (ap (λ (a : Arc). a.place) c.arc-a.ensures.0) c.loop-j.invariant.moved.long

pub loop-j-preserved : goal.loop-j-preserved
loop-j-preserved c =
    back_more c.requires c.loop-j.j c.loop-j-test.true (read_change c.requires c.loop-j.j c.loop-j-test.true c.arc-a.ensures.0 c.added-c.ensures) c.loop-j.invariant
    (ap (λ (a : Arc). a.place) c.arc-a.ensures.0) c.added-c.type_inv
