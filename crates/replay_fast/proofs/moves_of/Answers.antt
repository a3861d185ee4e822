use Rattle.std.proofs.Common.{ap, arith}
use Rattle.net.specs.declared.Arc.{Arc}
use Rattle.file.proofs.Rows.{good_at}
use Rattle.replay_fast.proofs.moves_of.Goals as goal

pub change_of-requires : goal.change_of-requires
change_of-requires c = record {
  some = omega (arith, ap (λ (a : Arc). a.weight) c.arc-a.ensures.0, (good_at c.args.file.now c.args.h c.requires.sound c.loop-j.j c.loop-j-test.true).weight);
  below = c.arc-a.ensures.1.weight;
}
