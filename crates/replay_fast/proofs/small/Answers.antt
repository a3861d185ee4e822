use Rattle.std.proofs.Common.{arith}
use Rattle.file_words.specs.Word.{Bytes}
use Rattle.replay_fast.proofs.Fitting.{small_net, small_tabled, small_ways, small_indexed}
use Rattle.replay_fast.proofs.small.Goals as goal

pub firsts-requires-clause-tabled : goal.firsts-requires-clause-tabled
firsts-requires-clause-tabled c = small_tabled c.requires.sound (small_net c.args.h _ c.if-h-list.false)

pub firsts-requires-clause-by_index : goal.firsts-requires-clause-by_index
firsts-requires-clause-by_index c = small_ways c.requires.sound (small_net c.args.h _ c.if-h-list.false)

pub march_read-requires-clause-indexed : goal.march_read-requires-clause-indexed
unfolding Bytes
march_read-requires-clause-indexed c =
    small_indexed c.requires.sound (small_net c.args.h _ c.if-h-list.false) (λ i. omega (arith, c.type_inv.file i)) c.firsts.ensures.0 c.firsts.ensures.1 c.requires.marking_len
