use native.Mathlib.Omega.{arith}
use lib.ListN.{get_or}
use Rattle.file_words.specs.Word.{bytes16}
use Rattle.file_words.proofs.Bytes.{length-16}
use Rattle.tables.proofs.Storing.{storing_as, storing_part, storing_none}
use Rattle.slice_parts.proofs.Steps.{origins_next, origins_end}
use Rattle.slice_parts.proofs.write_origins.Goals as goal

pub loop-i-preserved : goal.loop-i-preserved
loop-i-preserved c =
    let at = c.loop-i in
    let list = c.args.list.now in
    let o = get_or list at.i 0 in
    storing_part (bytes16 o) _ _ _ (storing_as at.invariant (origins_next list at.i c.loop-i-test.true)) c.put16.ensures (omega (arith, length-16 o))

pub returns : goal.returns
returns c = storing_none (storing_as c.loop-i.invariant (origins_end c.args.list.now c.loop-i.i (omega (arith, c.loop-i.auto, c.loop-i-test.false))))
