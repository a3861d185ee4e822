use native.Mathlib.Omega.{arith}
use Prim.Native.Nat.{◌*◌}
use lib.ListN.{get_or}
use Rattle.sets.specs.Member.{member}
use Rattle.tables.proofs.Storing.{storing_as, storing_part, storing_none}
use Rattle.slice_members.specs.List.{bits_from}
use Rattle.slice_members.proofs.Selected.{members_next, members_count, selected-end}
use Rattle.slice_members.proofs.members.Goals as goal

pub word_members-n-requires-clause-word_in_bounds : goal.word_members-n-requires-clause-word_in_bounds
word_members-n-requires-clause-word_in_bounds c =
    let at = c.loop-i in
    omega (arith, members_count c.args.words.now at.i c.args.count c.loop-i-test.true, at.invariant.long, at.invariant.count, c.requires.count_in_bounds)

pub loop-i-preserved : goal.loop-i-preserved
loop-i-preserved c =
    let at = c.loop-i in
    let words = c.args.words.now in
    let call = c.word_members-n in
    storing_part (bits_from (at.i * 64) (get_or words at.i 0)) _ _ _ (storing_as at.invariant (members_next words at.i c.args.count c.loop-i-test.true)) call.ensures.1 call.ensures.0

pub returns : goal.returns
returns c = storing_none (storing_as c.loop-i.invariant (selected-end (member c.args.words.now) c.loop-i.i c.args.count (omega (arith, c.loop-i-test.false))))
