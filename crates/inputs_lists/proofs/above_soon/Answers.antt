use Rattle.std.proofs.Common.{◌≤◌, IsTrue, SomeIndex, slice_index, ◌↔◌, rules}
use Rattle.inputs_lists.proofs.Prefixes.{any_is}
use Rattle.inputs_lists.proofs.above_soon.Goals as goal

pub returns : goal.returns
returns c =
    let h : IsTrue c.any.result ↔ SomeIndex c.args.list.now (λ k. c.args.limit ≤ slice_index c.args.list.now k) = search rules in
    any_is _ _ _ h
