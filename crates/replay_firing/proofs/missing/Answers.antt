use mathlib.Core.Path.{ap}
use native.Mathlib.Omega.{arith}
use Rattle.net.specs.declared.Arc.{Arc}
use Rattle.replay_firing.proofs.Short.{whole}
use Rattle.replay_firing.proofs.missing.Goals as goal

pub overflow_sub-whole : goal.overflow_sub-whole
overflow_sub-whole c =
    let w = whole c.requires c.group-all.result.end c.group-all.ensures.0 in
    omega (arith, w.0, w.1, c.group-all.ensures.1, ap (λ (a : Arc). a.weight) c.arc-a.ensures.0)

pub overflow_sub-result : goal.overflow_sub-result
overflow_sub-result c =
    let w = whole c.requires c.group-all.result.end c.group-all.ensures.0 in
    omega (arith, w.0, w.1, c.group-all.ensures.1, c.requires.over, ap (λ (a : Arc). a.weight) c.arc-a.ensures.0)

pub returns : goal.returns
returns c =
    let w = whole c.requires c.group-all.result.end c.group-all.ensures.0 in
    omega (arith, w.0, c.group-all.ensures.1, ap (λ (a : Arc). a.weight) c.arc-a.ensures.0)
