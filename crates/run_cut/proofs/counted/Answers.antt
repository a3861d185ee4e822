use Prim.Native.Nat.{ℕ}
use mathlib.Core.Path.{◌≡◌, ap, ◌∙◌}
use native.Mathlib.Omega.{arith}
use lib.Dec.{ltb}
use lib.ListN.{length}
use Rattle.net.specs.Numbers.{selected}
use Rattle.net.proofs.Numbers.{length-selected}
use Rattle.arcs_starts.specs.Table.{choose}
use Rattle.run_cut.proofs.Filling.{chosen_in, ended_at, chosen-ended, none_yet, one_or_none, counted_next}
use Rattle.run_cut.proofs.counted.Goals as goal

pub loop-k-init : goal.loop-k-init
loop-k-init c = none_yet _

pub offset_bounds-list-k : goal.offset_bounds-list-k
offset_bounds-list-k c = omega (arith, c.loop-k-test.true, (ended_at _ _ _ c.requires.1).within, c.requires.0.short)

pub bounds-list-k : goal.bounds-list-k
bounds-list-k c = omega (arith, c.loop-k-test.true, (ended_at _ _ _ c.requires.1).within)

pub entry-requires : goal.entry-requires
entry-requires c = c.requires.0.known c.loop-k.k (omega (arith, c.loop-k-test.true, (ended_at _ _ _ c.requires.1).within))

pub overflow_add-n : goal.overflow_add-n
overflow_add-n c =
    let f = chosen_in c.args.list.now c.args.last.now in
    let end = ended_at _ _ _ c.requires.1 in
    omega (arith, c.share-n.ensures, one_or_none (ltb c.loop-k.k c.entry.result), c.loop-k.invariant, length-selected f 0 c.loop-k.k, c.loop-k-test.true, end.within, c.requires.0.short)

pub loop-k-preserved : goal.loop-k-preserved
loop-k-preserved c = counted_next _ _ _ _ c.loop-k.invariant (c.share-n.ensures ∙ ap (λ (n : ℕ). choose (ltb c.loop-k.k n) 1 0) c.entry.ensures.0)

pub returns : goal.returns
returns c =
    let f = chosen_in c.args.list.now c.args.last.now in
    let same : c.loop-k.k ≡ c.args.end = omega (arith, c.loop-k-test.false, c.loop-k.auto) in
    c.loop-k.invariant ∙ ap (λ (m : ℕ). length (selected f 0 m)) same ∙ ap length (chosen-ended _ _ _ (ended_at _ _ _ c.requires.1))
