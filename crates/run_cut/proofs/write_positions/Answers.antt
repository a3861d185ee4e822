use Prim.Native.Nat.{ℕ}
use mathlib.Core.List.{List, ◌++◌}
use mathlib.Core.Path.{◌≡◌, refl, ap, ◌∙◌}
use native.Mathlib.Omega.{arith}
use lib.Dec.{ltb}
use lib.ListN.{length, drop}
use Rattle.arcs_starts.specs.Table.{choose}
use Rattle.run_cut.proofs.Filling.{ended_at, chosen-ended, still_one, filled_none, one_or_none, few, filled_next, n_is, filled_all}
use Rattle.run_cut.proofs.write_positions.Goals as goal

pub loop-i-init : goal.loop-i-init
loop-i-init c = filled_none _ _ _ _ refl (omega (arith, c.requires.2, ap length (chosen-ended c.args.list.now c.args.last.now c.args.end (ended_at _ _ _ c.requires.1))))

pub overflow_cast-positions : goal.overflow_cast-positions
overflow_cast-positions c = omega (arith, c.loop-i-test.true, (ended_at _ _ _ c.requires.1).within, c.requires.0.short)

-- one of the firings from this one on is chosen
pub offset_bounds-positions-n : goal.offset_bounds-positions-n
offset_bounds-positions-n c =
    let end = ended_at _ _ _ c.requires.1 in
    omega (arith, few _ _ _ _ _ _ _ c.loop-i.invariant, c.loop-i-test.true, end.within, c.requires.0.short)

pub bounds-positions-n : goal.bounds-positions-n
bounds-positions-n c =
    let one_left = still_one _ _ _ _ (ended_at _ _ _ c.requires.1) c.loop-i-test.true in
    omega (arith, c.loop-i.invariant.room, c.loop-i.invariant.long, c.loop-i.invariant.written, one_left)

pub offset_bounds-list-i : goal.offset_bounds-list-i
offset_bounds-list-i c = omega (arith, c.loop-i-test.true, (ended_at _ _ _ c.requires.1).within, c.requires.0.short)

pub bounds-list-i : goal.bounds-list-i
bounds-list-i c = omega (arith, c.loop-i-test.true, (ended_at _ _ _ c.requires.1).within)

pub entry-requires : goal.entry-requires
entry-requires c = c.requires.0.known c.loop-i.i (omega (arith, c.loop-i-test.true, (ended_at _ _ _ c.requires.1).within))

pub overflow_add-n : goal.overflow_add-n
overflow_add-n c =
    let end = ended_at _ _ _ c.requires.1 in
    omega (arith, c.share-n.ensures, one_or_none (ltb c.loop-i.i c.entry.result), few _ _ _ _ _ _ _ c.loop-i.invariant, c.loop-i-test.true, end.within, c.requires.0.short)

pub loop-i-preserved : goal.loop-i-preserved
loop-i-preserved c =
    let one_left = still_one _ _ _ _ (ended_at _ _ _ c.requires.1) c.loop-i-test.true in
    filled_next _ _ _ _ _ _ _ c.loop-i.invariant (omega (arith, c.loop-i.invariant.written, one_left)) _
    (c.share-n.ensures ∙ ap (λ (n : ℕ). choose (ltb c.loop-i.i n) 1 0) c.entry.ensures.0)

pub returns : goal.returns
returns c =
    let all = chosen-ended c.args.list.now c.args.last.now c.args.end (ended_at _ _ _ c.requires.1) in
    let last : c.loop-i.i ≡ c.args.end = omega (arith, c.loop-i-test.false, c.loop-i.auto) in
    (n_is _ _ _ _ _ _ _ c.loop-i.invariant last ∙ ap length all, filled_all _ _ _ _ _ _ _ c.loop-i.invariant last ∙ ap (λ (l : List ℕ). l ++ drop (length l) c.args.positions.now) all)
