use Prim.Native.Nat.{ℕ, ◌-◌, ◌/◌, ◌%◌, ◌≤◌, ◌<◌}
use mathlib.Core.Bool.{Bool, true, false}
use mathlib.Core.Path.{◌≡◌, ap, ◌∙◌, subst, sym}
use native.Mathlib.Omega.{arith}
use lib.Dec.{eqb}
use lib.ListN.{length, get_or, set}
use Rattle.net.specs.declared.Arc.{Arc}
use Rattle.file.proofs.Rows.{good_at}
use Rattle.arcs_starts.specs.Table.{choose}
use Rattle.arcs_column.specs.Ways.{transition_at}
use Rattle.run_feed.proofs.Raising.{due_of, Along, row_below, row_first, along_more, along_end}
use Rattle.run_feed.proofs.add_raisers.Goals as goal
use Rattle.run_feed.proofs.add_raisers.Goals.{After-arc-a, After-due-from}

-- ---- the states: the arc of a turn read, what is due known

abbrev read_of : After-due-from → After-arc-a
read_of c = (goal.at.After-due-from c).After-arc-a

-- the transition of the arc is one of the plan's
transition_is : (c : After-arc-a) → c.arc-a.result.transition ≡ transition_at c.args.file.now c.args.h.arcstart (c.loop-e.e % 65536 - 1)
transition_is c = ap (λ (a : Arc). a.transition) c.arc-a.ensures.0

transition_fits : (c : After-arc-a) → c.arc-a.result.transition < c.args.h.transitions
transition_fits c =
    omega (arith, transition_is c, (good_at c.args.file.now c.args.h c.requires.0 (c.loop-e.e % 65536 - 1) (row_below _ c.args.h _ _ c.requires.1 _ _ _ _ _ c.loop-e.invariant c.loop-e-test.true)).transition)

has_entry : (c : After-arc-a) → c.arc-a.result.transition < length c.loop-e.first
has_entry c = omega (arith, transition_fits c, c.requires.4, c.loop-e.invariant.long)

-- what is due is the entry, or 0
due_is : (c : After-due-from) → c.due-from.result ≡ due_of c.args.last.now c.arc-a.result.transition (c.loop-e.e / 65536)
due_is c = c.due-from.ensures ∙ ap (λ (n : ℕ). choose (eqb n 0) (c.loop-e.e / 65536) 0) c.entry.ensures.0

due_few : (b : Bool) (n : ℕ) → choose b n 0 ≤ n
due_few true n = omega arith
due_few false n = omega arith

pub entry-requires : goal.entry-requires
entry-requires c = omega (arith, transition_fits c, c.requires.3)

pub overflow_cast-first : goal.overflow_cast-first
overflow_cast-first c = omega (
  arith,
  (row_first _ c.args.h _ _ c.requires.1 _ _ _ _ _ c.loop-e.invariant c.loop-e-test.true).within,
  c.requires.0.placed.arcs,
  due_is c,
  due_few (eqb (get_or c.args.last.now c.arc-a.result.transition 0) 0) (c.loop-e.e / 65536),
)

pub bounds-first-t : goal.bounds-first-t
bounds-first-t c = has_entry (read_of c)

pub loop-e-preserved : goal.loop-e-preserved
loop-e-preserved c =
    let due = (goal.at.loop-e-preserved c).After-due-from in
    subst (λ (n : ℕ). Along c.args.file.now c.args.h c.args.p (get_or c.args.next.now (c.loop-e.e % 65536 - 1) 0) c.args.last.now c.args.first.now (set c.loop-e.first c.arc-a.result.transition n)) (sym (due_is due))
    (along_more _ c.args.h _ _ c.requires.1 _ _ _ _ _ c.loop-e.invariant c.loop-e-test.true _ (transition_is (read_of due)) (has_entry (read_of due)))

pub returns : goal.returns
returns c = along_end _ c.args.h _ _ c.requires.1 _ _ _ _ _ c.loop-e.invariant c.loop-e-test.false
