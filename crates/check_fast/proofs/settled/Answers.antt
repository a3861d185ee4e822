use mir.Syntax.{w32}
use Prim.Native.Nat.{◌<◌}
use mir.Facts.{to_z-of_z}
use mathlib.Core.Path.{refl, sym, ap, ◌∙◌}
use native.Mathlib.Omega.{arith}
use Rattle.net.specs.declared.Arc.{Arc}
use Rattle.check_fast.proofs.Ends.{apart}
use Rattle.check_fast.proofs.Walking.{joined-fits, good_word}
use Rattle.check_fast.proofs.Settling.{settled_raise, settled_change, nine_ten}
use Rattle.check_fast.proofs.settled.Goals as goal
use Rattle.check_fast.proofs.settled.Goals.{After-arc_of-a, After-word-w, Start}

-- ---- the states: the call, the arc's word read, its parts known

abbrev call : After-word-w → Start
call c = (goal.at.After-word-w c).Start

abbrev word_of : After-arc_of-a → After-word-w
word_of c = (goal.at.After-arc_of-a c).After-word-w

-- the arc's transition is one of the plan's
known : (c : After-arc_of-a) → c.arc_of-a.result.transition < (call (word_of c)).args.hp.transitions
known c =
    let w = word_of c in
    let s = call w in
    omega (arith, (good_word _ _ _ _ _ _ _ s.requires.ready _ s.requires.j_lt_arcs _ w.word-w.ensures (omega arith)).transition, ap (λ (a : Arc). a.transition) c.arc_of-a.ensures.0)

pub joined-z-requires : goal.joined-z-requires
joined-z-requires c =
    let s = call c in
    let f = joined-fits _ _ _ _ _ _ _ s.requires.ready _ s.requires.j_lt_arcs _ c.word-w.ensures (omega arith) in
    record { w_in_bounds = (f.0, f.1); transitions_bound = f.2 }

pub effect-requires : goal.effect-requires
effect-requires c = let a = c in ((call (word_of (goal.at.effect-requires a).After-arc_of-a)).requires.ready.planned, known (goal.at.effect-requires a).After-arc_of-a)

pub returns-then-flags-eq8 : goal.returns-then-flags-eq8
returns-then-flags-eq8 c = λ h.
    let effect = c.effect in
    let a = c in
    let w = word_of (goal.at.returns-then-flags-eq8 a).After-arc_of-a in
    let s = call w in
    settled_raise _ _ _ _ _ _ _ s.requires.ready _ s.requires.j_lt_arcs _ w.word-w.ensures (omega arith) _ a.joined-z.ensures _ a.arc_of-a.ensures.0
    _ (to_z-of_z {w = w32} (record { sfits = effect.type_inv }) ∙ effect.ensures) c.if-flags-eq8.true (sym c.lowers.ensures ∙ h)

pub effect-requires-then-flags : goal.effect-requires-then-flags
effect-requires-then-flags c = let a = c in ((call (word_of (goal.at.effect-requires-then-flags a).After-arc_of-a)).requires.ready.planned, known (goal.at.effect-requires-then-flags a).After-arc_of-a)

pub returns-then-flags : goal.returns-then-flags
returns-then-flags c = λ h.
    let effect = c.effect-then-flags in
    let a = c in
    let w = word_of (goal.at.returns-then-flags a).After-arc_of-a in
    let s = call w in
    let f = nine_ten _ c.if-flags.true in
    settled_change _ _ _ _ _ _ _ s.requires.ready _ s.requires.j_lt_arcs _ w.word-w.ensures (omega arith) _ a.joined-z.ensures _ a.arc_of-a.ensures.0
    _ (to_z-of_z {w = w32} (record { sfits = effect.type_inv }) ∙ effect.ensures) f.0 f.1 (sym c.balances.ensures ∙ h)

pub returns : goal.returns
returns c = λ e. apart e refl
