use Prim.Native.Nat.{ℕ, ◌*◌, ◌<◌}
use mathlib.Core.Bool.{false}
use mathlib.Core.List.{List}
use mathlib.Core.Path.{◌≡◌, sym, ap, ◌∙◌, subst}
use native.Mathlib.Omega.{arith}
use lib.Dec.{eqb}
use lib.ListN.{length}
use Rattle.net.specs.declared.Arc.{Arc}
use Rattle.file.specs.Layout.{net_from}
use Rattle.file.specs.Facts.{Sound}
use Rattle.arcs_starts.specs.Table.{Split}
use Rattle.file.proofs.Rows.{good_at}
use Rattle.sets_pending.specs.Growing.{PlacesKept}
use Rattle.arcs_column.specs.Ways.{transition_at}
use Rattle.cut_search.specs.Search.{needs_of, TransitionKept}
use Rattle.cut_search.proofs.Steps.{transition-known, transition-new, places_as}
use Rattle.cut_search.proofs.Needed.{needs_inputs}
use Rattle.cut_search.proofs.keep_transition.Goals as goal
use Rattle.cut_search.proofs.keep_transition.Goals.{After-arc-a, After-contains, After-insert, Start}

-- ---- the states: the call, the arc read, whether its transition is kept known, the transition put in

abbrev call : After-arc-a → Start
call c = (goal.at.After-arc-a c).Start

abbrev read : After-contains → After-arc-a
read c = (goal.at.After-contains c).After-arc-a

abbrev asked : After-insert → After-contains
asked c = (goal.at.After-insert c).After-contains

-- the transition of the arc, which is one of the net
same : (c : After-arc-a) → let s = call c in c.arc-a.result.transition ≡ transition_at s.args.file.now s.args.h.arcstart s.args.from
same c = ap (λ (a : Arc). a.transition) c.arc-a.ensures.0

inside : (c : After-arc-a) → c.arc-a.result.transition < (call c).args.h.transitions
inside c = let s = call c in omega (arith, same c, (good_at s.args.file.now s.args.h s.requires.sound.0 s.args.from s.requires.sound.1).transition)

few : (c : After-arc-a) → c.arc-a.result.transition < 1024
few c = omega (arith, inside c, (call c).requires.sound.0.placed.transitions)

pub contains-requires : goal.contains-requires
contains-requires c = few c

pub returns-then-contains : goal.returns-then-contains
returns-then-contains c =
    let a = read (goal.at.returns-then-contains c).After-contains in
    let s = call a in
    transition-known (needs_of (net_from s.args.file.now s.args.h)) _ _ (same a) _ _ _ (sym c.contains.ensures ∙ c.if-contains.true) s.requires.capped_value.1

pub insert-requires : goal.insert-requires
insert-requires c =
    let a = read (goal.at.insert-requires c).After-contains in
    (omega (arith, few a), (call a).requires.capped_value.1.transitions_long)

-- what both ways of keeping places ask
asks : (c : After-insert) → let s = call (read (asked c)) in let t = (read (asked c)).arc-a.result.transition in
    Sound s.args.file.now s.args.h × (t < s.args.h.transitions) × Split s.args.file.now s.args.h.arcstart s.args.h.arcs (2 * t) s.args.from × (length s.args.places.now ≡ 16)
asks c =
    let a = read (asked c) in
    let s = call a in (
      s.requires.sound.0,
      inside a,
      subst (λ (t : ℕ). Split s.args.file.now s.args.h.arcstart s.args.h.arcs (2 * t) s.args.from) (sym (same a)) s.requires.sound.2,
      s.requires.capped_value.1.places_long,
    )

-- the transition is new, and the places that it needs are kept
new : (c : After-insert) (m : ℕ) (P : List ℕ) → let a = read (asked c) in let s = call a in let N = net_from s.args.file.now s.args.h in let u = transition_at s.args.file.now s.args.h.arcstart s.args.from in
    PlacesKept (needs_of N a.arc-a.result.transition) s.args.marks m s.args.places.now P
    → TransitionKept (needs_of N u) u s.args.marks m s.args.places.now s.args.transitions.now P c.insert.new.words
new c m P kept =
    let a = read (asked c) in
    let s = call a in
    transition-new (needs_of (net_from s.args.file.now s.args.h)) _ _ (same a) _ _ _ _ _ _ (sym (asked c).contains.ensures ∙ c.if-contains.false) c.insert.ensures kept

pub keep_needed-requires : goal.keep_needed-requires
keep_needed-requires c = asks (goal.at.keep_needed-requires c).After-insert

pub returns-then-capped : goal.returns-then-capped
returns-then-capped c = new (goal.at.returns-then-capped c).After-insert _ _ c.keep_needed.ensures

pub keep_inputs-requires : goal.keep_inputs-requires
keep_inputs-requires c = asks (goal.at.keep_inputs-requires c).After-insert

pub returns : goal.returns
returns c =
    let put = c in
    let s = call (read (asked (goal.at.returns put).After-insert)) in
    let other : eqb s.args.h.edition 2 ≡ false = sym s.requires.capped_value.0 ∙ c.if-capped.false in
    new (goal.at.returns put).After-insert _ _ (places_as _ _ _ _ _ _ c.keep_inputs.ensures (needs_inputs s.args.file.now s.args.h other _))
