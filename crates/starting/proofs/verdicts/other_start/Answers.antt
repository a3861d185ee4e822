use Prim.Native.Nat.{ℕ, ◌<◌}
use mathlib.Core.Path.{◌≡◌, sym, ap, ◌∙◌}
use native.Mathlib.Omega.{arith}
use lib.ListN.{length, get_or}
use borrow.Author.Count.{below_more}
use borrow.Author.Tests.{not-true, not-false}
use Rattle.file.specs.Layout.{net_from, slice_from}
use Rattle.file.proofs.Rows.{length-words, words_at}
use Rattle.promise.specs.Together.{standing}
use Rattle.promise.specs.Starts.{starting_at}
use Rattle.rules_origins.specs.Known.{same_at}
use Rattle.rules_origins.proofs.Keeping.{other_found, other_none}
use Rattle.starting.proofs.verdicts.other_start.Goals as goal
use Rattle.starting.proofs.verdicts.other_start.Goals.{After-alike, After-get16-origin, At-loop-i, In-loop-i, Start}

-- ---- the states: the call, the head of a turn, its origin read, the two places compared

abbrev call : At-loop-i → Start
call c = (goal.at.At-loop-i c).Start

abbrev turn_of : After-get16-origin → In-loop-i
turn_of c = (goal.at.After-get16-origin c).In-loop-i

abbrev read_of : After-alike → After-get16-origin
read_of c = (goal.at.After-alike c).After-get16-origin

-- the origin that was read, and that the plan knows it
origin_is : (c : After-get16-origin) → let t = (turn_of c) in let a = (call (goal.at.In-loop-i t).At-loop-i).args in c.get16-origin.result ≡ get_or (slice_from a.slice.now a.hs).place_origins t.loop-i.i 0
origin_is c =
    let t = turn_of c in
    let a = (call (goal.at.In-loop-i t).At-loop-i).args in
    c.get16-origin.ensures.0 ∙ sym (words_at a.slice.now a.hs.originstart a.hs.places t.loop-i.i t.loop-i-test.true)

inside : (c : In-loop-i) → let a = (call (goal.at.In-loop-i c).At-loop-i).args in c.loop-i.i < length (slice_from a.slice.now a.hs).place_origins
inside c = let a = (call (goal.at.In-loop-i c).At-loop-i).args in omega (arith, length-words a.slice.now a.hs.originstart a.hs.places, c.loop-i-test.true)

known : (c : After-get16-origin) → c.get16-origin.result < (call (goal.at.In-loop-i (turn_of c)).At-loop-i).args.hp.places
known c =
    let t = turn_of c in
    omega (arith, origin_is c, (call (goal.at.In-loop-i t).At-loop-i).requires.known.at t.loop-i.i (inside t))

-- what the comparison says of the slice's place and its origin
compared : (c : After-alike) → let t = (turn_of (read_of c)) in let a = (call (goal.at.In-loop-i t).At-loop-i).args in
    c.alike.result ≡ same_at (starting_at (standing a.start.now) (net_from a.plan.now a.hp)) (net_from a.slice.now a.hs) t.loop-i.i (get_or (slice_from a.slice.now a.hs).place_origins t.loop-i.i 0)
compared c =
    let t = (turn_of (read_of c)) in
    let a = (call (goal.at.In-loop-i t).At-loop-i).args in
    c.alike.ensures ∙ ap (λ (p : ℕ). same_at (starting_at (standing a.start.now) (net_from a.plan.now a.hp)) (net_from a.slice.now a.hs) t.loop-i.i p) (origin_is (read_of c))

pub bounds-start-origin : goal.bounds-start-origin
bounds-start-origin c =
    let read = c in
    omega (arith, known (goal.at.bounds-start-origin read).After-get16-origin, (call (goal.at.In-loop-i (turn_of (goal.at.bounds-start-origin read).After-get16-origin)).At-loop-i).requires.start_len)

pub alike-requires-clause-p_lt_places : goal.alike-requires-clause-p_lt_places
alike-requires-clause-p_lt_places c =
    let read = c in
    let t = turn_of (goal.at.alike-requires-clause-p_lt_places read).After-get16-origin in
    (known (goal.at.alike-requires-clause-p_lt_places read).After-get16-origin, t.loop-i-test.true)

pub returns-then-not-alike : goal.returns-then-not-alike
returns-then-not-alike c =
    let same = c in
    let t = turn_of (read_of (goal.at.returns-then-not-alike same).After-alike) in
    let pre = (call (goal.at.In-loop-i t).At-loop-i).requires in
    origin_is (read_of (goal.at.returns-then-not-alike same).After-alike)
    ∙ other_found _ _ (pre.sound.place_origins pre.kind_value) pre.known t.loop-i.i (inside t) t.loop-i.invariant
    (sym (compared (goal.at.returns-then-not-alike same).After-alike) ∙ not-true _ c.if-not-alike.true-raw)

pub loop-i-preserved : goal.loop-i-preserved
loop-i-preserved c =
    let same = c in
    let t = turn_of (read_of (goal.at.loop-i-preserved same).After-alike) in
    below_more _ _ t.loop-i.invariant (record { same = sym (compared (goal.at.loop-i-preserved same).After-alike) ∙ not-false _ c.if-not-alike.false-raw })

pub returns : goal.returns
returns c =
    let s = call (goal.at.returns c).At-loop-i in
    let a = s.args in
    let pre = s.requires in
    let long = length-words a.slice.now a.hs.originstart a.hs.places in
    other_none _ _ (pre.sound.place_origins pre.kind_value) pre.known (λ k l. c.loop-i.invariant k (omega (arith, c.loop-i-test.false)))
