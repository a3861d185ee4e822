use Prim.Native.Nat.{◌<◌}
use mathlib.Core.Path.{◌≡◌, sym, ap, ◌∙◌}
use native.Mathlib.Omega.{arith}
use borrow.Author.Tests.{eq-eqb, ne_eqb}
use lib.ListN.{length, get_or}
use borrow.Author.Count.{below_more}
use Rattle.file.specs.Layout.{net_from, slice_from}
use Rattle.file.proofs.Rows.{length-words, words_at}
use Rattle.rules_origins.proofs.Keeping.{tokens-decide, other_found, other_none}
use Rattle.rules_origins.proofs.other_tokens.Goals as goal
use Rattle.rules_origins.proofs.other_tokens.Goals.{After-get16-p, After-marking, At-loop-i, In-loop-i, Start}

-- ---- the states: the call, the head of a turn, its origin read, both markings read

abbrev call : At-loop-i → Start
call c = (goal.at.At-loop-i c).Start

abbrev turn_of : After-get16-p → In-loop-i
turn_of c = (goal.at.After-get16-p c).In-loop-i

abbrev origin_of : After-marking → After-get16-p
origin_of c = (goal.at.After-marking c).After-get16-p

-- the origin that was read
origin_is : (c : After-get16-p) → let t = (turn_of c) in let a = (call (goal.at.In-loop-i t).At-loop-i).args in c.get16-p.result ≡ get_or (slice_from a.slice.now a.hs).place_origins t.loop-i.i 0
origin_is c =
    let t = turn_of c in
    let a = (call (goal.at.In-loop-i t).At-loop-i).args in
    c.get16-p.ensures.0 ∙ sym (words_at a.slice.now a.hs.originstart a.hs.places t.loop-i.i t.loop-i-test.true)

inside : (c : In-loop-i) → let a = (call (goal.at.In-loop-i c).At-loop-i).args in c.loop-i.i < length (slice_from a.slice.now a.hs).place_origins
inside c = let a = (call (goal.at.In-loop-i c).At-loop-i).args in omega (arith, length-words a.slice.now a.hs.originstart a.hs.places, c.loop-i-test.true)

-- the plan's tokens of that place
tokens_are : (c : After-marking) → let o = origin_of c in let t = (turn_of o) in let a = (call (goal.at.In-loop-i t).At-loop-i).args in
    c.marking-tokens.result ≡ (net_from a.plan.now a.hp).marking (get_or (slice_from a.slice.now a.hs).place_origins t.loop-i.i 0)
tokens_are c =
    let o = origin_of c in
    let a = (call (goal.at.In-loop-i (turn_of o)).At-loop-i).args in
    c.marking-tokens.ensures.0 ∙ ap (net_from a.plan.now a.hp).marking (origin_is o)

pub marking-tokens-requires : goal.marking-tokens-requires
marking-tokens-requires c =
    let t = turn_of c in
    let pre = (call (goal.at.In-loop-i t).At-loop-i).requires in
    let known = pre.known.at t.loop-i.i (inside t) in
    record { placed = pre.sound.placed; place_lt_places = rw (origin_is c) known }

pub returns-then-marking-tokens : goal.returns-then-marking-tokens
returns-then-marking-tokens c =
    let read = c in
    let t = turn_of (origin_of (goal.at.returns-then-marking-tokens read).After-marking) in
    let pre = (call (goal.at.In-loop-i t).At-loop-i).requires in
    origin_is (origin_of (goal.at.returns-then-marking-tokens read).After-marking)
    ∙ other_found _ _ (pre.sound_2.place_origins pre.kind_value) pre.known t.loop-i.i (inside t) t.loop-i.invariant
    (tokens-decide _ _ pre.uncapped pre.uncapped_2 _ _ ∙ ne_eqb _ _ (λ e. c.if-marking-tokens.true (read.marking.ensures.0 ∙ e ∙ sym (tokens_are (goal.at.returns-then-marking-tokens read).After-marking))))

pub loop-i-preserved : goal.loop-i-preserved
loop-i-preserved c =
    let read = c in
    let t = turn_of (origin_of (goal.at.loop-i-preserved read).After-marking) in
    let pre = (call (goal.at.In-loop-i t).At-loop-i).requires in
    let same = tokens-decide _ _ pre.uncapped pre.uncapped_2 _ _ ∙ eq-eqb _ _ (sym read.marking.ensures.0 ∙ c.if-marking-tokens.false ∙ tokens_are (goal.at.loop-i-preserved read).After-marking) in
    below_more _ _ t.loop-i.invariant (record { same = same })

pub returns : goal.returns
returns c =
    let s = call (goal.at.returns c).At-loop-i in
    let a = s.args in
    let pre = s.requires in
    let long = length-words a.slice.now a.hs.originstart a.hs.places in
    other_none _ _ (pre.sound_2.place_origins pre.kind_value) pre.known (λ k l. c.loop-i.invariant k (omega (arith, c.loop-i-test.false)))
