use Rattle.std.proofs.Common.{◌≡◌, ℕ, ap, ◌∙◌, subst, sym, arith}
use Rattle.net.specs.declared.Arc.{Arc}
use Rattle.replay_fast.proofs.Moving.{place_inside, Shifting}
use Rattle.replay_fast.proofs.Reading.{outputs_after, shifting_takes, shifting_gives}
use Rattle.replay_fast.proofs.shift_read.Goals as goal
use Rattle.replay_fast.proofs.shift_read.Goals.{else-loop-j-test, then-loop-j-test+then-a-ne0}

-- ---- the inputs

pub bounds-marking-p : goal.bounds-marking-p
bounds-marking-p c = place_inside c.requires c.loop-j.j c.loop-j-test.true (ap (λ (a : Arc). a.place) c.arc-a.ensures.0) c.loop-j.invariant.1.moving.moved.long

pub bounds-marking-p-in-loop-j : goal.bounds-marking-p-in-loop-j
bounds-marking-p-in-loop-j c = place_inside c.requires c.loop-j.j c.loop-j-test.true (ap (λ (a : Arc). a.place) c.arc-a.ensures.0) c.loop-j.invariant.1.moving.moved.long

pub loop-j-preserved : goal.loop-j-preserved
loop-j-preserved c = (c.loop-j.invariant.0, shifting_takes c.requires c.loop-j.j c.loop-j-test.true c.loop-j.invariant.1 c.arc-a.ensures.0 c.if-a-ne0.false)

-- ---- the outputs: the first loop is left at one, or at the end

pub loop-j-2-init : goal.loop-j-2-init
loop-j-2-init c =
    let s = c.args.file.now in
    let start = c.args.h.arcstart in
    let until : (m : ℕ) → m ≡ c.loop-j.j → Shifting s start c.args.from m c.args.marking.now c.loop-j.marking c.loop-j.all =
    λ m e. subst (λ (j : ℕ). Shifting s start c.args.from j c.args.marking.now c.loop-j.marking c.loop-j.all) (sym e) c.loop-j.invariant.1 in
    elim c.loop-j-test.branch [
      | else-loop-j-test w ↦ (
        (λ k a b. absurd (omega (arith, w.middle-is, c.loop-j.invariant.0, a, b))),
        until c.loop-j-test.middle (omega (arith, w.middle-is, c.loop-j.invariant.0, w.loop-j-test.false, c.loop-j.auto.j-end c.requires.rising)),
      )
      | then-loop-j-test+then-a-ne0 w ↦ (
        (λ k a b. outputs_after c.requires c.loop-j.j c.loop-j.auto.j w.loop-j-test.true (λ z. w.if-a-ne0.true (ap (λ (d : Arc). d.direction) w.arc-a.ensures.0 ∙ z)) k (omega (arith, w.middle-is, a)) b),
        until c.loop-j-test.middle w.middle-is,
      )
    ]

pub bounds-marking-p-in-loop-j-2 : goal.bounds-marking-p-in-loop-j-2
bounds-marking-p-in-loop-j-2 c =
    place_inside c.requires c.loop-j-2.j c.loop-j-2-test.true (ap (λ (a : Arc). a.place) c.arc-a-in-loop-j-2.ensures.0) c.loop-j-2.invariant.1.moving.moved.long

pub bounds-marking-p-in-loop-j-2-2 : goal.bounds-marking-p-in-loop-j-2-2
bounds-marking-p-in-loop-j-2-2 c =
    place_inside c.requires c.loop-j-2.j c.loop-j-2-test.true (ap (λ (a : Arc). a.place) c.arc-a-in-loop-j-2.ensures.0) c.loop-j-2.invariant.1.moving.moved.long

pub loop-j-2-preserved : goal.loop-j-2-preserved
loop-j-2-preserved c =
    let out = c.loop-j-2.invariant.0 c.loop-j-2.j c.loop-j-2.auto.j c.loop-j-2-test.true in (
      c.loop-j-2.invariant.0,
      shifting_gives c.requires c.loop-j-2.j c.loop-j-2-test.true c.loop-j-2.invariant.1 c.arc-a-in-loop-j-2.ensures.0 (λ z. out (sym (ap (λ (a : Arc). a.direction) c.arc-a-in-loop-j-2.ensures.0) ∙ z)),
    )
