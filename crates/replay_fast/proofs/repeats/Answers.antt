use Rattle.std.proofs.Common.{◌≡◌, ℕ, zero, suc, ◌+◌, ◌-◌, ◌≤◌, eqb, List, get_or, refl, ap, ◌∙◌, arith, eq-eqb, ne_eqb}
use Rattle.net.specs.Net.{counted}
use Rattle.replay_fast.specs.Moves.{repeats_to}
use Rattle.replay_fast.proofs.repeats.Goals as goal
use Rattle.replay_fast.proofs.repeats.Goals.{then-places-j, else-places-j}

-- entry j counts where it is as the one before
repeats_next : (table : List ℕ) (j : ℕ) → 1 ≤ j → {n : ℕ} → counted (eqb (get_or table j 0) (get_or table (j - 1) 0)) 1 ≡ n → repeats_to table (j + 1 - 1) ≡ repeats_to table (j - 1) + n
unfolding repeats_to
repeats_next table zero l e = absurd (omega arith)
repeats_next table (suc j) l e = let is : suc j - 1 ≡ j = omega arith in let now : suc j + 1 - 1 ≡ suc j = omega arith in rw (now, is, ← e, is)

pub loop-j-init : goal.loop-j-init
unfolding repeats_to
loop-j-init c = (omega arith, omega arith, refl)

pub loop-j-preserved : goal.loop-j-preserved
loop-j-preserved c =
    let table = c.args.places.now in
    let j = c.loop-j.j in
    let inv = c.loop-j.invariant in
    elim c.if-places-j.branch [
      | then-places-j w ↦ (
        omega (arith, c.loop-j-test.true),
        omega (arith, w.n-is, inv.1, c.loop-j.auto.j),
        omega (arith, w.n-is, inv.2, repeats_next table j c.loop-j.auto.j {n = 1} (rw (eq-eqb _ _ w.if-places-j.true))),
      )
      | else-places-j w ↦ (
        omega (arith, c.loop-j-test.true),
        omega (arith, w.n-is, inv.1, c.loop-j.auto.j),
        omega (arith, w.n-is, inv.2, repeats_next table j c.loop-j.auto.j {n = 0} (rw (ne_eqb _ _ w.if-places-j.false))),
      )
    ]

pub returns : goal.returns
returns c =
    let inv = c.loop-j.invariant in
    let is : c.loop-j.j - 1 ≡ c.args.count - 1 = omega (arith, inv.0, c.loop-j-test.false) in
    (inv.2 ∙ ap (repeats_to c.args.places.now) is, omega (arith, inv.1, is))
