use Prim.Native.Nat.{ℕ, ◌+◌}
use mathlib.Core.Bool.{Bool, ◌&&◌, ◌||◌}
use mathlib.Core.Path.{sym, ap, ◌∙◌}
use lib.Dec.{eqb, ltb}
use lib.ListN.{drop, get_or}
use Rattle.promise.specs.Transfer.{strands}
use Rattle.carry.proofs.Sums.{strands-next, strands-none}
use Rattle.carry.proofs.stranded.Goals as goal

pub returns-then-no_target : goal.returns-then-no_target
returns-then-no_target c =
    let t = c.args.table.now in
    let r = c.args.running.now in
    let i = c.loop-i.i in
    let found = ap (λ (x : ℕ). eqb x 65535 && ltb 0 (get_or r i 0)) (sym c.wide.ensures.0) ∙ sym c.no_target.ensures ∙ c.if-no_target.true in
    sym (sym c.loop-i.invariant ∙ strands-next t r c.requires i c.loop-i-test.true ∙ ap (λ (b : Bool). b || strands (drop (i + 1) t) (drop (i + 1) r)) found)

pub loop-i-preserved : goal.loop-i-preserved
loop-i-preserved c =
    let t = c.args.table.now in
    let r = c.args.running.now in
    let i = c.loop-i.i in
    let passed = ap (λ (x : ℕ). eqb x 65535 && ltb 0 (get_or r i 0)) (sym c.wide.ensures.0) ∙ sym c.no_target.ensures ∙ c.if-no_target.false in
    sym (strands-next t r c.requires i c.loop-i-test.true ∙ ap (λ (b : Bool). b || strands (drop (i + 1) t) (drop (i + 1) r)) passed) ∙ c.loop-i.invariant

pub returns : goal.returns
returns c = sym (strands-none c.args.table.now c.args.running.now c.requires c.loop-i.i c.loop-i-test.false) ∙ c.loop-i.invariant
