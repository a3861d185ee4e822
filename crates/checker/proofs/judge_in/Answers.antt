use mathlib.Core.Path.{ap, ◌∙◌}
use mathlib.Core.List.{List}
use Prim.Native.Nat.{ℕ}
use Rattle.net.specs.Checker.{verdict}
use Rattle.file.specs.Layout.{net_from, slice_from}
use Rattle.promise.specs.Calls.{Checked, told}
use Rattle.checker.proofs.Listed.{list_passed, list_is}
use Rattle.checker.proofs.judge_in.Goals as goal

pub judge-requires : goal.judge-requires
judge-requires c =
    let pre = c.requires in
    record { planned = pre.sound; sliced = pre.sound_2; kind = pre.kind_value; criterion = list_passed _ _ pre.q_value _ c.decode.ensures }

pub returns : goal.returns
returns c =
    let s = c.args in
    let N = net_from s.plan.now s.hp in
    let S = slice_from s.slice.now s.hs in
    c.rule_code.ensures
    ∙ ap (λ (x : Checked). x.code) c.judge.ensures
    ∙ ap (λ (l : List ℕ). (told (verdict N S l)).code) (list_is _ _ c.requires.q_value _ c.decode.ensures)
