use mathlib.Core.Path.{◌∙◌}
use Rattle.replay.proofs.Underway.{going_from, ended-whole, ended-fired}
use Rattle.replay.proofs.Loading.{begun-long, ended-initial}
use Rattle.replay.specs.declared.Outcome.TheVariants.{Fired}
use Rattle.replay.proofs.replay_all.Goals as goal

-- ---- all fired at once

pub returns-then-list-done : goal.returns-then-list-done
returns-then-list-done c =
    let begin = c in
    let s = begin in
    let told = ended-initial s.args.file.now s.args.h s.args.list.now Fired (ended-fired begin.begin-done.ensures c.if-list-done.true) in
    record { result_value = told.0; marking_after = told.1 }

-- ---- the rest

pub replay_rest-requires : goal.replay_rest-requires
replay_rest-requires c =
    let begin = c in
    let s = begin in
    let u = begin.begin-done.ensures in
    record { sound = s.requires.sound; marking_len = u.long ∙ begun-long s.args.file.now s.args.h; going = going_from u }

pub returns : goal.returns
returns c =
    let rest = c in
    let begin = rest in
    let s = begin in
    let told = ended-initial s.args.file.now s.args.h s.args.list.now rest.replay_rest.result (ended-whole begin.begin-done.ensures rest.replay_rest.ensures) in
    record { result_value = told.0; marking_after = told.1 }
