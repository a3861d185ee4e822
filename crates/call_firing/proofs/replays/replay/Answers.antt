use Rattle.file_header.specs.declared.Due.TheVariants.{Either}
use Rattle.file.proofs.Opening.{opened_ok, turned_back_lem}
use Rattle.call_firing.proofs.Replayed.{file_answer_lem, file_marking, read_answer, read_marking}
use Rattle.call_firing.proofs.replays.replay.Goals as goal

pub returns-in_default : goal.returns-in_default
returns-in_default c =
    let a = (turned_back_lem Either _ c.read-read.ensures c.unwrap_err.ensures).0 in
    record { answer = file_answer_lem _ _ _ a _; marking = file_marking _ _ _ a _ }

pub replay-requires : goal.replay-requires
replay-requires c = (opened_ok Either _ c.in-Ok.ensures).good

pub returns : goal.returns
returns c =
    let o = opened_ok Either _ c.in-Ok.ensures in
    record { answer = read_answer _ _ o _ _ _ c.replay.ensures.answer; marking = read_marking _ _ o _ _ _ c.replay.ensures.marking }
