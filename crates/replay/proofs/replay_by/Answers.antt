use native.Mathlib.Omega.{arith}
use lib.ListN.{length}
use Rattle.file_words.specs.Word.{Bytes}
use Rattle.arcs_starts.proofs.Reached.{tabled}
use Rattle.replay.proofs.replay_by.Goals as goal

pub starts-requires : goal.starts-requires
starts-requires c =
    let s = c in
    tabled s.args.file.now s.args.h (length s.args.table.now) s.requires.sound s.requires.transitions_in_bounds

pub run_either-requires : goal.run_either-requires
unfolding Bytes
run_either-requires c =
    let starts = c in
    let known = starts in
    let s = known in
    let bytes : Bytes s.args.file.now = λ i. omega (arith, known.type_inv.file i) in
    let table = starts.starts.ensures in
    record { ready = record { sound = s.requires.sound; bytes = bytes; long = omega (arith, table.0, s.requires.transitions_in_bounds); starts = table.1; places = s.requires.marking_len }; going = s.requires.going }

pub returns : goal.returns
returns c = c.run_either.ensures
