use native.Mathlib.Omega.{arith}
use Rattle.replay.proofs.replay_rest.Goals as goal

pub replay_by-requires : goal.replay_by-requires
replay_by-requires c =
    let t = c in
    let s = t in
    record { sound = s.requires.sound; marking_len = s.requires.marking_len; going = s.requires.going; transitions_in_bounds = omega (arith, t.if-h-le-SMALL.true) }

pub replay_by-requires-then-h-le-MIDDLE : goal.replay_by-requires-then-h-le-MIDDLE
replay_by-requires-then-h-le-MIDDLE c =
    let t = c in
    let s = t in
    record { sound = s.requires.sound; marking_len = s.requires.marking_len; going = s.requires.going; transitions_in_bounds = omega (arith, t.if-h-le-MIDDLE.true) }

pub replay_by-requires-2 : goal.replay_by-requires-2
replay_by-requires-2 c =
    let t = c in
    let s = t in
    record { sound = s.requires.sound; marking_len = s.requires.marking_len; going = s.requires.going; transitions_in_bounds = omega (arith, s.requires.sound.placed.transitions) }
