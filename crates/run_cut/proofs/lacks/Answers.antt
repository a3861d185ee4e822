use mathlib.Core.Path.{sym}
use native.Mathlib.Omega.{arith}
use Rattle.run_cut.proofs.Filling.{room_for_all}
use Rattle.run_cut.proofs.lacks.Goals as goal

pub returns-then-end-room : goal.returns-then-end-room
returns-then-end-room c = sym (room_for_all _ _ _ _ c.requires.1 (omega (arith, c.if-end-room.true)))
