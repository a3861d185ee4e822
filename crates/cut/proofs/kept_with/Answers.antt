use Prim.Native.Nat.{ℕ}
use native.Mathlib.Omega.{arith}
use Rattle.std.proofs.lemmas.List.{length-replicate}
use Rattle.tables.proofs.Zeros.{zeros_at}
use Rattle.cut.proofs.kept_with.Goals as goal

pub kept_by-requires : goal.kept_by-requires
kept_by-requires g c =
    let r = c.requires in
    record {
      sound = r.sound;
      criterion_value = r.criterion_value;
      lent = record { head_long = omega (arith, length-replicate {A = ℕ} g.row.ROWS 0, r.room.0); next_long = omega (arith, length-replicate {A = ℕ} g.row.ARCS 0, r.room.1); none = zeros_at g.row.ROWS };
    }
