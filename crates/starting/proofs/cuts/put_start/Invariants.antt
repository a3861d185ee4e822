use Prim.Native.Nat.{◌-◌, ◌≤◌}
use Rattle.file.specs.Layout.{net_from}
use Rattle.promise.specs.Together.{standing}
use Rattle.sets.specs.Member.{member}
use Rattle.tables.proofs.Storing.{Storing}
use Rattle.starting.specs.Cuts.{passed_bytes}
use Rattle.starting.proofs.Places.{left}
use Rattle.starting.proofs.cuts.put_start.Given as goal

abbrev pub invariant-loop-p : goal.invariant-loop-p
invariant-loop-p l =
    (l.p ≤ l.h.places) × Storing l.initial.buffer 0 (passed_bytes l.h.edition (standing l.start) (net_from l.plan l.h).cap (member l.places) 0 l.h.places) l.buffer l.at (left l.h.edition (standing l.start) (net_from l.plan l.h).cap (member l.places) l.h.places l.p)

abbrev pub decreases-loop-p : goal.decreases-loop-p
decreases-loop-p l = l.h.places - l.p
