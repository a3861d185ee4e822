use Prim.Native.Nat.{◌+◌}
use mathlib.Core.Path.{refl, ap, ◌∙◌}
use lib.Seq.{sets}
use Rattle.starting.proofs.Places.{two_stored, place-capped}
use Rattle.starting.proofs.cuts.put_place.Goals as goal

pub returns-then-h-eq-CAPS-clause-buffer_after : goal.returns-then-h-eq-CAPS-clause-buffer_after
returns-then-h-eq-CAPS-clause-buffer_after c =
    let a = c.args in
    two_stored a.buffer.now a.at (a.at + 4) refl c.put32.ensures c.put32-then-h-eq-CAPS.ensures refl c.cap-most.ensures.0
    ∙ ap (sets a.buffer.now a.at) (place-capped a.h.edition a.tokens _ c.if-h-eq-CAPS.true)
