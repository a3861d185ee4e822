use Prim.Native.Nat.{◌*◌}
use mathlib.Core.Bool.{true}
use mathlib.Core.Path.{◌∙◌}
use native.Mathlib.Omega.{arith}
use lib.Seq.{sets}
use Rattle.file_writing.specs.Writing.{place_bytes}
use Rattle.tables.proofs.Storing.{storing_as, storing_none}
use Rattle.slice_put.proofs.Placing.{places_end, place-stored}
use Rattle.normal.proofs.write_places.Goals as goal

pub loop-p-preserved : goal.loop-p-preserved
loop-p-preserved c =
    let at = c.loop-p in
    let m = c.marking-tokens.ensures.0 in
    let k = c.cap-most.ensures.0 in
    place-stored 2 _ _ _ _ c.loop-p-test.true at.invariant (c.put_place.ensures ∙ (λ i. sets at.buffer (8 * at.p) (place_bytes true (m i) (k i))))

pub returns : goal.returns
returns c = storing_none (storing_as c.loop-p.invariant (places_end 2 _ _ _ _ (omega (arith, c.loop-p-test.false))))
