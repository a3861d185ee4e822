use native.Mathlib.Omega.{arith}
use Prim.Native.Nat.{◌*◌}
use mathlib.Core.Path.{refl, ◌∙◌}
use mathlib.Core.Bool.{false}
use lib.Seq.{sets}
use Rattle.file_writing.specs.Writing.{place_bytes}
use Rattle.tables.proofs.Storing.{storing_as, storing_none}
use Rattle.slice_put.proofs.Placing.{places_end, place-stored}
use Rattle.pnml_file.proofs.Laws as laws
use Rattle.pnml_file.proofs.write_places.Goals as goal

pub loop-p-preserved : goal.loop-p-preserved
loop-p-preserved c =
    let x = c.loop-p in
    let m = laws.marking_at_lem c.args.text.now c.args.places.now x.p _ c.loop-p-test.true refl c.marking.ensures in
    place-stored 1 _ _ _ _ c.loop-p-test.true x.invariant (c.put_place.ensures ∙ (λ i. sets x.buffer (4 * x.p) (place_bytes false (m i) 0)))

pub returns : goal.returns
returns c = storing_none (storing_as c.loop-p.invariant (places_end 1 _ _ _ _ (omega (arith, c.loop-p-test.false))))
