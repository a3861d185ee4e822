use mathlib.Core.Path.{◌∙◌}
use lib.Dec.{eqb}
use lib.ListN.{length}
use lib.Seq.{sets}
use Rattle.file_header.specs.Layout.{places_length}
use Rattle.file_writing.specs.Writing.{place_bytes}
use Rattle.tables.proofs.Storing.{storing_as, storing_none}
use Rattle.slice_put.proofs.Placing.{places_end, place-stored}
use Rattle.slice_parts.proofs.write_places.Goals as goal

pub loop-i-preserved : goal.loop-i-preserved
loop-i-preserved c =
    let at = c.loop-i in
    let e = c.args.h.edition in
    let m = c.marking-tokens.ensures.0 in
    let k = c.cap-most.ensures.0 in
    place-stored e _ _ _ _ c.loop-i-test.true at.invariant (c.put_place.ensures ∙ (λ j. sets at.buffer (places_length e at.i) (place_bytes (eqb e 2) (m j) (k j))))

pub returns : goal.returns
returns c = storing_none (storing_as c.loop-i.invariant (places_end c.args.h.edition _ _ (length c.args.ps.now) c.loop-i.i c.loop-i-test.false))
