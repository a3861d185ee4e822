use native.Mathlib.Omega.{arith}
use Prim.Native.Nat.{◌+◌, ◌*◌}
use mathlib.Core.Path.{ap, ◌∙◌}
use lib.ListN.{get_or, drop}
use lib.Seq.{sets}
use Rattle.net.specs.declared.Arc.{Arc}
use Rattle.file_writing.specs.Writing.{arc_bytes, arcs_bytes}
use Rattle.tables.proofs.Storing.{storing_as, storing_none}
use Rattle.slice_put.proofs.Placing.{arc-stored}
use Rattle.pnml_file.specs.Ready.{arcs_in, arc_of}
use Rattle.pnml_file.proofs.Laws as laws
use Rattle.pnml_file.proofs.write_arcs.Goals as goal

pub loop-k-preserved : goal.loop-k-preserved
loop-k-preserved c =
    let x = c.loop-k in
    let w = c.args.words.now in
    arc-stored (arc_of (get_or w x.k 0)) (arcs_in (drop (x.k + 1) w)) (storing_as x.invariant (ap arcs_bytes (laws.arcs_next w x.k c.loop-k-test.true)))
    (c.put_arc.ensures ∙ ap (λ (a : Arc). sets x.buffer (c.args.start + 8 * x.k) (arc_bytes a)) c.unpacked.ensures) (omega arith)

pub returns : goal.returns
returns c = storing_none (storing_as c.loop-k.invariant (laws.arcs_left_lem c.args.words.now c.loop-k.k c.loop-k-test.false))
