use native.Mathlib.Omega.{arith}
use Rattle.file_writing.proofs.Bytes.{length-arcs}
use Rattle.slice_arcs.specs.Between.{kept_arc}
use Rattle.slice_arcs.proofs.write_arc.Goals as goal

pub returns : goal.returns
returns c =
    let args = c.args in
    record { value = omega (arith, length-arcs (kept_arc args.transition args.place args.a), c.one_if_kept.ensures.1 args.a); buffer_after = c.put_arc.ensures }
