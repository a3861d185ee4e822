use native.Mathlib.Omega.{arith}
use mathlib.Core.Path.{sym, ◌∙◌}
use Rattle.plan_put.proofs.Laws.{no_room, room}
use Rattle.pnml_file.proofs.Laws as laws
use Rattle.pnml_file.specs.Ready.{read_file}
use Rattle.pnml_file.proofs.write.Goals as goal

pub returns-then-buffer-start : goal.returns-then-buffer-start
returns-then-buffer-start c =
    no_room (read_file c.args.text.now) c.args.buffer.now (omega (arith, laws.file_long c.args.text.now c.requires, c.if-buffer-start.true))

pub returns : goal.returns
returns c =
    let s = c.args.text.now in let l = laws.file_long s c.requires in room (read_file s) c.args.buffer.now (omega (arith, l, c.if-buffer-start.false)) (laws.file_stored s c.requires c.args.buffer.now c.write_places.ensures c.write_arcs.ensures c.put_end-end.ensures.s_after) (c.put_end-end.ensures.value ∙ sym l)
