use mathlib.Core.Path.{sym, ◌∙◌, subst}
use Rattle.arcs_starts.specs.Table.{Split}
use Rattle.arcs_starts.proofs.Splits.{splits}
use Rattle.arcs_starts.proofs.starts.Goals as goal

pub returns : goal.returns
returns c =
    let fill = c in
    let ends = fill in
    let clear = ends in
    let start = clear in
    let ended = ends.ends.ensures in
    let filled = fill.fill.ensures in (
      filled.0 ∙ ended.0 ∙ clear.clear.ensures.0,
      λ k l. subst (Split start.args.file.now start.args.start start.args.count k) (sym (filled.1 k l)) (splits start.requires.order _ ended.2 k),
    )
