use native.Mathlib.Omega.{arith}
use mathlib.Core.Path.{refl, ap, ◌∙◌}
use lib.ListN.{length}
use Rattle.pnml_arcs.specs.Ends.{arc_in}
use Rattle.pnml_arcs.proofs.Joining as joining
use Rattle.pnml_arcs.proofs.join.Goals as goal

pub returns-in_err-i : goal.returns-in_err-i
returns-in_err-i c =
    let g = c.requires.listing in
    ap arc_in c.from_residual.ensures
    ∙ joining.join_is c.args.text.now g c.requires.indexed c.args.at c.arc-ends.ensures c.in_err-i.ensures refl
    (joining.between_out c.args.places c.args.transitions (length c.args.names.now) _ c.arc-ends.result.number (λ h. omega (arith, joining.listing_long g, h.0)))

pub returns-in_err-j : goal.returns-in_err-j
returns-in_err-j c =
    let g = c.requires.listing in
    let e = c.in_ok-i.ensures in
    ap arc_in c.from_residual-in_err-j.ensures
    ∙ joining.join_is c.args.text.now g c.requires.indexed c.args.at c.arc-ends.ensures e.0 c.in_err-j.ensures
    (joining.between_out c.args.places c.args.transitions c.in_ok-i.i (length c.args.names.now) c.arc-ends.result.number (λ h. omega (arith, joining.listing_long g, h.1)))

pub between-requires : goal.between-requires
between-requires c = let g = c.requires.listing in omega (arith, joining.listing_long g, g.few)

pub returns : goal.returns
returns c =
    let e = c.in_ok-i.ensures in
    let f = c.in_ok-j.ensures in
    joining.join_is c.args.text.now c.requires.listing c.requires.indexed c.args.at c.arc-ends.ensures e.0 f.0 c.between.ensures
