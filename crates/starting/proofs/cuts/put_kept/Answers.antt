use mathlib.Core.Path.{sym, ap, ◌∙◌}
use native.Mathlib.Omega.{arith}
use lib.Dec.{eqb}
use lib.ListN.{length}
use Rattle.file.specs.Layout.{net_from}
use Rattle.file_writing.specs.Writing.{place_bytes}
use Rattle.file_writing.proofs.Bytes.{length-place}
use Rattle.sets.specs.Member.{member}
use Rattle.starting.proofs.Places.{given_yes}
use Rattle.starting.proofs.cuts.put_kept.Goals as goal

pub put_place-requires-clause-edition_in_bounds : goal.put_place-requires-clause-edition_in_bounds
put_place-requires-clause-edition_in_bounds c =
    let a = c.args in
    let most = (net_from a.plan.now a.h).cap a.p in
    let is = given_yes (member a.places.now a.p) (place_bytes (eqb a.h.edition 2) a.tokens most) (sym c.contains.ensures ∙ c.if-contains.true) in
    omega (arith, c.requires.p_in_bounds, ap length is, length-place (eqb a.h.edition 2) a.tokens most)

pub returns-then-contains-clause-value : goal.returns-then-contains-clause-value
returns-then-contains-clause-value c =
    let a = c.args in
    let most = (net_from a.plan.now a.h).cap a.p in
    let is = given_yes (member a.places.now a.p) (place_bytes (eqb a.h.edition 2) a.tokens most) (sym c.contains.ensures ∙ c.if-contains.true) in
    omega (arith, c.put_place.ensures.value, ap length is, length-place (eqb a.h.edition 2) a.tokens most)
