use native.Mathlib.Omega.{arith}
use mathlib.Core.Path.{sym, ◌∙◌}
use borrow.Author.Tests.{eq-eqb, ne_eqb}
use Rattle.file.proofs.Caps.{cap_at_lem, no_cap_by}
use Rattle.file.proofs.cap.Goals as goal

pub returns-then-h-eq-CAPS : goal.returns-then-h-eq-CAPS
returns-then-h-eq-CAPS c =
    let two = c in
    let call = two in
    let s = call.args.file.now in
    let h = call.args.h in
    (c.get32.ensures.0 ∙ sym (cap_at_lem s h (eq-eqb _ _ two.if-h-eq-CAPS.true) call.args.place call.requires.place_lt_places), c.get32.ensures.1)

pub returns : goal.returns
returns c =
    let call = c in
    let s = call.args.file.now in
    let h = call.args.h in
    (sym (no_cap_by s h (ne_eqb _ _ c.if-h-eq-CAPS.false) call.args.place), omega arith)
