use Rattle.std.proofs.Common.{◌≡◌, length, sym, ap, ◌∙◌, ltb-false}
use Rattle.refusals.proofs.Numbers.{passed_on}
use Rattle.file_words.proofs.Laws.{or-false}
use Rattle.file_header.specs.Layout.{trailer_of, header_of, header_from}
use Rattle.file_header.specs.Refusal.{trailer_refusal}
use Rattle.file_header.specs.declared.Trailer.{Trailer}
use Rattle.file_header.proofs.Opening.{trailer_counts, trailer_fits, trailer_placed}
use Rattle.file.proofs.Opening.{by_length, by_trailer, by_body, by_all}
use Rattle.file.proofs.read.Goals as goal
use Rattle.file.proofs.read.Goals.{After-header-h}

none_broken : (c : After-header-h) → 0 ≡ trailer_refusal c.args.due (length c.args.file.now) (trailer_of c.args.file.now)
none_broken c = c.in_ok-check.ensures ∙ ap (trailer_refusal c.args.due (length c.args.file.now)) c.fields-t.ensures

header_is : (c : After-header-h) → c.header-h.result ≡ header_of c.args.file.now
unfolding header_of
header_is c = c.header-h.ensures ∙ ap (λ (t : Trailer). header_from (length c.args.file.now) t) c.fields-t.ensures

pub returns-then-n : goal.returns-then-n
returns-then-n c = by_length _ _ c.if-n.true

pub returns-in_err-check : goal.returns-in_err-check
returns-in_err-check c =
    rw (passed_on _ c.from_residual.ensures.1)
    (by_trailer _ _ c.if-n.false _ (c.in_err-check.ensures ∙ ap (trailer_refusal c.args.due (length c.args.file.now)) c.fields-t.ensures))

pub header-h-requires : goal.header-h-requires
header-h-requires c =
    let right = or-false _ _ c.if-n.false in
    let e = sym c.in_ok-check.ensures in
    (ltb-false _ _ right.1, trailer_fits _ _ _ e (ltb-false _ _ right.0), trailer_counts _ _ _ e)

pub check_body-requires : goal.check_body-requires
check_body-requires c =
    let right = or-false _ _ c.if-n.false in
    rw c.header-h.ensures (trailer_placed _ _ _ (sym c.in_ok-check.ensures) (ltb-false _ _ right.0) (ltb-false _ _ right.1))

pub returns-in_err-check_body : goal.returns-in_err-check_body
returns-in_err-check_body c =
    let h = (goal.at.returns-in_err-check_body c).After-header-h in
    rw (passed_on _ c.from_residual-in_err-check_body.ensures.1)
    (by_body _ _ c.if-n.false (none_broken h) _ (header_is h) _ c.in_err-check_body.ensures)

pub returns : goal.returns
returns c =
    let h = (goal.at.returns c).After-header-h in
    by_all _ _ c.if-n.false (none_broken h) _ (header_is h) c.in_ok-check_body.ensures
