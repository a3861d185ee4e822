use mathlib.Core.Path.{refl, sym, ◌∙◌}
use native.Mathlib.Omega.{arith}
use lib.ListN.{length}
use Rattle.refusals.proofs.Numbers.{number_some, passed_on}
use Rattle.file_words.specs.Word.{Bytes}
use Rattle.promise.proofs.Replays.{differ}
use Rattle.clients_normal.proofs.Forms.{fits, first-refused, second_refused, other_lengths, same_bytes, other_bytes}
use Rattle.clients_normal.proofs.one_net.Goals as goal

pub returns-in_err-n : goal.returns-in_err-n
returns-in_err-n c =
    let s = c.args in
    rw (passed_on _ c.from_residual.ensures.1) (first-refused s.a.now s.b.now (length s.one.now) (length s.two.now) c.in_err-n.ensures.answer refl (number_some _))

pub returns-in_err-m : goal.returns-in_err-m
unfolding Bytes
returns-in_err-m c =
    let s = c.args in
    let f = c.in_ok-n.ensures in
    let g = c.in_err-m.ensures in
    rw (passed_on _ c.from_residual-in_err-m.ensures.1)
    (second_refused s.a.now s.b.now _ _ s.two.now (length s.one.now) f.answer f.form g.answer g.buffer g.form (λ i. omega (arith, c.type_inv.b i)) refl refl)

pub returns-then-n-m : goal.returns-then-n-m
unfolding Bytes
returns-then-n-m c =
    let s = c.args in
    let f = c.in_ok-n.ensures in
    let g = c.in_ok-m.ensures in
    other_lengths s.a.now s.b.now _ _ s.two.now (length s.one.now) f.answer f.form g.answer g.buffer g.form (λ i. omega (arith, c.type_inv.b i)) refl refl refl refl c.if-n-m.true

pub equal-requires : goal.equal-requires
equal-requires c =
    let f = c.in_ok-n.ensures in
    let g = c.in_ok-m.ensures in
    record { n_in_bounds = omega (arith, fits _ _ _ f.answer f.form refl); n_in_bounds_2 = omega (arith, c.if-n-m.false, fits _ _ _ g.answer g.form refl) }

pub returns-then-equal : goal.returns-then-equal
unfolding Bytes
returns-then-equal c =
    let s = c.args in
    let f = c.in_ok-n.ensures in
    let g = c.in_ok-m.ensures in
    same_bytes s.a.now s.b.now _ _ s.two.now (length s.one.now) f.answer f.form g.answer g.buffer g.form (λ i. omega (arith, c.type_inv.b i)) refl refl refl refl c.if-n-m.false (c.equal.ensures.0 c.if-equal.true)

pub returns : goal.returns
unfolding Bytes
returns c =
    let s = c.args in
    let f = c.in_ok-n.ensures in
    let g = c.in_ok-m.ensures in
    other_bytes s.a.now s.b.now _ _ s.two.now (length s.one.now) f.answer f.form g.answer g.buffer g.form (λ i. omega (arith, c.type_inv.b i)) refl refl refl refl c.if-n-m.false (λ e. differ (sym c.if-equal.false ∙ c.equal.ensures.1 e))
