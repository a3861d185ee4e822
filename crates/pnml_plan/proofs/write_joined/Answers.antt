use Rattle.refusals.proofs.Numbers.{passed_on}
use Rattle.refusals.specs.declared.Refusal.TheVariants.{Number}
use Rattle.pnml_names.specs.declared.Which.TheVariants.{Arcs}
use Rattle.pnml_net.specs.Read.{entries}
use native.Mathlib.Omega.{arith}
use Prim.Native.Nat.{ℕ, ◌-◌}
use mathlib.Core.Path.{◌≡◌, sym, ◌∙◌}
use lib.ListN.{length, length-replicate}
use lib.Seq.{length-take-le}
use Rattle.pnml_arcs.proofs.Joining.{listing_long}
use Rattle.pnml_list.proofs.Lists.{few_arcs}
use Rattle.pnml_plan.proofs.Laws as laws
use Rattle.pnml_plan.proofs.write_joined.Goals as goal

pub overflow_sub-count : goal.overflow_sub-count
overflow_sub-count c = omega (arith, listing_long c.requires.listing)

pub overflow_sub-count-2 : goal.overflow_sub-count-2
overflow_sub-count-2 c = omega (arith, listing_long c.requires.listing)

pub overflow_sub-count-3 : goal.overflow_sub-count-3
overflow_sub-count-3 c = omega (arith, listing_long c.requires.listing)

pub pack-requires : goal.pack-requires
pack-requires c = record { listing = c.requires.listing; indexed = c.requires.indexed; names_len_bound = omega (arith, listing_long c.requires.listing, few_arcs c.args.text.now c.requires.text_len_bound, length-replicate {A = ℕ} 2048 0) }

pub returns-in_err-off : goal.returns-in_err-off
returns-in_err-off c =
    let w = c.in_err-off.ensures in
    rw (passed_on _ c.from_residual.ensures.1) (laws.turned c.args.text.now c.args.buffer.now _ _ _ w.apart)

pub returns-then-unfit : goal.returns-then-unfit
returns-then-unfit c =
    let w = c.in_ok-off.ensures in
    laws.passed c.args.text.now 19 _ (laws.joins _ w.apart) (laws.told c.args.text.now c.args.buffer.now Number _ (sym (c.unfit.ensures ∙ laws.unfit-by w) ∙ c.if-unfit.true))

pub sort-requires : goal.sort-requires
sort-requires c = let w = c.in_ok-off.ensures in omega (arith, listing_long c.requires.listing, few_arcs c.args.text.now c.requires.text_len_bound, length-replicate {A = ℕ} 2048 0, w.room)

pub slice_bounds-words-end : goal.slice_bounds-words-end
slice_bounds-words-end c = let w = c.in_ok-off.ensures in omega (arith, listing_long c.requires.listing, few_arcs c.args.text.now c.requires.text_len_bound, length-replicate {A = ℕ} 2048 0, w.room, c.sort.ensures.room)

pub slice_bounds-write_listed-end : goal.slice_bounds-write_listed-end
slice_bounds-write_listed-end c =
    let w = c.in_ok-off.ensures in
    sym (length-take-le (length c.args.names.now - 2 - c.args.places - c.args.transitions) _ (omega (arith, listing_long c.requires.listing, few_arcs c.args.text.now c.requires.text_len_bound, length-replicate {A = ℕ} 2048 0, w.room, c.sort.ensures.room)))

pub write_listed-requires : goal.write_listed-requires
write_listed-requires c =
    let w = c.in_ok-off.ensures in
    let n : length c.args.names.now - 2 - c.args.places - c.args.transitions ≡ length (entries Arcs c.args.text.now) = omega (arith, listing_long c.requires.listing) in
    record { listing = c.requires.listing; sorted = laws.sorted-are _ w (sym (laws.unfit-by w) ∙ sym c.unfit.ensures ∙ c.if-unfit.false) n c.sort.ensures.words }

pub returns : goal.returns
returns c =
    let w = c.in_ok-off.ensures in
    laws.passed c.args.text.now 19 _ (laws.joins _ w.apart) (laws.passed c.args.text.now 20 _ (sym (c.unfit.ensures ∙ laws.unfit-by w) ∙ c.if-unfit.false) c.write_listed.ensures)
