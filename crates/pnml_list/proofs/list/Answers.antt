use native.Mathlib.Omega.{arith}
use mathlib.Core.Path.{◌∙◌}
use lib.ListN.{length-set}
use Rattle.pnml_names.specs.declared.Which.TheVariants.{Places, Transitions, Arcs}
use Rattle.pnml_list.proofs.Lists as lists
use Rattle.pnml_list.proofs.list.Goals as goal

pub overflow_cast-names : goal.overflow_cast-names
overflow_cast-names c =
    record { fits = lists.net-fits c.args.text.now c.requires.text_len_bound c.requires.text_value c.net-a.result c.net-a.ensures }

pub bounds-names-0 : goal.bounds-names-0
bounds-names-0 c = omega (arith, c.requires.text_in_bounds)

pub overflow_cast-names-2 : goal.overflow_cast-names-2
overflow_cast-names-2 c = record { fits = lists.page-fits c.args.text.now c.requires.text_len_bound c.requires.text_value c.page-b.result c.page-b.ensures }

pub bounds-names-1 : goal.bounds-names-1
bounds-names-1 c = omega (arith, c.requires.text_in_bounds, length-set c.args.names.now 0 c.net-a.result)

pub collect-p-requires : goal.collect-p-requires
collect-p-requires c =
    let s = c.args.text.now in
    record { text_len_bound = c.requires.text_len_bound; at_in_bounds = lists.room_for Places s c.inside-first.result 2 _ c.inside-first.ensures (omega (arith, lists.few_ids s, c.requires.text_in_bounds, lists.long_set c.args.names.now c.net-a.result c.page-b.result)) }

pub collect-t-requires : goal.collect-t-requires
collect-t-requires c =
    let s = c.args.text.now in
    record { text_len_bound = c.requires.text_len_bound; at_in_bounds = lists.room_for Transitions s c.inside-first.result c.collect-p.result _ c.inside-first.ensures (omega (arith, lists.few_ids s, c.requires.text_in_bounds, lists.long_set c.args.names.now c.net-a.result c.page-b.result, c.collect-p.ensures.room, lists.found_count Places s c.inside-first.result c.inside-first.ensures c.collect-p.ensures)) }

pub collect-n-requires : goal.collect-n-requires
collect-n-requires c =
    let s = c.args.text.now in
    record { text_len_bound = c.requires.text_len_bound; at_in_bounds = lists.room_for Arcs s c.inside-first.result c.collect-t.result _ c.inside-first.ensures (omega (arith, lists.few_ids s, c.requires.text_in_bounds, lists.long_set c.args.names.now c.net-a.result c.page-b.result, c.collect-p.ensures.room, c.collect-t.ensures.room, lists.found_count Places s c.inside-first.result c.inside-first.ensures c.collect-p.ensures, lists.found_count Transitions s c.inside-first.result c.inside-first.ensures c.collect-t.ensures)) }

pub overflow_sub-result : goal.overflow_sub-result
overflow_sub-result c =
    omega (arith, c.collect-p.ensures.count)

pub overflow_sub-result-2 : goal.overflow_sub-result-2
overflow_sub-result-2 c = omega (arith, c.collect-t.ensures.count)

pub overflow_sub-result-3 : goal.overflow_sub-result-3
overflow_sub-result-3 c = omega (arith, c.collect-n.ensures.count)

pub shape_of-names : goal.shape_of-names
shape_of-names c =
    c.collect-n.ensures.room ∙ c.collect-t.ensures.room ∙ c.collect-p.ensures.room ∙ lists.long_set c.args.names.now c.net-a.result c.page-b.result

pub returns : goal.returns
returns c =
    lists.listed c.args.text.now c.net-a.result c.page-b.result c.inside-first.result c.requires.text_len_bound (omega (arith, c.requires.text_in_bounds, lists.long_set c.args.names.now c.net-a.result c.page-b.result)) (lists.two_set c.args.names.now c.net-a.result c.page-b.result (omega (arith, c.requires.text_in_bounds))) c.net-a.ensures c.page-b.ensures c.inside-first.ensures c.collect-p.ensures c.collect-t.ensures c.collect-n.ensures
