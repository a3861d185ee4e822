use mathlib.Core.Path.{ap, ◌∙◌}
use native.Mathlib.Omega.{arith}
use Rattle.file_words.specs.Word.{Bytes}
use Rattle.file.specs.Layout.{net_from}
use Rattle.arcs_starts.proofs.Reached.{tabled}
use Rattle.promise.specs.Together.{standing}
use Rattle.promise.specs.Range.{range_told}
use Rattle.range.proofs.Need.{is_extent, is_need}
use Rattle.range.proofs.Passing.{known_list}
use Rattle.range.proofs.extent_in.Goals as goal

pub starts-requires : goal.starts-requires
starts-requires c = tabled c.args.file.now c.args.h _ c.requires.passed.sound c.requires.transitions_in_bounds

pub back-requires-clause-ready : goal.back-requires-clause-ready
unfolding Bytes
back-requires-clause-ready c = record {
  sound = c.requires.passed.sound;
  bytes = λ i. omega (arith, c.type_inv.file i);
  long = omega (arith, c.starts.ensures.0, c.requires.transitions_in_bounds);
  starts = c.starts.ensures.1;
  places = c.fill.ensures.len ∙ c.requires.passed.room;
}

pub back-requires-clause-known : goal.back-requires-clause-known
back-requires-clause-known c = known_list c.args.h c.args.list.now c.requires.passed.listed

pub returns-clause-result_value : goal.returns-clause-result_value
returns-clause-result_value c =
    c.judge.ensures ∙ ap range_told (is_extent (net_from c.args.file.now c.args.h) c.args.list.now c.back.ensures (standing c.args.upper.now))

pub returns-clause-need_after : goal.returns-clause-need_after
returns-clause-need_after c =
    is_need (net_from c.args.file.now c.args.h) c.args.list.now c.back.ensures (c.fill.ensures.len ∙ c.requires.passed.room)
