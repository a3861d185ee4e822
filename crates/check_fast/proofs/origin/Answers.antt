use Prim.Native.Nat.{◌+◌, ◌*◌, ◌%◌, ◌<◌}
use mathlib.Core.Path.{sym, ap, ◌∙◌}
use native.Mathlib.Omega.{arith}
use lib.ListN.{get_or}
use Rattle.net.specs.declared.Arc.{Arc}
use Rattle.file.specs.Layout.{slice_from}
use Rattle.file_arcs.proofs.Rows.{range_at}
use Rattle.file.proofs.Rows.{words_at}
use Rattle.rules_origins.proofs.Reached.{origins_of_transitions}
use Rattle.check_fast.proofs.origin.Goals as goal
use Rattle.check_fast.proofs.origin.Goals.{After-word-w, Start}

abbrev start : After-word-w → Start
start c = (goal.at.After-word-w c).Start

-- the arc's transition is one of the slice's
known : (c : After-word-w) → c.word-w.result % 65536 < (start c).args.hs.transitions
known c =
    let s = start c in
    let g = range_at s.args.hs.places s.args.hs.transitions s.args.slice.now s.args.hs.arcstart s.args.hs.arcs s.args.k s.requires.sound.arcs (omega (arith, c.if-hs-k.false)) in
    omega (arith, ap (λ (a : Arc). a.transition) c.word-w.ensures.arc, g.transition)

pub get16-requires : goal.get16-requires
get16-requires c =
    let read = c in
    omega (arith, known (goal.at.get16-requires read).After-word-w, (origins_of_transitions _ _ (start (goal.at.get16-requires read).After-word-w).requires.sound (start (goal.at.get16-requires read).After-word-w).requires.kind_value).fit)

pub returns : goal.returns
returns c =
    let read = c in
    let s = start (goal.at.returns read).After-word-w in
    record {
      value = λ l. c.get16.ensures.0 ∙ sym (words_at s.args.slice.now (s.args.hs.originstart + 2 * s.args.hs.places) s.args.hs.transitions (read.word-w.result % 65536) (known (goal.at.returns read).After-word-w))
          ∙ ap (λ (a : Arc). get_or (slice_from s.args.slice.now s.args.hs).transition_origins a.transition 0) read.word-w.ensures.arc;
      value_2 = λ l. absurd (omega (arith, read.if-hs-k.false));
    }
