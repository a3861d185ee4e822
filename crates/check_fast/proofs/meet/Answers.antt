use mathlib.Core.Bool.{true, false}
use mathlib.Core.Path.{◌≡◌, refl, sym, ◌∙◌, subst}
use native.Mathlib.Omega.{arith}
use borrow.Author.Tests.{not-false, not-true}
use Rattle.file_arcs.specs.Facts.{ArcWord}
use Rattle.check_fast.specs.Pass.{kept_of}
use Rattle.check_fast.proofs.Ends.{apart}
use Rattle.check_fast.proofs.meet.Goals as goal
use Rattle.check_fast.proofs.meet.Goals.{After-due, After-kept, Else-hs-k, Else-not-kept, Start}

abbrev start : After-kept → Start
start c = (goal.at.After-kept c).Start

abbrev looked : After-due → Else-hs-k
looked c = (goal.at.After-due c).Else-hs-k

is_kept : (c : Else-not-kept) → kept_of (start (goal.at.Else-not-kept c).After-kept).args.z ≡ true
is_kept c = sym c.kept.ensures ∙ not-false _ c.if-not-kept.false-raw

pub returns-then-not-kept : goal.returns-then-not-kept
returns-then-not-kept c =
    let out : kept_of (start (goal.at.returns-then-not-kept c).After-kept).args.z ≡ false = sym c.kept.ensures ∙ not-true _ c.if-not-kept.true-raw in
    record { out = λ e. refl; same = λ e. apart e out; other = λ e. apart e out }

pub returns-then-hs-k : goal.returns-then-hs-k
returns-then-hs-k c =
    let none = c in
    record { out = λ e. apart (is_kept (goal.at.returns-then-hs-k none).Else-not-kept) e; same = λ e l. absurd (omega arith); other = λ e l m. absurd (omega (arith, none.if-hs-k.true)) }

pub due-requires : goal.due-requires
due-requires c = let first = c in (start (goal.at.due-requires first).After-kept).requires.z_bound (is_kept (goal.at.due-requires first).Else-not-kept)

pub returns-then-word-due : goal.returns-then-word-due
returns-then-word-due c =
    let there = c in
    let more = looked (goal.at.returns-then-word-due there).After-due in
    let s = start (goal.at.Else-hs-k more).After-kept in
    record {
      out = λ e. apart (is_kept (goal.at.Else-hs-k more).Else-not-kept) e;
      same = λ e l. (refl, omega (arith, more.if-hs-k.false), subst (ArcWord s.args.slice.now _) (c.if-word-due.true ∙ there.due.ensures) there.word.ensures);
      other = λ e l m. absurd (omega (arith, more.if-hs-k.false));
    }

pub returns : goal.returns
returns c =
    let apart-there = c in
    let there = apart-there in
    let more = looked (goal.at.returns there).After-due in
    record {
      out = λ e. apart (is_kept (goal.at.Else-hs-k more).Else-not-kept) e;
      same = λ e l. absurd (omega arith);
      other = λ e l m. (there.word.result, there.word.ensures, λ q. apart-there.if-word-due.false (q ∙ sym there.due.ensures));
    }
