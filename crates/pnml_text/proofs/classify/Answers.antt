use mathlib.Core.Logic.{⊎_elim, inl, inr}
use native.Mathlib.Omega.{arith}
use Rattle.pnml_text.specs.Characters.{kind_of}
use Rattle.pnml_text.specs.declared.Kind.TheVariants.{Letter, Digit, Mark, Space, Other}
use Rattle.pnml_text.proofs.Laws.{kind_from}
use Rattle.pnml_text.proofs.classify.Goals as goal

pub returns-in-48-to-57 : goal.returns-in-48-to-57
unfolding kind_of
returns-in-48-to-57 c = kind_from Digit 48 10 256 256 tt c.args.b (omega arith) (omega arith) (λ e. omega arith) (λ e. omega arith)

pub returns-in-65-to-90 : goal.returns-in-65-to-90
unfolding kind_of
returns-in-65-to-90 c = kind_from Letter 65 26 256 256 tt c.args.b (omega arith) (omega arith) (λ e. omega arith) (λ e. omega arith)

pub returns-in-65-to-90-2 : goal.returns-in-65-to-90-2
unfolding kind_of
returns-in-65-to-90-2 c = kind_from Letter 97 26 256 256 tt c.args.b (omega arith) (omega arith) (λ e. omega arith) (λ e. omega arith)

pub returns-in_default : goal.returns-in_default
unfolding kind_of
returns-in_default c = kind_from Other 0 9 256 256 tt c.args.b (omega arith) (omega arith) (λ e. omega arith) (λ e. omega arith)

pub returns-in_default-2 : goal.returns-in_default-2
unfolding kind_of
returns-in_default-2 c =
    kind_from Other 11 34 13 32 tt c.args.b (omega arith) (omega arith) (λ e. c.in_default.in_default-own.rest.1 (inl e)) (λ e. c.in_default.in_default-own.rest.1 (inr e))

pub returns-in_default-3 : goal.returns-in_default-3
unfolding kind_of
returns-in_default-3 c = kind_from Other 47 1 256 256 tt c.args.b (omega arith) (omega arith) (λ e. omega arith) (λ e. omega arith)

pub returns-in_default-4 : goal.returns-in_default-4
unfolding kind_of
returns-in_default-4 c = kind_from Other 58 7 256 256 tt c.args.b (omega arith) (omega arith) (λ e. omega arith) (λ e. omega arith)

pub returns-in_default-5 : goal.returns-in_default-5
unfolding kind_of
returns-in_default-5 c =
    kind_from Other 91 6 95 95 tt c.args.b (omega arith) (omega arith) c.in_default.in_default-own.rest.0.1 c.in_default.in_default-own.rest.0.1

pub returns-in_default-6 : goal.returns-in_default-6
unfolding kind_of
returns-in_default-6 c = kind_from Other 123 133 256 256 tt c.args.b (omega arith) (omega arith) (λ e. omega arith) (λ e. omega arith)

pub returns-in-45 : goal.returns-in-45
unfolding kind_of
returns-in-45 c = rw c.in-45.is

pub returns-in-45-2 : goal.returns-in-45-2
unfolding kind_of
returns-in-45-2 c = kind_from Mark 45 2 256 256 tt c.args.b (omega arith) (omega arith) (λ e. omega arith) (λ e. omega arith)

pub returns-in-9 : goal.returns-in-9
unfolding kind_of
returns-in-9 c = ⊎_elim (λ e. rw e) (λ e. rw e) c.in-9.is

pub returns-in-9-2 : goal.returns-in-9-2
unfolding kind_of
returns-in-9-2 c = kind_from Space 9 2 256 256 tt c.args.b (omega arith) (omega arith) (λ e. omega arith) (λ e. omega arith)
