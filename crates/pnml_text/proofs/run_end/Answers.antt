use Rattle.pnml_text.proofs.Runs as runs
use Rattle.std.proofs.Common.{◌+◌, ℕ, List, length, drop, sym, ap, ◌∙◌, arith}
use Rattle.std.proofs.lemmas.List.{take_rest}
use Rattle.std.specs.List.{take_while}
use Rattle.pnml_text.specs.Characters.{kind_of, goes_on}
use Rattle.pnml_text.proofs.run_end.Goals as goal

pub returns-then-text-at : goal.returns-then-text-at
returns-then-text-at c = omega (arith, ap (λ (l : List ℕ). length l) (runs.front-end c.args.of c.args.text.now c.args.at (omega (arith, c.if-text-at.true))))

pub returns : goal.returns
returns c =
    ap (λ (n : ℕ). c.args.at + n)
    (c.run_len.ensures
    ∙ ap (λ (l : List ℕ). length (take_while (λ b. goes_on c.args.of (kind_of b)) l)) (take_rest c.args.text.now c.args.at)
    ∙ ap (λ (l : List ℕ). length l) (sym (runs.front-run c.args.of (drop c.args.at c.args.text.now))))
