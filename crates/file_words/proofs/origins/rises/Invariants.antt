use Rattle.std.proofs.Common.{◌≡◌, ◌+◌, ◌-◌, ◌*◌, not, ◌&&◌, eqb}
use Rattle.file_words.specs.Refusal.{table_refusal}
use Rattle.file_words.proofs.origins.rises.Given as goal

abbrev pub invariant-loop-j : goal.invariant-loop-j
invariant-loop-j l =
    eqb (table_refusal l.file l.start 0 l.count) 0 ≡ (not l.falls && eqb (table_refusal l.file (l.start + 2 * (l.j - 1)) 0 (l.count - (l.j - 1))) 0)
