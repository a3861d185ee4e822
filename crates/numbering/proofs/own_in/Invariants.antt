use Rattle.std.proofs.Common.{take}
use Rattle.file.specs.Layout.{words_from}
use Rattle.numbering.specs.Own.{Own}
use Rattle.numbering.proofs.own_in.Given as goal

abbrev pub invariant-loop-i : goal.invariant-loop-i
invariant-loop-i l = Own (take l.i (words_from l.file l.start l.count)) l.table
