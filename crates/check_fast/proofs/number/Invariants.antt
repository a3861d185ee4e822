use lib.ListN.{take}
use Rattle.file.specs.Layout.{words_from}
use Rattle.check_fast.specs.Entries.{Numbered}
use Rattle.check_fast.proofs.number.Given as goal

abbrev pub invariant-loop-i : goal.invariant-loop-i
invariant-loop-i l = Numbered l.unit (take l.i (words_from l.file l.start l.count)) l.initial.table l.table
