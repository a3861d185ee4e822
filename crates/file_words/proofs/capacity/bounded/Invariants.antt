use Rattle.std.proofs.Common.{◌≡◌, ◌+◌, ◌-◌, ◌*◌, not, ◌&&◌, eqb}
use Rattle.file_words.specs.Refusal.{caps_refusal}
use Rattle.file_words.proofs.capacity.bounded.Given as goal

abbrev pub invariant-loop-p : goal.invariant-loop-p
invariant-loop-p l =
    eqb (caps_refusal l.file l.start l.count) 0 ≡ (not l.above && eqb (caps_refusal l.file (l.start + 8 * l.p) (l.count - l.p)) 0)
