use native.Mathlib.Omega.{arith}
use Rattle.checker.proofs.Listed.{few_bytes}
use Rattle.checker.proofs.judge_bytes.Goals as goal

pub judge_in-requires-2-clause-q_in_bounds : goal.judge_in-requires-2-clause-q_in_bounds
judge_in-requires-2-clause-q_in_bounds c = omega (arith, few_bytes _ _ c.requires.q_value, c.requires.sound.placed.places)
