-- What either cut answers, and leaves in its buffer.
use Rattle.std.specs.Prelude.{ℕ, List}
use Rattle.cut.specs.declared.Kind.{Kind}
use Rattle.cut.specs.declared.Kind.TheVariants.{Safety, Branching}
use Rattle.promise.specs.Calls.{CutAnswer, safety_answer, safety_buffer, branching_answer, branching_buffer}

abbrev pub answer_by : Kind → List ℕ → List ℕ → ℕ → CutAnswer
answer_by Safety plan Q room = safety_answer plan Q room
answer_by Branching plan Q room = branching_answer plan Q room

abbrev pub buffer_by : Kind → List ℕ → List ℕ → List ℕ → List ℕ
buffer_by Safety plan Q buffer = safety_buffer plan Q buffer
buffer_by Branching plan Q buffer = branching_buffer plan Q buffer
