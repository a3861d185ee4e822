-- What is left to be refused: for the functions of this crate and their callers, not for a reader of the contracts.
use Rattle.std.specs.Prelude.{ℕ, ◌≤◌, ◌≡◌, List, length, get_or}
use Rattle.file_words.specs.Refusal.{refuse}
use Rattle.plan_put.specs.Told.{room_refusal}
use Rattle.pnml_net.specs.Read.{id_twice, end_wrong, unfit}
use Rattle.pnml_file.specs.Ready.{read_file}

-- once no id is used twice
abbrev pub after_ids : List ℕ → ℕ → ℕ
after_ids s room = refuse (end_wrong s) 19 (refuse (unfit s) 20 (room_refusal room (read_file s)))

-- once the text is of the profile
abbrev pub after_profile : List ℕ → ℕ → ℕ
after_profile s room = refuse (id_twice s) 19 (after_ids s room)

-- zeros, at least as many as names
pub record Blanks (names next : List ℕ) : Type 0 where
  pub room : length names ≤ length next
  pub none : (j : ℕ) → get_or next j 0 ≡ 0
