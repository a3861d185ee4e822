-- Calls that start from a lent marking (document 02, A12), as computations over bytes: each answers what the plain call answers for the file in which that marking stands.
-- Refusal 24 lets only those markings pass that a file can hold, so there is such a file, and every promise about a file is one about a start.
use Rattle.std.specs.Prelude.{ℕ, zero, suc, ◌+◌, Bool, true, false, not, ◌||◌, List, ◌++◌, ◌≡◌, ◌↔◌, length, take, drop, eqb, ltb}
use Rattle.net.specs.Numbers.{any, selected}
use Rattle.net.specs.Net.{Marking, Net, tokens}
use Rattle.net.specs.Cut.{safety, branching}
use Rattle.net.specs.Slice.{cut, Accepted}
use Rattle.net.specs.Checker.{rules, FirstBroken}
use Rattle.file_words.specs.Word.{Bytes}
use Rattle.file_words.specs.Refusal.{refuse, or_else, over_cap}
use Rattle.file_header.specs.Layout.{header_of}
use Rattle.file.specs.Layout.{net_from, net_of, slice_of}
use Rattle.file.specs.Refusal.{file_refusal}
use Rattle.file.specs.Criterion.{criterion_refusal}
use Rattle.file_writing.specs.Writing.{places_bytes}
use Rattle.file_header.specs.declared.Due.{Due}
use Rattle.file_header.specs.declared.Due.TheVariants as due
use Rattle.file_header.specs.declared.Header.{Header}
use Rattle.promise.specs.Calls.{CutAnswer, safety_answer, safety_buffer, branching_answer, branching_buffer, Checked, checked}
use Rattle.promise.specs.Firing.{ReplayAnswer, replay_answer, replay_marking}
use Rattle.promise.specs.Together.{standing}

-- the net with another marking
abbrev pub starting_at : Marking → Net → Net
starting_at M N = record { places = N.places; transitions = N.transitions; marking = M; cap = N.cap; arcs = N.arcs }

-- the net of a file, from a start
abbrev pub net_at : List ℕ → List ℕ → Net
net_at file start = starting_at (standing start) (net_of file)

-- the file in which the numbers of the list stand for the markings; no other byte changes
unfoldable pub started_from : List ℕ → Header → List ℕ → List ℕ
started_from s h start = take h.markstart s ++ places_bytes h.edition (standing start) (net_from s h).cap 0 h.places ++ drop h.arcstart s

abbrev pub started : List ℕ → List ℕ → List ℕ
started file start = started_from file (header_of file) start

-- "above 4,294,967,295 or its place's cap"
abbrev pub too_many : ℕ → ℕ → Bool
too_many tokens cap = ltb 4294967295 tokens || over_cap tokens cap

-- some place of the net has too many
unfoldable pub overfull : Net → Marking → Bool
overfull N M = any (λ p. too_many (M p) (N.cap p)) (selected (λ p. true) 0 N.places)

-- "22 if its length isn't the P of the plan or replayed file, 24 if an entry is above 4,294,967,295 or its place's cap"
unfoldable pub start_refusal : Net → List ℕ → ℕ
start_refusal N start = refuse (not (eqb (length start) N.places)) 22 (refuse (overfull N (standing start)) 24 0)

-- "checked after the files"
unfoldable pub from_refusal : Due → List ℕ → List ℕ → ℕ
from_refusal d file start = or_else (file_refusal d file) (start_refusal (net_of file) start)

-- an answer, or the refusal "with zeros elsewhere"
abbrev pub cut_unless : ℕ → CutAnswer → CutAnswer
cut_unless zero a = a
cut_unless (suc k) a = record { refused = true; refusal = suc k; length = 0; places = 0; transitions = 0 }

abbrev pub replay_unless : ℕ → ReplayAnswer → ReplayAnswer
replay_unless zero a = a
replay_unless (suc k) a = record { refused = true; refusal = suc k; stuck = false; full = false; index = 0; place = 0; amount = 0 }

abbrev pub check_unless : ℕ → Checked → Checked
check_unless zero a = a
check_unless (suc k) a = record { refused = true; code = suc k; number = 0 }

-- what a call leaves, or where it is refused what was lent
abbrev pub left_unless : ℕ → List ℕ → List ℕ → List ℕ
left_unless zero exit entry = exit
left_unless (suc k) exit entry = entry

-- "Replay continues from that marking"
unfoldable pub replay_from_answer : List ℕ → List ℕ → List ℕ → ℕ → ReplayAnswer
replay_from_answer file start list room = replay_unless (from_refusal due.Either file start) (replay_answer (started file start) list room)

unfoldable pub replay_from_marking : List ℕ → List ℕ → List ℕ → List ℕ → List ℕ
replay_from_marking file start list marking = left_unless (from_refusal due.Either file start) (replay_marking (started file start) list marking) marking

-- "A further static cut of the new plan may start there"
unfoldable pub safety_from_answer : List ℕ → List ℕ → List ℕ → ℕ → CutAnswer
safety_from_answer plan start Q room = cut_unless (from_refusal due.Plan plan start) (safety_answer (started plan start) Q room)

unfoldable pub safety_from_buffer : List ℕ → List ℕ → List ℕ → List ℕ → List ℕ
safety_from_buffer plan start Q buffer = left_unless (from_refusal due.Plan plan start) (safety_buffer (started plan start) Q buffer) buffer

unfoldable pub branching_from_answer : List ℕ → List ℕ → List ℕ → ℕ → CutAnswer
branching_from_answer plan start Q room = cut_unless (from_refusal due.Plan plan start) (branching_answer (started plan start) Q room)

unfoldable pub branching_from_buffer : List ℕ → List ℕ → List ℕ → List ℕ → List ℕ
branching_from_buffer plan start Q buffer = left_unless (from_refusal due.Plan plan start) (branching_buffer (started plan start) Q buffer) buffer

-- the plan, the slice, the start; then Q
unfoldable pub check_from_refusal : List ℕ → List ℕ → List ℕ → ℕ
check_from_refusal plan slice start = or_else (file_refusal due.Plan plan) (or_else (file_refusal due.Slice slice) (start_refusal (net_of plan) start))

-- "rule 3 then compares against it"
unfoldable pub checked_from : List ℕ → List ℕ → List ℕ → List ℕ → Checked
checked_from plan slice start Q = check_unless (check_from_refusal plan slice start) (checked (started plan start) slice Q)

-- accepted from the start
abbrev pub AcceptsFrom : List ℕ → List ℕ → List ℕ → List ℕ → Type 0
AcceptsFrom plan start slice Q = (checked_from plan slice start Q).code ≡ 0

-- the file's own marking, as a list
abbrev pub own_start : List ℕ → List ℕ
own_start file = tokens (net_of file) (net_of file).marking

-- nothing but the marking is another: of a file that can be read and a start that is not refused
pub record OtherMarking (file start : List ℕ) : Type 0 where
  pub net : net_of (started file start) ≡ net_at file start
  pub header : header_of (started file start) ≡ header_of file
  pub bytes : Bytes (started file start)
  -- it can be read as the kind of file that the file can be read as
  pub read : (d : Due) → file_refusal d file ≡ 0 → file_refusal d (started file start) ≡ 0
  -- the checks from the start are those of the plan that has it
  pub check : file_refusal due.Plan file ≡ 0 → (slice Q : List ℕ) → checked_from file slice start Q ≡ checked (started file start) slice Q

-- a call that starts from the file's own marking is the plain call
pub record OwnStart (file : List ℕ) : Type 0 where
  pub replay : (list : List ℕ) (room : ℕ) → replay_from_answer file (own_start file) list room ≡ replay_answer file list room
  pub marking : (list marking : List ℕ) → replay_from_marking file (own_start file) list marking ≡ replay_marking file list marking
  pub safety : (Q : List ℕ) (room : ℕ) → safety_from_answer file (own_start file) Q room ≡ safety_answer file Q room
  pub safety_buffer_row : (Q buffer : List ℕ) → safety_from_buffer file (own_start file) Q buffer ≡ safety_buffer file Q buffer
  pub branching : (Q : List ℕ) (room : ℕ) → branching_from_answer file (own_start file) Q room ≡ branching_answer file Q room
  pub branching_buffer_row : (Q buffer : List ℕ) → branching_from_buffer file (own_start file) Q buffer ≡ branching_buffer file Q buffer
  pub check : (slice Q : List ℕ) → checked_from file slice (own_start file) Q ≡ checked file slice Q

-- the check from a start and the ten rules: rule 3 compares with the start
pub record JudgesFrom (plan start slice Q : List ℕ) : Type 0 where
  pub accepts : AcceptsFrom plan start slice Q ↔ (check_from_refusal plan slice start ≡ 0) × (criterion_refusal (net_of plan).places Q ≡ 0) × Accepted (net_at plan start) (slice_of slice) Q
  pub broken : (k : ℕ) → (checked_from plan slice start Q).code ≡ 100 + k → FirstBroken 1 (rules (net_at plan start) (slice_of slice) Q) k (checked_from plan slice start Q).number

-- the file that a cut from a start wrote: the buffer's first bytes, up to the length returned
abbrev pub our_cut_from : List ℕ → List ℕ → List ℕ → List ℕ → List ℕ
our_cut_from plan start Q buffer = take (safety_from_answer plan start Q (length buffer)).length (safety_from_buffer plan start Q buffer)

abbrev pub our_branching_from : List ℕ → List ℕ → List ℕ → List ℕ → List ℕ
our_branching_from plan start Q buffer = take (branching_from_answer plan start Q (length buffer)).length (branching_from_buffer plan start Q buffer)

-- "A written slice file reads back as the net that was written": what the cuts from a start wrote, where they are not refused
pub record ReadsBackFrom (plan start Q buffer : List ℕ) : Type 0 where
  pub safety_read : (safety_from_answer plan start Q (length buffer)).refusal ≡ 0 → file_refusal due.Slice (our_cut_from plan start Q buffer) ≡ 0
  pub safety_same : (safety_from_answer plan start Q (length buffer)).refusal ≡ 0 → slice_of (our_cut_from plan start Q buffer) ≡ cut (net_at plan start) (safety (net_at plan start) Q)
  pub safety_edition : (safety_from_answer plan start Q (length buffer)).refusal ≡ 0 → (header_of (our_cut_from plan start Q buffer)).edition ≡ (header_of plan).edition
  pub branching_read : (branching_from_answer plan start Q (length buffer)).refusal ≡ 0 → file_refusal due.Slice (our_branching_from plan start Q buffer) ≡ 0
  pub branching_same : (branching_from_answer plan start Q (length buffer)).refusal ≡ 0 → slice_of (our_branching_from plan start Q buffer) ≡ cut (net_at plan start) (branching (net_at plan start) Q)
  pub branching_edition : (branching_from_answer plan start Q (length buffer)).refusal ≡ 0 → (header_of (our_branching_from plan start Q buffer)).edition ≡ (header_of plan).edition
