-- The normal form of a plan file (document 02, A13), as a computation over bytes, and what it is good for.
use Rattle.std.specs.Prelude.{ℕ, zero, suc, ◌+◌, ◌*◌, ◌≤◌, Bool, true, false, List, [], ◌∷◌, ◌≡◌, ◌↔◌, ◌≢◌, length, take, ltb}
use Rattle.net.specs.Normal.{joined, normal_of, SameNet, Light, FaresAlike}
use Rattle.net.specs.declared.Arc.{Arc}
use Rattle.file_words.specs.Word.{Bytes}
use Rattle.file_header.specs.Layout.{header_of}
use Rattle.file.specs.Layout.{net_of}
use Rattle.file_words.specs.Refusal.{refuse, or_else}
use Rattle.file.specs.Refusal.{file_refusal}
use Rattle.file_writing.specs.Writing.{plan_bytes}
use Rattle.file_header.specs.declared.Due.TheVariants as due
use Rattle.promise.specs.Calls.{written}
use Rattle.promise.specs.Firing.{replay_answer, replay_marking}

-- "25: a joined weight above 65,535, in arc order"
unfoldable pub weights_refusal : List Arc → ℕ
weights_refusal [] = 0
weights_refusal (a ∷ rest) = refuse (ltb 65535 a.weight) 25 (weights_refusal rest)

-- the plan, then 25, "before the buffer": why a plan has no normal form; 0 where it has one
unfoldable pub normal_refusal : List ℕ → ℕ
normal_refusal plan = or_else (file_refusal due.Plan plan) (weights_refusal (joined (net_of plan).arcs))

-- of a plan that can be read: 25 is given exactly where the net has such a weight, however its arcs are drawn
pub record Weighed (plan : List ℕ) : Type 0 where
  pub light : (normal_refusal plan ≡ 0) ↔ Light (net_of plan)
  pub heavy : normal_refusal plan ≢ 0 → normal_refusal plan ≡ 25

-- "the plan without note, in edition 2, parallel arcs joined, everything else in order"
unfoldable pub normal_file : List ℕ → List ℕ
normal_file plan = plan_bytes 2 (normal_of (net_of plan))

-- then 13 where the buffer of `room` bytes is shorter than that file
unfoldable pub normal_write_refusal : List ℕ → ℕ → ℕ
normal_write_refusal plan room = or_else (normal_refusal plan) (refuse (ltb room (length (normal_file plan))) 13 0)

-- whether the call is refused, and the refusal's number; "The call, like each later one that writes a file, returns the file's length" (document 02, A10)
pub record FileAnswer : Type 0 where
  pub refused : Bool
  pub refusal : ℕ
  pub length : ℕ

-- "A refusal returns its number with zeros elsewhere"
abbrev pub file_answer : ℕ → ℕ → FileAnswer
file_answer zero n = record { refused = false; refusal = 0; length = n }
file_answer (suc k) n = record { refused = true; refusal = suc k; length = 0 }

-- the answer, the buffer having `room` bytes
unfoldable pub normal_answer : List ℕ → ℕ → FileAnswer
normal_answer plan room = file_answer (normal_write_refusal plan room) (length (normal_file plan))

-- the buffer afterwards
unfoldable pub normal_buffer : List ℕ → List ℕ → List ℕ
normal_buffer plan buffer = written (normal_write_refusal plan (length buffer)) (normal_file plan) buffer

-- `file` is the normal form of the plan
pub record NormalForm (plan file : List ℕ) : Type 0 where
  pub read : file_refusal due.Plan file ≡ 0
  -- "parallel arcs joined, everything else in order"
  pub net : net_of file ≡ normal_of (net_of plan)
  -- "without note, in edition 2"
  pub header : ((header_of file).markstart ≡ 0) × ((header_of file).edition ≡ 2)
  -- "Normalising twice changes nothing"
  pub again : normal_refusal file ≡ 0
  pub twice : normal_file file ≡ file
  -- "every firing list fares alike before and after": by the firing rule, and by replay's own answer and marking, refusals too
  pub fares : FaresAlike (net_of plan) (net_of file)
  pub replayed : (list : List ℕ) (room : ℕ) → replay_answer plan list room ≡ replay_answer file list room
  pub marked : (list marking : List ℕ) → replay_marking plan list marking ≡ replay_marking file list marking

-- "Two plans, neither refused, have equal normal bytes exactly when they have the same P, T, markings, caps, in and out"
pub record OneForm (a b : List ℕ) : Type 0 where
  pub equal : (normal_file a ≡ normal_file b) ↔ SameNet (net_of a) (net_of b)

-- what the call wrote, by its answer `a` and its buffer afterwards, `exit`: the file is `take a.length exit`
pub record WritesNormal (plan : List ℕ) (a : FileAnswer) (exit : List ℕ) : Type 0 where
  -- "returns the file's length": the buffer has as many bytes
  pub long : a.refused ≡ false → length (take a.length exit) ≡ a.length
  pub form : a.refused ≡ false → NormalForm plan (take a.length exit)
  -- another plan has the same normal bytes exactly when it is the same net
  pub one : a.refused ≡ false → (other buffer : List ℕ) → Bytes other → (normal_answer other (length buffer)).refused ≡ false
      → (take (normal_answer other (length buffer)).length (normal_buffer other buffer) ≡ take a.length exit) ↔ SameNet (net_of other) (net_of plan)
  -- 40,976 bytes hold any plan's normal form
  pub enough : a.refused ≡ false → a.length ≤ 40976
  -- "Normalising twice changes nothing": a second call, on what the first wrote, with any buffer that is as long
  pub again : a.refused ≡ false → (buffer : List ℕ) → a.length ≤ length buffer
      → (normal_answer (take a.length exit) (length buffer) ≡ a) × (take a.length (normal_buffer (take a.length exit) buffer) ≡ take a.length exit)

-- what people conclude of two plans and the normal forms of both
pub record OnePlan (plan plan' file file' : List ℕ) : Type 0 where
  -- a plan has one normal form: 8 bytes a place, 8 bytes a joined arc, and the trailer
  pub one_file : plan ≡ plan' → file ≡ file'
  pub size : length file ≡ 8 * (net_of plan).places + 8 * length (joined (net_of plan).arcs) + 16
  -- "it is still one plan": with equal normal forms the nets are the same, every list fares alike, and is replayed alike
  pub same : file ≡ file' → SameNet (net_of plan) (net_of plan')
  pub alike : file ≡ file' → FaresAlike (net_of plan) (net_of plan')
  pub replays : file ≡ file' → (list : List ℕ) (room : ℕ) → replay_answer plan list room ≡ replay_answer plan' list room
  pub markings : file ≡ file' → (list marking : List ℕ) → replay_marking plan list marking ≡ replay_marking plan' list marking
  -- the file is accepted again, and is its own normal form
  pub again : (room : ℕ) → length file ≤ room → normal_answer file room ≡ record { refused = false; refusal = 0; length = length file }
