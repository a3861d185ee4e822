-- What writing a slice answers and leaves in the buffer: "The slice has the kept places and transitions renumbered in rising order, their markings, and every plan arc
-- between them. The cut returns the file's length and how many places and transitions it kept" (document 01, "The two cuts").
use Rattle.std.specs.Prelude.{ℕ, ◌<◌, true, false, List, ◌≡◌, ltb, length, Result, Ok, Err}
use Rattle.refusals.specs.Numbers.{number}
use Rattle.refusals.specs.declared.Refusal.{Refusal}
use Rattle.net.specs.Numbers.{selected}
use Rattle.net.specs.Slice.{Slice, keeping}
use Rattle.file.specs.Layout.{net_from}
use Rattle.file_words.specs.Refusal.{refuse}
use Rattle.file_writing.specs.Writing.{slice_bytes}
use Rattle.file_header.specs.declared.Header.{Header}
use Rattle.promise.specs.Calls.{CutAnswer, cut_answer, written}
use Rattle.sets.specs.Member.{member}
use Rattle.sets.specs.declared.KeptSets.{KeptSets}
use Rattle.slice.specs.declared.Written.{Written}

-- the number and values of each answer
abbrev pub cut_numbers : Result Written Refusal → CutAnswer
cut_numbers (Ok w) = record { refused = false; refusal = 0; length = w.length; places = w.places; transitions = w.transitions }
cut_numbers (Err e) = record { refused = true; refusal = number e; length = 0; places = 0; transitions = 0 }

-- no two answers have the same numbers: an equation of numbers is one of answers
abbrev pub ToldApart : Type 0
ToldApart = (a b : Result Written Refusal) → cut_numbers a ≡ cut_numbers b → a ≡ b

-- the pair of kept sets, from the two
abbrev pub kept_pair : List ℕ → List ℕ → KeptSets
kept_pair places transitions = record { places = places; transitions = transitions }

-- each kept place is one of the plan's, and so is each kept transition
pub record Within (kept : KeptSets) (h : Header) : Type 0 where
  pub places : (p : ℕ) → member kept.places p ≡ true → p < h.places
  pub transitions : (t : ℕ) → member kept.transitions t ≡ true → t < h.transitions

-- the slice of a plan with the kept places and transitions
unfoldable pub kept_slice : List ℕ → Header → KeptSets → Slice
kept_slice s h kept = keeping (net_from s h) (selected (member kept.places) 0 h.places) (selected (member kept.transitions) 0 h.transitions)

-- 13: the buffer of `room` bytes is shorter "than .. the slice file"
abbrev pub room_refusal : ℕ → ℕ → Slice → ℕ
room_refusal edition room S = refuse (ltb room (length (slice_bytes edition S))) 13 0

-- the answer and the buffer of a writer of the slice S in an edition, the buffer being `entry` before it and `exit` after it
pub record Answers (edition : ℕ) (S : Slice) (entry exit : List ℕ) (r : Result Written Refusal) : Type 0 where
  pub answer : cut_numbers r ≡ cut_answer (room_refusal edition (length entry) S) (length (slice_bytes edition S)) S
  pub buffer : exit ≡ written (room_refusal edition (length entry) S) (slice_bytes edition S) entry
