-- What a run and its shadow answer in numbers (document 02, A5), and what is done once both files were read.
use Rattle.std.specs.Prelude.{ℕ, ◌<◌, ◌≤◌, Bool, true, false, Result, Ok, Err, List, ◌≡◌, length, take, get_or, ltb}
use Rattle.refusals.specs.declared.Refusal.{Refusal}
use Rattle.refusals.specs.declared.Refusal.TheVariants.{Buffer}
use Rattle.net.specs.Net.{Net, fired, short, full, replay, tokens}
use Rattle.net.specs.Slice.{Slice, project}
use Rattle.file.specs.Facts.{Sound}
use Rattle.file_words.specs.Refusal.{refuse}
use Rattle.file_header.specs.declared.Header.{Header}
use Rattle.promise.specs.Calls.{written}
use Rattle.promise.specs.Firing.{replay_told}
use Rattle.promise.specs.Shadow.{ShadowAnswer, shadow_of, lent_refusal, shadow_or}
use Rattle.projection.specs.Choice.{Reached}
use Rattle.replay.specs.Told.{outcome_numbers}
use Rattle.replay.specs.declared.Outcome.{Outcome}
use Rattle.replay.specs.declared.Outcome.TheVariants as outcome
use Rattle.shadow.specs.declared.Shadow.{Shadow}
use Rattle.shadow.specs.declared.Shadow.TheVariants.{Fired, Short, Full}

-- the numbers of each end
abbrev pub followed_numbers : Shadow → ShadowAnswer
followed_numbers (Fired n) = record { run = replay_told fired; count = n }
followed_numbers (Short i p m n) = record { run = replay_told (short i p m); count = n }
followed_numbers (Full i p m n) = record { run = replay_told (full i p m); count = n }

-- and of each refusal
abbrev pub shadow_numbers : Result Shadow Refusal → ShadowAnswer
shadow_numbers (Ok r) = followed_numbers r
shadow_numbers (Err e) = record { run = outcome_numbers (Err e); count = 0 }

-- no two answers have the same numbers: an equation of numbers is one of answers
abbrev pub ToldApart : Type 0
ToldApart = (a b : Result Shadow Refusal) → shadow_numbers a ≡ shadow_numbers b → a ≡ b

-- how many of a list's `whole` transitions a replay fired
abbrev pub fired_of : Outcome → ℕ → ℕ
fired_of outcome.Fired whole = whole
fired_of (outcome.Short i p m) whole = i
fired_of (outcome.Full i p m) whole = i

-- a replay's outcome, with the count of what was projected
abbrev pub with_count : Outcome → ℕ → Shadow
with_count outcome.Fired n = Fired n
with_count (outcome.Short i p m) n = Short i p m n
with_count (outcome.Full i p m) n = Full i p m n

-- 13 where the output list is too short, else that
abbrev pub cast_by : Bool → Outcome → ℕ → Result Shadow Refusal
cast_by true o n = Err Buffer
cast_by false o n = Ok (with_count o n)

-- the projection of what a replay of the list fired
abbrev pub fired_projection : Slice → Outcome → List ℕ → List ℕ
fired_projection S o list = project S (take (fired_of o (length list)) list)

-- what the replay fired is a part of the list, and the table reaches its numbers
pub record Fireable (table list : List ℕ) (o : Outcome) : Type 0 where
  pub part : fired_of o (length list) ≤ length list
  pub reached : Reached table (take (fired_of o (length list)) list)

-- the slice was read, and what the replay fired is a part of the list, its numbers below `long`
pub record Given (slice : List ℕ) (s : Header) (list : List ℕ) (o : Outcome) (long : ℕ) : Type 0 where
  pub sound : Sound slice s
  pub kind : s.kind ≡ 1
  pub part : fired_of o (length list) ≤ length list
  pub short : fired_of o (length list) ≤ 65535
  pub known : (i : ℕ) → i < fired_of o (length list) → get_or list i 0 < long

-- that projection P is written to the output list, which is `entry` before and `exit` after, where it has room for it
pub record Casts (P entry exit : List ℕ) (o : Outcome) (r : Result Shadow Refusal) : Type 0 where
  pub answer : r ≡ cast_by (ltb (length entry) (length P)) o (length P)
  pub output : exit ≡ written (refuse (ltb (length entry) (length P)) 13 0) P entry

-- the plan was read, and two markings of so many entries have one for each of its places
pub record Roomy (plan : List ℕ) (p : Header) (apart entries : ℕ) : Type 0 where
  pub sound : Sound plan p
  pub apart_long : p.places ≤ apart
  pub marking_long : p.places ≤ entries

-- all of it, for a plan and a slice that were read: m and out are the marking and the output list lent, m' and out' the same afterwards
pub record Follows (N : Net) (S : Slice) (list m m' out out' : List ℕ) (r : Result Shadow Refusal) : Type 0 where
  pub answer : shadow_numbers r ≡ shadow_or (lent_refusal N S list (length m) (length out)) (replay N list).answer (length (shadow_of N S list))
  pub marking : m' ≡ written (lent_refusal N S list (length m) (length out)) (tokens N (replay N list).marking) m
  pub output : out' ≡ written (lent_refusal N S list (length m) (length out)) (shadow_of N S list) out
