-- What the cut for one recorded run answers and writes (document 02, A1), and what its slice and positions are good for.
use Rattle.std.specs.Prelude.{ℕ, zero, suc, ◌≤◌, ◌<◌, Bool, true, false, List, [], ◌≡◌, length, take, get_or, T, ltb}
use Rattle.net.specs.Numbers.{among, Rising}
use Rattle.net.specs.Net.{Net, has_caps, Answer, fired, short, full, replay, StuckAt, ShortAt}
use Rattle.net.specs.Slice.{HasPlace}
use Rattle.net.specs.Guarantee.{plan_tokens, SliceFires, slice_tokens}
use Rattle.net.specs.Run.{fed, fired_at, run_cut}
use Rattle.file_header.specs.Layout.{header_of}
use Rattle.file.specs.Layout.{net_of, slice_of}
use Rattle.file_words.specs.Refusal.{refuse, or_else}
use Rattle.file.specs.Refusal.{file_refusal}
use Rattle.file.specs.Criterion.{criterion_refusal}
use Rattle.file_writing.specs.Writing.{slice_bytes}
use Rattle.file_header.specs.declared.Due.TheVariants as due
use Rattle.promise.specs.Calls.{written, safety_buffer}
use Rattle.promise.specs.Firing.{list_refusal}

-- the slice file: "A slice written by a cut has no note"; "a slice keeps its plan's edition"
unfoldable pub run_file : List ℕ → List ℕ → List ℕ → List ℕ
run_file plan Q list = slice_bytes (header_of plan).edition (run_cut (net_of plan) Q list)

-- "The chosen positions, from 0 and rising"
unfoldable pub run_chosen : List ℕ → List ℕ → List ℕ → List ℕ
run_chosen plan Q list = (fed (net_of plan) Q list).positions

-- whether the call is refused, and the refusal's number; "what a cut returns, and their count";
-- whether "the list sticks in replay", and then "index, place and shortage too"
pub record RunAnswer : Type 0 where
  pub refused : Bool
  pub refusal : ℕ
  pub length : ℕ
  pub places : ℕ
  pub transitions : ℕ
  pub count : ℕ
  pub stuck : Bool
  pub index : ℕ
  pub place : ℕ
  pub amount : ℕ

-- what is written, as numbers
abbrev pub run_written : ℕ → ℕ → ℕ → ℕ → RunAnswer
run_written n p t c = record { refused = false; refusal = 0; length = n; places = p; transitions = t; count = c; stuck = false; index = 0; place = 0; amount = 0 }

-- 14, "the one refusal with more than zeros beside it"
abbrev pub run_stuck : ℕ → ℕ → ℕ → RunAnswer
run_stuck i p n = record { refused = true; refusal = 14; length = 0; places = 0; transitions = 0; count = 0; stuck = true; index = i; place = p; amount = n }

-- "A refusal returns its number with zeros elsewhere"; what comes after where it is 0
abbrev pub run_or : ℕ → RunAnswer → RunAnswer
run_or zero a = a
run_or (suc k) a = record { refused = true; refusal = suc k; length = 0; places = 0; transitions = 0; count = 0; stuck = false; index = 0; place = 0; amount = 0 }

-- 14 where the replay sticks, what comes after where it does not
abbrev pub stuck_or : Answer → RunAnswer → RunAnswer
stuck_or fired a = a
stuck_or (short i p n) a = run_stuck i p n
stuck_or (full i p n) a = run_stuck i p n

-- "13, which is tested for the slice file and then for the positions": the buffer has `room` bytes, the second list `entries`
unfoldable pub run_room : ℕ → Net → List ℕ → List ℕ → ℕ → ℕ → ℕ
run_room edition N Q list room entries = refuse (ltb room (length (slice_bytes edition (run_cut N Q list)))) 13 (refuse (ltb entries (length (fed N Q list).positions)) 13 0)

-- the answer where the plan, Q and the list are not turned back: 14 "after the list, before 13"
unfoldable pub run_outcome : ℕ → Net → List ℕ → List ℕ → ℕ → ℕ → RunAnswer
run_outcome edition N Q list room entries =
    let S = run_cut N Q list in
    stuck_or (replay N list).answer (run_or (run_room edition N Q list room entries)
    (run_written (length (slice_bytes edition S)) S.net.places S.net.transitions (length (fed N Q list).positions)))

-- 17: "a plan with a cap above 0 handed to the run cut, checked after the file", and so before Q
unfoldable pub run_refusal : List ℕ → List ℕ → ℕ
run_refusal plan Q = or_else (file_refusal due.Plan plan) (refuse (has_caps (net_of plan)) 17 (criterion_refusal (net_of plan).places Q))

-- the answer of the run cut: the plan's refusal, that of Q and that of the list come first
unfoldable pub run_answer : List ℕ → List ℕ → List ℕ → ℕ → ℕ → RunAnswer
run_answer plan Q list room entries =
    run_or (run_refusal plan Q) (run_or (list_refusal (net_of plan).transitions list) (run_outcome (header_of plan).edition (net_of plan) Q list room entries))

-- the buffer after it: as it was where the call is refused, for whatever reason
unfoldable pub run_buffer : List ℕ → List ℕ → List ℕ → List ℕ → ℕ → List ℕ
run_buffer plan Q list buffer entries = written (run_answer plan Q list (length buffer) entries).refusal (run_file plan Q list) buffer

-- and the "second lent list of 16-bit entries"
unfoldable pub run_positions : List ℕ → List ℕ → List ℕ → ℕ → List ℕ → List ℕ
run_positions plan Q list room positions = written (run_answer plan Q list room (length positions)).refusal (run_chosen plan Q list) positions

-- the file and the positions that were written feed the places of Q as the plan's list did
pub record Feeds (plan Q list file positions : List ℕ) : Type 0 where
  pub rise : Rising positions
  pub inside : (i : ℕ) → T (among i positions) → i < length list
  -- "The slice file has the final W and the chosen transitions": what was written is read back as exactly that
  pub chosen : positions ≡ (fed (net_of plan) Q list).positions
  pub read : file_refusal due.Slice file ≡ 0
  pub same : slice_of file ≡ run_cut (net_of plan) Q list
  pub edition : (header_of file).edition ≡ (header_of plan).edition
  -- W starts as Q
  pub criterion : (q : ℕ) → T (among q Q) → HasPlace (slice_of file) q
  -- "Fired in order from the slice's marking, the chosen positions all fire"
  pub fires : SliceFires (slice_of file) (fired_at list positions)
  -- "and leave each place of Q at least the plan's tokens"
  pub enough : (q : ℕ) → T (among q Q) → plan_tokens (net_of plan) list q ≤ slice_tokens (slice_of file) (fired_at list positions) q

-- at the call, by its answer `a`, the buffer and the second list afterwards
pub record RunsBack (plan Q list : List ℕ) (a : RunAnswer) (buffer positions : List ℕ) : Type 0 where
  pub feeds : a.refusal ≡ 0 → Feeds plan Q list (take a.length buffer) (take a.count positions)
  -- the counts are the file's own
  pub places : a.refusal ≡ 0 → a.places ≡ (slice_of (take a.length buffer)).net.places
  pub transitions : a.refusal ≡ 0 → a.transitions ≡ (slice_of (take a.length buffer)).net.transitions
  -- 14: the list sticks at that index, and that place is short of that amount there
  pub sticks : a.refusal ≡ 14 → StuckAt (net_of plan) (net_of plan).marking list a.index (replay (net_of plan) list).marking
      × ShortAt (net_of plan) (get_or list a.index 0) (replay (net_of plan) list).marking a.place a.amount

-- "The run cut with empty Q likewise, with no position chosen" (document 02, A7): for a list that fires, with 16 bytes lent
pub record RunForNothing (plan list buffer positions : List ℕ) : Type 0 where
  pub answer : run_answer plan [] list (length buffer) (length positions)
      ≡ run_written 16 0 0 0
  pub same_bytes : run_buffer plan [] list buffer (length positions) ≡ safety_buffer plan [] buffer
  pub none : run_positions plan [] list (length buffer) positions ≡ positions
