-- The parts of a run cut: for the contracts of its functions, not for a reader of the call.
use Rattle.std.specs.Prelude.{ℕ, ◌*◌, ◌≤◌, ◌<◌, false, List, ◌≡◌, ltb, length, get_or}
use Rattle.net.specs.Numbers.{selected}
use Rattle.net.specs.Guarantee.{PlanFires}
use Rattle.net.specs.Run.{fed, run_cut}
use Rattle.file.specs.Layout.{net_from}
use Rattle.file.specs.Facts.{Sound}
use Rattle.file.specs.Criterion.{criterion_refusal}
use Rattle.file_header.specs.declared.Header.{Header}
use Rattle.sets.specs.Member.{member}
use Rattle.sets.specs.declared.KeptSets.{KeptSets}
use Rattle.slice.specs.Kept.{kept_slice, Within}
use Rattle.run_feed.specs.Back.{end_of}

-- the plan was read, the criterion passes, the list is known and fires
pub record Given (s : List ℕ) (h : Header) (Q list : List ℕ) : Type 0 where
  pub sound : Sound s h
  pub criterion : criterion_refusal h.places Q ≡ 0
  pub short : length list ≤ 65535
  pub known : (i : ℕ) → i < length list → get_or list i 0 < h.transitions
  pub fires : PlanFires (net_from s h) list

-- tables that reach the places, the arcs and the transitions, with nothing in them
pub record Lent (h : Header) (head next first : List ℕ) : Type 0 where
  pub head_long : 2 * h.places ≤ length head
  pub next_long : h.arcs ≤ length next
  pub first_long : h.transitions ≤ length first
  pub no_row : (k : ℕ) → get_or head k 0 ≡ 0
  pub none_drawn : (t : ℕ) → get_or first t 0 ≡ 0

-- a table with an entry for each transition, all of them 0
pub record Cleared (h : Header) (last : List ℕ) : Type 0 where
  pub long : h.transitions ≤ length last
  pub none : (t : ℕ) → get_or last t 0 ≡ 0

-- a set with no members
pub record Empty (words : List ℕ) : Type 0 where
  pub long : length words ≡ 16
  pub none : (n : ℕ) → member words n ≡ false

-- the positions that the entries of `last` tell: firing i is chosen if it is below the entry of its transition
unfoldable pub chosen_by : List ℕ → List ℕ → List ℕ
chosen_by list last = selected (λ i. ltb i (get_or last (get_or list i 0) 0)) 0 (length list)

-- each listed transition has an entry
pub record Reached (list last : List ℕ) : Type 0 where
  pub short : length list ≤ 65535
  pub known : (i : ℕ) → i < length list → get_or list i 0 < length last

-- the sets are those of the run cut, `last` tells the chosen positions, and `end` is one past the last of them
pub record FedBy (s : List ℕ) (h : Header) (Q list last : List ℕ) (kept : KeptSets) (end : ℕ) : Type 0 where
  pub within : Within kept h
  pub slice : kept_slice s h kept ≡ run_cut (net_from s h) Q list
  pub positions : chosen_by list last ≡ (fed (net_from s h) Q list).positions
  pub ended : end ≡ end_of (chosen_by list last)
  pub reached : Reached list last
