-- How far going back over a run has come: for the contracts of its steps, not for a reader of the call.
use Rattle.std.specs.Prelude.{ℕ, Option, None, Some, ◌+◌, ◌*◌, ◌-◌, ◌≤◌, ◌<◌, Bool, ◌||◌, List, ◌≡◌, T, ltb, length, get_or, drop}
use Rattle.net.specs.Numbers.{among}
use Rattle.net.specs.Net.{raises, takes_from}
use Rattle.net.proofs.Feeding.{feed, upto}
use Rattle.file.specs.Layout.{net_from}
use Rattle.file_header.specs.declared.Header.{Header}
use Rattle.arcs_starts.specs.Table.{Split}
use Rattle.sets.specs.Member.{member}

-- each number of the criterion is a place
abbrev pub Known : Header → List ℕ → Type 0
Known h Q = (q : ℕ) → T (among q Q) → q < h.places

-- t waits: it is drawn in, and no firing of it is chosen so far; `first` has an entry for it
abbrev pub waits : List ℕ → ℕ → Bool
waits first t = ltb 0 (get_or first t 0)

-- t is drawn in: it waits, or a firing of it is chosen, and `last` has an entry for it
abbrev pub drawn : List ℕ → List ℕ → ℕ → Bool
drawn last first t = waits first t || ltb 0 (get_or last t 0)

-- the entry of a transition that waits is one more than its first arc
abbrev pub Starts : List ℕ → Header → List ℕ → List ℕ → Type 0
Starts s h last first = (t : ℕ) → T (waits first t) → Split s h.arcstart h.arcs (2 * t) (get_or first t 0 - 1) × (get_or last t 0 ≡ 0)

-- what is drawn in is what raises a place of W
pub record Raisers (s : List ℕ) (h : Header) (W : ℕ → Bool) (last first : List ℕ) : Type 0 where
  pub raise : (t : ℕ) → T (drawn last first t) → (p : ℕ) × T (W p) × T (raises (net_from s h) t p)
  pub there : (t p : ℕ) → T (W p) → T (raises (net_from s h) t p) → T (drawn last first t)
  pub starts : Starts s h last first

-- the transitions that raise p are drawn in
pub record RaisersAdded (s : List ℕ) (h : Header) (p : ℕ) (last first first' : List ℕ) : Type 0 where
  pub members : (t : ℕ) → drawn last first' t ≡ drawn last first t || raises (net_from s h) t p
  pub starts : Starts s h last first → Starts s h last first'
  pub long : length first' ≡ length first

-- the places `new` enter W, and what raises them is drawn in
pub record Entered (s : List ℕ) (h : Header) (new : ℕ → Bool) (last places first places' first' : List ℕ) : Type 0 where
  pub kept : (k : ℕ) → member places' k ≡ member places k || new k
  pub raisers : Raisers s h (member places) last first → Raisers s h (member places') last first'
  pub places_long : length places' ≡ 16
  pub first_long : length first' ≡ length first

-- none of the firings r..k waits
abbrev pub PassedBy : List ℕ → List ℕ → ℕ → ℕ → Type 0
PassedBy ts first r k = (i : ℕ) → r ≤ i → i < k → get_or first (get_or ts i 0) 0 ≡ 0

-- one past the firing that was met; 0 where none was
abbrev pub past : Option ℕ → ℕ
past None = 0
past (Some k) = k + 1

-- going back from firing k, the first one met whose transition waits is the one before r; there is none where r is 0
pub record Met (ts first : List ℕ) (k r : ℕ) : Type 0 where
  pub within : r ≤ k
  pub passed : PassedBy ts first r k
  pub waiting : 0 < r → 0 < get_or first (get_or ts (r - 1) 0) 0

-- one past the last of the positions; 0 where there is none
abbrev pub end_of : List ℕ → ℕ
end_of positions = upto (λ i. 0) positions 0

-- the firings from k on are gone back over; `last` has one more than the last chosen firing of each transition, and `end` is one more than that of all
pub record Back (s : List ℕ) (h : Header) (Q ts : List ℕ) (k end : ℕ) (places first chosen last : List ℕ) : Type 0 where
  pub within : k ≤ length ts
  pub ended : end ≡ end_of (feed (net_from s h) Q k (drop k ts)).positions
  pub places_are : (p : ℕ) → member places p ≡ among p (feed (net_from s h) Q k (drop k ts)).places
  pub chosen_are : (t : ℕ) → member chosen t ≡ among t (feed (net_from s h) Q k (drop k ts)).chosen
  pub last_are : (t : ℕ) → get_or last t 0 ≡ upto (λ i. get_or ts i 0) (feed (net_from s h) Q k (drop k ts)).positions t
  pub raisers : Raisers s h (member places) last first
  pub inputs : (t p : ℕ) → T (member chosen t) → T (takes_from (net_from s h) t p) → T (member places p)
  pub places_long : length places ≡ 16
  pub chosen_long : length chosen ≡ 16
  pub first_long : h.transitions ≤ length first
  pub last_long : h.transitions ≤ length last
