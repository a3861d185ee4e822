-- The table of starts.
use Rattle.std.specs.Prelude.{ℕ, zero, suc, ◌+◌, ◌*◌, ◌≤◌, ◌<◌, ◌≡◌, Bool, true, false, List, [], ◌∷◌, ltb, max, length, get_or}
use Rattle.file_arcs.specs.Layout.{arc_at}
use Rattle.net.specs.declared.Arc.{Arc}

-- inputs of t have slot 2t, outputs 2t + 1
abbrev pub slot_of : Arc → ℕ
slot_of a = 2 * a.transition + a.direction

-- the slot of arc i of those that start at `start`
unfoldable pub slot_at : List ℕ → ℕ → ℕ → ℕ
slot_at s start i = slot_of (arc_at s (start + 8 * i))

abbrev pub choose : Bool → ℕ → ℕ → ℕ
choose true a b = a
choose false a b = b

-- the largest of the entries 1 to k
unfoldable pub running_most : List ℕ → ℕ → ℕ
running_most l zero = 0
running_most l (suc k) = max (running_most l k) (get_or l (suc k) 0)

-- how many arcs of a list have a slot below k
unfoldable pub number_below : ℕ → List Arc → ℕ
number_below k [] = 0
number_below k (a ∷ rest) = choose (ltb (slot_of a) k) 1 0 + number_below k rest

-- h is one more than the last of the first j arcs that has slot k, or 0 where none has
pub record Latest (s : List ℕ) (start j k h : ℕ) : Type 0 where
  pub within : h ≤ j
  pub row : (i : ℕ) → h ≡ suc i → slot_at s start i ≡ k
  pub rest : (i : ℕ) → h ≤ i → i < j → slot_at s start i ≡ k → ⊥

-- the first r of n arcs have a slot below k, and the rest have not
pub record Split (s : List ℕ) (start n k r : ℕ) : Type 0 where
  pub within : r ≤ n
  pub below : (i : ℕ) → i < r → slot_at s start i < k
  pub above : (i : ℕ) → r ≤ i → i < n → k ≤ slot_at s start i

-- the slots of the arcs before r are below k
abbrev pub Past : List ℕ → ℕ → ℕ → ℕ → Type 0
Past s start r k = (i : ℕ) → i < r → slot_at s start i < k

-- n arcs stand in the file, and their slots do not fall
pub record Ordered (s : List ℕ) (start n : ℕ) : Type 0 where
  pub fit : start + 8 * n ≤ length s
  pub few : n ≤ 4096
  pub order : (i j : ℕ) → i ≤ j → j < n → slot_at s start i ≤ slot_at s start j

-- n arcs stand in the file, each with a slot that a table of this length has an entry after
pub record Slots (s : List ℕ) (start n long : ℕ) : Type 0 where
  pub fit : start + 8 * n ≤ length s
  pub few : n ≤ 4096
  pub slots : (i : ℕ) → i < n → slot_at s start i + 1 < long

-- the same, with slots of T transitions that do not fall
pub record Tabled (s : List ℕ) (start n T size : ℕ) : Type 0 where
  pub fit : start + 8 * n ≤ length s
  pub few : n ≤ 4096
  pub number : T ≤ 1024
  pub long : 2 * T < size
  pub slots : (i : ℕ) → i < n → slot_at s start i < 2 * T
  pub order : (i j : ℕ) → i ≤ j → j < n → slot_at s start i ≤ slot_at s start j

-- the entries from next to last have become v, those before are kept, and r is the first that was not set
pub record PutUp (next last v : ℕ) (was is : List ℕ) (r : ℕ) : Type 0 where
  pub long : length is ≡ length was
  pub kept : (k : ℕ) → k < next → get_or is k 0 ≡ get_or was k 0
  pub set : (k : ℕ) → next ≤ k → k ≤ last → get_or is k 0 ≡ v
  pub from : next ≤ r
  pub past : last < r
  pub to : (m : ℕ) → next ≤ m → last < m → r ≤ m
