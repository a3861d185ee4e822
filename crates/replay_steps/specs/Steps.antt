-- What a list of firings asks, and how far a replay of it has come.
use Rattle.std.specs.Prelude.{ℕ, ◌+◌, ◌*◌, ◌^◌, ◌≤◌, ◌<◌, List, ◌≡◌, length, get_or, drop}
use Rattle.net.specs.Net.{Marking, Uncapped, WithinCaps, replay_from}
use Rattle.file_words.specs.Word.{Bytes}
use Rattle.file.specs.Layout.{net_from}
use Rattle.file.specs.Facts.{Sound}
use Rattle.file_header.specs.declared.Header.{Header}
use Rattle.arcs_starts.specs.Table.{Split}

-- the marking that stands in a list
abbrev pub held : List ℕ → Marking
held m = λ p. get_or m p 0

-- the file was read, the table has where the arcs of each transition start, and m has an entry for each place
pub record Ready (s : List ℕ) (h : Header) (table m : List ℕ) : Type 0 where
  pub sound : Sound s h
  pub bytes : Bytes s
  pub long : 2 * h.transitions < length table
  pub starts : (k : ℕ) → k ≤ 2 * h.transitions → Split s h.arcstart h.arcs k (get_or table k 0)
  pub places : length m ≡ h.places

-- the same of a net without caps
pub record Plain (s : List ℕ) (h : Header) (table m : List ℕ) : Type 0 where
  pub ready : Ready s h table m
  pub uncapped : Uncapped (net_from s h)

-- the list m' is as long as m, and holds the marking M
pub record Holds (m m' : List ℕ) (M : Marking) : Type 0 where
  pub long : length m' ≡ length m
  pub at : (p : ℕ) → get_or m' p 0 ≡ M p

-- the list has few enough firings, each of a transition, and m has no more tokens than a file can give, and none above a cap
pub record Listed (s : List ℕ) (h : Header) (list m : List ℕ) : Type 0 where
  pub short : length list ≤ 65535
  pub known : (i : ℕ) → i < length list → get_or list i 0 < h.transitions
  pub low : (p : ℕ) → get_or m p 0 < 2 ^ 32
  pub caps : WithinCaps (net_from s h) (held m)

-- m is what m₀ has become after the first k firings, each enabled: the rest replays as the whole list does
pub record Underway (s : List ℕ) (h : Header) (ts m₀ m : List ℕ) (k : ℕ) : Type 0 where
  pub listed : Listed s h ts m₀
  pub within : k ≤ length ts
  pub long : length m ≡ length m₀
  pub low : (p : ℕ) → get_or m p 0 < 2 ^ 32 + k * 2 ^ 28
  pub caps : WithinCaps (net_from s h) (held m)
  pub same : replay_from (net_from s h) k (held m) (drop k ts) ≡ replay_from (net_from s h) 0 (held m₀) ts
