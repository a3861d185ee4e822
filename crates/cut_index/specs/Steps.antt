-- What a group of parallel arcs does to the rows.
use Rattle.std.specs.Prelude.{ℕ, ◌+◌, ◌*◌, ◌-◌, ◌/◌, ◌%◌, ◌≤◌, ◌<◌, List, ◌≡◌, length, get_or, set}
use Rattle.file_words.specs.Word.{byte_at}
use Rattle.arcs_groups.specs.Groups.{Stands, GroupEnd, run_weight}
use Rattle.cut_rows.specs.Rows.{entry_of}

-- the arc that an entry above 0 tells
abbrev pub arc_in : ℕ → ℕ
arc_in e = e % 65536 - 1

-- the group that starts with arc j is put in front of the row
pub record Fronted (row j from : ℕ) (head next head' next' : List ℕ) : Type 0 where
  pub head_is : head' ≡ set head row (entry_of j from)
  pub next_is : next' ≡ set next j (get_or head row 0)

-- the group of arc j, which ends before arc r, gives back to p, from which the group of arc i takes: i stays in its row if it takes more, and j enters its own if it gives more
pub record Returned (s : List ℕ) (start arcs j from p i : ℕ) (head next head' next' : List ℕ) (r : ℕ) : Type 0 where
  pub own : GroupEnd s start j arcs r
  pub until : ℕ
  pub group : GroupEnd s start i j until
  pub less : run_weight s start j (r - j) < run_weight s start i (until - i) → (head' ≡ head) × (next' ≡ next)
  pub level : run_weight s start i (until - i) ≡ run_weight s start j (r - j) → (head' ≡ set head (2 * p) (get_or next i 0)) × (next' ≡ next)
  pub more : run_weight s start i (until - i) < run_weight s start j (r - j) → Fronted (2 * p + 1) j from (set head (2 * p) (get_or next i 0)) next head' next'

-- arc j at p, of direction d: left alone where its row starts with an arc of its transition, given back where the last arcs that take from p are of its transition, else put in front of its row
pub record Linked (s : List ℕ) (start arcs j from p d : ℕ) (head next head' next' : List ℕ) (r : ℕ) : Type 0 where
  pub again : get_or head (2 * p + d) 0 / 65536 ≡ from + 1 → (head' ≡ head) × (next' ≡ next) × (r ≡ j + 1)
  pub back : (get_or head (2 * p + d) 0 / 65536 ≡ from + 1 → ⊥) → get_or head (2 * p) 0 / 65536 ≡ from + 1 → Returned s start arcs j from p (arc_in (get_or head (2 * p) 0)) head next head' next' r
  pub new : (get_or head (2 * p + d) 0 / 65536 ≡ from + 1 → ⊥) → (get_or head (2 * p) 0 / 65536 ≡ from + 1 → ⊥) → Fronted (2 * p + d) j from head next head' next' × (r ≡ j + 1)

-- each of the first n arcs has its zero byte
abbrev pub ZeroBytes : List ℕ → ℕ → ℕ → Type 0
ZeroBytes s start n = (i : ℕ) → i < n → byte_at s (start + 8 * i + 3) ≡ 0

-- the arcs stand in the file, and there is room for arc j; the rows of p start with arcs up to it, of transitions up to its own
pub record Room (s : List ℕ) (start arcs j from p : ℕ) (head next : List ℕ) : Type 0 where
  pub stands : Stands s start j arcs
  pub behind : start + 8 * arcs + 8 ≤ length s
  pub zeros : ZeroBytes s start arcs
  pub begun : from ≤ 4096
  pub head_long : 2 * p + 1 < length head
  pub next_long : j < length next
  pub within : get_or head (2 * p) 0 % 65536 ≤ j
  pub own_most : (d : ℕ) → d ≤ 1 → get_or head (2 * p + d) 0 / 65536 ≤ from + 1
  pub begun_most : get_or head (2 * p) 0 / 65536 ≤ from + 1
  pub some : get_or head (2 * p) 0 / 65536 ≡ from + 1 → 0 < get_or head (2 * p) 0 % 65536
