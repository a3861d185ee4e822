-- Going back with the tables lent: from the cleared tables to the sets of the run cut.
use Prim.Native.Nat.{ℕ, ◌*◌, ◌≤◌}
use mathlib.Core.Bool.{false}
use mathlib.Core.List.{List}
use mathlib.Core.Path.{◌≡◌, sym, ap, ◌∙◌}
use native.Mathlib.Omega.{arith}
use lib.ListN.{length, replicate, length-replicate}
use Rattle.net.specs.Numbers.{among, Rising}
use Rattle.file_header.specs.declared.Header.{Header}
use Rattle.file.proofs.Criterion.{passed}
use Rattle.file.proofs.Rows.{rising_from}
use Rattle.sets.specs.Member.{member}
use Rattle.tables.proofs.Zeros.{zeros_at}
use Rattle.sets.proofs.Members.{none}
use Rattle.slice.specs.Kept.{kept_slice}
use Rattle.run_feed.specs.Back.{Known, Entered, end_of, Back}
use Rattle.run_feed.proofs.Ends.{begun, finished_places, finished_transitions, finished_slice, finished_positions, finished_end}
use Rattle.run_cut.specs.Parts.{Given, Lent, Cleared, Empty, chosen_by, FedBy}

-- tables with nothing in them
pub lent : (h : Header) (n m : ℕ) → h.places ≤ n → h.arcs ≤ m → h.transitions ≤ n → Lent h (replicate (2 * n) 0) (replicate m 0) (replicate n 0)
lent h n m p a t = record {
  head_long = omega (arith, length-replicate {A = ℕ} (2 * n) 0);
  next_long = omega (arith, length-replicate {A = ℕ} m 0);
  first_long = omega (arith, length-replicate {A = ℕ} n 0);
  no_row = zeros_at (2 * n);
  none_drawn = zeros_at n;
}

pub cleared : (h : Header) (n : ℕ) → h.transitions ≤ n → Cleared h (replicate n 0)
cleared h n t = record { long = omega (arith, length-replicate {A = ℕ} n 0); none = zeros_at n }

-- sixteen words of 0 are an empty set
pub empty : Empty (replicate 16 0)
empty = record { long = length-replicate {A = ℕ} 16 0; none = none }

module _ (s : List ℕ) (h : Header) (Q list : List ℕ) (g : Given s h Q list) where
  pub criterion_known : Known h Q
  criterion_known = (passed h.places Q g.criterion).known

  rises : Rising Q
  rises = rising_from Q 0 (passed h.places Q g.criterion).rise

  pub starts : (head next : List ℕ) (P₀ F₀ P F C L : List ℕ) → Lent h head next F₀ → Cleared h L → ((p : ℕ) → member P₀ p ≡ false) → ((t : ℕ) → member C t ≡ false) → length C ≡ 16
      → Entered s h (λ k. among k Q) L P₀ F₀ P F → Back s h Q list (length list) 0 P F C L
  starts head next P₀ F₀ P F C L lent clear none_kept none_chosen long e = begun s h Q list P₀ F₀ P F C L none_kept lent.none_drawn none_chosen clear.none e long lent.first_long clear.long

  pub traced : (end : ℕ) (P F C L : List ℕ) → Back s h Q list 0 end P F C L → FedBy s h Q list L (record { places = P; transitions = C }) end
  unfolding kept_slice chosen_by
  traced end P F C L x = record {
    within = record {
      places = finished_places s h Q criterion_known rises list g.fires end P F C L x;
      transitions = finished_transitions s h Q criterion_known rises list g.fires end P F C L x;
    };
    slice = finished_slice s h Q criterion_known rises list g.fires end P F C L x;
    positions = sym (finished_positions s h Q criterion_known rises list g.fires end P F C L x);
    ended = finished_end s h Q criterion_known rises list g.fires end P F C L x ∙ ap end_of (finished_positions s h Q criterion_known rises list g.fires end P F C L x);
    reached = record { short = g.short; known = λ i l. omega (arith, g.known i l, x.last_long) };
  }
