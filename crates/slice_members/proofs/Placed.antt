-- The table of the places of a list's entries, entry by entry.
use Prim.Native.Nat.{ℕ, suc, ◌+◌, ◌<◌}
use mathlib.Core.List.{List}
use mathlib.Core.Path.{◌≡◌, refl, sym, ap, ◌∙◌}
use mathlib.Core.Logic.{◌≢◌}
use native.Mathlib.Decide.{ℕ_discrete}
use native.Mathlib.Omega.{arith}
use lib.ListN.{length, get_or, set, length-set}
use lib.Seq.{get_or-set_same, get_or-set_other}
use Rattle.net.specs.Numbers.{among, position, Rising}
use Rattle.net.proofs.Numbers.{by_cases, holds, fails, among-at, position-lt, at_position, rising_lt}
use Rattle.numbering.specs.Own.{own_entry, Own}
use Rattle.slice_members.specs.List.{Listed}

-- after i entries: the place of each of them, and 0 at every other number
pub record Placed (list : List ℕ) (size i : ℕ) (table : List ℕ) : Type 0 where
  pub long : length table ≡ size
  pub done : (k : ℕ) → k < i → get_or table (get_or list k 0) 0 ≡ suc k
  pub rest : (x : ℕ) → ((k : ℕ) → k < i → get_or list k 0 ≢ x) → get_or table x 0 ≡ 0

pub placed_none : (list table : List ℕ) → Listed list table → Placed list (length table) 0 table
placed_none list table l = record { long = refl; done = λ k h. absurd (omega arith); rest = λ x h. l.clear x }

module _ (list : List ℕ) (size i : ℕ) (table : List ℕ) (p : Placed list size i table) (rises : Rising list) (inside : i < length list) (fits : get_or list i 0 < size) where
  abbrev y : ℕ
  y = get_or list i 0

  pub placed_more : Placed list size (i + 1) (set table (get_or list i 0) (i + 1))
  placed_more = record {
    long = length-set table y (i + 1) ∙ p.long;
    done = λ k h. at k h (ℕ_discrete k i);
    rest = λ x h. get_or-set_other table y x (i + 1) 0 (λ e. h i (omega arith) (sym e)) ∙ p.rest x (λ k l. h k (omega arith));
  }
    where
      at : (k : ℕ) → k < i + 1 → Dec (k ≡ i) → get_or (set table y (i + 1)) (get_or list k 0) 0 ≡ suc k
      at k h (yes e) =
          let n : i + 1 ≡ suc k = omega arith in
          ap (λ (x : ℕ). get_or (set table y (i + 1)) (get_or list x 0) 0) e ∙ get_or-set_same table y (i + 1) 0 (omega (arith, p.long)) ∙ n
      at k h (no e) =
          let below : get_or list k 0 < y = rising_lt list rises k i (omega arith) inside in
          get_or-set_other table y (get_or list k 0) (i + 1) 0 (λ q. omega arith) ∙ p.done k (omega arith)

pub placed_all : (list : List ℕ) (size i : ℕ) (table : List ℕ) → Placed list size i table → i ≡ length list → Own list table
unfolding own_entry
placed_all list size i table p e = record {
  at = λ x h. by_cases (among x list)
      (λ k. let t = holds (among x list) k in
      rw (k, own_entry) (ap (λ (n : ℕ). get_or table n 0) (sym (at_position x list t)) ∙ p.done (position x list) (omega (arith, position-lt x list t))))
      (λ k. rw (k, own_entry) (p.rest x (λ n l q. fails (among x list) k (rw q at (among-at list n (omega arith))))));
}
