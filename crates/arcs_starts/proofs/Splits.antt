-- Laws of the table of starts.
use Prim.Native.Nat.{ℕ, zero, suc, ◌+◌, ◌≤◌, ◌<◌, max}
use mathlib.Core.Path.{◌≡◌, refl, sym, ap, ◌∙◌, subst}
use mathlib.Core.List.{List}
use native.Mathlib.Omega.{arith}
use native.Mathlib.Decide.{dec_lt, ℕ_discrete}
use lib.ListN.{length, get_or, set, length-set}
use lib.Seq.{get_or-set_same, get_or-set_other}
use Rattle.arcs_starts.specs.Table

-- ---- the last arc of each slot

-- after j arcs: entry k + 1 tells the last of them with slot k
pub record Ended (s : List ℕ) (start j size : ℕ) (table : List ℕ) : Type 0 where
  pub long : length table ≡ size
  pub first : get_or table 0 0 ≡ 0
  pub latest : (k : ℕ) → Table.Latest s start j k (get_or table (k + 1) 0)

latest_new : (s : List ℕ) (start i k : ℕ) → Table.slot_at s start i ≡ k → Table.Latest s start (i + 1) k (i + 1)
latest_new s start i k e = record {
  within = omega arith;
  row = λ j q. let same : j ≡ i = omega arith in ap (Table.slot_at s start) same ∙ e;
  rest = λ j l h q. omega arith;
}

latest_old : (s : List ℕ) (start i k h : ℕ) → Table.Latest s start i k h → (Table.slot_at s start i ≡ k → ⊥) → Table.Latest s start (i + 1) k h
latest_old s start i k h x other = record {
  within = let l = x.within in omega arith;
  row = x.row;
  rest = λ j l m q. go j l m q (ℕ_discrete j i);
}
  where
    go : (j : ℕ) → h ≤ j → j < i + 1 → Table.slot_at s start j ≡ k → Dec (j ≡ i) → ⊥
    go j l m q (yes e) = other (ap (Table.slot_at s start) (sym e) ∙ q)
    go j l m q (no n) = x.rest j l (omega arith) q

module _ {s : List ℕ} {start j size : ℕ} {table : List ℕ} (x : Ended s start j size table) (slot : ℕ) (e : slot ≡ Table.slot_at s start j) (inside : slot + 1 < size) where
  pub ended-more : Ended s start (j + 1) size (set table (slot + 1) (j + 1))
  ended-more = record {
    long = length-set table (slot + 1) (j + 1) ∙ x.long;
    first = get_or-set_other table (slot + 1) 0 (j + 1) 0 (λ q. omega arith) ∙ x.first;
    latest = λ k. at k (ℕ_discrete k slot);
  }
    where
      at : (k : ℕ) → Dec (k ≡ slot) → Table.Latest s start (j + 1) k (get_or (set table (slot + 1) (j + 1)) (k + 1) 0)
      at k (yes q) =
          let h : get_or (set table (slot + 1) (j + 1)) (k + 1) 0 ≡ j + 1 = ap (λ (n : ℕ). get_or (set table (slot + 1) (j + 1)) (n + 1) 0) q ∙ get_or-set_same table (slot + 1) (j + 1) 0 (omega (arith, x.long)) in
          subst (Table.Latest s start (j + 1) k) (sym h) (latest_new s start j k (sym e ∙ sym q))
      at k (no q) =
          subst (Table.Latest s start (j + 1) k) (sym (get_or-set_other table (slot + 1) (k + 1) (j + 1) 0 (λ r. q (omega arith))))
          (latest_old s start j k (get_or table (k + 1) 0) (x.latest k) (λ r. q (sym r ∙ sym e)))

-- ---- the largest entry so far

pub record Filled (E : List ℕ) (most k : ℕ) (table : List ℕ) : Type 0 where
  pub long : length table ≡ length E
  pub most_is : most ≡ Table.running_most E k
  pub done : (i : ℕ) → i ≤ k → get_or table i 0 ≡ Table.running_most E i
  pub left : (i : ℕ) → k < i → get_or table i 0 ≡ get_or E i 0

pub filled_none : (E : List ℕ) → get_or E 0 0 ≡ 0 → Filled E 0 0 E
unfolding Table.running_most
filled_none E z = record {
  long = refl;
  most_is = refl;
  done = λ i l. let q : i ≡ 0 = omega arith in rw q z;
  left = λ i l. refl;
}

most-next : (E : List ℕ) (k : ℕ) → Table.running_most E (k + 1) ≡ max (Table.running_most E k) (get_or E (k + 1) 0)
unfolding Table.running_most
most-next E k = let q : k + 1 ≡ suc k = omega arith in rw q

module _ {E : List ℕ} {most k : ℕ} {table : List ℕ} (x : Filled E most k table) (inside : k + 1 < length E) where
  pub filled_more : (next : ℕ) → next ≡ max most (get_or table (k + 1) 0) → Filled E next (k + 1) (set table (k + 1) next)
  filled_more next e = record {
    long = length-set table (k + 1) next ∙ x.long;
    most_is = now;
    done = λ i l. at i l (ℕ_discrete i (k + 1));
    left = λ i l. get_or-set_other table (k + 1) i next 0 (λ q. omega arith) ∙ x.left i (omega arith);
  }
    where
      now : next ≡ Table.running_most E (k + 1)
      now = e ∙ ap (λ (m : ℕ). max m (get_or table (k + 1) 0)) x.most_is ∙ ap (max (Table.running_most E k)) (x.left (k + 1) (omega arith)) ∙ sym (most-next E k)

      at : (i : ℕ) → i ≤ k + 1 → Dec (i ≡ k + 1) → get_or (set table (k + 1) next) i 0 ≡ Table.running_most E i
      at i l (yes q) = ap (λ (n : ℕ). get_or (set table (k + 1) next) n 0) q ∙ get_or-set_same table (k + 1) next 0 (omega (arith, x.long)) ∙ now ∙ ap (Table.running_most E) (sym q)
      at i l (no q) = get_or-set_other table (k + 1) i next 0 q ∙ x.done i (omega arith)

-- ---- the largest entry is where the arcs split

apart : (k x : ℕ) → k ≤ x → (x ≡ k → ⊥) → suc k ≤ x
apart k x l q = omega (arith, q)

module _ {s : List ℕ} {start n : ℕ} (order : (i j : ℕ) → i ≤ j → j < n → Table.slot_at s start i ≤ Table.slot_at s start j) where
  next : (k m h : ℕ) → Table.Split s start n k m → Table.Latest s start n k h → Dec (m < h) → Table.Split s start n (suc k) (max m h)
  next k m zero p l (yes more) = absurd (omega arith)
  next k m (suc h) p l (yes more) =
      let at : Table.slot_at s start h ≡ k = l.row h refl in
      let is : suc h ≡ max m (suc h) = omega arith in
      subst (Table.Split s start n (suc k)) is (record {
        within = l.within;
        below = λ i f. omega (arith, at, order i h (omega arith) (omega (arith, l.within)));
        above = λ i f g. apart k (Table.slot_at s start i) (omega (arith, at, order h i (omega arith) g)) (l.rest i f g);
      })
  next k m h p l (no more) =
      let is : m ≡ max m h = omega arith in
      subst (Table.Split s start n (suc k)) is (record {
        within = p.within;
        below = λ i f. omega (arith, p.below i f);
        above = λ i f g. apart k (Table.slot_at s start i) (p.above i f g) (l.rest i (omega arith) g);
      })

  pub splits : (E : List ℕ) → ((k : ℕ) → Table.Latest s start n k (get_or E (k + 1) 0)) → (k : ℕ) → Table.Split s start n k (Table.running_most E k)
  unfolding Table.running_most
  splits E latest zero = record { within = omega arith; below = λ i f. absurd (omega arith); above = λ i f g. omega arith }
  splits E latest (suc k) =
      let e : k + 1 ≡ suc k = omega arith in
      next k _ _ (splits E latest k) (subst (λ (x : ℕ). Table.Latest s start n k (get_or E x 0)) e (latest k)) (dec_lt (Table.running_most E k) (get_or E (suc k) 0))

-- what is below k is below a larger number
pub past_by : {s : List ℕ} {start n k k' r : ℕ} → Table.Split s start n k r → k ≤ k' → Table.Past s start r k'
past_by x l i m = omega (arith, x.below i m, l)
