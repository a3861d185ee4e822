-- One group of parallel arcs more is linked.
use Prim.Native.Nat.{ℕ, suc, ◌+◌, ◌*◌, ◌-◌, ◌/◌, ◌%◌, ◌≤◌, ◌<◌}
use mathlib.Core.Bool.{Bool, false}
use mathlib.Core.List.{List}
use mathlib.Core.Path.{◌≡◌, refl, sym, ap, ◌∙◌, subst}
use native.Mathlib.Omega.{arith}
use native.Mathlib.Decide.{ℕ_discrete, dec_lt}
use lib.Dec.{T, eqb}
use lib.ListN.{length, get_or, set, length-set}
use lib.Seq.{get_or-set_same, get_or-set_other}
use borrow.Author.Tests.{lt-ltb, le-ltb, ne_eqb, eqb-true, eqb-false}
use Rattle.net.specs.declared.Arc.{Arc}
use Rattle.net.proofs.Numbers.{by_cases, holds, fails, is_true}
use Rattle.file.specs.Facts.{Sound}
use Rattle.file_arcs.specs.Layout.{arc_at}
use Rattle.file_header.specs.declared.Header.{Header}
use Rattle.file_arcs.proofs.Rows.{weight_none}
use Rattle.file.proofs.Rows.{good_at}
use Rattle.arcs_starts.specs.Table.{slot_at, choose, Split}
use Rattle.arcs_starts.proofs.Reached.{number_below_lem}
use Rattle.arcs_column.specs.Ways.{transition_at, direction_at, place_at, Joins}
use Rattle.cut_rows.specs.Rows.{entry_of, Ends, Rows}
use Rattle.arcs_groups.specs.Groups.{Alike, Opens, Parallel, GroupEnd, run_weight}
use Rattle.arcs_groups.proofs.Groups.{alike, alone, between, opens_next}
use Rattle.cut_index.specs.Steps.{arc_in, Fronted, Returned, Linked, Room}
use Rattle.cut_index.proofs.Weights
use Rattle.cut_index.proofs.Ends.{ends_none, ends_own, ends_more, ends_keep}

-- the first j arcs are linked, by what they tell
pub record Rowed (s : List ℕ) (h : Header) (j : ℕ) (head next : List ℕ) : Type 0 where
  pub heads : (d p : ℕ) → d ≤ 1 → p < h.places → Ends s h (Weights.told s h j d p) j d p (get_or head (2 * p + d) 0)
  pub nexts : (k : ℕ) → k < j → Opens s h.arcstart k → T (Weights.told s h j (direction_at s h.arcstart k) (place_at s h.arcstart k) (transition_at s h.arcstart k))
      → Ends s h (Weights.told s h h.arcs (direction_at s h.arcstart k) (place_at s h.arcstart k)) k (direction_at s h.arcstart k) (place_at s h.arcstart k) (get_or next k 0)

-- one start tells transitions apart
one-transition : (s : List ℕ) (h : Header) (sound : Sound s h) (i j from : ℕ) → i < j → j < h.arcs → Split s h.arcstart h.arcs (2 * transition_at s h.arcstart i) from
    → Split s h.arcstart h.arcs (2 * transition_at s h.arcstart j) from → transition_at s h.arcstart i ≡ transition_at s h.arcstart j
unfolding slot_at
one-transition s h sound i j from l m x y = go (dec_lt i from)
  where
    go : Dec (i < from) → transition_at s h.arcstart i ≡ transition_at s h.arcstart j
    go (yes q) = absurd (omega (arith, x.below i q))
    go (no q) = omega (arith, y.above i (omega arith) (omega arith), (good_at s h sound i (omega arith)).direction, Weights.rises s h sound i j (omega arith) m)

one-start : (s : List ℕ) (h : Header) (k a b : ℕ) → Split s h.arcstart h.arcs k a → Split s h.arcstart h.arcs k b → a ≡ b
one-start s h k a b x y = sym (number_below_lem s h.arcstart h.arcs k a x) ∙ number_below_lem s h.arcstart h.arcs k b y

-- the arcs of a new transition start with arc j
new_start : (s : List ℕ) (h : Header) (sound : Sound s h) (j : ℕ) → j < h.arcs → ((i : ℕ) → i < j → transition_at s h.arcstart i < transition_at s h.arcstart j)
    → Split s h.arcstart h.arcs (2 * transition_at s h.arcstart j) j
unfolding slot_at
new_start s h sound j l lower = record {
  within = omega arith;
  below = λ i m. omega (arith, lower i m, (good_at s h sound i (omega arith)).direction);
  above = λ i a b. omega (arith, Weights.rises s h sound j i a b);
}

-- rows of different places or directions are different
row_place : (p q d e : ℕ) → d ≤ 1 → e ≤ 1 → 2 * q + d ≡ 2 * p + e → q ≡ p
row_place p q d e l m x = omega arith

row_direction : (p d e : ℕ) → 2 * p + d ≡ 2 * p + e → d ≡ e
row_direction p d e x = omega arith

entry_of_none : (e from : ℕ) → e ≡ 0 → e / 65536 ≡ from + 1 → ⊥
entry_of_none e from z q = omega arith

some : (e from : ℕ) → (e % 65536 ≡ 0 → e ≡ 0) → e / 65536 ≡ from + 1 → 0 < e % 65536
some e from ends q = go (ℕ_discrete (e % 65536) 0)
  where
    go : Dec (e % 65536 ≡ 0) → 0 < e % 65536
    go (yes z) = absurd (entry_of_none e from (ends z) q)
    go (no z) = omega arith

-- arc j, of the transition whose arcs start with arc `from`, after the first j arcs
module _ (s : List ℕ) (h : Header) (sound : Sound s h) (j from : ℕ) (l : j < h.arcs) (split : Split s h.arcstart h.arcs (2 * transition_at s h.arcstart j) from)
    (head next : List ℕ) (x : Rowed s h j head next) where
  -- where the row of p in direction g has an arc of this transition that counts, it starts with one
  leads : (g p : ℕ) → g ≤ 1 → p < h.places → (k : ℕ) → k < j → Joins g p (transition_at s h.arcstart j) s h.arcstart k → T (Weights.told s h j g p (transition_at s h.arcstart j))
      → get_or head (2 * p + g) 0 / 65536 ≡ from + 1
  leads g p a b k m y counts = go (dec_lt k (get_or head (2 * p + g) 0 % 65536))
    where
      row : Ends s h (Weights.told s h j g p) j g p (get_or head (2 * p + g) 0)
      row = x.heads g p a b

      -- the first entry is of this transition
      starts : 0 < get_or head (2 * p + g) 0 % 65536 → transition_at s h.arcstart (arc_in (get_or head (2 * p + g) 0)) ≡ transition_at s h.arcstart j → get_or head (2 * p + g) 0 / 65536 ≡ from + 1
      starts z u =
          let is : get_or head (2 * p + g) 0 % 65536 ≡ suc (arc_in (get_or head (2 * p + g) 0)) = omega arith in
          let f = one-start s h (2 * transition_at s h.arcstart j) (get_or head (2 * p + g) 0 / 65536 - 1) from (subst (λ (v : ℕ). Split s h.arcstart h.arcs (2 * v) (get_or head (2 * p + g) 0 / 65536 - 1)) u (row.first _ is)) split in
          omega (arith, f, row.begun _ is)

      go : Dec (k < get_or head (2 * p + g) 0 % 65536) → get_or head (2 * p + g) 0 / 65536 ≡ from + 1
      go (no q) =
          let r = row.rest k (omega arith) m y.place y.direction (subst (λ (u : ℕ). T (Weights.told s h j g p u)) (sym y.transition) counts) in
          starts r.0 (sym r.1 ∙ y.transition)
      go (yes q) =
          let i = arc_in (get_or head (2 * p + g) 0) in
          let c : i < j = omega (arith, row.within) in
          starts (omega arith) (omega (arith, y.transition, Weights.rises s h sound k i (omega arith) (omega arith), Weights.rises s h sound i j (omega arith) l))

  -- no row starts with a later transition
  most : (g p : ℕ) → g ≤ 1 → p < h.places → get_or head (2 * p + g) 0 / 65536 ≤ from + 1
  most g p a b = go (ℕ_discrete (get_or head (2 * p + g) 0 % 65536) 0)
    where
      row : Ends s h (Weights.told s h j g p) j g p (get_or head (2 * p + g) 0)
      row = x.heads g p a b

      by_start : (first : ℕ) → Split s h.arcstart h.arcs (2 * transition_at s h.arcstart (arc_in (get_or head (2 * p + g) 0))) first → arc_in (get_or head (2 * p + g) 0) ≤ j → Dec (from < first) → first ≤ from
      by_start first y c (no q) = omega arith
      by_start first y c (yes q) = absurd (omega (arith, y.below from q, split.above from (omega arith) (omega (arith, y.within)), Weights.rises s h sound _ j c l))

      go : Dec (get_or head (2 * p + g) 0 % 65536 ≡ 0) → get_or head (2 * p + g) 0 / 65536 ≤ from + 1
      go (yes z) = omega (arith, row.ends z)
      go (no z) =
          let is : get_or head (2 * p + g) 0 % 65536 ≡ suc (arc_in (get_or head (2 * p + g) 0)) = omega arith in
          omega (arith, by_start _ (row.first _ is) (omega (arith, row.within)) (dec_lt _ _))

  -- ---- a parallel arc is linked

  module _ (again : get_or head (2 * place_at s h.arcstart j + direction_at s h.arcstart j) 0 / 65536 ≡ from + 1) where
    abbrev pj : ℕ
    pj = place_at s h.arcstart j

    abbrev dj : ℕ
    dj = direction_at s h.arcstart j

    abbrev tj : ℕ
    tj = transition_at s h.arcstart j

    abbrev ej : ℕ
    ej = get_or head (2 * pj + dj) 0

    pj_in : pj < h.places
    pj_in = (good_at s h sound j l).place

    dj_in : dj ≤ 1
    dj_in = (good_at s h sound j l).direction

    row : Ends s h (Weights.told s h j dj pj) j dj pj ej
    row = x.heads dj pj dj_in pj_in

    filled : 0 < ej % 65536
    filled = some ej from row.ends again

    is : ej % 65536 ≡ suc (arc_in ej)
    is = let z = filled in omega arith

    before : arc_in ej < j
    before = omega (arith, row.within, filled)

    mine : transition_at s h.arcstart (arc_in ej) ≡ tj
    mine =
        let f : ej / 65536 - 1 ≡ from = omega (arith, again) in
        one-transition s h sound (arc_in ej) j from before l (subst (Split s h.arcstart h.arcs (2 * transition_at s h.arcstart (arc_in ej))) f (row.first (arc_in ej) is)) split

    counted : T (Weights.told s h j dj pj tj)
    counted = subst (λ (u : ℕ). T (Weights.told s h j dj pj u)) mine (row.passes_it (arc_in ej) is)

    pub counts_again : T (Weights.told s h (j + 1) dj pj tj)
    counts_again = Weights.grows s h sound j dj pj tj dj_in refl counted

    same : (g q u : ℕ) → (q ≡ pj → u ≡ tj → ⊥) → Weights.told s h j g q u ≡ Weights.told s h (j + 1) g q u
    same g q u n = Weights.elsewhere s h sound j (j + 1) (alone s h.arcstart j) (omega arith) g q u n

    -- the other direction does not count
    other_way : (m g : ℕ) → g ≤ 1 → (g ≡ dj → ⊥) → T (Weights.told s h m dj pj tj) → Weights.told s h m g pj tj ≡ false
    other_way m g a n c = by_cases (Weights.told s h m g pj tj) (λ q. absurd (Weights.one_way s h sound m dj g pj tj dj_in a n c (holds _ q))) (λ q. q)

    rows_again : (g q : ℕ) → g ≤ 1 → q < h.places → Dec (q ≡ pj) → Dec (g ≡ dj) → Ends s h (Weights.told s h (j + 1) g q) (j + 1) g q (get_or head (2 * q + g) 0)
    rows_again g q a b (yes z) (yes o) = rw (z, o) (ends_more s h (Weights.told s h j dj pj) (Weights.told s h (j + 1) dj pj) j (j + 1) dj pj _ (omega arith)
        (λ k m at goes. tests k (ℕ_discrete (transition_at s h.arcstart k) tj))
        (λ k m u at goes y. let i : k ≡ j = omega arith in (filled, ap (transition_at s h.arcstart) i ∙ sym mine))
        row)
      where
        tests : (k : ℕ) → Dec (transition_at s h.arcstart k ≡ tj) → Weights.told s h j dj pj (transition_at s h.arcstart k) ≡ Weights.told s h (j + 1) dj pj (transition_at s h.arcstart k)
        tests k (yes u) = rw u (is_true _ counted ∙ sym (is_true _ counts_again))
        tests k (no u) = same dj pj _ (λ v w. u w)
    rows_again g q a b (yes z) (no o) = rw z (ends_keep s h (Weights.told s h j g pj) (Weights.told s h (j + 1) g pj) j (j + 1) g pj _ (omega arith)
        (λ k m at goes. tests k (ℕ_discrete (transition_at s h.arcstart k) tj))
        (λ k m u at goes y. let i : k ≡ j = omega arith in o (sym goes ∙ ap (direction_at s h.arcstart) i))
        (x.heads g pj a pj_in))
      where
        tests : (k : ℕ) → Dec (transition_at s h.arcstart k ≡ tj) → Weights.told s h j g pj (transition_at s h.arcstart k) ≡ Weights.told s h (j + 1) g pj (transition_at s h.arcstart k)
        tests k (yes u) = rw u (other_way j g a o counted ∙ sym (other_way (j + 1) g a o counts_again))
        tests k (no u) = same g pj _ (λ v w. u w)
    rows_again g q a b (no z) o = ends_keep s h (Weights.told s h j g q) (Weights.told s h (j + 1) g q) j (j + 1) g q _ (omega arith)
        (λ k m at goes. same g q _ (λ v w. z v))
        (λ k m u at goes y. let i : k ≡ j = omega arith in z (sym at ∙ ap (place_at s h.arcstart) i))
        (x.heads g q a b)

    pub linked_again : Rowed s h (j + 1) head next
    linked_again = record {
      heads = λ g q a b. rows_again g q a b (ℕ_discrete q pj) (ℕ_discrete g dj);
      nexts = λ k a o m. after k a o m (dec_lt k j);
    }
      where
        earlier : (k : ℕ) → k < j → T (Weights.told s h (j + 1) (direction_at s h.arcstart k) (place_at s h.arcstart k) (transition_at s h.arcstart k))
            → Dec (place_at s h.arcstart k ≡ pj) → Dec (transition_at s h.arcstart k ≡ tj) → Dec (direction_at s h.arcstart k ≡ dj)
            → T (Weights.told s h j (direction_at s h.arcstart k) (place_at s h.arcstart k) (transition_at s h.arcstart k))
        earlier k q m (yes u) (yes v) (yes w) = rw (u, v, w) counted
        earlier k q m (yes u) (yes v) (no w) = absurd (fails _ (other_way (j + 1) _ (good_at s h sound k (omega arith)).direction w counts_again) (rw (u, v) at m))
        earlier k q m (yes u) (no v) w = subst T (sym (same _ _ _ (λ f g. v g))) m
        earlier k q m (no u) v w = subst T (sym (same _ _ _ (λ f g. u f))) m

        after : (k : ℕ) → k < j + 1 → Opens s h.arcstart k → T (Weights.told s h (j + 1) (direction_at s h.arcstart k) (place_at s h.arcstart k) (transition_at s h.arcstart k)) → Dec (k < j)
            → Ends s h (Weights.told s h h.arcs (direction_at s h.arcstart k) (place_at s h.arcstart k)) k (direction_at s h.arcstart k) (place_at s h.arcstart k) (get_or next k 0)
        after k a o m (yes q) = x.nexts k q o (earlier k q m (ℕ_discrete _ pj) (ℕ_discrete _ tj) (ℕ_discrete _ dj))
        after k a o m (no q) =
            let i : k ≡ j = omega arith in
            absurd (subst (Opens s h.arcstart) i o (arc_in ej) before (record { transition = mine; direction = row.goes (arc_in ej) is; place = row.at (arc_in ej) is }))

-- the arcs from j to `stop` join the same two in the same direction, and no arc before does
module _ (s : List ℕ) (h : Header) (sound : Sound s h) (j stop from : ℕ) (group : Alike s h.arcstart j stop) (fits : stop ≤ h.arcs) (opens : Opens s h.arcstart j)
    (split : Split s h.arcstart h.arcs (2 * transition_at s h.arcstart j) from) (head next : List ℕ) (x : Rowed s h j head next) where
  -- of each arc: its transition, direction and place
  abbrev tr : ℕ → ℕ
  tr = transition_at s h.arcstart

  abbrev dr : ℕ → ℕ
  dr = direction_at s h.arcstart

  abbrev pl : ℕ → ℕ
  pl = place_at s h.arcstart

  abbrev told : ℕ → ℕ → ℕ → ℕ → Bool
  told = Weights.told s h

  abbrev Cuts : ℕ → ℕ → Type 0
  Cuts = Split s h.arcstart h.arcs

  -- of the group: its place, direction, transition and weight
  abbrev p : ℕ
  p = pl j

  abbrev d : ℕ
  d = dr j

  abbrev t : ℕ
  t = tr j

  abbrev w : ℕ
  w = run_weight s h.arcstart j (stop - j)

  -- the entry of the last group that takes from its place
  abbrev e : ℕ
  e = get_or head (2 * p) 0

  l : j < h.arcs
  l = Weights.inside s h sound j stop group fits

  more : j < stop
  more = group.after

  p_in : p < h.places
  p_in = (good_at s h sound j l).place

  d_in : d ≤ 1
  d_in = (good_at s h sound j l).direction

  -- an arc before it at the same place and in the same direction is of a lower transition
  lower : (k : ℕ) → k < j → pl k ≡ p → dr k ≡ d → tr k < t
  lower k m at goes = go (ℕ_discrete (tr k) t)
    where
      go : Dec (tr k ≡ t) → tr k < t
      go (yes q) = absurd (opens k m (record { transition = q; direction = goes; place = at }))
      go (no q) = omega (arith, q, Weights.rises s h sound k j (omega arith) l)

  -- ---- rows that stay

  -- of another place
  far : (q g : ℕ) → g ≤ 1 → q < h.places → (q ≡ p → ⊥) → Ends s h (told stop g q) stop g q (get_or head (2 * q + g) 0)
  far q g a b n = ends_keep s h (told j g q) (told stop g q) j stop g q _ (omega (arith, more))
      (λ k m at goes. Weights.elsewhere s h sound j stop group fits g q (tr k) (λ z y. n z))
      (λ k m o at goes y. n (sym at ∙ (group.same k m o).place))
      (x.heads g q a b)

  -- of the other direction, without an arc of this transition
  other : (g : ℕ) → g ≤ 1 → (g ≡ d → ⊥) → ((k : ℕ) → k < j → pl k ≡ p → dr k ≡ g → tr k ≡ t → ⊥)
      → Ends s h (told stop g p) stop g p (get_or head (2 * p + g) 0)
  other g a n none = ends_keep s h (told j g p) (told stop g p) j stop g p _ (omega (arith, more))
      (λ k m at goes. Weights.elsewhere s h sound j stop group fits g p (tr k) (λ z y. none k m at goes y))
      (λ k m o at goes y. n (sym goes ∙ (group.same k m o).direction))
      (x.heads g p a p_in)

  -- its own row, where it does not count
  own : (T (told stop d p t) → ⊥) → Ends s h (told stop d p) stop d p (get_or head (2 * p + d) 0)
  own n = ends_keep s h (told j d p) (told stop d p) j stop d p _ (omega (arith, more))
      (λ k m at goes. Weights.elsewhere s h sound j stop group fits d p (tr k) (λ z y. omega (arith, y, lower k m at goes)))
      (λ k m o at goes y. n (subst (λ (a : ℕ). T (told stop d p a)) (group.same k m o).transition y))
      (x.heads d p d_in p_in)

  -- ---- the last group that takes from p

  taker : Ends s h (told j 0 p) j 0 p e
  taker = let q : 2 * p + 0 ≡ 2 * p = omega arith in subst (λ (k : ℕ). Ends s h (told j 0 p) j 0 p (get_or head k 0)) q (x.heads 0 p (omega arith) p_in)

  -- it is of this transition where the starts are equal
  pub takes : e / 65536 ≡ from + 1 → (arc_in e < j) × Joins 0 p t s h.arcstart (arc_in e) × Opens s h.arcstart (arc_in e)
  takes q =
      let z = some e from taker.ends q in
      let is : e % 65536 ≡ suc (arc_in e) = omega arith in
      let b : arc_in e < j = omega (arith, taker.within) in
      let f : e / 65536 - 1 ≡ from = omega arith in (
        b,
        record {
          transition = one-transition s h sound (arc_in e) j from b l (subst (Cuts (2 * tr (arc_in e))) f (taker.first (arc_in e) is)) split;
          direction = taker.goes (arc_in e) is;
          place = taker.at (arc_in e) is;
        },
        taker.opens (arc_in e) is,
      )

  -- and only there
  no_taker : (e / 65536 ≡ from + 1 → ⊥) → d ≡ 1 → (k : ℕ) → k < j → pl k ≡ p → dr k ≡ 0 → tr k ≡ t → ⊥
  no_taker n o k m at goes y = go
    where
      lowers : T (told j 0 p t)
      lowers = Weights.lowers_yet s h sound j stop group fits opens o
          (Weights.weighs s h sound 0 p t k j (record { transition = y; direction = goes; place = at }) m (omega (arith, l)))

      go : ⊥
      go =
          let q : 2 * p + 0 ≡ 2 * p = omega arith in
          n (subst (λ (i : ℕ). get_or head i 0 / 65536 ≡ from + 1) q (leads s h sound j from l split head next x 0 p (omega arith) p_in k m (record { transition = y; direction = goes; place = at }) lowers))

  -- ---- what the group leads to

  -- an arc that counts now counted before
  earlier : (k : ℕ) → k < j → T (told stop (dr k) (pl k) (tr k)) → T (told j (dr k) (pl k) (tr k))
  earlier k m y = go (ℕ_discrete (pl k) p) (ℕ_discrete (tr k) t) (ℕ_discrete (dr k) d)
    where
      go : Dec (pl k ≡ p) → Dec (tr k ≡ t) → Dec (dr k ≡ d) → T (told j (dr k) (pl k) (tr k))
      go (yes a) (yes b) (yes c) = absurd (opens k m (record { transition = b; direction = c; place = a }))
      go (yes a) (yes b) (no c) =
          let o = Weights.inputs_first s h sound k j m l b in
          let u = d_in in
          let z : dr k ≡ 0 = omega (arith, o, u, c) in
          let v : d ≡ 1 = omega (arith, o, u, c) in
          rw (z, a, b) (Weights.lowers_yet s h sound j stop group fits opens v
          (Weights.weighs s h sound 0 p t k j (record { transition = b; direction = z; place = a }) m (omega (arith, l))))
      go (yes a) (no b) c = subst T (sym (Weights.elsewhere s h sound j stop group fits _ _ _ (λ f g. b g))) y
      go (no a) b c = subst T (sym (Weights.elsewhere s h sound j stop group fits _ _ _ (λ f g. a f))) y

  -- what stood in front of its row is settled
  behind : Ends s h (told h.arcs d p) j d p (get_or head (2 * p + d) 0)
  behind = ends_keep s h (told j d p) (told h.arcs d p) j j d p _ (omega arith)
      (λ k m at goes. Weights.settled s h sound j stop group fits d p (tr k) (lower k m at goes))
      (λ k a b. absurd (omega arith))
      (x.heads d p d_in p_in)

  -- ---- all rows

  module _ (head₁ head' next' : List ℕ) (same : (q g : ℕ) → g ≤ 1 → (q ≡ p → ⊥) → get_or head₁ (2 * q + g) 0 ≡ get_or head (2 * q + g) 0) where
    -- what an arc that opens a group leads to, where it stays
    keeps_linked : (k : ℕ) → k < stop → Opens s h.arcstart k → T (told stop (dr k) (pl k) (tr k)) → (k ≡ j → ⊥) → Ends s h (told h.arcs (dr k) (pl k)) k (dr k) (pl k) (get_or next k 0)
    keeps_linked k a o m z = go (dec_lt k j)
      where
        go : Dec (k < j) → Ends s h (told h.arcs (dr k) (pl k)) k (dr k) (pl k) (get_or next k 0)
        go (yes q) = x.nexts k q o (earlier k q m)
        go (no q) =
            let y = group.same k (omega arith) a in
            absurd (o j (omega arith) (record { transition = sym y.transition; direction = sym y.direction; place = sym y.place }))

    -- the group is put in front of its row
    fronted : 2 * p + d < length head₁ → j < length next
        → ((g : ℕ) → g ≤ 1 → (g ≡ d → ⊥) → Ends s h (told stop g p) stop g p (get_or head₁ (2 * p + g) 0))
        → get_or head₁ (2 * p + d) 0 ≡ get_or head (2 * p + d) 0 → T (told stop d p t) → Fronted (2 * p + d) j from head₁ next head' next' → Rowed s h stop head' next'
    fronted hl nl others here counts y = rw (y.head_is, y.next_is) (record {
      heads = λ g q a b. row g q a b (ℕ_discrete q p) (ℕ_discrete g d);
      nexts = λ k a o m. after k a o m (ℕ_discrete k j);
    })
      where
        row : (g q : ℕ) → g ≤ 1 → q < h.places → Dec (q ≡ p) → Dec (g ≡ d) → Ends s h (told stop g q) stop g q (get_or (set head₁ (2 * p + d) (entry_of j from)) (2 * q + g) 0)
        row g q a b (yes z) (yes o) =
            rw (z, o) (rw (get_or-set_same head₁ (2 * p + d) (entry_of j from) 0 hl)
            (ends_own s h (told stop d p) j stop from (omega (arith, l, sound.placed.arcs)) more (λ k u v. (group.same k u v).transition) opens counts split))
        row g q a b (yes z) (no o) = rw z (rw (get_or-set_other head₁ (2 * p + d) (2 * p + g) (entry_of j from) 0 (λ r. o (row_direction p g d r))) (others g a o))
        row g q a b (no z) o =
            rw (get_or-set_other head₁ (2 * p + d) (2 * q + g) (entry_of j from) 0 (λ r. z (row_place p q g d a d_in r)), same q g a z) (far q g a b z)

        after : (k : ℕ) → k < stop → Opens s h.arcstart k → T (told stop (dr k) (pl k) (tr k)) → Dec (k ≡ j)
            → Ends s h (told h.arcs (dr k) (pl k)) k (dr k) (pl k)
            (get_or (set next j (get_or head₁ (2 * p + d) 0)) k 0)
        after k a o m (yes z) = rw z (rw (get_or-set_same next j (get_or head₁ (2 * p + d) 0) 0 nl, here) behind)
        after k a o m (no z) = rw (get_or-set_other next j k (get_or head₁ (2 * p + d) 0) 0 z) (keeps_linked k a o m z)

    -- the group does not count
    passed : ((g : ℕ) → g ≤ 1 → Ends s h (told stop g p) stop g p (get_or head₁ (2 * p + g) 0)) → (T (told stop d p t) → ⊥)
        → head' ≡ head₁ → next' ≡ next → Rowed s h stop head' next'
    passed both not y z = rw (y, z) (record {
      heads = λ g q a b. row g q a b (ℕ_discrete q p);
      nexts = λ k a o m. after k a o m (ℕ_discrete k j);
    })
      where
        row : (g q : ℕ) → g ≤ 1 → q < h.places → Dec (q ≡ p) → Ends s h (told stop g q) stop g q (get_or head₁ (2 * q + g) 0)
        row g q a b (yes o) = rw o (both g a)
        row g q a b (no o) = rw (same q g a o) (far q g a b o)

        after : (k : ℕ) → k < stop → Opens s h.arcstart k → T (told stop (dr k) (pl k) (tr k)) → Dec (k ≡ j)
            → Ends s h (told h.arcs (dr k) (pl k)) k (dr k) (pl k) (get_or next k 0)
        after k a o m (yes u) = absurd (not (subst (λ (i : ℕ). T (told stop (dr i) (pl i) (tr i))) u m))
        after k a o m (no u) = keeps_linked k a o m u

  -- ---- no arc of this transition takes from p

  pub counts_new : (e / 65536 ≡ from + 1 → ⊥) → Dec (d ≡ 0) → T (told stop d p t)
  counts_new n (yes o) = subst (λ (g : ℕ). T (told stop g p t)) (sym o) (Weights.input-lowers s h sound j stop group fits opens o)
  counts_new n (no o) =
      let u = d_in in
      let v : d ≡ 1 = omega arith in
      let none : Weights.sum_of s h j 0 p t ≡ 0 = Weights.still s h 0 j 0 p t (omega arith) (λ k a b y. no_taker n v k b y.place y.direction y.transition) ∙ weight_none 0 p t s h.arcstart in
      let less : Weights.sum_of s h j 0 p t < w = omega (arith, none, Weights.weight_some s h sound j stop group fits opens) in
      subst (λ (g : ℕ). T (told stop g p t)) (sym v) (holds _ (Weights.output-raises s h sound j stop group fits opens v ∙ lt-ltb _ _ less))

  others_new : (e / 65536 ≡ from + 1 → ⊥) → Dec (d ≡ 0) → (g : ℕ) → g ≤ 1 → (g ≡ d → ⊥) → Ends s h (told stop g p) stop g p (get_or head (2 * p + g) 0)
  others_new n (yes o) g a c = other g a c (λ k m at goes u. let f = Weights.inputs_first s h sound k j m l u in omega (arith, o, c, goes, f))
  others_new n (no o) g a c = other g a c (λ k m at goes u. let f = d_in in no_taker n (omega (arith, o, f)) k m at (omega (arith, o, f, a, c, goes)) u)

  pub linked_new : (head' next' : List ℕ) → 2 * p + 1 < length head → j < length next → (e / 65536 ≡ from + 1 → ⊥) → Fronted (2 * p + d) j from head next head' next' → Rowed s h stop head' next'
  linked_new head' next' hl nl n y =
      let u = d_in in
      fronted head head' next' (λ q g a b. refl) (omega arith) nl (others_new n (ℕ_discrete d 0)) refl (counts_new n (ℕ_discrete d 0)) y

  -- ---- the group of arc i, of this transition, takes from p

  module _ (i until : ℕ) (m : i < j) (takes-it : Joins 0 p t s h.arcstart i) (first : Opens s h.arcstart i) (ends : GroupEnd s h.arcstart i j until) where
    -- its weight
    abbrev v : ℕ
    v = run_weight s h.arcstart i (until - i)

    output-arc : d ≡ 1
    output-arc = go (ℕ_discrete d 0)
      where
        go : Dec (d ≡ 0) → d ≡ 1
        go (yes o) = absurd (opens i m (record { transition = takes-it.transition; direction = takes-it.direction ∙ sym o; place = takes-it.place }))
        go (no o) = omega (arith, o, d_in)

    taken_is : Weights.sum_of s h j 0 p t ≡ v
    taken_is = Weights.sum_is s h sound 0 p t i j until takes-it (omega (arith, l)) ends first

    lowered : T (told j 0 p t)
    lowered = Weights.lowers_yet s h sound j stop group fits opens output-arc (Weights.weighs s h sound 0 p t i j takes-it m (omega (arith, l)))

    not-raised : w ≤ v → T (told stop d p t) → ⊥
    not-raised a = rw output-arc (fails _ (Weights.output-raises s h sound j stop group fits opens output-arc ∙ rw taken_is (le-ltb _ _ a)))

    raised : v < w → T (told stop d p t)
    raised a = rw output-arc (holds _ (Weights.output-raises s h sound j stop group fits opens output-arc ∙ rw taken_is (lt-ltb _ _ a)))

    -- it stays in its row
    stays : w < v → Ends s h (told stop 0 p) stop 0 p (get_or head (2 * p + 0) 0)
    stays a = ends_keep s h (told j 0 p) (told stop 0 p) j stop 0 p _ (omega (arith, more))
        (λ k b at goes. alike k (ℕ_discrete (tr k) t))
        (λ k b c at goes y. omega (arith, output-arc, goes, (group.same k b c).direction))
        (x.heads 0 p (omega arith) p_in)
      where
        alike : (k : ℕ) → Dec (tr k ≡ t) → told j 0 p (tr k) ≡ told stop 0 p (tr k)
        alike k (yes z) = rw z (is_true _ lowered ∙ sym (Weights.output-lowers s h sound j stop group fits opens output-arc ∙ rw taken_is (lt-ltb _ _ a)))
        alike k (no z) = Weights.elsewhere s h sound j stop group fits 0 p (tr k) (λ f g. z g)

    -- it leaves it
    leaves : v ≤ w → Ends s h (told stop 0 p) stop 0 p (get_or next i 0)
    leaves a = ends_keep s h (told h.arcs 0 p) (told stop 0 p) i stop 0 p _ (omega (arith, more))
        (λ k b at goes. let z = before k b at goes in
        sym (Weights.settled s h sound j stop group fits 0 p (tr k) z) ∙ Weights.elsewhere s h sound j stop group fits 0 p (tr k) (λ f g. omega (arith, g, z)))
        (λ k b c at goes y.
        fails (told stop 0 p t) (Weights.output-lowers s h sound j stop group fits opens output-arc ∙ rw taken_is (le-ltb _ _ a)) (subst (λ (u : ℕ). T (told stop 0 p u)) (mine k b c (dec_lt k j)) y))
        old
      where
        mine : (k : ℕ) → i ≤ k → k < stop → Dec (k < j) → tr k ≡ t
        mine k b c (yes q) = omega (arith, takes-it.transition, Weights.rises s h sound i k b (omega (arith, l)), Weights.rises s h sound k j (omega arith) l)
        mine k b c (no q) = (group.same k (omega arith) c).transition

        before : (k : ℕ) → k < i → pl k ≡ p → dr k ≡ 0 → tr k < t
        before k b at goes = go (ℕ_discrete (tr k) (tr i))
          where
            go : Dec (tr k ≡ tr i) → tr k < t
            go (yes z) = absurd (first k b (record { transition = z; direction = goes ∙ sym takes-it.direction; place = at ∙ sym takes-it.place }))
            go (no z) = omega (arith, z, takes-it.transition, Weights.rises s h sound k i (omega arith) (omega (arith, l)))

        old : Ends s h (told h.arcs 0 p) i 0 p (get_or next i 0)
        old = rw (takes-it.direction, takes-it.place) at (x.nexts i m first (rw (takes-it.direction, takes-it.place, takes-it.transition) lowered))

  pub linked_back : (i : ℕ) → i < j → Joins 0 p t s h.arcstart i → Opens s h.arcstart i
      → (head' next' : List ℕ) → 2 * p + 1 < length head → j < length next → Returned s h.arcstart h.arcs j from p i head next head' next' stop → Rowed s h stop head' next'
  linked_back i m takes-it first head' next' hl nl y = go (dec_lt w given) (dec_lt given w)
    where
      given : ℕ
      given = run_weight s h.arcstart i (y.until - i)

      front : List ℕ
      front = set head (2 * p) (get_or next i 0)

      out : d ≡ 1
      out = output-arc i y.until m takes-it first y.group

      same : (q g : ℕ) → g ≤ 1 → (q ≡ p → ⊥) → get_or front (2 * q + g) 0 ≡ get_or head (2 * q + g) 0
      same q g a n = get_or-set_other head (2 * p) (2 * q + g) (get_or next i 0) 0 (λ r. n (omega arith))

      here : get_or front (2 * p + d) 0 ≡ get_or head (2 * p + d) 0
      here = get_or-set_other head (2 * p) (2 * p + d) (get_or next i 0) 0 (λ r. omega (arith, r, out))

      left : given ≤ w → Ends s h (told stop 0 p) stop 0 p (get_or front (2 * p + 0) 0)
      left a =
          let z : 2 * p + 0 ≡ 2 * p = omega arith in
          subst (Ends s h (told stop 0 p) stop 0 p) (sym (ap (λ (k : ℕ). get_or front k 0) z ∙ get_or-set_same head (2 * p) (get_or next i 0) 0 (omega arith))) (leaves i y.until m takes-it first y.group a)

      lowest : (g : ℕ) → g ≤ 1 → (g ≡ d → ⊥) → g ≡ 0
      lowest g a n = omega (arith, n, out)

      low : w ≤ given → T (told stop d p t) → ⊥
      low = not-raised i y.until m takes-it first y.group

      go : Dec (w < given) → Dec (given < w) → Rowed s h stop head' next'
      go (yes a) b = passed head head' next' (λ q g c n. refl) (λ g c. rows g c (ℕ_discrete g d)) (low (omega arith)) (y.less a).0 (y.less a).1
        where
          rows : (g : ℕ) → g ≤ 1 → Dec (g ≡ d) → Ends s h (told stop g p) stop g p (get_or head (2 * p + g) 0)
          rows g c (yes z) = rw z (own (low (omega arith)))
          rows g c (no z) = rw (lowest g c z) (stays i y.until m takes-it first y.group a)
      go (no a) (yes b) =
          fronted front head' next' same (omega (arith, out, length-set head (2 * p) (get_or next i 0))) nl (λ g c n. rw (lowest g c n) (left (omega arith))) here (raised i y.until m takes-it first y.group b)
          (subst (λ (g : ℕ). Fronted (2 * p + g) j from front next head' next') (sym out) (y.more b))
      go (no a) (no b) =
          let level = y.level (omega arith) in
          passed front head' next' same (λ g c. rows g c (ℕ_discrete g d)) (low (omega arith)) level.0 level.1
        where
          rows : (g : ℕ) → g ≤ 1 → Dec (g ≡ d) → Ends s h (told stop g p) stop g p (get_or front (2 * p + g) 0)
          rows g c (yes z) = rw (z, here) (own (low (omega arith)))
          rows g c (no z) = rw (lowest g c z) (left (omega arith))

-- ---- the loop

-- each step goes on
pub linked_on : {s : List ℕ} {start arcs j from p d : ℕ} {head next head' next' : List ℕ} {r : ℕ} → Linked s start arcs j from p d head next head' next' r → j < r
linked_on {s} {start} {arcs} {j} {from} {p} {d} {head} {next} {head'} {next'} {r} y = go (ℕ_discrete (get_or head (2 * p + d) 0 / 65536) (from + 1)) (ℕ_discrete (get_or head (2 * p) 0 / 65536) (from + 1))
  where
    go : Dec (get_or head (2 * p + d) 0 / 65536 ≡ from + 1) → Dec (get_or head (2 * p) 0 / 65536 ≡ from + 1) → j < r
    go (yes q) o = omega (arith, (y.again q).2)
    go (no q) (yes o) = (y.back q o).own.after
    go (no q) (no o) = omega (arith, (y.new q o).1)

-- the first j arcs are linked; where arc j is parallel to one of them, these count; the arcs of the last of their transitions start with arc `from`
pub record Linking (s : List ℕ) (h : Header) (before after head next : List ℕ) (last from j : ℕ) : Type 0 where
  pub within : j ≤ h.arcs
  pub head_long : length head ≡ length before
  pub next_long : length next ≡ length after
  pub fresh : j ≡ 0 → last ≡ 65536
  pub run : (k : ℕ) → j ≡ suc k → (last ≡ transition_at s h.arcstart k) × Split s h.arcstart h.arcs (2 * last) from
  pub linked : j < h.arcs → (i : ℕ) → i < j → Parallel s h.arcstart j i → T (Weights.told s h j (direction_at s h.arcstart j) (place_at s h.arcstart j) (transition_at s h.arcstart j))
  pub rows : Rowed s h j head next

pub linking_none : (s : List ℕ) (h : Header) (head next : List ℕ) → ((k : ℕ) → get_or head k 0 ≡ 0) → Linking s h head next head next 65536 0 0
linking_none s h head next z = record {
  within = omega arith;
  head_long = refl;
  next_long = refl;
  fresh = λ q. refl;
  run = λ k q. absurd (omega arith);
  linked = λ l i m. absurd (omega arith);
  rows = record { heads = λ d p a b. ends_none s h _ d p _ (z (2 * p + d)); nexts = λ k a. absurd (omega arith) };
}

module _ (s : List ℕ) (h : Header) (sound : Sound s h) (before after head next : List ℕ) (last from j : ℕ) (x : Linking s h before after head next last from j) (l : j < h.arcs) where
  -- where the arcs of the transition of arc j start
  start_is : Split s h.arcstart h.arcs (2 * transition_at s h.arcstart j) (choose (eqb (transition_at s h.arcstart j) last) from j)
  start_is = go (ℕ_discrete j 0)
    where
      go : Dec (j ≡ 0) → Split s h.arcstart h.arcs (2 * transition_at s h.arcstart j) (choose (eqb (transition_at s h.arcstart j) last) from j)
      go (yes z) =
          let f : eqb (transition_at s h.arcstart j) last ≡ false = ne_eqb (transition_at s h.arcstart j) last (λ q. omega (arith, q, x.fresh z, (good_at s h sound j l).transition, sound.placed.transitions)) in
          rw f (new_start s h sound j l (λ i m. absurd (omega arith)))
      go (no z) =
          let e : j ≡ suc (j - 1) = omega arith in
          let r = x.run (j - 1) e in
          by_cases (eqb (transition_at s h.arcstart j) last)
          (λ q. rw (q, eqb-true (transition_at s h.arcstart j) last q) r.1)
          (λ q. rw q (new_start s h sound j l (λ i m.
          let n = eqb-false (transition_at s h.arcstart j) last q in
          omega (arith, n, r.0, Weights.rises s h sound i (j - 1) (omega arith) (omega arith), Weights.rises s h sound (j - 1) j (omega arith) l))))

  -- there is room for it
  room : 2 * h.places ≤ length before → h.arcs ≤ length after → (from' : ℕ) → from' ≡ choose (eqb (transition_at s h.arcstart j) last) from j
      → Room s h.arcstart h.arcs j from' (place_at s h.arcstart j) head next
  room hl nl from' f =
      let p = (good_at s h sound j l).place in
      let z : 2 * place_at s h.arcstart j + 0 ≡ 2 * place_at s h.arcstart j = omega arith in
      let first = subst (λ (k : ℕ). Ends s h (Weights.told s h j 0 (place_at s h.arcstart j)) j 0 (place_at s h.arcstart j) (get_or head k 0)) z (x.rows.heads 0 (place_at s h.arcstart j) (omega arith) p) in
      let most' : (d : ℕ) → d ≤ 1 → get_or head (2 * place_at s h.arcstart j + d) 0 / 65536 ≤ from' + 1 = λ d a. most s h sound j from' l (rw f start_is) head next x.rows d (place_at s h.arcstart j) a p in
      record {
        stands = record { some = l; few = sound.placed.arcs; fit = omega (arith, sound.placed.arcs_fit, sound.placed.origins_fit); short = sound.placed.short };
        behind = omega (arith, sound.placed.arcs_fit, sound.placed.origins_fit);
        zeros = sound.zeros;
        begun = omega (arith, sound.placed.arcs, f, start_is.within);
        head_long = omega (arith, x.head_long);
        next_long = omega (arith, x.next_long);
        within = first.within;
        own_most = most';
        begun_most = subst (λ (k : ℕ). get_or head k 0 / 65536 ≤ from' + 1) z (most' 0 (omega arith));
        some = λ q. some (get_or head (2 * place_at s h.arcstart j) 0) from' first.ends q;
      }

  module _ (hl : 2 * h.places ≤ length before) (nl : h.arcs ≤ length after) (from' : ℕ) (f : from' ≡ choose (eqb (transition_at s h.arcstart j) last) from j)
      (head' next' : List ℕ) (a : length head' ≡ length head) (b : length next' ≡ length next) where
    split : Split s h.arcstart h.arcs (2 * transition_at s h.arcstart j) from'
    split = rw f start_is

    p_long : 2 * place_at s h.arcstart j + 1 < length head
    p_long = let p = (good_at s h sound j l).place in omega (arith, x.head_long)

    j_long : j < length next
    j_long = omega (arith, x.next_long)

    -- arc j alone is linked
    one_more : T (Weights.told s h (j + 1) (direction_at s h.arcstart j) (place_at s h.arcstart j) (transition_at s h.arcstart j)) → Rowed s h (j + 1) head' next'
        → Linking s h before after head' next' (transition_at s h.arcstart j) from' (j + 1)
    one_more counts rows = record {
      within = omega arith;
      head_long = a ∙ x.head_long;
      next_long = b ∙ x.next_long;
      fresh = λ q. absurd (omega arith);
      run = λ k q. let e : j ≡ k = omega arith in (ap (transition_at s h.arcstart) e, split);
      linked = λ m i u y.
          let z = between s h sound i j (j + 1) (omega arith) (omega arith) m (record { transition = sym y.transition; direction = sym y.direction; place = sym y.place }) in
          rw (← y.transition, ← y.direction, ← y.place) (rw (z.transition, z.direction, z.place) at counts);
      rows = rows;
    }

    -- a group is linked
    group_more : (stop : ℕ) → GroupEnd s h.arcstart j h.arcs stop → Rowed s h stop head' next' → Linking s h before after head' next' (transition_at s h.arcstart j) from' stop
    group_more stop group rows = record {
      within = group.within;
      head_long = a ∙ x.head_long;
      next_long = b ∙ x.next_long;
      fresh = λ q. absurd (omega (arith, q, group.after));
      run = λ k q. (sym (group.same k (omega (arith, q, group.after)) (omega (arith, q))).transition, split);
      linked = λ m i u y. absurd (opens_next s h sound j h.arcs stop (omega arith) group m i u y);
      rows = rows;
    }

    linking_more : (r : ℕ) → Linked s h.arcstart h.arcs j from' (place_at s h.arcstart j) (direction_at s h.arcstart j) head next head' next' r
        → Linking s h before after head' next' (transition_at s h.arcstart j) from' r
    linking_more r y =
        go (ℕ_discrete (get_or head (2 * place_at s h.arcstart j + direction_at s h.arcstart j) 0 / 65536) (from' + 1)) (ℕ_discrete (get_or head (2 * place_at s h.arcstart j) 0 / 65536) (from' + 1))
      where
        -- no parallel arc stands before arc j
        opens : (get_or head (2 * place_at s h.arcstart j + direction_at s h.arcstart j) 0 / 65536 ≡ from' + 1 → ⊥) → Opens s h.arcstart j
        opens n i m z =
            n (leads s h sound j from' l split head next x.rows (direction_at s h.arcstart j) (place_at s h.arcstart j) (good_at s h sound j l).direction (good_at s h sound j l).place i m z (x.linked l i m z))

        go : Dec (get_or head (2 * place_at s h.arcstart j + direction_at s h.arcstart j) 0 / 65536 ≡ from' + 1) → Dec (get_or head (2 * place_at s h.arcstart j) 0 / 65536 ≡ from' + 1)
            → Linking s h before after head' next' (transition_at s h.arcstart j) from' r
        go (yes q) o =
            let z = y.again q in
            rw z.2 (one_more (counts_again s h sound j from' l split head next x.rows q) (rw (z.0, z.1) (linked_again s h sound j from' l split head next x.rows q)))
        go (no q) (yes o) =
            let z = y.back q o in
            let g = alike s h.arcstart j h.arcs r z.own in
            let t = takes s h sound j r from' g z.own.within (opens q) split head next x.rows o in
            group_more r z.own (linked_back s h sound j r from' g z.own.within (opens q) split head next x.rows _ t.0 t.1 t.2 head' next' p_long j_long z)
        go (no q) (no o) =
            let z = y.new q o in
            let g = alone s h.arcstart j in
            let u : j + 1 ≤ h.arcs = omega arith in
            rw z.1 (one_more (counts_new s h sound j (j + 1) from' g u (opens q) split head next x.rows o (ℕ_discrete (direction_at s h.arcstart j) 0))
            (linked_new s h sound j (j + 1) from' g u (opens q) split head next x.rows head' next' p_long j_long o z.0))

-- arc a, the next to be linked, the arcs of its transition starting with arc `from`: there is room for it, and once it is linked as many more are
pub record Next (s : List ℕ) (h : Header) (before after head next : List ℕ) (from j : ℕ) (a : Arc) : Type 0 where
  pub room : Room s h.arcstart h.arcs j from a.place head next
  pub way : a.direction ≤ 1
  pub more : (head' next' : List ℕ) → length head' ≡ length head → length next' ≡ length next → (r : ℕ)
      → Linked s h.arcstart h.arcs j from a.place a.direction head next head' next' r → Linking s h before after head' next' a.transition from r

pub next-arc : {s : List ℕ} {h : Header} {before after head next : List ℕ} {last from j : ℕ} → Sound s h → Linking s h before after head next last from j → j < h.arcs
    → 2 * h.places ≤ length before → h.arcs ≤ length after → (a : Arc) → a ≡ arc_at s (h.arcstart + 8 * j) → (from' : ℕ) → from' ≡ choose (eqb a.transition last) from j
    → Next s h before after head next from' j a
next-arc {s} {h} {before} {after} {head} {next} {last} {from} {j} sound x l hl nl a e from' =
    subst (λ (b : Arc). from' ≡ choose (eqb b.transition last) from j → Next s h before after head next from' j b) (sym e) (λ f. record {
      room = room s h sound before after head next last from j x l hl nl from' f;
      way = (good_at s h sound j l).direction;
      more = λ head' next' hs ns. linking_more s h sound before after head next last from j x l hl nl from' f head' next' hs ns;
    })

pub linking_end : (s : List ℕ) (h : Header) (before after head next : List ℕ) (last from j : ℕ) → Linking s h before after head next last from j → h.arcs ≤ j
    → 2 * h.places ≤ length before → h.arcs ≤ length after → Rows s h head next
linking_end s h before after head next last from j x l hl nl =
    let w = x.within in
    let e : j ≡ h.arcs = omega arith in
    let r : Rowed s h h.arcs head next = subst (λ (k : ℕ). Rowed s h k head next) e x.rows in
    record {
      head_long = omega (arith, x.head_long);
      next_long = omega (arith, x.next_long);
      heads = r.heads;
      nexts = r.nexts;
    }
