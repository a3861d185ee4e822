-- Rows as they are made, and searches along them.
use Prim.Native.Nat.{ℕ, suc, ◌+◌, ◌*◌, ◌%◌, ◌-◌, ◌≤◌, ◌<◌}
use mathlib.Core.Path.{◌≡◌, refl, sym, ap, subst, ◌∙◌}
use mathlib.Core.Bool.{true, false, true≢false}
use Rattle.std.proofs.Common.{Option, Some, None}
use mathlib.Core.List.{List, [], ◌∷◌, ◌++◌, map}
use native.Mathlib.Omega.{arith}
use native.Mathlib.Numerals.{add-one}
use native.Mathlib.Decide.{dec_lt}
use lib.Dec.{eqb}
use lib.ListN.{length, get_or, set, take, drop, length-set, take-append-drop}
use lib.Seq.{get_or-set_same, get_or-set_other, length-take-le, take-length, get_or-take}
use borrow.Author.Tests.{eqb-true, eqb-false}
use Rattle.net.proofs.Numbers.{by_cases}
use Rattle.std.specs.Option.{is_some}
use Rattle.pnml_page.specs.Meant.{id_at}
use Rattle.pnml_names.specs.Names.{same_id, position, among, repeats}
use Rattle.pnml_names.specs.Tables.{head_of, ids_in}
use Rattle.pnml_names.proofs.Ids.{Starts, starts, empty, character, some_none, same_some, same_eq, among-at, position_at, position-none, repeats-more, repeats-front, map_more, map-append}
use Rattle.pnml_index.specs.Rows.{sum_of, Has, here, later, Row, Sought, Placed, Blank, Indexed}

-- the loop that sums
pub record Summing (s : List ℕ) (a h i : ℕ) : Type 0 where
  pub small : h < 2048
  pub so : sum_of h (id_at s i) ≡ sum_of 0 (id_at s a)

module _ {s : List ℕ} {a h i : ℕ} (inv : Summing s a h i) where
  pub sum-end : None ≡ head_of (id_at s i) → h ≡ sum_of 0 (id_at s a)
  unfolding sum_of
  sum-end e = go (starts s i)
    where
      go : Starts s i → h ≡ sum_of 0 (id_at s a)
      go (empty p) = sym (ap (sum_of h) p) ∙ inv.so
      go (character b g p) = absurd (some_none (sym (e ∙ ap head_of p)))

  pub sum-on : {x : ℕ} → Some x ≡ head_of (id_at s i) → Summing s a ((31 * h + x) % 2048) (i + 1)
  unfolding sum_of
  sum-on {x} e = go (starts s i)
    where
      go : Starts s i → Summing s a ((31 * h + x) % 2048) (i + 1)
      go (empty p) = absurd (some_none (e ∙ ap head_of p))
      go (character d g p) =
          let q : d ≡ x = sym (same_some (e ∙ ap head_of p)) in
          record { small = omega arith; so = ap (λ (y : ℕ). sum_of ((31 * h + y) % 2048) (id_at s (i + 1))) (sym q) ∙ sym (ap (sum_of h) p) ∙ inv.so }

-- the loop along a row: what is in the row and is the id is still ahead
pub record Along (s : List ℕ) (a : ℕ) (names next : List ℕ) (from m : ℕ) : Type 0 where
  pub within : m ≤ from
  pub ahead : (j : ℕ) → Has next from j → same_id (id_at s a) (id_at s (get_or names j 0)) ≡ true → Has next m j

has_none : {next : List ℕ} {m j : ℕ} → m ≤ 0 → Has next m j → ⊥
has_none h here = omega arith
has_none h (later x) = omega arith

module _ {s : List ℕ} {a : ℕ} {names next : List ℕ} {from m : ℕ} (row : Row names next from) (inv : Along s a names next from m) where
  pub met : {b : ℕ} → 0 < m → b ≡ get_or names (m - 1) 0 → same_id (id_at s a) (id_at s b) ≡ true → Sought s a names next from (Some (m - 1))
  met {b} h e t = let w = inv.within in let v = row.within in (omega arith, omega arith, ap (λ (y : ℕ). same_id (id_at s a) (id_at s y)) (sym e) ∙ t)

  pub on : {b m' : ℕ} → 0 < m → b ≡ get_or names (m - 1) 0 → same_id (id_at s a) (id_at s b) ≡ false → m' ≡ get_or next (m - 1) 0 → Along s a names next from m'
  on {b} {m'} h e t f =
      let w = inv.within in
      let g = row.falls (m - 1) in
      record { within = omega arith; ahead = λ j x y. go refl (inv.ahead j x y) y }
    where
      go : {k j : ℕ} → m ≡ k → Has next k j → same_id (id_at s a) (id_at s (get_or names j 0)) ≡ true → Has next m' j
      go {j = j} q here y =
          let r : m - 1 ≡ j = omega arith in
          absurd (true≢false (sym y ∙ ap (λ (k : ℕ). same_id (id_at s a) (id_at s (get_or names k 0))) (sym r) ∙ ap (λ (k : ℕ). same_id (id_at s a) (id_at s k)) (sym e) ∙ t))
      go q (later {i} {j} x) y =
          let r : m - 1 ≡ i = omega arith in
          subst (λ (k : ℕ). Has next k j) (sym (f ∙ ap (λ (k : ℕ). get_or next k 0) r)) x

  pub ended : m ≤ 0 → Sought s a names next from None
  ended h = λ j x. by_cases (same_id (id_at s a) (id_at s (get_or names j 0))) (λ t. absurd (has_none h (inv.ahead j x t))) (λ t. t)

-- the search in an index
pub found_is : (s : List ℕ) (a : ℕ) (names : List ℕ) {head next : List ℕ} {h from : ℕ} → Indexed s names head next → h ≡ sum_of 0 (id_at s a) → from ≡ get_or head h 0
    → (r : Option ℕ) → Sought s a names next from r → Placed s a names r
found_is s a names {head} {next} {h} {from} i e f (Some r) w =
    (sym (ap (λ (x : List ℕ). position x (ids_in s names)) (same_eq (id_at s a) (id_at s (get_or names r 0)) w.2) ∙ position_at (id_at s) names r i.once w.0), w.0)
found_is s a names {head} {next} {h} {from} i e f None w =
    sym (position-none (id_at s) names (id_at s a) (λ j l. by_cases (same_id (id_at s a) (id_at s (get_or names j 0)))
    (λ t.
    let q : sum_of 0 (id_at s (get_or names j 0)) ≡ h = ap (sum_of 0) (sym (same_eq (id_at s a) (id_at s (get_or names j 0)) t)) ∙ sym e in
    w j (subst (λ (k : ℕ). Has next k j) (ap (λ (k : ℕ). get_or head k 0) q ∙ sym f) (i.all j l)))
    (λ t. t)))

-- whether it is there
sought_some : (s : List ℕ) (a : ℕ) (names next : List ℕ) (from : ℕ) (r : Option ℕ) → Sought s a names next from r → is_some r ≡ true → (k : ℕ) × Sought s a names next from (Some k)
sought_some s a names next from (Some k) w e = (k, w)
sought_some s a names next from None w e = absurd (true≢false (sym e))

sought_none : (s : List ℕ) (a : ℕ) (names next : List ℕ) (from : ℕ) (r : Option ℕ) → Sought s a names next from r → is_some r ≡ false → Sought s a names next from None
sought_none s a names next from (Some k) w e = absurd (true≢false e)
sought_none s a names next from None w e = w

not-among : (f : ℕ → List ℕ) (x : List ℕ) (t : List ℕ) → ((j : ℕ) → j < length t → same_id x (f (get_or t j 0)) ≡ false) → among x (map f t) ≡ false
unfolding among
not-among f x [] h = refl
not-among f x (y ∷ t) h = rw (h 0 (omega arith)) (not-among f x t (λ j d. h (suc j) (omega arith)))

-- the loop that puts ids into rows: the first k are there
pub record Indexing (s names head next : List ℕ) (k : ℕ) : Type 0 where
  pub some : k ≤ length names
  pub falls : (j : ℕ) → get_or next j 0 ≤ j
  pub heads : (h : ℕ) → get_or head h 0 ≤ k
  pub head_room : 2048 ≤ length head
  pub room : length names ≤ length next
  pub all : (j : ℕ) → j < k → Has next (get_or head (sum_of 0 (id_at s (get_or names j 0))) 0) j
  pub once : repeats (ids_in s (take k names)) ≡ false

pub indexing_none : {s names head next : List ℕ} → Blank names head next → Indexing s names head next 0
unfolding repeats
indexing_none b = record {
  some = omega arith;
  falls = λ j. omega (arith, b.no_rows j);
  heads = λ h. omega (arith, b.no_heads h);
  head_room = b.heads;
  room = b.room;
  all = λ j l. absurd (omega arith);
  once = refl;
}

-- a row that stays below k is not changed by a link at k
has_set : {next : List ℕ} (k v : ℕ) {m j : ℕ} → ((i : ℕ) → get_or next i 0 ≤ i) → m ≤ k → Has next m j → Has (set next k v) m j
has_set k v f h here = here
has_set {next} k v f h (later {i} {j} x) =
    let e = get_or-set_other next k i v 0 (λ z. omega arith) in
    later (subst (λ (m : ℕ). Has (set next k v) m j) (sym e) (has_set k v f (let g = f i in omega arith) x))

pub row_of : {s names head next : List ℕ} {k : ℕ} → Indexing s names head next k → (h : ℕ) {last : ℕ} → last ≡ get_or head h 0 → Row names next last
row_of inv h e = let g = inv.heads h in record { falls = inv.falls; room = inv.room; within = omega (arith, e, inv.some) }

module _ {s names head next : List ℕ} {k : ℕ} (inv : Indexing s names head next k) (l : k < length names) {a h last : ℕ}
    (ea : a ≡ get_or names k 0) (eh : h ≡ sum_of 0 (id_at s a)) (hs : h < 2048) (el : last ≡ get_or head h 0) where
  among-before : (r : ℕ) → Sought s a names next last (Some r) → among (id_at s a) (ids_in s (take k names)) ≡ true
  among-before r w =
      let b = inv.heads h in
      let m : r < k = omega (arith, w.1) in
      let t = length-take-le k names (omega arith) in
      let u : get_or (take k names) r 0 ≡ get_or names r 0 = get_or-take k names r 0 m in
      ap (λ (x : List ℕ). among x (ids_in s (take k names))) (same_eq (id_at s a) (id_at s (get_or names r 0)) w.2 ∙ ap (id_at s) (sym u))
      ∙ among-at (id_at s) (take k names) r (omega arith)

  more : ids_in s (take (k + 1) names) ≡ ids_in s (take k names) ++ (id_at s a ∷ [])
  more = map_more (id_at s) names k l ∙ ap (λ (y : ℕ). ids_in s (take k names) ++ (id_at s y ∷ [])) (sym ea)

  -- it is there twice
  twice_at : (r : ℕ) → Sought s a names next last (Some r) → true ≡ repeats (ids_in s names)
  twice_at r w = by_cases (repeats (ids_in s names)) (λ t. sym t) (λ f.
      let e : ids_in s names ≡ ids_in s (take (k + 1) names) ++ ids_in s (drop (k + 1) names) = ap (map (id_at s)) (sym (take-append-drop (k + 1) names)) ∙ map-append (id_at s) (take (k + 1) names) (drop (k + 1) names) in
      let q = repeats-front (ids_in s (take (k + 1) names)) (ids_in s (drop (k + 1) names)) (sym (ap repeats e) ∙ f) in
      let t = sym (repeats-more (id_at s a) (ids_in s (take k names))) ∙ sym (ap repeats more) ∙ q in
      absurd (true≢false (sym (rw inv.once (among-before r w)) ∙ t)))

  pub twice : (r : Option ℕ) → Sought s a names next last r → is_some r ≡ true → true ≡ repeats (ids_in s names)
  twice r w e = let k = sought_some s a names next last r w e in twice_at k.0 k.1

  -- what is the id is in its row, and none is
  fresh : Sought s a names next last None → (j : ℕ) → j < k → same_id (id_at s a) (id_at s (get_or names j 0)) ≡ false
  fresh w j d = by_cases (same_id (id_at s a) (id_at s (get_or names j 0)))
      (λ t.
      let q : sum_of 0 (id_at s (get_or names j 0)) ≡ h = ap (sum_of 0) (sym (same_eq (id_at s a) (id_at s (get_or names j 0)) t)) ∙ sym eh in
      w j (subst (λ (i : ℕ). Has next i j) (ap (λ (i : ℕ). get_or head i 0) q ∙ sym el) (inv.all j d)))
      (λ t. t)

  none_among : Sought s a names next last None → among (id_at s a) (ids_in s (take k names)) ≡ false
  none_among w = not-among (id_at s) (id_at s a) (take k names) (λ j d.
      let t = length-take-le k names (omega arith) in
      ap (λ (y : ℕ). same_id (id_at s a) (id_at s y)) (get_or-take k names j 0 (omega arith)) ∙ fresh w j (omega arith))

  indexed_on : Sought s a names next last None → Indexing s names (set head h (k + 1)) (set next k last) (k + 1)
  indexed_on w = record {
    some = omega arith;
    falls = λ j. by_cases (eqb k j)
        (λ e. let q = eqb-true k j e in let u = get_or-set_same next k last 0 (let z = inv.room in omega arith) in let b = inv.heads h in omega (arith, ap (λ (i : ℕ). get_or (set next k last) i 0) q))
        (λ e. let u = get_or-set_other next k j last 0 (λ z. eqb-false k j e (sym z)) in let b = inv.falls j in omega arith);
    heads = λ i. by_cases (eqb h i)
        (λ e. let q = eqb-true h i e in let u = get_or-set_same head h (k + 1) 0 (let z = inv.head_room in omega arith) in omega (arith, ap (λ (j : ℕ). get_or (set head h (k + 1)) j 0) q))
        (λ e. let u = get_or-set_other head h i (k + 1) 0 (λ z. eqb-false h i e (sym z)) in let b = inv.heads i in omega arith);
    head_room = omega (arith, length-set head h (k + 1), inv.head_room);
    room = omega (arith, length-set next k last, inv.room);
    all = λ j d. in_row j (dec_lt j k) d;
    once = ap repeats more ∙ repeats-more (id_at s a) (ids_in s (take k names)) ∙ rw inv.once (none_among w);
  }
    where
      first : get_or (set head h (k + 1)) h 0 ≡ suc k
      first = get_or-set_same head h (k + 1) 0 (let z = inv.head_room in omega arith) ∙ add-one k

      link : get_or (set next k last) k 0 ≡ last
      link = get_or-set_same next k last 0 (let z = inv.room in omega arith)

      old : (j : ℕ) → j < k → Has (set next k last) (get_or (set head h (k + 1)) (sum_of 0 (id_at s (get_or names j 0))) 0) j
      old j d =
          let i = sum_of 0 (id_at s (get_or names j 0)) in
          by_cases (eqb h i)
          (λ e.
          let q = eqb-true h i e in
          let x : Has next last j = subst (λ (m : ℕ). Has next m j) (ap (λ (m : ℕ). get_or head m 0) (sym q) ∙ sym el) (inv.all j d) in
          let y : Has (set next k last) last j = has_set k last inv.falls (let b = inv.heads h in omega arith) x in
          let z : Has (set next k last) (suc k) j = later (subst (λ (m : ℕ). Has (set next k last) m j) (sym link) y) in
          subst (λ (m : ℕ). Has (set next k last) m j) (sym first ∙ ap (λ (m : ℕ). get_or (set head h (k + 1)) m 0) q) z)
          (λ e.
          let u = get_or-set_other head h i (k + 1) 0 (λ z. eqb-false h i e (sym z)) in
          subst (λ (m : ℕ). Has (set next k last) m j) (sym u) (has_set k last inv.falls (inv.heads i) (inv.all j d)))

      in_row : (j : ℕ) → Dec (j < k) → j < k + 1 → Has (set next k last) (get_or (set head h (k + 1)) (sum_of 0 (id_at s (get_or names j 0))) 0) j
      in_row j (yes d) g = old j d
      in_row j (no d) g =
          let q : k ≡ j = omega (arith, d) in
          let u : h ≡ sum_of 0 (id_at s (get_or names j 0)) = eh ∙ ap (λ (y : ℕ). sum_of 0 (id_at s y)) (ea ∙ ap (λ (y : ℕ). get_or names y 0) q) in
          subst (λ (m : ℕ). Has (set next k last) m j) (ap suc (sym q) ∙ sym first ∙ ap (λ (m : ℕ). get_or (set head h (k + 1)) m 0) u) here

  pub indexed_as : {v : ℕ} → last ≡ v → (r : Option ℕ) → Sought s a names next last r → is_some r ≡ false → Indexing s names (set head h (k + 1)) (set next k v) (k + 1)
  indexed_as e r w f = subst (λ (y : ℕ). Indexing s names (set head h (k + 1)) (set next k y) (k + 1)) e (indexed_on (sought_none s a names next last r w f))

pub indexed_all : {s names head next : List ℕ} {k : ℕ} → Indexing s names head next k → length names ≤ k → Indexed s names head next
indexed_all {s} {names} {head} {next} {k} inv h =
    let e : k ≡ length names = (let b = inv.some in omega arith) in
    record {
      rows = λ i. record { falls = inv.falls; room = inv.room; within = (let b = inv.heads i in omega arith) };
      heads = inv.head_room;
      all = λ j d. inv.all j (omega arith);
      once = sym (ap (λ (l : List ℕ). repeats (ids_in s l)) (ap (λ (i : ℕ). take i names) e ∙ take-length names)) ∙ inv.once;
    }
