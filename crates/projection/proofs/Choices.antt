-- A projection, one listed transition at a time.
use Rattle.std.proofs.Common.{◌≡◌, ℕ, zero, suc, ◌+◌, ◌-◌, ◌%◌, ◌<◌, ◌≤◌, List, [], ◌∷◌, ◌++◌, length, get_or, take, drop, set, sym, refl, ap, ◌∙◌, append_assoc, append-nil, add-one, arith, length-append, length-drop, length-set, get_or-drop, take_all, get_or-set_other, get_or-set_same, get_or-append-add, ext_get_or}
use native.Mathlib.Decide.{dec_lt}
use lib.ListN.{get_or-append}
use lib.Seq.{get_or-append_seam}
use Rattle.net.specs.Numbers.{among}
use Rattle.net.specs.Slice.{strike, own}
use Rattle.net.proofs.Numbers.{by_cases}
use Rattle.numbering.specs.Own.{own_entry, Own}
use Rattle.projection.specs.Choice.{chosen, chosen_by, Reached, Last}

-- ---- an entry that is not 0

pub chosen-some : (e : ℕ) → (e ≡ 0 → ⊥) → chosen e ≡ (e - 1) ∷ []
chosen-some zero z = absurd (z refl)
chosen-some (suc e) z = ap (λ (n : ℕ). n ∷ []) (let f : e ≡ suc e - 1 = omega arith in f)

-- ---- the projection is what the table's entries stand for

module _ (os table : List ℕ) (o : Own os table) where
  strike-first : (t : ℕ) (ts : List ℕ) → own os (strike os (t ∷ ts)) ≡ chosen (own_entry os t) ++ own os (strike os ts)
  unfolding own strike own_entry
  strike-first t ts = by_cases (among t os) (λ e. rw (e, strike, own_entry)) (λ e. rw (e, strike, own_entry))

  pub chosen-own : (list : List ℕ) → ((i : ℕ) → i < length list → get_or list i 0 < length table) → chosen_by table list ≡ own os (strike os list)
  unfolding chosen_by own strike
  chosen-own [] known = refl
  chosen-own (t ∷ ts) known =
      ap (λ (n : ℕ). chosen n ++ chosen_by table ts) (o.at t (known 0 (omega arith)))
      ∙ ap (λ (l : List ℕ). chosen (own_entry os t) ++ l) (chosen-own ts (λ i l. known (suc i) (omega arith)))
      ∙ sym (strike-first t ts)

-- ---- prefixes

one : (e : ℕ) → length (chosen e) ≤ 1
one zero = omega arith
one (suc e) = omega arith

module _ (table : List ℕ) where
  chosen-suc : (list : List ℕ) (i : ℕ) → i < length list → chosen_by table (take (suc i) list) ≡ chosen_by table (take i list) ++ chosen (get_or table (get_or list i 0) 0)
  unfolding chosen_by
  chosen-suc [] i l = absurd (omega arith)
  chosen-suc (t ∷ ts) zero l = append-nil (chosen (get_or table t 0))
  chosen-suc (t ∷ ts) (suc i) l =
      ap (λ (r : List ℕ). chosen (get_or table t 0) ++ r) (chosen-suc ts i (omega arith))
      ∙ sym (append_assoc (chosen (get_or table t 0)) (chosen_by table (take i ts)) (chosen (get_or table (get_or ts i 0) 0)))

  pub chosen-next : (list : List ℕ) (i : ℕ) → i < length list → chosen_by table (take (i + 1) list) ≡ chosen_by table (take i list) ++ chosen (get_or table (get_or list i 0) 0)
  chosen-next list i l = rw (add-one i) (chosen-suc list i l)

  pub chosen_none : (list : List ℕ) → chosen_by table (take 0 list) ≡ []
  unfolding chosen_by
  chosen_none list = refl

  pub chosen-all : (list : List ℕ) (i : ℕ) → length list ≤ i → chosen_by table (take i list) ≡ chosen_by table list
  chosen-all list i l = ap (chosen_by table) (take_all i list l)

  -- and no more than it is long
  pub chosen-few : (list : List ℕ) → length (chosen_by table list) ≤ length list
  unfolding chosen_by
  chosen-few [] = omega arith
  chosen-few (t ∷ ts) = omega (arith, length-append (chosen (get_or table t 0)) (chosen_by table ts), one (get_or table t 0), chosen-few ts)

-- ---- the counting pass

pub record Counted (table list : List ℕ) (n i : ℕ) : Type 0 where
  pub reached : Reached table list
  pub within : i ≤ length list
  pub few : n ≤ i
  pub count : n ≡ length (chosen_by table (take i list))

module _ {table list : List ℕ} where
  pub counted_none : Reached table list → Counted table list 0 0
  counted_none r = record { reached = r; within = omega arith; few = omega arith; count = ap length (sym (chosen_none table list)) }

  module _ {n i : ℕ} (c : Counted table list n i) where
    pub counted_next : {k : ℕ} → i < length list → (k ≡ length (chosen (get_or table (get_or list i 0) 0))) × (k ≤ 1) → Counted table list (n + k) (i + 1)
    counted_next {k} l e = record {
      reached = c.reached;
      within = omega arith;
      few = omega (arith, c.few, e.1);
      count =
          omega (arith, e.0, c.count, length-append (chosen_by table (take i list)) (chosen (get_or table (get_or list i 0) 0)), ap length (chosen-next table list i l));
    }

    pub counted-all : length list ≤ i → n ≡ length (chosen_by table list)
    counted-all l = c.count ∙ ap length (chosen-all table list i l)

-- ---- where the last one stands

pub record Dropped (table list : List ℕ) (end : ℕ) : Type 0 where
  pub reached : Reached table list
  pub within : end ≤ length list
  pub whole : chosen_by table (take end list) ≡ chosen_by table list

module _ {table list : List ℕ} where
  pub dropped_none : Reached table list → Dropped table list (length list)
  dropped_none r = record { reached = r; within = omega arith; whole = chosen-all table list (length list) (omega arith) }

  pub dropped_next : {end : ℕ} → Dropped table list end → 0 < end → get_or table (get_or list (end - 1) 0) 0 ≡ 0 → Dropped table list (end - 1)
  dropped_next {end} d l e =
      let f : end - 1 + 1 ≡ end = omega arith in
      record {
        reached = d.reached;
        within = omega (arith, d.within);
        whole =
            sym (append-nil (chosen_by table (take (end - 1) list)))
            ∙ ap (λ (x : ℕ). chosen_by table (take (end - 1) list) ++ chosen x) (sym e)
            ∙ sym (chosen-next table list (end - 1) (omega (arith, d.within)))
            ∙ ap (λ (x : ℕ). chosen_by table (take x list)) f
            ∙ d.whole;
      }

  pub last_at : {end : ℕ} → Dropped table list end → (get_or table (get_or list (end - 1) 0) 0 ≡ 0 → ⊥) → Last table list end
  last_at d z = record { within = d.within; whole = d.whole; chosen = λ l. z }

  pub last_none : {end : ℕ} → Dropped table list end → end ≤ 0 → Last table list 0
  last_none {end} d l =
      let z : end ≡ 0 = omega arith in
      record {
        within = omega arith;
        whole = ap (λ (x : ℕ). chosen_by table (take x list)) (sym z) ∙ d.whole;
        chosen = λ h. absurd (omega (arith, h));
      }

-- ---- the writing pass

-- the longer part has no fewer numbers
chosen-up : (table list : List ℕ) (i j : ℕ) → i ≤ j → length (chosen_by table (take i list)) ≤ length (chosen_by table (take j list))
unfolding chosen_by
chosen-up table [] zero zero l = omega arith
chosen-up table [] zero (suc j) l = omega arith
chosen-up table [] (suc i) zero l = omega arith
chosen-up table [] (suc i) (suc j) l = omega arith
chosen-up table (t ∷ ts) zero j l = omega arith
chosen-up table (t ∷ ts) (suc i) zero l = absurd (omega (arith, l))
chosen-up table (t ∷ ts) (suc i) (suc j) l =
    omega (arith, length-append (chosen (get_or table t 0)) (chosen_by table (take i ts)), length-append (chosen (get_or table t 0)) (chosen_by table (take j ts)), chosen-up table ts i j (omega (arith, l)))

pub record Written (table list out₀ out : List ℕ) (end n i : ℕ) : Type 0 where
  pub reached : Reached table list
  pub room : length (chosen_by table list) ≤ length out₀
  pub last : Last table list end
  pub within : i ≤ end
  pub long : length out ≡ length out₀
  pub few : n ≤ i
  pub count : n ≡ length (chosen_by table (take i list))
  pub front : (k : ℕ) → k < n → get_or out k 0 ≡ get_or (chosen_by table (take i list)) k 0
  pub rest : (k : ℕ) → length (chosen_by table list) ≤ k → get_or out k 0 ≡ get_or out₀ k 0

-- an entry less one, as the code has it
less_one : (e x : ℕ) → x < 65536 → x ≡ suc e → (x + 65535) % 65536 ≡ e
less_one e x l h = omega (arith, l, h)

some_one : (e : ℕ) → (e ≡ 0 → ⊥) → 1 ≤ length (chosen e)
some_one zero z = absurd (z refl)
some_one (suc e) z = omega arith

module _ {table list out₀ : List ℕ} {end : ℕ} where
  pub written_none : Reached table list → length (chosen_by table list) ≤ length out₀ → Last table list end → Written table list out₀ out₀ end 0 0
  written_none r l e = record {
    reached = r;
    room = l;
    last = e;
    within = omega arith;
    long = refl;
    few = omega arith;
    count = ap length (sym (chosen_none table list));
    front = λ k h. absurd (omega (arith, h));
    rest = λ k h. refl;
  }

  module _ {out : List ℕ} {n i : ℕ} (w : Written table list out₀ out end n i) where
    pub listed : i < end → i < length list
    listed l = omega (arith, l, w.last.within)

    -- one more is still to come
    pub fits : i < end → n < length (chosen_by table list)
    fits l =
        let j = end - 1 in
        let f : end - 1 + 1 ≡ end = omega arith in
        let more : chosen_by table (take end list) ≡ chosen_by table (take j list) ++ chosen (get_or table (get_or list j 0) 0) = ap (λ (x : ℕ). chosen_by table (take x list)) (sym f) ∙ chosen-next table list j (omega (arith, w.last.within, l)) in
        omega (arith, w.count, chosen-up table list i j (omega (arith, l)), some_one (get_or table (get_or list j 0) 0) (w.last.chosen (omega (arith, l))), length-append (chosen_by table (take j list)) (chosen (get_or table (get_or list j 0) 0)), ap length more, ap length w.last.whole)

    module _ (l : i < end) (short : get_or table (get_or list i 0) 0 < 65536) where
      abbrev v : ℕ
      v = (get_or table (get_or list i 0) 0 + 65535) % 65536

      grown : chosen_by table (take (i + 1) list) ≡ chosen_by table (take i list) ++ chosen (get_or table (get_or list i 0) 0)
      grown = chosen-next table list i (listed l)

      front-next : (e : ℕ) → get_or table (get_or list i 0) 0 ≡ e → (k : ℕ) → k < n + length (chosen e) → get_or (set out n v) k 0 ≡ get_or (chosen_by table (take i list) ++ chosen e) k 0
      front-next zero z k h =
          get_or-set_other out n k v 0 (λ q. omega (arith, h, q)) ∙ w.front k (omega (arith, h)) ∙ sym (get_or-append (chosen_by table (take i list)) [] 0 k (omega (arith, h, w.count)))
      front-next (suc e) z k h = go (dec_lt k n)
        where
          go : Dec (k < n) → get_or (set out n v) k 0 ≡ get_or (chosen_by table (take i list) ++ (e ∷ [])) k 0
          go (yes q) = get_or-set_other out n k v 0 (λ r. omega (arith, q, r)) ∙ w.front k q ∙ sym (get_or-append (chosen_by table (take i list)) (e ∷ []) 0 k (omega (arith, q, w.count)))
          go (no q) =
              let same : k ≡ n = omega (arith, h, q) in
              ap (λ (x : ℕ). get_or (set out n v) x 0) same
              ∙ get_or-set_same out n v 0 (omega (arith, fits l, w.room, w.long))
              ∙ less_one e (get_or table (get_or list i 0) 0) short z
              ∙ sym (get_or-append_seam (chosen_by table (take i list)) e [] 0)
              ∙ ap (λ (x : ℕ). get_or (chosen_by table (take i list) ++ (e ∷ [])) x 0) (sym w.count ∙ sym same)

      pub written_next : {k : ℕ} → (k ≡ length (chosen (get_or table (get_or list i 0) 0))) × (k ≤ 1) → Written table list out₀ (set out n v) end (n + k) (i + 1)
      written_next {k} e = record {
        reached = w.reached;
        room = w.room;
        last = w.last;
        within = omega (arith, l);
        long = length-set out n v ∙ w.long;
        few = omega (arith, w.few, e.1);
        count = omega (arith, w.count, e.0, length-append (chosen_by table (take i list)) (chosen (get_or table (get_or list i 0) 0)), ap length grown);
        front = λ j h. front-next (get_or table (get_or list i 0) 0) refl j (omega (arith, h, e.0)) ∙ ap (λ (x : List ℕ). get_or x j 0) (sym grown);
        rest = λ j h. get_or-set_other out n j v 0 (λ q. omega (arith, h, q, fits l)) ∙ w.rest j h;
      }

    module _ (l : end ≤ i) where
      all_of : chosen_by table (take i list) ≡ chosen_by table list
      all_of = ap (λ (x : ℕ). chosen_by table (take x list)) (let f : i ≡ end = omega (arith, l, w.within) in f) ∙ w.last.whole

      pub written_count : n ≡ length (chosen_by table list)
      written_count = w.count ∙ ap length all_of

      pub written_all : out ≡ chosen_by table list ++ drop (length (chosen_by table list)) out₀
      written_all =
          ext_get_or 0 out (chosen_by table list ++ drop (length (chosen_by table list)) out₀)
          (omega (arith, w.long, w.room, length-append (chosen_by table list) (drop (length (chosen_by table list)) out₀), length-drop (length (chosen_by table list)) out₀)) (λ k h. go k (dec_lt k n))
        where
          go : (k : ℕ) → Dec (k < n) → get_or out k 0 ≡ get_or (chosen_by table list ++ drop (length (chosen_by table list)) out₀) k 0
          go k (yes q) =
              w.front k q
              ∙ ap (λ (x : List ℕ). get_or x k 0) all_of
              ∙ sym (get_or-append (chosen_by table list) (drop (length (chosen_by table list)) out₀) 0 k (omega (arith, q, written_count)))
          go k (no q) =
              let m = length (chosen_by table list) in
              let f : k ≡ m + (k - m) = omega (arith, q, written_count) in
              w.rest k (omega (arith, q, written_count))
              ∙ ap (λ (x : ℕ). get_or out₀ x 0) f
              ∙ sym (get_or-drop m out₀ (k - m) 0)
              ∙ sym (get_or-append-add (chosen_by table list) (drop m out₀) (k - m) 0)
              ∙ ap (λ (x : ℕ). get_or (chosen_by table list ++ drop m out₀) x 0) (sym f)
