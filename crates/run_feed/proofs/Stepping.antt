-- One firing back: where its transition is drawn in it is chosen, and its input places are in W then. Only where it waited does anything change.
use Prim.Native.Nat.{ℕ, zero, suc, ◌+◌, ◌*◌, ◌-◌, ◌≤◌, ◌<◌}
use mathlib.Core.Bool.{Bool, true, false, ◌||◌}
use mathlib.Core.List.{List, [], ◌∷◌}
use mathlib.Core.Path.{◌≡◌, refl, sym, ap, ◌∙◌, subst}
use native.Mathlib.Omega.{arith}
use lib.Dec.{T, eqb, ltb, eqb→eq}
use lib.ListN.{length, get_or, drop, set, length-set}
use lib.Seq.{get_or-set_same, get_or-set_other}
use borrow.Author.Tests.{eq-eqb, ne_eqb, eqb-true, eqb-false, ltb-true, ltb-false, lt-ltb}
use Rattle.net.specs.Numbers.{among, any}
use Rattle.net.specs.Net.{Net, raises, takes_from}
use Rattle.net.specs.Run.{with_inputs}
use Rattle.net.proofs.Numbers.{by_cases, by_or, holds, fails, is_true, is_false, same_test, or_left, or_right, any-has, any-finds}
use Rattle.net.proofs.Feeding.{Feeding, feed, upto, upto_among, chosen_at, fed-below, added_below, added_keeps, added_inputs}
use Rattle.net.proofs.Run.{drop-next, drop_at}
use Rattle.file.specs.Layout.{net_from}
use Rattle.file.specs.Facts.{Sound}
use Rattle.file_header.specs.declared.Header.{Header}
use Rattle.sets.specs.Member.{member, Inserted}
use Rattle.arcs_starts.specs.Table.{choose, Split}
use Rattle.cut_rows.proofs.Inputs.{takes_inside}
use Rattle.run_feed.specs.Back.{Known, waits, drawn, Raisers, Entered, Met, end_of, Back}

or_swap : (a b : Bool) → a || b ≡ b || a
or_swap true true = refl
or_swap true false = refl
or_swap false true = refl
or_swap false false = refl

-- one past the last chosen firing of u, with one more in front
module _ (f : ℕ → ℕ) (k : ℕ) (l : List ℕ) (u : ℕ) where
  upto_later : ltb 0 (upto f l u) ≡ true → upto f (k ∷ l) u ≡ upto f l u
  unfolding upto
  upto_later a = rw (a, upto)

  upto_here : ltb 0 (upto f l u) ≡ false → eqb (f k) u ≡ true → upto f (k ∷ l) u ≡ suc k
  unfolding upto
  upto_here a b = rw (a, upto, b)

  upto_off : ltb 0 (upto f l u) ≡ false → eqb (f k) u ≡ false → upto f (k ∷ l) u ≡ 0
  unfolding upto
  upto_off a b = rw (a, upto, b)

-- one past the last of all
end_some : (k : ℕ) (l : List ℕ) → ltb 0 (end_of (k ∷ l)) ≡ true
end_some k l = by_cases (ltb 0 (end_of l))
    (λ a. ap (ltb 0) (upto_later (λ i. 0) k l 0 a) ∙ a)
    (λ a. ap (ltb 0) (upto_here (λ i. 0) k l 0 a refl) ∙ lt-ltb 0 (suc k) (omega arith))

end_none : (f : ℕ → ℕ) (l : List ℕ) (u : ℕ) → ltb 0 (end_of l) ≡ false → upto f l u ≡ 0
end_none f [] u a = unfold upto in refl
end_none f (k ∷ l) u a = absurd (fails _ a (holds _ (end_some k l)))

end_next : (k : ℕ) (l : List ℕ) → choose (eqb (end_of l) 0) (suc k) (end_of l) ≡ end_of (k ∷ l)
end_next k l = by_cases (ltb 0 (end_of l))
    (λ a. ap (λ (b : Bool). choose b (suc k) (end_of l)) (ne_eqb (end_of l) 0 (let w = ltb-true 0 (end_of l) a in λ e. omega arith)) ∙ sym (upto_later (λ i. 0) k l 0 a))
    (λ a. ap (λ (b : Bool). choose b (suc k) (end_of l)) (eq-eqb (end_of l) 0 (end_none (λ i. 0) l 0 a)) ∙ sym (upto_here (λ i. 0) k l 0 a refl))

-- the firing in front raises a place of W, or none
module _ (N : Net) (Q : List ℕ) (k t : ℕ) (ts : List ℕ) where
  abbrev rest : Feeding
  rest = feed N Q (suc k) ts

  feed_chosen : any (raises N t) rest.places ≡ true → feed N Q k (t ∷ ts) ≡ record { places = with_inputs N t rest.places; chosen = t ∷ rest.chosen; positions = k ∷ rest.positions }
  unfolding feed
  feed_chosen e = rw (e, feed)

  feed_skipped : any (raises N t) rest.places ≡ false → feed N Q k (t ∷ ts) ≡ rest
  unfolding feed
  feed_skipped e = rw (e, feed)

-- the firing k is of t; those after it are gone back over
module _ (s : List ℕ) (h : Header) (sound : Sound s h) (Q : List ℕ) (known : Known h Q) (ts : List ℕ) (k end : ℕ) (P F C L : List ℕ)
    (x : Back s h Q ts (suc k) end P F C L) (t : ℕ) (same : t ≡ get_or ts k 0) where
  abbrev N : Net
  N = net_from s h

  abbrev at : ℕ → ℕ
  at i = get_or ts i 0

  abbrev r : Feeding
  r = feed N Q (suc k) (drop (suc k) ts)

  next : feed N Q k (drop k ts) ≡ feed N Q k (t ∷ drop (suc k) ts)
  next = ap (feed N Q k) (drop-next ts k x.within ∙ ap (λ (u : ℕ). u ∷ drop (suc k) ts) (sym same))

  -- t is drawn in exactly if it raises a place of W
  drawn-any : drawn L F t ≡ any (raises N t) r.places
  drawn-any = same_test (drawn L F t) (any (raises N t) r.places)
      (λ m. let q = x.raisers.raise t m in any-has (raises N t) r.places q.0 (subst T (x.places_are q.0) q.1) q.2)
      (λ m. let q = any-finds (raises N t) r.places m in x.raisers.there t q.0 (subst T (sym (x.places_are q.0)) q.1) q.2)

  same_back : (n : ℕ) (P' F' C' L' : List ℕ) (y : Feeding) → feed N Q k (drop k ts) ≡ y → n ≡ end_of y.positions
      → ((p : ℕ) → member P' p ≡ among p y.places) → ((u : ℕ) → member C' u ≡ among u y.chosen) → ((u : ℕ) → get_or L' u 0 ≡ upto at y.positions u)
      → Raisers s h (member P') L' F' → ((u p : ℕ) → T (member C' u) → T (takes_from N u p) → T (member P' p))
      → length P' ≡ 16 → length C' ≡ 16 → h.transitions ≤ length F' → h.transitions ≤ length L' → Back s h Q ts k n P' F' C' L'
  same_back n P' F' C' L' y e ended places chosen last raisers inputs p c f l = record {
    within = let w = x.within in omega arith;
    ended = ended ∙ ap (λ (z : Feeding). end_of z.positions) (sym e);
    places_are = λ q. places q ∙ ap (λ (z : Feeding). among q z.places) (sym e);
    chosen_are = λ u. chosen u ∙ ap (λ (z : Feeding). among u z.chosen) (sym e);
    last_are = λ u. last u ∙ ap (λ (z : Feeding). upto at z.positions u) (sym e);
    raisers = raisers;
    inputs = inputs;
    places_long = p;
    chosen_long = c;
    first_long = f;
    last_long = l;
  }

  -- t raises no place of W
  skipped : drawn L F t ≡ false → Back s h Q ts k end P F C L
  skipped none =
      same_back end P F C L r (next ∙ feed_skipped N Q k t (drop (suc k) ts) (sym drawn-any ∙ none)) x.ended x.places_are x.chosen_are x.last_are x.raisers x.inputs x.places_long x.chosen_long x.first_long x.last_long

  -- t is drawn in
  abbrev y : Feeding
  y = record { places = with_inputs N t r.places; chosen = t ∷ r.chosen; positions = k ∷ r.positions }

  step : drawn L F t ≡ true → feed N Q k (drop k ts) ≡ y
  step on = next ∙ feed_chosen N Q k t (drop (suc k) ts) (sym drawn-any ∙ on)

  -- W with the inputs of t
  grown : (p : ℕ) → (member P p || takes_from N t p) ≡ among p (with_inputs N t r.places)
  grown p = same_test (member P p || takes_from N t p) (among p (with_inputs N t r.places))
      (λ m. by_or (member P p) (takes_from N t p) m
      (λ w. let a = subst T (x.places_are p) w in added_keeps N t r.places p (fed-below N Q known (suc k) (drop (suc k) ts) p a) a)
      (λ w. added_inputs N t r.places p (takes_inside s h sound t p w) w))
      (λ m. by_or (among p r.places) (takes_from N t p) (added_below N t r.places p m).1
      (λ w. or_left (member P p) (takes_from N t p) (subst T (sym (x.places_are p)) w))
      (or_right (member P p) (takes_from N t p)))

  -- a transition has an entry in `last` exactly if it is chosen
  later : (u : ℕ) → ltb 0 (upto at r.positions u) ≡ member C u
  later u =
      upto_among at r.positions u
      ∙ sym (x.chosen_are u ∙ ap (among u) (chosen_at N Q known at (suc k) (drop (suc k) ts) (λ i l. drop_at ts (suc k) i)))

  upto_none : (u : ℕ) → ltb 0 (upto at r.positions u) ≡ false → upto at r.positions u ≡ 0
  upto_none u a = omega (arith, ltb-false 0 (upto at r.positions u) a)

  -- t was chosen at a later firing: W has its inputs
  module _ (again : get_or L t 0 ≡ 0 → ⊥) where
    chosen-later : member C t ≡ true
    chosen-later = by_cases (member C t) (λ a. a) (λ a. absurd (again (x.last_are t ∙ upto_none t (later t ∙ a))))

    kept : (u : ℕ) → upto at r.positions u ≡ upto at (k ∷ r.positions) u
    kept u = by_cases (ltb 0 (upto at r.positions u))
        (λ a. sym (upto_later at k r.positions u a))
        (λ a. by_cases (eqb (at k) u)
        (λ b. absurd (fails _ (sym (later u) ∙ a) (subst (λ (v : ℕ). T (member C v)) (same ∙ eqb→eq (at k) u (holds _ b)) (holds _ chosen-later))))
        (λ b. upto_none u a ∙ sym (upto_off at k r.positions u a b)))

    same_end : end ≡ end_of (k ∷ r.positions)
    same_end = x.ended ∙ by_cases (ltb 0 (end_of r.positions))
        (λ a. sym (upto_later (λ i. 0) k r.positions 0 a))
        (λ a. absurd (again (x.last_are t ∙ end_none at r.positions t a)))

    chosen-again : Back s h Q ts k end P F C L
    chosen-again =
        let on : drawn L F t ≡ true = is_true _ (or_right (waits F t) (ltb 0 (get_or L t 0)) (holds _ (lt-ltb 0 (get_or L t 0) (omega arith)))) in
        same_back end P F C L y (step on) same_end
        (λ p. same_test (member P p) (member P p || takes_from N t p) (or_left (member P p) (takes_from N t p))
        (λ m. by_or (member P p) (takes_from N t p) m (λ w. w) (x.inputs t p (holds _ chosen-later))) ∙ grown p)
        (λ u. x.chosen_are u ∙ same_test (among u r.chosen) (among u (t ∷ r.chosen)) (λ m. unfold among in or_right (eqb u t) (among u r.chosen) m)
        (λ m. by_or (eqb u t) (among u r.chosen) (unfold among in m) (λ w. subst (λ (v : ℕ). T (among v r.chosen)) (sym (eqb→eq u t w)) (subst T (x.chosen_are t) (holds _ chosen-later))) (λ w. w)))
        (λ u. x.last_are u ∙ kept u)
        x.raisers x.inputs x.places_long x.chosen_long x.first_long x.last_long

  -- t does not wait: nothing changes
  pub passed_by : get_or F t 0 ≡ 0 → Back s h Q ts k end P F C L
  passed_by none = by_cases (ltb 0 (get_or L t 0))
      (λ a. chosen-again (λ e. let w = ltb-true 0 (get_or L t 0) a in omega arith))
      (λ a. skipped (ap (λ (n : ℕ). ltb 0 n || ltb 0 (get_or L t 0)) none ∙ a))

  -- t waits: it is chosen for the first time, and waits no more
  module _ (w : 0 < get_or F t 0) (tl : t < h.transitions) where
    waiting : T (waits F t)
    waiting = holds _ (lt-ltb 0 (get_or F t 0) w)

    on : drawn L F t ≡ true
    on = is_true _ (or_left (waits F t) (ltb 0 (get_or L t 0)) waiting)

    none : get_or L t 0 ≡ 0
    none = (x.raisers.starts t waiting).1

    pub starts-at : Split s h.arcstart h.arcs (2 * t) (get_or F t 0 - 1)
    starts-at = (x.raisers.starts t waiting).0

    abbrev F° : List ℕ
    F° = set F t 0

    abbrev L' : List ℕ
    L' = set L t (suc k)

    zero_at : get_or F° t 0 ≡ 0
    zero_at = get_or-set_same F t 0 0 (let l = x.first_long in omega arith)

    some_at : get_or L' t 0 ≡ suc k
    some_at = get_or-set_same L t (suc k) 0 (let l = x.last_long in omega arith)

    same_drawn : (u : ℕ) → drawn L' F° u ≡ drawn L F u
    same_drawn u = by_cases (eqb u t)
        (λ a. let u≡ : u ≡ t = eqb-true u t a in
        ap (λ (v : ℕ). drawn L' F° v) u≡ ∙ is_true _ (or_right (waits F° t) (ltb 0 (get_or L' t 0)) (holds _ (ap (ltb 0) some_at ∙ lt-ltb 0 (suc k) (omega arith)))) ∙ sym (ap (λ (v : ℕ). drawn L F v) u≡ ∙ on))
        (λ a. let n = eqb-false u t a in
        ap (λ (v : ℕ). ltb 0 v || ltb 0 (get_or L' u 0)) (get_or-set_other F t u 0 0 n) ∙ ap (λ (v : ℕ). waits F u || ltb 0 v) (get_or-set_other L t u (suc k) 0 n))

    waits-no_more : Raisers s h (member P) L' F°
    waits-no_more = record {
      raise = λ u m. x.raisers.raise u (subst T (same_drawn u) m);
      there = λ u p a b. subst T (sym (same_drawn u)) (x.raisers.there u p a b);
      starts = λ u m. by_cases (eqb u t)
          (λ a. absurd (fails _ (ap (λ (v : ℕ). waits F° v) (eqb-true u t a) ∙ ap (ltb 0) zero_at) m))
          (λ a. let n = eqb-false u t a in
          let v = get_or-set_other F t u 0 0 n in
          let st = x.raisers.starts u (subst T (ap (ltb 0) v) m) in
          (subst (λ (i : ℕ). Split s h.arcstart h.arcs (2 * u) (i - 1)) (sym v) st.0, get_or-set_other L t u (suc k) 0 n ∙ st.1));
    }

    not-before : member C t ≡ false
    not-before = sym (later t) ∙ ap (ltb 0) (sym (x.last_are t) ∙ none)

    set_at : (u : ℕ) → get_or L' u 0 ≡ upto at (k ∷ r.positions) u
    set_at u = by_cases (eqb u t)
        (λ a. let u≡ : u ≡ t = eqb-true u t a in
        let off : ltb 0 (upto at r.positions u) ≡ false = later u ∙ ap (member C) u≡ ∙ not-before in
        ap (λ (v : ℕ). get_or L' v 0) u≡ ∙ some_at ∙ sym (upto_here at k r.positions u off (eq-eqb (at k) u (sym same ∙ sym u≡))))
        (λ a. let off : eqb (at k) u ≡ false = is_false _ (λ m. eqb-false u t a (sym (eqb→eq (at k) u m) ∙ sym same)) in
        get_or-set_other L t u (suc k) 0 (eqb-false u t a) ∙ x.last_are u ∙ by_cases (ltb 0 (upto at r.positions u))
        (λ b. sym (upto_later at k r.positions u b))
        (λ b. upto_none u b ∙ sym (upto_off at k r.positions u b off)))

    among-front : (u : ℕ) → eqb u t || among u r.chosen ≡ among u (t ∷ r.chosen)
    unfolding among
    among-front u = refl

    pub chosen-first : (P' F' C' : List ℕ) → Inserted t C C' → Entered s h (takes_from N t) L' P F° P' F' → Back s h Q ts k (choose (eqb end 0) (suc k) end) P' F' C' L'
    chosen-first P' F' C' i e =
        same_back (choose (eqb end 0) (suc k) end) P' F' C' L' y (step on) (ap (λ (n : ℕ). choose (eqb n 0) (suc k) n) x.ended ∙ end_next k r.positions)
        (λ p. e.kept p ∙ grown p)
        (λ u. i.members u ∙ or_swap (member C u) (eqb u t) ∙ ap (λ (b : Bool). eqb u t || b) (x.chosen_are u) ∙ among-front u)
        set_at
        (e.raisers waits-no_more)
        (λ u p m a. by_or (member C u) (eqb u t) (subst T (i.members u) m)
        (λ b. subst T (sym (e.kept p)) (or_left (member P p) (takes_from N t p) (x.inputs u p b a)))
        (λ b. subst T (sym (e.kept p)) (or_right (member P p) (takes_from N t p) (subst (λ (v : ℕ). T (takes_from N v p)) (eqb→eq u t b) a))))
        e.places_long i.long (let a = x.first_long in let b = e.first_long in let c = length-set F t 0 in omega arith) (let a = x.last_long in let b = length-set L t (suc k) in omega arith)

-- ---- the same at a call

module _ (s : List ℕ) (h : Header) (sound : Sound s h) (Q : List ℕ) (known : Known h Q) (ts : List ℕ) (end : ℕ) (P F C L : List ℕ) where
  -- firing k, whose transition waits
  module _ (k : ℕ) (x : Back s h Q ts (k + 1) end P F C L) (t : ℕ) (same : t ≡ get_or ts k 0) (w : 0 < get_or F t 0) (tl : t < h.transitions) where
    after : suc k ≡ k + 1
    after = omega arith

    here : Back s h Q ts (suc k) end P F C L
    here = subst (λ (i : ℕ). Back s h Q ts i end P F C L) (sym after) x

    pub taken_up : (n : ℕ) → n ≡ choose (eqb end 0) (k + 1) end → (P' F' C' : List ℕ) → Inserted t C C' → Entered s h (takes_from (net_from s h) t) (set L t (k + 1)) P (set F t 0) P' F'
        → Back s h Q ts k n P' F' C' (set L t (k + 1))
    taken_up n told P' F' C' i e =
        let entered = subst (λ (j : ℕ). Entered s h (takes_from (net_from s h) t) (set L t j) P (set F t 0) P' F') (sym after) e in
        let chosen = chosen-first s h sound Q known ts k end P F C L here t same w tl P' F' C' i entered in
        subst (λ (m : ℕ). Back s h Q ts k m P' F' C' (set L t (k + 1))) (sym told) (subst (λ (j : ℕ). Back s h Q ts k (choose (eqb end 0) j end) P' F' C' (set L t j)) after chosen)

  -- none of those from r to k waits
  passed_over : (n k r : ℕ) → k ≡ r + n → ((i : ℕ) → r ≤ i → i < k → get_or F (get_or ts i 0) 0 ≡ 0) → Back s h Q ts k end P F C L → Back s h Q ts r end P F C L
  passed_over zero k r e none x = let same : k ≡ r = omega arith in subst (λ (i : ℕ). Back s h Q ts i end P F C L) same x
  passed_over (suc n) k r e none x =
      let before : k ≡ suc (k - 1) = omega arith in
      let below = passed_by s h sound Q known ts (k - 1) end P F C L (subst (λ (i : ℕ). Back s h Q ts i end P F C L) before x) (get_or ts (k - 1) 0) refl (none (k - 1) (omega arith) (omega arith)) in
      passed_over n (k - 1) r (omega arith) (λ i a b. none i a (omega arith)) below

  pub met_next : (k r : ℕ) → Met ts F k r → Back s h Q ts k end P F C L → Back s h Q ts r end P F C L
  met_next k r m x = passed_over (k - r) k r (let w = m.within in omega arith) m.passed x
