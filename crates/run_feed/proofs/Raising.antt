-- What raises a place is drawn in: along the place's row, for one place, and for many.
use Prim.Native.Nat.{ℕ, zero, suc, ◌+◌, ◌*◌, ◌-◌, ◌/◌, ◌%◌, ◌≤◌, ◌<◌}
use mathlib.Core.Bool.{Bool, true, false, ◌||◌, or-false, or_assoc}
use mathlib.Core.List.{List, [], ◌∷◌}
use mathlib.Core.Path.{◌≡◌, refl, sym, ap, ◌∙◌, subst}
use native.Mathlib.Omega.{arith}
use native.Mathlib.Decide.{dec_lt}
use lib.Dec.{T, eqb, ltb, eqb→eq, eqb_refl}
use lib.ListN.{length, get_or, take, set, length-set}
use lib.Seq.{get_or-set_same, get_or-set_other}
use borrow.Author.Tests.{eq-eqb, eqb-true, eqb-false, lt-ltb}
use Rattle.net.specs.Numbers.{among}
use Rattle.net.specs.Net.{raises, takes_from}
use Rattle.net.proofs.Numbers.{by_cases, by_or, holds, fails, is_true, same_test, or_left, or_right}
use Rattle.file.specs.Layout.{net_from}
use Rattle.file.specs.Facts.{Sound}
use Rattle.file_header.specs.declared.Header.{Header}
use Rattle.sets.specs.Member.{member, Inserted}
use Rattle.arcs_starts.specs.Table.{choose, Split}
use Rattle.arcs_column.specs.Ways.{transition_at, direction_at, place_at}
use Rattle.cut_rows.specs.Rows.{moves, Last, Rows}
use Rattle.cut_rows.proofs.Inputs.{placed_in, placed_none, placed_more, InputsTo, to_none, to_more, to_stop, to_all}
use Rattle.cut_rows.proofs.Row
use Rattle.run_feed.specs.Back.{waits, drawn, Starts, RaisersAdded, Entered}

-- what `due` gives
abbrev pub due_of : List ℕ → ℕ → ℕ → ℕ
due_of last t v = choose (eqb (get_or last t 0) 0) v 0

-- an entry is set: its transition is drawn in
pub drawn-set : (last first : List ℕ) (t v : ℕ) → t < length first → 0 < v → (u : ℕ) → drawn last (set first t (due_of last t v)) u ≡ drawn last first u || eqb u t
drawn-set last first t v l some u = by_cases (eqb u t)
    (λ a. ap (drawn last (set first t (due_of last t v))) (eqb-true u t a) ∙ is_true _ here ∙ sym (is_true _ (or_right (drawn last first u) (eqb u t) (holds _ a))))
    (λ a. ap (λ (n : ℕ). ltb 0 n || ltb 0 (get_or last u 0)) (get_or-set_other first t u (due_of last t v) 0 (eqb-false u t a)) ∙ sym (ap (λ (b : Bool). drawn last first u || b) a ∙ or-false (drawn last first u)))
  where
    -- it waits, or a firing of it is chosen
    here : T (drawn last (set first t (due_of last t v)) t)
    here = by_cases (eqb (get_or last t 0) 0)
        (λ a. or_left (waits (set first t (due_of last t v)) t) (ltb 0 (get_or last t 0)) (holds _ (ap (ltb 0) (get_or-set_same first t (due_of last t v) 0 l ∙ ap (λ (b : Bool). choose b v 0) a) ∙ lt-ltb 0 v some)))
        (λ a. or_right (waits (set first t (due_of last t v)) t) (ltb 0 (get_or last t 0)) (holds _ (lt-ltb 0 (get_or last t 0) (let n = eqb-false (get_or last t 0) 0 a in omega arith))))

-- where it waits, no firing of it is chosen
due_waits : (last : List ℕ) (t v : ℕ) → T (ltb 0 (due_of last t v)) → (due_of last t v ≡ v) × (get_or last t 0 ≡ 0)
due_waits last t v m = by_cases (eqb (get_or last t 0) 0)
    (λ a. (ap (λ (b : Bool). choose b v 0) a, eqb-true (get_or last t 0) 0 a))
    (λ a. absurd (fails _ (ap (λ (b : Bool). ltb 0 (choose b v 0)) a) m))

-- ---- along the row of what raises p: e leads to the last of the first `upto` arcs of it, and the transitions of those from there on are drawn in
pub record Along (s : List ℕ) (h : Header) (p e : ℕ) (last first first' : List ℕ) : Type 0 where
  pub upto : ℕ
  pub within : upto ≤ h.arcs
  pub lead : Last s h upto 1 p e
  pub seen : (k : ℕ) → upto ≤ k → k < h.arcs → place_at s h.arcstart k ≡ p → direction_at s h.arcstart k ≡ 1 → T (moves (net_from s h) 1 p (transition_at s h.arcstart k))
      → T (drawn last first' (transition_at s h.arcstart k))
  pub more : (t : ℕ) → T (drawn last first t) → T (drawn last first' t)
  pub only : (t : ℕ) → T (drawn last first' t) → T (drawn last first t || moves (net_from s h) 1 p t)
  pub starts : Starts s h last first → Starts s h last first'
  pub long : length first' ≡ length first

module _ (s : List ℕ) (h : Header) (head next : List ℕ) (rows : Rows s h head next) (p e : ℕ) (last first F : List ℕ) (x : Along s h p e last first F) where
  module _ (more : e ≡ 0 → ⊥) where
    pub row_below : e % 65536 - 1 < h.arcs
    row_below = Row.row_below s h 1 p e x.upto x.within x.lead more

    row_begun : 0 < e / 65536
    row_begun = Row.row_begun s h 1 p e x.upto x.within x.lead more

    pub row_first : Split s h.arcstart h.arcs (2 * transition_at s h.arcstart (e % 65536 - 1)) (e / 65536 - 1)
    row_first = Row.row_first s h 1 p e x.upto x.within x.lead more

    -- the transition of the arc gets its entry
    module _ (t : ℕ) (same : t ≡ transition_at s h.arcstart (e % 65536 - 1)) (l : t < length F) where
      abbrev F₁ : List ℕ
      F₁ = set F t (due_of last t (e / 65536))

      drawn-is : (u : ℕ) → drawn last F₁ u ≡ drawn last F u || eqb u t
      drawn-is u = drawn-set last F t (e / 65536) l row_begun u

      stays : (u : ℕ) → T (drawn last F u) → T (drawn last F₁ u)
      stays u m = subst T (sym (drawn-is u)) (or_left (drawn last F u) (eqb u t) m)

      joins-in : (u : ℕ) → u ≡ t → T (drawn last F₁ u)
      joins-in u a = subst T (sym (drawn-is u)) (or_right (drawn last F u) (eqb u t) (holds _ (eq-eqb u t a)))

      see : (k : ℕ) → e % 65536 - 1 ≤ k → k < h.arcs → place_at s h.arcstart k ≡ p → direction_at s h.arcstart k ≡ 1 → T (moves (net_from s h) 1 p (transition_at s h.arcstart k)) → Dec (k < x.upto)
          → T (drawn last F₁ (transition_at s h.arcstart k))
      see k a b u v w (yes q) = joins-in (transition_at s h.arcstart k) (Row.row_rest s h 1 p e x.upto x.within x.lead more k a q u v w ∙ sym same)
      see k a b u v w (no q) = stays (transition_at s h.arcstart k) (x.seen k (omega arith) b u v w)

      abbrev Begins : List ℕ → ℕ → Type 0
      Begins table u = Split s h.arcstart h.arcs (2 * u) (get_or table u 0 - 1) × (get_or last u 0 ≡ 0)

      here : (u : ℕ) → u ≡ t → T (waits F₁ u) → Begins F₁ u
      here u a m =
          let v : get_or F₁ u 0 ≡ due_of last t (e / 65536) = ap (λ (w : ℕ). get_or F₁ w 0) a ∙ get_or-set_same F t (due_of last t (e / 65536)) 0 l in
          let d = due_waits last t (e / 65536) (subst T (ap (ltb 0) v) m) in (
            subst (λ (w : ℕ). Split s h.arcstart h.arcs (2 * w) (get_or F₁ u 0 - 1)) (sym (a ∙ same))
                (subst (λ (w : ℕ). Split s h.arcstart h.arcs (2 * transition_at s h.arcstart (e % 65536 - 1)) (w - 1)) (sym (v ∙ d.0)) row_first),
            ap (λ (w : ℕ). get_or last w 0) a ∙ d.1,
          )

      other : (u : ℕ) → (u ≡ t → ⊥) → (T (waits F u) → Begins F u) → T (waits F₁ u) → Begins F₁ u
      other u a st m =
          let v : get_or F₁ u 0 ≡ get_or F u 0 = get_or-set_other F t u (due_of last t (e / 65536)) 0 a in
          let w = st (subst T (ap (ltb 0) v) m) in
          (subst (λ (n : ℕ). Split s h.arcstart h.arcs (2 * u) (n - 1)) (sym v) w.0, w.1)

      pub along_more : Along s h p (get_or next (e % 65536 - 1) 0) last first F₁
      along_more = record {
        upto = e % 65536 - 1;
        within = omega (arith, row_below);
        lead = Row.row_next s h 1 p e x.upto x.within x.lead more next rows.nexts;
        seen = λ k a b u v w. see k a b u v w (dec_lt k x.upto);
        more = λ u m. stays u (x.more u m);
        only = λ u m. by_or (drawn last F u) (eqb u t) (subst T (drawn-is u) m) (x.only u)
            (λ d. or_right (drawn last first u) (moves (net_from s h) 1 p u) (subst (λ (v : ℕ). T (moves (net_from s h) 1 p v)) (sym (eqb→eq u t d ∙ same)) (Row.row_moves s h 1 p e x.upto x.within x.lead more)));
        starts = λ st u m. by_cases (eqb u t) (λ a. here u (eqb-true u t a) m) (λ a. other u (eqb-false u t a) (x.starts st u) m);
        long = length-set F t (due_of last t (e / 65536)) ∙ x.long;
      }

  pub along_end : e ≡ 0 → RaisersAdded s h p last first F
  along_end ends = record {
    members = λ t. same_test (drawn last F t) (drawn last first t || raises (net_from s h) t p)
        (λ m. by_or (drawn last first t) (moves (net_from s h) 1 p t) (x.only t m) (or_left (drawn last first t) (raises (net_from s h) t p)) (λ u. or_right (drawn last first t) (raises (net_from s h) t p) (unfold raises moves in u)))
        (λ m. by_or (drawn last first t) (raises (net_from s h) t p) m (x.more t) (λ u. Row.row_ended s h 1 p e x.upto (omega arith) x.lead ends (λ v. T (drawn last F v)) x.seen t (unfold raises moves in u)));
    starts = x.starts;
    long = x.long;
  }

-- one number more of the criterion
among_next : (Q : List ℕ) (i k : ℕ) → i < length Q → among k (take i Q) || eqb k (get_or Q i 0) ≡ among k (take (suc i) Q)
unfolding among
among_next [] i k l = absurd (omega arith)
among_next (x ∷ Q) zero k l = sym (or-false (eqb k x))
among_next (x ∷ Q) (suc i) k l = or_assoc (eqb k x) (among k (take i Q)) (eqb k (get_or Q i 0)) ∙ ap (λ (b : Bool). eqb k x || b) (among_next Q i k (omega arith))

-- ---- places that enter W
module _ (s : List ℕ) (h : Header) (last : List ℕ) where
  pub entered_none : (new : ℕ → Bool) (places first : List ℕ) → length places ≡ 16 → ((k : ℕ) → T (new k) → T (member places k)) → Entered s h new last places first places first
  entered_none new places first w known = record {
    kept = λ k. same_test (member places k) (member places k || new k) (or_left (member places k) (new k)) (λ m. by_or (member places k) (new k) m (λ a. a) (known k));
    raisers = λ r. r;
    places_long = w;
    first_long = refl;
  }

  pub entered_known : (p : ℕ) (places first : List ℕ) → length places ≡ 16 → member places p ≡ true → Entered s h (λ k. eqb k p) last places first places first
  entered_known p places first w e = entered_none (λ k. eqb k p) places first w (λ k m. subst (λ (q : ℕ). T (member places q)) (sym (eqb→eq k p m)) (holds _ e))

  pub entered_new : (p : ℕ) (places first places' first' : List ℕ) → Inserted p places places' → RaisersAdded s h p last first first' → Entered s h (λ k. eqb k p) last places first places' first'
  entered_new p places first places' first' x y = record {
    kept = x.members;
    raisers = λ r. record {
      raise = λ t m. by_or (drawn last first t) (raises (net_from s h) t p) (subst T (y.members t) m)
          (λ d. let q = r.raise t d in (q.0, subst T (sym (x.members q.0)) (or_left (member places q.0) (eqb q.0 p) q.1), q.2))
          (λ d. (p, subst T (sym (x.members p)) (or_right (member places p) (eqb p p) (eqb_refl p)), d));
      there = λ t q w d. subst T (sym (y.members t)) (by_or (member places q) (eqb q p) (subst T (x.members q) w)
          (λ m. or_left (drawn last first t) (raises (net_from s h) t p) (r.there t q m d))
          (λ m. or_right (drawn last first t) (raises (net_from s h) t p) (subst (λ (u : ℕ). T (raises (net_from s h) t u)) (eqb→eq q p m) d)));
      starts = y.starts r.starts;
    };
    places_long = x.long;
    first_long = y.long;
  }

  pub entered_join : (a b c : ℕ → Bool) (P F P' F' P'' F'' : List ℕ) → Entered s h a last P F P' F' → Entered s h b last P' F' P'' F'' → ((k : ℕ) → a k || b k ≡ c k) → Entered s h c last P F P'' F''
  entered_join a b c P F P' F' P'' F'' x y e = record {
    kept = λ k. y.kept k ∙ ap (λ (z : Bool). z || b k) (x.kept k) ∙ or_assoc (member P k) (a k) (b k) ∙ ap (λ (z : Bool). member P k || z) (e k);
    raisers = λ r. y.raisers (x.raisers r);
    places_long = y.places_long;
    first_long = y.first_long ∙ x.first_long;
  }

  entered_as : (a b : ℕ → Bool) (P F P' F' : List ℕ) → Entered s h a last P F P' F' → ((k : ℕ) → a k ≡ b k) → Entered s h b last P F P' F'
  entered_as a b P F P' F' x e = record { kept = λ k. x.kept k ∙ ap (λ (z : Bool). member P k || z) (e k); raisers = x.raisers; places_long = x.places_long; first_long = x.first_long }

  -- the places of the input arcs of t from `from` up to j have entered
  pub record InputsEntered (from t j : ℕ) (places first places' first' : List ℕ) : Type 0 where
    pub reach : InputsTo s h.arcstart h.arcs from t j
    pub entered : Entered s h (placed_in s h.arcstart from (j - from)) last places first places' first'

  module _ (sound : Sound s h) (from t : ℕ) (tl : t < h.transitions) (low : Split s h.arcstart h.arcs (2 * t) from) (places first : List ℕ) where
    pub inputs_none : length places ≡ 16 → InputsEntered from t from places first places first
    inputs_none w = record {
      reach = to_none s h sound from t tl low;
      entered = entered_none _ places first w (λ k m. absurd (fails _ (placed_none s h.arcstart from k) m));
    }

    module _ (j : ℕ) (P F : List ℕ) (x : InputsEntered from t j places first P F) where
      module _ (l : j < h.arcs) where
        pub inputs_more : transition_at s h.arcstart j + direction_at s h.arcstart j * 65536 ≡ t → (p : ℕ) (P' F' : List ℕ) → p ≡ place_at s h.arcstart j → Entered s h (λ k. eqb k p) last P F P' F'
            → InputsEntered from t (j + 1) places first P' F'
        inputs_more e p P' F' q y = record {
          reach = to_more s h sound from t tl low j x.reach l e;
          entered = entered_join _ _ _ places first P F P' F' x.entered y (placed_more s h.arcstart from j p x.reach.after q);
        }

        pub inputs_stop : (transition_at s h.arcstart j + direction_at s h.arcstart j * 65536 ≡ t → ⊥) → Entered s h (takes_from (net_from s h) t) last places first P F
        inputs_stop n = entered_as _ _ places first P F x.entered (to_stop s h sound from t tl low j x.reach l n)

      pub inputs_all : h.arcs ≤ j → Entered s h (takes_from (net_from s h) t) last places first P F
      inputs_all l = entered_as _ _ places first P F x.entered (to_all s h sound from t tl low j x.reach l)

  -- the first numbers of the criterion have entered
  module _ (Q P F : List ℕ) where
    pub criterion_none : length P ≡ 16 → Entered s h (λ k. among k (take 0 Q)) last P F P F
    criterion_none w = entered_none (λ k. among k (take 0 Q)) P F w (λ k m. absurd (fails _ (none Q k) m))
      where
        none : (Q : List ℕ) (k : ℕ) → among k (take 0 Q) ≡ false
        none [] k = unfold among in refl
        none (x ∷ Q) k = unfold among in refl

    module _ (P' F' : List ℕ) (i : ℕ) (x : Entered s h (λ k. among k (take i Q)) last P F P' F') where
      pub criterion_more : (q : ℕ) (P'' F'' : List ℕ) → i < length Q → q ≡ get_or Q i 0 → Entered s h (λ k. eqb k q) last P' F' P'' F'' → Entered s h (λ k. among k (take (i + 1) Q)) last P F P'' F''
      criterion_more q P'' F'' l e y =
          let f : suc i ≡ i + 1 = omega arith in
          entered_join _ _ _ P F P' F' P'' F'' x y (λ k. ap (λ (v : ℕ). among k (take i Q) || eqb k v) e ∙ among_next Q i k l ∙ ap (λ (n : ℕ). among k (take n Q)) f)
