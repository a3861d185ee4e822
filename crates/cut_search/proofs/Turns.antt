-- Laws of a turn: the two rows of a place are followed, and every transition that it draws in is kept.
use Prim.Native.Nat.{ℕ, suc, ◌+◌, ◌*◌, ◌-◌, ◌/◌, ◌%◌, ◌≤◌, ◌<◌}
use mathlib.Core.Bool.{Bool, true, false, not, ◌&&◌, ◌||◌}
use mathlib.Core.List.{List}
use mathlib.Core.Path.{◌≡◌, refl, sym, ap, ◌∙◌, subst}
use native.Mathlib.Omega.{arith}
use native.Mathlib.Decide.{dec_lt}
use lib.Dec.{T, eqb, eqb→eq}
use lib.ListN.{get_or}
use borrow.Author.Tests.{eq-eqb, eqb-true, eqb-false}
use Rattle.net.specs.Cut.{Growth, needed, KeptTransition, drawn}
use Rattle.net.proofs.Numbers.{by_cases, by_or, holds, fails, not-not, and_left, and_right, and_both, or_left, or_right}
use Rattle.net.proofs.Worklist.{Searching}
use Rattle.file.specs.Layout.{net_from}
use Rattle.file.specs.Facts.{Sound}
use Rattle.file_header.specs.declared.Header.{Header}
use Rattle.sets.specs.Member.{member}
use Rattle.arcs_starts.specs.Table.{Split}
use Rattle.file.proofs.Rows.{good_at}
use Rattle.sets_pending.specs.Growing.{waits}
use Rattle.arcs_column.specs.Ways.{transition_at, direction_at, place_at}
use Rattle.cut_rows.specs.Rows.{moves, Last, Rows}
use Rattle.cut_rows.proofs.Row
use Rattle.cut_rows.proofs.Row.{first_below, first-same, first-split, row_ended}
use Rattle.cut_search.specs.Search
use Rattle.cut_search.proofs.Needed.{needs_inside}

-- ---- the search, while the rows of the place f are followed in any order

module _ (G : Growth) (K D R : ℕ → Bool) (f : ℕ) (s : Searching G K D R f 0) where
  -- a transition that f draws in is kept, and if it is new the places that it needs are
  pub search_draw : (t : ℕ) → t < G.transitions → T (K f) → T (G.draws f t) → ((p : ℕ) → T (G.needs t p) → p < G.places) → (K' D' R' new : ℕ → Bool)
      → ((p : ℕ) → new p ≡ not (R t) && G.needs t p)
      → ((k : ℕ) → R' k ≡ R k || eqb k t)
      → ((p : ℕ) → K' p ≡ K p || new p)
      → ((p : ℕ) → D' p ≡ D p || new p && not (K p))
      → Searching G K' D' R' f 0
  search_draw t l kept draws range K' D' R' new New-is R-is K-is D-is =
      let t-kept : KeptTransition G t = drawn (s.K_kept f kept) l draws in
      let takes : (p : ℕ) → T (new p) → T (G.needs t p) = λ p h. and_right (not (R t)) (G.needs t p) (rw New-is at h) in
      record {
        K_kept = λ p h. by_or (K p) (new p) (rw K-is at h) (λ k. s.K_kept p k) (λ k. needed t-kept (range p (takes p k)) (takes p k));
        R_kept = λ k h. by_or (R k) (eqb k t) (rw R-is at h) (λ r. s.R_kept k r) (λ e. subst (KeptTransition G) (sym (eqb→eq k t e)) t-kept);
        pending_kept = λ p h. rw K-is (by_or (D p) (new p && not (K p)) (rw D-is at h)
            (λ k. or_left (K p) (new p) (s.pending_kept p k))
            (λ k. or_right (K p) (new p) (and_left (new p) (not (K p)) k)));
        criterion_in = λ p h. rw K-is (or_left (K p) (new p) (s.criterion_in p h));
        needed_in = λ u p h a k. rw K-is (by_or (R u) (eqb u t) (rw R-is at h)
            (λ r. or_left (K p) (new p) (s.needed_in u p r a k))
            (λ e. inputs p a (subst (λ (v : ℕ). T (G.needs v p)) (eqb→eq u t e) k) (R t) refl));
        drawn_in = λ p u h o a b d.
            let old : T (K p) = by_or (K p) (new p) (rw K-is at h) (λ x. x) (λ x. not-not (K p) (λ y. o (rw D-is (or_right (D p) (new p && not (K p)) (and_both (new p) (not (K p)) x y))))) in
            rw R-is (or_left (R u) (eqb u t) (s.drawn_in p u old (λ x. o (rw D-is (or_left (D p) (new p && not (K p)) x))) a b d));
      }
    where
      inputs : (p : ℕ) → p < G.places → T (G.needs t p) → (b : Bool) → R t ≡ b → T (K p || new p)
      inputs p a k true e = or_left (K p) (new p) (s.needed_in t p (holds (R t) e) a k)
      inputs p a k false e = or_right (K p) (new p) (rw (New-is p, e) k)

  -- all that f draws in is kept: f is gone through
  pub search_turned : ((t : ℕ) → t < G.transitions → T (G.draws f t) → T (R t)) → Searching G K D R f G.transitions
  search_turned all = record {
    K_kept = s.K_kept;
    R_kept = s.R_kept;
    pending_kept = s.pending_kept;
    criterion_in = s.criterion_in;
    needed_in = s.needed_in;
    drawn_in = λ p t h o a l d. by_cases (eqb p f)
        (λ e. all t l (subst (λ (q : ℕ). T (G.draws q t)) (eqb-true p f e) d))
        (λ e. s.drawn_in p t h o (λ y. absurd (eqb-false p f e y)) l d);
  }

-- ---- what grows

pub grown-none : (h : Header) (marks : ℕ) (places transitions : List ℕ) → Search.Sets places transitions → Search.Grown h marks marks places transitions places transitions
grown-none h marks places transitions w = record {
  sets = w;
  more_places = λ k m. m;
  more_transitions = λ k m. m;
  inside = λ i. i;
  marked = λ gone m. m;
}

pub grown-join : (h : Header) (m m' m'' : ℕ) (P R P' R' P'' R'' : List ℕ) → Search.Grown h m m' P R P' R' → Search.Grown h m' m'' P' R' P'' R'' → Search.Grown h m m'' P R P'' R''
grown-join h m m' m'' P R P' R' P'' R'' x y = record {
  sets = y.sets;
  more_places = λ k u. y.more_places k (x.more_places k u);
  more_transitions = λ k u. y.more_transitions k (x.more_transitions k u);
  inside = λ i. y.inside (x.inside i);
  marked = λ gone u. y.marked gone (x.marked gone u);
}

-- ---- along a row: the entry e leads to the last of the first `upto` arcs of the row, and those from there on are met
pub record Following (s : List ℕ) (h : Header) (d p e marks marks' : ℕ) (places transitions places' transitions' : List ℕ) : Type 0 where
  pub upto : ℕ
  pub within : upto ≤ h.arcs
  pub last : Last s h upto d p e
  pub seen : (k : ℕ) → upto ≤ k → k < h.arcs → place_at s h.arcstart k ≡ p → direction_at s h.arcstart k ≡ d → T (moves (net_from s h) d p (transition_at s h.arcstart k))
      → T (member transitions' (transition_at s h.arcstart k))
  pub grown : Search.Grown h marks marks' places transitions places' transitions'
  pub search : (G : Growth) (all : Bool) (both : List ℕ) → Search.Grows G s h all both → ((t : ℕ) → T (moves (net_from s h) d p t) → T (G.draws p t))
      → (gone : ℕ → Bool) → ((k : ℕ) → T (gone k) → T (member places k)) → T (member places p) → Search.At G places gone transitions p 0 → Search.At G places' gone transitions' p 0

pub following_none : (s : List ℕ) (h : Header) (d p e marks : ℕ) (places transitions : List ℕ) → Search.Sets places transitions → Last s h h.arcs d p e
    → Following s h d p e marks marks places transitions places transitions
following_none s h d p e marks places transitions w last = record {
  upto = h.arcs;
  within = omega arith;
  last = last;
  seen = λ k a b. absurd (omega arith);
  grown = grown-none h marks places transitions w;
  search = λ G all both g draws gone part kept at. at;
}

-- what is newly pending
waits-more : (k n g : Bool) → (T g → T k) → (k || n) && not g ≡ k && not g || n && not k
waits-more true true true h = refl
waits-more true true false h = refl
waits-more true false true h = refl
waits-more true false false h = refl
waits-more false true true h = absurd (h tt)
waits-more false true false h = refl
waits-more false false true h = absurd (h tt)
waits-more false false false h = refl

module _ (s : List ℕ) (h : Header) (sound : Sound s h) (next : List ℕ) (nexts : Search.Nexts s h next) (d p e marks m : ℕ) (places transitions P R : List ℕ)
    (x : Following s h d p e marks m places transitions P R) where
  -- where the row goes on
  module _ (more : e ≡ 0 → ⊥) where
    pub row_arc : e % 65536 ≡ suc (e % 65536 - 1)
    row_arc = Row.row_arc s h d p e x.upto x.within x.last more

    pub row_below : e % 65536 - 1 < h.arcs
    row_below = Row.row_below s h d p e x.upto x.within x.last more

    pub row_begun : 0 < e / 65536
    row_begun = Row.row_begun s h d p e x.upto x.within x.last more

    row_first : Split s h.arcstart h.arcs (2 * transition_at s h.arcstart (e % 65536 - 1)) (e / 65536 - 1)
    row_first = Row.row_first s h d p e x.upto x.within x.last more

    pub row_from : e / 65536 - 1 < h.arcs
    row_from = first_below s h sound (e % 65536 - 1) (e / 65536 - 1) row_below row_first

    pub row_split : Split s h.arcstart h.arcs (2 * transition_at s h.arcstart (e / 65536 - 1)) (e / 65536 - 1)
    row_split = first-split s h sound (e % 65536 - 1) (e / 65536 - 1) row_below row_first

    -- what the row moves
    row_moves : T (moves (net_from s h) d p (transition_at s h.arcstart (e % 65536 - 1)))
    row_moves = Row.row_moves s h d p e x.upto x.within x.last more

    row_next : Last s h (e % 65536 - 1) d p (get_or next (e % 65536 - 1) 0)
    row_next = Row.row_next s h d p e x.upto x.within x.last more next nexts.nexts

    pub row_less : get_or next (e % 65536 - 1) 0 % 65536 < e % 65536
    row_less = Row.row_less s h d p e x.upto x.within x.last more next nexts.nexts

    module _ (m' : ℕ) (P' R' : List ℕ)
        (y : Search.TransitionKept (Search.needs_of (net_from s h) (transition_at s h.arcstart (e / 65536 - 1))) (transition_at s h.arcstart (e / 65536 - 1)) m m' P R P' R') where
      abbrev t : ℕ
      t = transition_at s h.arcstart (e / 65536 - 1)

      t_same : t ≡ transition_at s h.arcstart (e % 65536 - 1)
      t_same = first-same s h sound (e % 65536 - 1) (e / 65536 - 1) row_below row_first

      new : ℕ → Bool
      new k = not (member R t) && Search.needs_of (net_from s h) t k

      step : Search.Grown h m m' P R P' R'
      unfolding new
      step = record {
        sets = record { places_long = y.needed.long; transitions_long = y.long };
        more_places = λ k u. subst T (sym (y.needed.kept k)) (or_left (member P k) (new k) u);
        more_transitions = λ k u. subst T (sym (y.members k)) (or_left (member R k) (eqb k t) u);
        inside = λ i k u. by_or (member P k) (new k) (subst T (y.needed.kept k) u) (i k) (λ n. needs_inside s h sound t k (and_right (not (member R t)) (Search.needs_of (net_from s h) t k) n));
        marked = y.needed.marked;
      }

      drawn_in : (G : Growth) (all : Bool) (both : List ℕ) → Search.Grows G s h all both → T (G.draws p t) → (gone : ℕ → Bool) → ((k : ℕ) → T (gone k) → T (member P k)) → T (member P p)
          → Search.At G P gone R p 0 → Search.At G P' gone R' p 0
      unfolding new
      drawn_in G all both g draws gone part kept at =
          search_draw G (member P) (waits P gone) (member R) p at t (omega (arith, g.transitions, (good_at s h sound (e / 65536 - 1) row_from).transition)) kept draws
          (λ q u. omega (arith, g.places, needs_inside s h sound t q (subst T (g.needs t q) u)))
          (member P') (waits P' gone) (member R') new (λ q. ap (λ (b : Bool). not (member R t) && b) (sym (g.needs t q))) y.members y.needed.kept
          (λ q. ap (λ (b : Bool). b && not (gone q)) (y.needed.kept q) ∙ waits-more (member P q) (new q) (gone q) (part q))

      pub following_more : Following s h d p (get_or next (e % 65536 - 1) 0) marks m' places transitions P' R'
      following_more = record {
        upto = e % 65536 - 1;
        within = omega (arith, row_below);
        last = row_next;
        seen = λ k a b u v w. see k a b u v w (dec_lt k x.upto);
        grown = grown-join h marks m m' places transitions P R P' R' x.grown step;
        search = λ G all both g draws gone part kept at.
            drawn_in G all both g (draws t (subst (λ (u : ℕ). T (moves (net_from s h) d p u)) (sym t_same) row_moves)) gone (λ k u. x.grown.more_places k (part k u)) (x.grown.more_places p kept)
            (x.search G all both g draws gone part kept at);
      }
        where
          see : (k : ℕ) → e % 65536 - 1 ≤ k → k < h.arcs → place_at s h.arcstart k ≡ p → direction_at s h.arcstart k ≡ d → T (moves (net_from s h) d p (transition_at s h.arcstart k)) → Dec (k < x.upto)
              → T (member R' (transition_at s h.arcstart k))
          see k a b u v w (yes q) =
              let f = Row.row_rest s h d p e x.upto x.within x.last more k a q u v w in
              subst T (sym (y.members (transition_at s h.arcstart k))) (or_right (member R (transition_at s h.arcstart k)) _ (holds _ (eq-eqb _ t (f ∙ sym t_same))))
          see k a b u v w (no q) = step.more_transitions (transition_at s h.arcstart k) (x.seen k (omega arith) b u v w)

  -- where it ends
  pub following_end : d ≤ 1 → e ≡ 0 → Search.Followed s h d p marks m places transitions P R
  following_end dl ends = record {
    grown = x.grown;
    met = row_ended s h d p e x.upto dl x.last ends (λ t. T (member R t)) x.seen;
    search = x.search;
  }

-- ---- the two rows of a place

module _ (s : List ℕ) (h : Header) (head next : List ℕ) (rows : Rows s h head next) where
  pub nexts_of : Search.Nexts s h next
  nexts_of = record { long = rows.next_long; nexts = rows.nexts }

  -- each entry of head starts a row
  pub row_at : (i : ℕ) → i < 2 * h.places → Search.Row s h (get_or head i 0)
  row_at i l =
      let e : 2 * (i / 2) + i % 2 ≡ i = omega arith in
      record { direction = i % 2; place = i / 2; way = omega arith; last = subst (λ (j : ℕ). Last s h h.arcs (i % 2) (i / 2) (get_or head j 0)) e (rows.heads (i % 2) (i / 2) (omega arith) (omega arith)) }

  module _ (p : ℕ) (l : p < h.places) where
    pub lowers : Last s h h.arcs 0 p (get_or head (2 * p) 0)
    lowers = let e : 2 * p + 0 ≡ 2 * p = omega arith in subst (λ (i : ℕ). Last s h h.arcs 0 p (get_or head i 0)) e (rows.heads 0 p (omega arith) l)

    pub raises : Last s h h.arcs 1 p (get_or head (2 * p + 1) 0)
    raises = rows.heads 1 p (omega arith) l

-- where b, the transitions that lower p are kept
pub record Halfway (s : List ℕ) (h : Header) (b : Bool) (p marks marks' : ℕ) (places transitions places' transitions' : List ℕ) : Type 0 where
  pub grown : Search.Grown h marks marks' places transitions places' transitions'
  pub met : T b → (t : ℕ) → T (moves (net_from s h) 0 p t) → T (member transitions' t)
  pub search : (G : Growth) (all : Bool) (both : List ℕ) → Search.Grows G s h all both → (T b → (t : ℕ) → T (moves (net_from s h) 0 p t) → T (G.draws p t))
      → (gone : ℕ → Bool) → ((k : ℕ) → T (gone k) → T (member places k)) → T (member places p) → Search.At G places gone transitions p 0 → Search.At G places' gone transitions' p 0

module _ (s : List ℕ) (h : Header) (b : Bool) (p marks : ℕ) (places transitions : List ℕ) where
  -- the row that lowers p was followed
  pub halfway_followed : b ≡ true → (m m' : ℕ) (P R P' R' : List ℕ) → Search.Followed s h 0 p marks m places transitions P R → P' ≡ P → R' ≡ R → m' ≡ m
      → Halfway s h b p marks m' places transitions P' R'
  halfway_followed e m m' P R P' R' x a c d =
      subst (λ (q : List ℕ). Halfway s h b p marks m' places transitions q R') (sym a)
      (subst (λ (q : List ℕ). Halfway s h b p marks m' places transitions P q) (sym c)
      (subst (λ (q : ℕ). Halfway s h b p marks q places transitions P R) (sym d) (record {
        grown = x.grown;
        met = λ u. x.met;
        search = λ G all both g draws. x.search G all both g (draws (holds b e));
      })))

  -- it was not
  pub halfway_none : b ≡ false → Search.Sets places transitions → (m' : ℕ) (P' R' : List ℕ) → P' ≡ places → R' ≡ transitions → m' ≡ marks
      → Halfway s h b p marks m' places transitions P' R'
  halfway_none e w m' P' R' a c d =
      subst (λ (q : List ℕ). Halfway s h b p marks m' places transitions q R') (sym a)
      (subst (λ (q : List ℕ). Halfway s h b p marks m' places transitions places q) (sym c)
      (subst (λ (q : ℕ). Halfway s h b p marks q places transitions places transitions) (sym d) (record {
        grown = grown-none h marks places transitions w;
        met = λ u. absurd (fails b e u);
        search = λ G all both g draws gone part kept at. at;
      })))

module _ (s : List ℕ) (h : Header) (all : Bool) (both : List ℕ) (p : ℕ) where
  abbrev lower : ℕ → Bool
  lower t = Search.draws_both (net_from s h) all both p && moves (net_from s h) 0 p t

  abbrev raise : ℕ → Bool
  raise t = moves (net_from s h) 1 p t

  -- both rows that count are followed
  pub turned : (marks m m' : ℕ) (places transitions P R P' R' : List ℕ) → Halfway s h (Search.draws_both (net_from s h) all both p) p marks m places transitions P R → Search.Followed s h 1 p m m' P R P' R'
      → Search.Turned s h all both p marks m' places transitions P' R'
  turned marks m m' places transitions P R P' R' x y = record {
    grown = grown-join h marks m m' places transitions P R P' R' x.grown y.grown;
    search = λ G g gone part kept at.
        search_turned G (member P') (waits P' gone) (member R') p
        (y.search G all both g (λ t u. subst T (sym (g.draws p t)) (or_right (lower t) (raise t) u)) gone (λ k u. x.grown.more_places k (part k u)) (x.grown.more_places p kept)
        (x.search G all both g (λ c t u. subst T (sym (g.draws p t)) (or_left (lower t) (raise t) (and_both (Search.draws_both (net_from s h) all both p) (moves (net_from s h) 0 p t) c u))) gone part kept at))
        (λ t l d. by_or (lower t) (raise t) (subst T (g.draws p t) d)
        (λ u. y.grown.more_transitions t (x.met (and_left (Search.draws_both (net_from s h) all both p) (moves (net_from s h) 0 p t) u) t (and_right (Search.draws_both (net_from s h) all both p) (moves (net_from s h) 0 p t) u)))
        (λ u. y.met t u));
  }
