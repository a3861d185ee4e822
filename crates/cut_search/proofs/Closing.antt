-- Laws of the loop that takes the lowest pending place: it ends, and then nothing is pending.
use Prim.Native.Nat.{ℕ, zero, suc, ◌+◌, ◌*◌, ◌<◌}
use mathlib.Core.Bool.{Bool, true, false, not, ◌&&◌, ◌||◌, or-false}
use mathlib.Core.List.{List}
use mathlib.Core.Logic.{◌≢◌, inl, inr, ⊎_elim}
use mathlib.Core.Path.{◌≡◌, refl, sym, ap, ◌∙◌, subst}
use native.Mathlib.Omega.{arith}
use native.Mathlib.Decide.{dec_lt}
use lib.Dec.{T, eqb, eqb→eq, not_T, T_not}
use lib.ListN.{replicate}
use borrow.Author.Tests.{eq-eqb, ne_eqb}
use Rattle.net.specs.Cut.{Growth}
use Rattle.net.proofs.Numbers.{by_or, holds, fails, is_true, is_false, and_left, and_right, and_both, or_left, or_right}
use Rattle.net.proofs.Worklist.{Searching, search_take}
use Rattle.file.specs.Facts.{Sound}
use Rattle.file_header.specs.declared.Header.{Header}
use Rattle.sets.specs.Member.{bit, member, Inserted}
use Rattle.sets.specs.Lowest.{IsLowest}
use Rattle.std.specs.Prelude.{Some, None}
use Rattle.sets.proofs.Bits.{bit-zero}
use Rattle.sets.proofs.Members.{none}
use Rattle.sets_pending.specs.Growing.{MarksBelow, waits, Marked}
use Rattle.sets_pending.proofs.Counting.{count_less}
use Rattle.sets_pending.proofs.Laws.{all-marked}
use Rattle.cut_search.specs.Search

-- ---- the search between two places

module _ (G : Growth) (K D R : ℕ → Bool) where
  -- the same places are pending
  search_as : (D' : ℕ → Bool) (f i : ℕ) → ((k : ℕ) → D k ≡ D' k) → Searching G K D R f i → Searching G K D' R f i
  search_as D' f i same s = record {
    K_kept = s.K_kept;
    R_kept = s.R_kept;
    pending_kept = λ p h. s.pending_kept p (subst T (sym (same p)) h);
    criterion_in = s.criterion_in;
    needed_in = s.needed_in;
    drawn_in = λ p t h o. s.drawn_in p t h (λ d. o (subst T (same p) d));
  }

  -- a place that is gone through does not matter any more
  search_between : (f g : ℕ) → Searching G K D R f G.transitions → Searching G K D R g G.transitions
  search_between f g s = record {
    K_kept = s.K_kept;
    R_kept = s.R_kept;
    pending_kept = s.pending_kept;
    criterion_in = s.criterion_in;
    needed_in = s.needed_in;
    drawn_in = λ p t h o a l d. s.drawn_in p t h o (λ e. l) l d;
  }

-- ---- the loop

not-gone : (a g : Bool) → g ≡ false → a ≡ a && not g
not-gone true g e = ap not (sym e)
not-gone false g e = refl

-- 0 marks nothing
unmarked : (m : ℕ) → m ≡ 0 → (i : ℕ) → T (bit m i) → ⊥
unmarked m z i b = fails _ (bit-zero i) (subst (λ (n : ℕ). T (bit n i)) z b)

module _ (s : List ℕ) (h : Header) (sound : Sound s h) (all : Bool) (both : List ℕ) where
  -- at first: nothing is gone through
  pub ready_none : {places transitions : List ℕ} → Search.Sets places transitions → ((k : ℕ) → T (member places k) → k < h.places) → {marks : ℕ} → MarksBelow h.places marks → Search.Ready h marks places transitions (replicate 16 0)
  ready_none {places} w inside {marks} m = record {
    sets = w;
    long = refl;
    inside = inside;
    part = λ k m. absurd (fails _ (none k) m);
    marked = all-marked h.places marks m places (member (replicate 16 0)) inside;
  }

  pub search_none : (G : Growth) (places transitions : List ℕ) → Searching G (member places) (member places) (member transitions) 0 G.transitions → Search.At G places (member (replicate 16 0)) transitions 0 G.transitions
  search_none G places transitions at = search_as G (member places) (member places) (member transitions) _ 0 G.transitions (λ k. not-gone (member places k) (member (replicate 16 0) k) (none k)) at

  module _ (marks : ℕ) (P R gone : List ℕ) (x : Search.Ready h marks P R gone) where
    -- at last: nothing is marked, so nothing is pending
    pub search_end : marks ≡ 0 → (G : Growth) → Search.At G P (member gone) R 0 G.transitions → Searching G (member P) (λ k. false) (member R) 0 G.transitions
    search_end z G at = search_as G (member P) (waits P (member gone)) (member R) (λ k. false) 0 G.transitions (λ k. is_false _ (λ u. unmarked _ z _ (x.marked.marked k u))) at

    -- no place is pending
    pub stepped_none : IsLowest 1024 (waits P (member gone)) None → Search.Stepped s h all both 0 P R gone P R gone
    stepped_none nothing = record {
      ready = record { sets = x.sets; long = x.long; inside = x.inside; part = x.part; marked = record { words = λ i b. absurd (unmarked 0 refl i b); marked = λ k u. absurd (fails _ (still k (dec_lt k 1024)) u) } };
      lowest = (None, nothing, refl);
      search = λ G g at. at;
      less = inr (refl, refl);
    }
      where
        still : (k : ℕ) → Dec (k < 1024) → waits P (member gone) k ≡ false
        still k (yes l) = nothing k l
        still k (no l) = is_false _ (λ u. let i = x.inside k (and_left (member P k) (not (member gone k)) u) in let b = sound.placed.places in omega arith)

    module _ (p : ℕ) (lowest : IsLowest 1024 (waits P (member gone)) (Some p)) where
      p_waits : T (waits P (member gone) p)
      p_waits = holds _ lowest.1

      p_kept : T (member P p)
      p_kept = and_left (member P p) (not (member gone p)) p_waits

      module _ (gone' : List ℕ) (put : Inserted p gone gone') where
        has_it : T (member gone' p)
        has_it = subst T (sym (put.members p)) (or_right (member gone p) (eqb p p) (holds _ (eq-eqb p p refl)))

        other : (q : ℕ) → q ≢ p → member gone' q ≡ member gone q
        other q n = put.members q ∙ ap (λ (b : Bool). member gone q || b) (ne_eqb q p n) ∙ or-false (member gone q)

        more : (k : ℕ) → T (member gone k) → T (member gone' k)
        more k u = subst T (sym (put.members k)) (or_left (member gone k) (eqb k p) u)

        fewer : (k : ℕ) → T (not (member gone' k)) → T (not (member gone k))
        fewer k u = not_T (member gone k) (λ v. T_not (member gone' k) u (more k v))

        less : Search.to_go gone' < Search.to_go gone
        unfolding Search.to_go
        less =
            count_less (λ k. not (member gone' k)) (λ k. not (member gone k)) 1024 p lowest.0 (λ k e. is_true (not (member gone k)) (fewer k (holds (not (member gone' k)) e)))
            (ap not (is_true (member gone' p) has_it)) (is_true (not (member gone p)) (and_right (member P p) (not (member gone p)) p_waits))

        part' : (k : ℕ) → T (member gone' k) → T (member P k)
        part' k u = by_or (member gone k) (eqb k p) (subst T (put.members k) u) (x.part k) (λ e. subst (λ (q : ℕ). T (member P q)) (sym (eqb→eq k p e)) p_kept)

        pub stepped : (m m' : ℕ) → Marked P (member gone) m → (P' R' : List ℕ) → Search.Turned s h all both p m m' P R P' R' → Search.Stepped s h all both m' P R gone P' R' gone'
        stepped m m' marked P' R' y = record {
          ready = record {
            sets = y.grown.sets;
            long = put.long;
            inside = y.grown.inside x.inside;
            part = λ k u. y.grown.more_places k (part' k u);
            marked = y.grown.marked (member gone') (record {
              words = marked.words;
              marked = λ k u. marked.marked k (and_both (member P k) (not (member gone k)) (and_left (member P k) (not (member gone' k)) u) (fewer k (and_right (member P k) (not (member gone' k)) u)));
            });
          };
          lowest = (Some p, lowest, put);
          search = λ G g at.
              search_between G (member P') (waits P' (member gone')) (member R') p 0
              (y.search G g (member gone') part' p_kept
              (search_take G (member P) (waits P (member gone)) (member R) 0 G.transitions at (omega arith) (waits P (member gone')) p
              (λ q n. ap (λ (b : Bool). member P q && not b) (other q n)) (λ u. T_not (member gone' p) (and_right (member P p) (not (member gone' p)) u) has_it)));
          less = inl less;
        }

-- ---- step after step

-- one more than twice what is left, while a word is marked
abbrev pub left : ℕ → List ℕ → ℕ
left zero gone = 2 * Search.to_go gone
left (suc m) gone = 1 + 2 * Search.to_go gone

-- after some steps
pub record Going (s : List ℕ) (h : Header) (all : Bool) (both places transitions gone : List ℕ) (marks' : ℕ) (P R gone' : List ℕ) : Type 0 where
  pub ready : Search.Ready h marks' P R gone'
  pub search : (G : Growth) → Search.Grows G s h all both → Search.At G places (member gone) transitions 0 G.transitions → Search.At G P (member gone') R 0 G.transitions

module _ (s : List ℕ) (h : Header) (all : Bool) (both places transitions gone : List ℕ) where
  pub going_none : (marks : ℕ) → Search.Ready h marks places transitions gone → Going s h all both places transitions gone marks places transitions gone
  going_none marks x = record { ready = x; search = λ G g at. at }

  module _ (marks : ℕ) (P R gone' : List ℕ) (x : Going s h all both places transitions gone marks P R gone') where
    pub going_more : (m : ℕ) (P' R' gone'' : List ℕ) → Search.Stepped s h all both m P R gone' P' R' gone'' → Going s h all both places transitions gone m P' R' gone''
    going_more m P' R' gone'' y = record { ready = y.ready; search = λ G g at. y.search G g (x.search G g at) }

    pub going_end : Sound s h → marks ≡ 0 → Search.Finished s h all both places transitions gone P R
    going_end sound z = record { sets = x.ready.sets; search = λ G g at. search_end s h sound all both marks P R gone' x.ready z G (x.search G g at) }

pub left_less : (s : List ℕ) (h : Header) (all : Bool) (both : List ℕ) (marks m : ℕ) (P R gone P' R' gone' : List ℕ) → marks ≢ 0 → Search.Stepped s h all both m P R gone P' R' gone' → left m gone' < left marks gone
left_less s h all both zero m P R gone P' R' gone' n y = absurd (n refl)
left_less s h all both (suc k) m P R gone P' R' gone' n y = ⊎_elim (λ l. fewer m l) (λ e. same m e.0 e.1) y.less
  where
    fewer : (i : ℕ) → Search.to_go gone' < Search.to_go gone → left i gone' < 1 + 2 * Search.to_go gone
    fewer zero l = omega arith
    fewer (suc i) l = omega arith

    same : (i : ℕ) → i ≡ 0 → gone' ≡ gone → left i gone' < 1 + 2 * Search.to_go gone
    same i z e = subst (λ (j : ℕ). left j gone' < 1 + 2 * Search.to_go gone) (sym z) (subst (λ (g : List ℕ). 2 * Search.to_go g < 1 + 2 * Search.to_go gone) (sym e) (omega arith))

-- from the first step to the last
pub closed : (s : List ℕ) (h : Header) → Sound s h → (all : Bool) (both places transitions P R : List ℕ) → Search.Finished s h all both places transitions (replicate 16 0) P R → Search.Closed s h all both places transitions P R
closed s h sound all both places transitions P R y = record { sets = y.sets; search = λ G g at. y.search G g (search_none s h sound all both G places transitions at) }
