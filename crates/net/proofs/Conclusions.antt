-- What follows from `Guarantee`, `Contains`, `FirstBroken` and `StuckAt`, and from nothing else about a slice or a replay.
use Prim.Native.Nat.{ℕ, zero, suc, ◌+◌, ◌<◌, ◌≤◌}
use mathlib.Core.List.{List, [], ◌∷◌, ◌++◌, map}
use mathlib.Core.Path.{◌≡◌, refl, sym, ap, subst, subst⁻¹}
use mathlib.Core.Logic.{◌↔◌, inl, inr}
use native.Mathlib.Omega.{arith}
use lib.ListN.{length, take, get_or}
use lib.Dec.{T, eqb, eqb→eq, eqb_refl}
use Rattle.net.specs.Numbers.{among, position, Rising}
use Rattle.net.specs.Net.{Marking, Net, WithinCaps, Supplied, Enabled, fire, Fires, after, StuckAt, ShortAt, FullAt}
use Rattle.net.specs.Slice.{Slice, strike, WellFormed, Accepted}
use Rattle.net.specs.Checker.{Rule, breaks, Holds, FirstBroken, rules}
use Rattle.net.specs.Guarantee.{AllAmong, PlanFires, plan_tokens, SliceFires, slice_tokens, struck, Guarantee, Contains}
use Rattle.net.specs.Conclusions.{SameVerdict, StuckForGood, SameKept, unbroken, rule_at, Unbroken, BrokenFirst}
use Rattle.net.proofs.Numbers.{by_or, is_true, or_left, or_right, position-lt, at_position, rising_lt, fewest}
use Rattle.net.proofs.Verdict.{AllHold, rules-hold, hold_rules}

-- tokens that are equal on each place of a list
map_same : (f g : ℕ → ℕ) (Q : List ℕ) → ((q : ℕ) → T (among q Q) → f q ≡ g q) → map f Q ≡ map g Q
unfolding among
map_same f g [] w = refl
map_same f g (q ∷ Q) w = cc (w q (or_left (eqb q q) (among q Q) (eqb_refl q)), map_same f g Q (λ p h. w p (or_right (eqb p q) (among p Q) h)))

-- nothing is struck out of a list of the slice's own transitions
struck-own : (os ts : List ℕ) → AllAmong ts os → strike os ts ≡ ts
unfolding strike AllAmong among
struck-own os [] all = refl
struck-own os (t ∷ ts) all =
    rw (is_true (among t os) (all t (or_left (eqb t t) (among t ts) (eqb_refl t))), strike)
    (ap (λ (l : List ℕ). t ∷ l) (struck-own os ts (λ u h. all u (or_right (eqb u t) (among u ts) h))))

-- the planner's verdict
module _ (N : Net) (S : Slice) (Q : List ℕ) (g : Guarantee N S Q) where
  all_own : (ts : List ℕ) → SliceFires S ts → AllAmong ts S.transition_origins
  unfolding SliceFires
  all_own ts f = f.0

  exactly : (ts : List ℕ) → AllAmong ts S.transition_origins → SliceFires S ts ↔ PlanFires N ts
  exactly = g.fires_alike

  fires_in_plan : (ts : List ℕ) → SliceFires S ts → PlanFires N ts
  fires_in_plan ts f = (exactly ts (all_own ts f)).0 f

  -- the tokens on Q after a list of the plan, and after what is left of it
  struck-ends : (ts : List ℕ) → PlanFires N ts → map (slice_tokens S (struck S ts)) Q ≡ map (plan_tokens N ts) Q
  struck-ends ts f = map_same (slice_tokens S (struck S ts)) (plan_tokens N ts) Q (g.shadow_tokens ts f)

  -- and after a list of the slice
  own-ends : (ts : List ℕ) → SliceFires S ts → map (slice_tokens S ts) Q ≡ map (plan_tokens N ts) Q
  unfolding struck
  own-ends ts f = rw (struck-own S.transition_origins ts (all_own ts f)) at (struck-ends ts (fires_in_plan ts f))

  all-places : (ts : List ℕ) → SliceFires S ts → map (slice_tokens S ts) S.place_origins ≡ map (plan_tokens N ts) S.place_origins
  all-places ts f = map_same (slice_tokens S ts) (plan_tokens N ts) S.place_origins (g.tokens_alike ts f)

  pub same_verdict : (F : List ℕ → Type 0) → SameVerdict N S Q F
  same_verdict F = record {
    always = (
      λ all ts f. subst⁻¹ F (own-ends ts f) (all ts (fires_in_plan ts f)),
      λ all ts f. subst F (struck-ends ts f) (all (struck S ts) (g.shadow_fires ts f)),
    );
    sometimes = (
      λ (ts, f, h). (struck S ts, g.shadow_fires ts f, subst⁻¹ F (struck-ends ts f) h),
      λ (ts, f, h). (ts, fires_in_plan ts f, subst F (own-ends ts f) h),
    );
    own_list = λ ts own. (
      λ (f, h). let s = (exactly ts own).1 f in (s, subst⁻¹ F (all-places ts s) h),
      λ (f, h). (fires_in_plan ts f, subst F (all-places ts f) h),
    );
  }

-- a stuck replay
short_stuck : (N : Net) (t : ℕ) (M : Marking) (p n : ℕ) → ShortAt N t M p n → ¬ Enabled N t M
unfolding Enabled Supplied
short_stuck N t M p n s en = omega (arith, s.amount, s.some, en.0 p s.place)

full_stuck : (N : Net) (t : ℕ) (M : Marking) (p n : ℕ) → FullAt N t M p n → ¬ Enabled N t M
unfolding Enabled WithinCaps
full_stuck N t M p n s en = omega (arith, s.amount, s.some, en.1 p s.place s.has_cap)

never_fires : (N : Net) (M : Marking) (ts : List ℕ) (k : ℕ) (m : Marking) → StuckAt N M ts k m → ¬ Enabled N (get_or ts k 0) m → (rest : List ℕ) → ¬ Fires N M (take (suc k) ts ++ rest)
unfolding Fires after
never_fires N M [] k m s off rest f = absurd (omega (arith, s.inside))
never_fires N M (t ∷ ts) zero m s off rest f = off (subst⁻¹ (λ (x : Marking). Enabled N t x) s.ended f.1)
never_fires N M (t ∷ ts) (suc k) m s off rest f =
    never_fires N (fire N t M) ts k m (record { inside = omega (arith, s.inside); before = s.before.2; ended = s.ended }) off rest f.2

module _ (N : Net) (ts : List ℕ) (k : ℕ) (m : Marking) (s : StuckAt N N.marking ts k m) where
  for_good : ¬ Enabled N (get_or ts k 0) m → StuckForGood N ts k
  unfolding PlanFires
  for_good off = record { before = s.before; never = never_fires N N.marking ts k m s off }

  pub short_for_good : (p n : ℕ) → ShortAt N (get_or ts k 0) m p n → StuckForGood N ts k
  short_for_good p n w = for_good (short_stuck N (get_or ts k 0) m p n w)

  pub full_for_good : (p n : ℕ) → FullAt N (get_or ts k 0) m p n → StuckForGood N ts k
  full_for_good p n w = for_good (full_stuck N (get_or ts k 0) m p n w)

-- a rising list within another that is no longer is that list
tail-rises : (x : ℕ) (l : List ℕ) → Rising (x ∷ l) → Rising l
unfolding Rising
tail-rises x l r i h = r (suc i) (omega arith)

above_head : (x : ℕ) (l : List ℕ) → Rising (x ∷ l) → (y : ℕ) → T (among y l) → x < y
above_head x l r y h = omega (arith, at_position y l h, rising_lt (x ∷ l) r 0 (suc (position y l)) (omega arith) (omega (arith, position-lt y l h)))

from_head : (x : ℕ) (l : List ℕ) → Rising (x ∷ l) → (y : ℕ) → T (among y (x ∷ l)) → x ≤ y
unfolding among
from_head x l r y h = by_or (eqb y x) (among y l) h (λ e. omega (arith, eqb→eq y x e)) (λ k. omega (arith, above_head x l r y k))

past_head : (x : ℕ) (l : List ℕ) (y : ℕ) → T (among y (x ∷ l)) → x < y → T (among y l)
unfolding among
past_head x l y h k = by_or (eqb y x) (among y l) h (λ e. absurd (omega (arith, eqb→eq y x e))) (λ i. i)

pub same_rising : (l m : List ℕ) → Rising l → Rising m → ((x : ℕ) → T (among x l) → T (among x m)) → length m ≤ length l → l ≡ m
unfolding among
same_rising [] [] r s w h = refl
same_rising [] (y ∷ m) r s w h = absurd (omega arith)
same_rising (x ∷ l) [] r s w h = absurd (w x (or_left (eqb x x) (among x l) (eqb_refl x)))
same_rising (x ∷ l) (y ∷ m) r s w h =
    by_or (eqb x y) (among x m) (w x (or_left (eqb x x) (among x l) (eqb_refl x)))
    (λ e. let d : x ≡ y = eqb→eq x y e in
    let rest = same_rising l m (tail-rises x l r) (tail-rises y m s)
    (λ z k. past_head y m z (w z (or_right (eqb z x) (among z l) k)) (omega (arith, above_head x l r z k))) (omega arith) in
    cc (d, rest))
    (λ k. let y<x = above_head y m s x k in
    absurd (omega (arith, fewest (x ∷ l) m r (tail-rises y m s) (λ z i. past_head y m z (w z i) (omega (arith, from_head x l r z i))))))

-- a slice that contains another and is no larger has exactly its places and transitions
pub same_kept : (S C : Slice) → WellFormed S → WellFormed C → Contains S C
    → S.net.places + S.net.transitions ≤ C.net.places + C.net.transitions → SameKept S C
same_kept S C s c has small =
    let fewer-places : S.net.places ≤ C.net.places = omega (arith, has.transition_count) in
    let fewer-transitions : S.net.transitions ≤ C.net.transitions = omega (arith, has.place_count) in
    record {
      places = sym (same_rising C.place_origins S.place_origins c.places_rise s.places_rise has.places (omega (arith, s.place_count, c.place_count)));
      transitions = sym (same_rising C.transition_origins S.transition_origins c.transitions_rise s.transitions_rise has.transitions (omega (arith, s.transition_count, c.transition_count)));
    }

-- a rule that stands nowhere holds
free : Holds unbroken
unfolding Holds unbroken
free n h = absurd (omega arith)

-- the rules hold one by one, or as a list
pub all-unbroken : (l : List Rule) → AllHold l → Unbroken l
unfolding AllHold Unbroken rule_at
all-unbroken l h zero = free
all-unbroken [] h (suc k) = free
all-unbroken (R ∷ l) h (suc zero) = h.0
all-unbroken (R ∷ l) h (suc (suc k)) = all-unbroken l h.1 (suc k)

pub unbroken-all : (l : List Rule) → Unbroken l → AllHold l
unfolding AllHold Unbroken rule_at
unbroken-all [] h = tt
unbroken-all (R ∷ l) h = (h 1, unbroken-all l (tail h))
  where
    tail : ((k : ℕ) → Holds (rule_at (R ∷ l) k)) → (k : ℕ) → Holds (rule_at l k)
    tail h zero = free
    tail h (suc k) = h (suc (suc k))

-- no rule is broken exactly if the slice is accepted
pub unbroken-accepted : (N : Net) (S : Slice) (Q : List ℕ) → WellFormed S → ((q : ℕ) → T (among q Q) → q < N.places) → Accepted N S Q ↔ Unbroken (rules N S Q)
unbroken-accepted N S Q w known = (
  λ ok. all-unbroken (rules N S Q) (hold_rules N S Q w known ok),
  λ h. rules-hold N S Q w known (unbroken-all (rules N S Q) h),
)

-- the rule that is told, by its place in the list
head-told : (R : Rule) (l : List Rule) (n : ℕ) → n < R.range → T (breaks R n) → ((m : ℕ) → m < n → ¬ T (breaks R m)) → BrokenFirst (R ∷ l) 1 n
unfolding rule_at
head-told R l n inside b low = record { number = inside; broken = b; lowest = low; earlier = none }
  where
    none : (j : ℕ) → j < 1 → Holds (rule_at (R ∷ l) j)
    none zero h = free
    none (suc j) h = absurd (omega arith)

tail-told : (R : Rule) (l : List Rule) (d n : ℕ) → Holds R → BrokenFirst l (suc d) n → BrokenFirst (R ∷ l) (suc (suc d)) n
unfolding rule_at
tail-told R l d n h b = record { number = b.number; broken = b.broken; lowest = b.lowest; earlier = none }
  where
    none : (j : ℕ) → j < suc (suc d) → Holds (rule_at (R ∷ l) j)
    none zero k = free
    none (suc zero) k = h
    none (suc (suc j)) k = b.earlier (suc j) (omega arith)

place-told : (i : ℕ) (l : List Rule) (k n : ℕ) → FirstBroken i l k n → (d : ℕ) × (k ≡ i + d) × BrokenFirst l (suc d) n
unfolding FirstBroken
place-told i [] k n b = absurd b
place-told i (R ∷ l) k n (inl (e, inside, b, low)) = (0, omega arith, head-told R l n inside b low)
place-told i (R ∷ l) k n (inr (h, b)) = let r = place-told (suc i) l k n b in (suc r.0, omega (arith, r.1), tail-told R l r.0 n h r.2)

pub broken_first : (l : List Rule) (k n : ℕ) → FirstBroken 1 l k n → BrokenFirst l k n
broken_first l k n b =
    let r = place-told 1 l k n b in
    let k≡ : suc r.0 ≡ k = omega (arith, r.1) in
    subst (λ (j : ℕ). BrokenFirst l j n) k≡ r.2
