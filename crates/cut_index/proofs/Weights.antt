-- What the first arcs of a file tell of each transition, and which arcs can still change it.
use Prim.Native.Nat.{ℕ, zero, suc, ◌+◌, ◌-◌, ◌*◌, ◌≤◌, ◌<◌}
use mathlib.Core.Bool.{Bool}
use mathlib.Core.List.{List}
use mathlib.Core.Path.{◌≡◌, refl, sym, ap, ◌∙◌, subst}
use native.Mathlib.Omega.{arith}
use native.Mathlib.Decide.{dec_lt}
use lib.Dec.{T, ltb}
use borrow.Author.Tests.{lt-ltb, ltb-true}
use Rattle.net.specs.Net.{weight_on, input, output}
use Rattle.net.proofs.Numbers.{holds, is_true}
use Rattle.file_arcs.specs.Layout.{arc_at, arcs_from}
use Rattle.file.specs.Layout.{net_from}
use Rattle.file.specs.Facts.{Sound}
use Rattle.file_header.specs.declared.Header.{Header}
use Rattle.file_arcs.proofs.Rows.{key-le, weight_none}
use Rattle.file.proofs.Rows.{good_at}
use Rattle.arcs_column.specs.Ways.{transition_at, direction_at, place_at, Joins}
use Rattle.cut_rows.specs.Rows.{moves}
use Rattle.arcs_column.proofs.Shares.{share-unless, sum_same, sum_more}
use Rattle.arcs_column.proofs.Arcs.{arc-has}
use Rattle.arcs_groups.specs.Groups.{Alike, Opens, GroupEnd, run_weight}
use Rattle.arcs_groups.proofs.Groups.{alike_sum, group_sum}

-- the weight between p and t in direction d, of the first m arcs
abbrev pub sum_of : List ℕ → Header → ℕ → ℕ → ℕ → ℕ → ℕ
sum_of s h m d p t = weight_on d p t (arcs_from s h.arcstart m)

-- t moves p in the direction d, as the first m arcs tell
abbrev pub told : List ℕ → Header → ℕ → ℕ → ℕ → ℕ → Bool
told s h m d p t = moves (record { places = h.places; transitions = h.transitions; marking = (net_from s h).marking; cap = (net_from s h).cap; arcs = arcs_from s h.arcstart m }) d p t

pub told-lowers : (s : List ℕ) (h : Header) (m p t : ℕ) → told s h m 0 p t ≡ ltb (sum_of s h m 1 p t) (sum_of s h m 0 p t)
unfolding moves input output
told-lowers s h m p t = refl

lowers_by : (s : List ℕ) (h : Header) (m p t : ℕ) → sum_of s h m 1 p t < sum_of s h m 0 p t → T (told s h m 0 p t)
lowers_by s h m p t l = holds _ (told-lowers s h m p t ∙ lt-ltb _ _ l)

pub told-raises : (s : List ℕ) (h : Header) (m p t : ℕ) → told s h m 1 p t ≡ ltb (sum_of s h m 0 p t) (sum_of s h m 1 p t)
unfolding moves input output
told-raises s h m p t = refl

-- the same weights tell the same
pub told_same : (s : List ℕ) (h : Header) (m n d p t : ℕ) → ((e : ℕ) → sum_of s h m e p t ≡ sum_of s h n e p t) → told s h m d p t ≡ told s h n d p t
unfolding moves input output
told_same s h m n zero p t f = rw (f 0, f 1)
told_same s h m n (suc d) p t f = rw (f 0, f 1)

-- arcs that do not join p and t add nothing
pub still : (s : List ℕ) (h : Header) (m n d p t : ℕ) → m ≤ n → ((k : ℕ) → m ≤ k → k < n → Joins d p t s h.arcstart k → ⊥) → sum_of s h n d p t ≡ sum_of s h m d p t
still s h m n d p t l f = sum_same d p t s h.arcstart m n l (λ i a b. share-unless d p t (arc_at s (h.arcstart + 8 * i)) (λ e g q. f i a b (record { transition = e; direction = g; place = q })))

-- the order of arcs in numbers
by_transition : (a b d e p q : ℕ) → 131072 * a + 65536 * d + p ≤ 131072 * b + 65536 * e + q → d ≤ 1 → e ≤ 1 → p < 65536 → q < 65536 → a ≤ b
by_transition a b d e p q l u v w x = omega arith

by_direction : (a b d e p q : ℕ) → 131072 * a + 65536 * d + p ≤ 131072 * b + 65536 * e + q → a ≡ b → p < 65536 → q < 65536 → d ≤ e
by_direction a b d e p q l u v w = omega arith

module _ (s : List ℕ) (h : Header) (sound : Sound s h) where
  -- of each arc: its transition, direction and place
  abbrev tr : ℕ → ℕ
  tr = transition_at s h.arcstart

  abbrev dr : ℕ → ℕ
  dr = direction_at s h.arcstart

  abbrev pl : ℕ → ℕ
  pl = place_at s h.arcstart

  abbrev sum : ℕ → ℕ → ℕ → ℕ → ℕ
  sum = sum_of s h

  -- arcs are in order by transition, then by direction
  pub rises : (i j : ℕ) → i ≤ j → j < h.arcs → tr i ≤ tr j
  rises i j l m =
      let a = good_at s h sound i (omega arith) in
      let b = good_at s h sound j m in
      let c = sound.placed.places in
      by_transition _ _ _ _ _ _ (key-le s h.arcstart 0 h.arcs i j sound.order l m) a.direction b.direction (omega (arith, a.place)) (omega (arith, b.place))

  pub inputs_first : (i j : ℕ) → i < j → j < h.arcs → tr i ≡ tr j → dr i ≤ dr j
  inputs_first i j l m e =
      let a = good_at s h sound i (omega arith) in
      let b = good_at s h sound j m in
      let c = sound.placed.places in
      by_direction _ _ _ _ _ _ (key-le s h.arcstart 0 h.arcs i j sound.order (omega arith) m) e (omega (arith, a.place)) (omega (arith, b.place))

  -- an arc that joins p and t adds to their weight
  pub weighs : (d p t i m : ℕ) → Joins d p t s h.arcstart i → i < m → m ≤ h.arcs → 0 < sum m d p t
  weighs d p t i m x l n = omega (arith, arc-has d p t s h.arcstart m i l x, (good_at s h sound i (omega arith)).weight)

  -- t moves p one way at most
  pub one_way : (m d e p t : ℕ) → d ≤ 1 → e ≤ 1 → (e ≡ d → ⊥) → T (told s h m d p t) → T (told s h m e p t) → ⊥
  one_way m zero zero p t a b n x y = n refl
  one_way m zero (suc e) p t a b n x y =
      let z : e ≡ 0 = omega arith in
      omega (
        arith,
        ltb-true (sum_of s h m 1 p t) (sum_of s h m 0 p t) (sym (told-lowers s h m p t) ∙ is_true _ x),
        ltb-true (sum_of s h m 0 p t) (sum_of s h m 1 p t) (sym (told-raises s h m p t) ∙ is_true _ (subst (λ (k : ℕ). T (told s h m (suc k) p t)) z y)),
      )
  one_way m (suc d) zero p t a b n x y =
      let z : d ≡ 0 = omega arith in
      omega (
        arith,
        ltb-true (sum_of s h m 1 p t) (sum_of s h m 0 p t) (sym (told-lowers s h m p t) ∙ is_true _ y),
        ltb-true (sum_of s h m 0 p t) (sum_of s h m 1 p t) (sym (told-raises s h m p t) ∙ is_true _ (subst (λ (k : ℕ). T (told s h m (suc k) p t)) z x)),
      )
  one_way m (suc d) (suc e) p t a b n x y = n (omega arith)

  -- one arc more of a transition that moves p in that direction
  pub grows : (j d p t : ℕ) → d ≤ 1 → direction_at s h.arcstart j ≡ d → T (told s h j d p t) → T (told s h (j + 1) d p t)
  grows j zero p t a e x =
      lowers_by s h (j + 1) p t (omega (
        arith,
        ltb-true (sum_of s h j 1 p t) (sum_of s h j 0 p t) (sym (told-lowers s h j p t) ∙ is_true _ x),
        sum_more 0 p t s h.arcstart j (j + 1) (omega arith),
        still s h j (j + 1) 1 p t (omega arith) (λ k u v y. let z : k ≡ j = omega arith in omega (arith, e, y.direction, ap dr z)),
      ))
  grows j (suc d) p t a e x =
      let z : d ≡ 0 = omega arith in
      subst (λ (k : ℕ). T (told s h (j + 1) (suc k) p t)) (sym z) (holds _ (told-raises s h (j + 1) p t ∙ lt-ltb (sum_of s h (j + 1) 0 p t) (sum_of s h (j + 1) 1 p t) (omega (
        arith,
        ltb-true (sum_of s h j 0 p t) (sum_of s h j 1 p t) (sym (told-raises s h j p t) ∙ is_true _ (subst (λ (k : ℕ). T (told s h j (suc k) p t)) z x)),
        sum_more 1 p t s h.arcstart j (j + 1) (omega arith),
        still s h j (j + 1) 0 p t (omega arith) (λ k u v y. let q : k ≡ j = omega arith in omega (arith, e, y.direction, ap dr q)),
      ))))

  -- the arcs from j to n join the same two in the same direction
  module _ (j n : ℕ) (g : Alike s h.arcstart j n) (fits : n ≤ h.arcs) where
    pub inside : j < h.arcs
    inside = let a = g.after in omega arith

    -- it tells nothing of another place or transition
    pub elsewhere : (d p t : ℕ) → (p ≡ pl j → t ≡ tr j → ⊥) → told s h j d p t ≡ told s h n d p t
    elsewhere d p t o = let a = g.after in told_same s h j n d p t (λ e. sym (still s h j n e p t (omega arith) (λ k u v x.
        let y = g.same k u v in o (sym x.place ∙ y.place) (sym x.transition ∙ y.transition))))

    -- all is told of a transition below its own
    pub settled : (d p t : ℕ) → t < tr j → told s h j d p t ≡ told s h h.arcs d p t
    settled d p t m = told_same s h j h.arcs d p t (λ e. let c = inside in sym (still s h j h.arcs e p t (omega arith) (λ k a b x.
        omega (arith, x.transition, rises j k a b))))

    -- and no arc before does
    module _ (opens : Opens s h.arcstart j) where
      abbrev wt : ℕ
      wt = run_weight s h.arcstart j (n - j)

      own-sum : sum n (dr j) (pl j) (tr j) ≡ wt
      own-sum = alike_sum s h.arcstart j n g opens

      pub weight_some : 0 < wt
      weight_some = omega (arith, own-sum, weighs (dr j) (pl j) (tr j) j n (record { transition = refl; direction = refl; place = refl }) g.after fits)

      -- input arcs: their place is lowered
      pub input-lowers : dr j ≡ 0 → T (told s h n 0 (pl j) (tr j))
      input-lowers e = lowers_by s h n (pl j) (tr j) (omega (
        arith,
        ap (λ (d : ℕ). sum n d (pl j) (tr j)) e,
        own-sum,
        weight_some,
        still s h 0 n 1 (pl j) (tr j) (omega arith) (λ k a b x. no_output k b x.transition x.direction (dec_lt k j)),
        weight_none 1 (pl j) (tr j) s h.arcstart,
      ))
        where
          no_output : (k : ℕ) → k < n → tr k ≡ tr j → dr k ≡ 1 → Dec (k < j) → ⊥
          no_output k a x y (yes z) = omega (arith, e, y, inputs_first k j z inside x)
          no_output k a x y (no z) = omega (arith, e, y, (g.same k (omega arith) a).direction)

      -- output arcs, by what the transition takes
      module _ (e : dr j ≡ 1) where
        given : sum n 1 (pl j) (tr j) ≡ wt
        given = omega (arith, ap (λ (d : ℕ). sum n d (pl j) (tr j)) e, own-sum)

        taken : sum n 0 (pl j) (tr j) ≡ sum j 0 (pl j) (tr j)
        taken = let a = g.after in still s h j n 0 (pl j) (tr j) (omega arith) (λ k u v x. omega (arith, e, x.direction, (g.same k u v).direction))

        pub output-raises : told s h n 1 (pl j) (tr j) ≡ ltb (sum j 0 (pl j) (tr j)) wt
        output-raises = told-raises s h n (pl j) (tr j) ∙ rw (taken, given)

        pub output-lowers : told s h n 0 (pl j) (tr j) ≡ ltb wt (sum j 0 (pl j) (tr j))
        output-lowers = told-lowers s h n (pl j) (tr j) ∙ rw (taken, given)

        -- before them, a place from which the transition takes is lowered
        pub lowers_yet : 0 < sum j 0 (pl j) (tr j) → T (told s h j 0 (pl j) (tr j))
        lowers_yet m = lowers_by s h j (pl j) (tr j) (omega (
          arith,
          m,
          ap (λ (d : ℕ). sum j d (pl j) (tr j)) e,
          still s h 0 j (dr j) (pl j) (tr j) (omega arith) (λ k a b x. opens k b x),
          weight_none (dr j) (pl j) (tr j) s h.arcstart,
        ))

  -- what the group of arc i takes, of the first m arcs
  pub sum_is : (d p t i m until : ℕ) → Joins d p t s h.arcstart i → m ≤ h.arcs → GroupEnd s h.arcstart i m until → Opens s h.arcstart i
      → sum m d p t ≡ run_weight s h.arcstart i (until - i)
  sum_is d p t i m until x l g opens = rw (← x.direction, ← x.place, ← x.transition) (group_sum s h sound i m until l g opens m g.within (omega arith))
