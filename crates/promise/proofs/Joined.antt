-- Arcs in order, joined: they rise strictly, are in range, and are the only such arcs that weigh what they weigh.
use Prim.Native.Nat.{ℕ, suc, ◌+◌, ◌*◌, ◌≤◌, ◌<◌}
use mathlib.Core.Bool.{Bool, true, false}
use mathlib.Core.List.{List, [], ◌∷◌, map}
use mathlib.Core.Logic.{◌≢◌}
use mathlib.Core.Path.{◌≡◌, refl, sym, ap, subst⁻¹, ◌∙◌}
use native.Mathlib.Omega.{arith}
use lib.ListN.{length}
use lib.Dec.{ltb}
use borrow.Author.Tests.{eq-eqb, le-ltb, ltb-false}
use Rattle.net.specs.Net.{counted, joins, weight_on}
use Rattle.net.specs.Normal.{joined_to, joined}
use Rattle.net.specs.declared.Arc.{Arc}
use Rattle.net.proofs.Numbers.{by_cases, by_order}
use Rattle.net.proofs.Normal.{Parallel, joins-parallel, joined-one, joined-more, weight_joined}
use Rattle.file_words.specs.Refusal.{refuse}
use Rattle.file_words.proofs.Laws.{refuse-0}
use Rattle.file_arcs.specs.Refusal.{key}
use Rattle.file_arcs.specs.Facts.{ArcGood, InRange, OrderedFrom}
use Rattle.file.specs.Facts.{RisingFrom}
use Rattle.file_writing.proofs.Bytes.{AllFit}
use Rattle.promise.specs.Normal.{weights_refusal}

-- strictly rising is rising
pub rising_ordered : (least : ℕ) (l : List ℕ) → RisingFrom least l → OrderedFrom least l
rising_ordered least [] o = tt
rising_ordered least (x ∷ l) o = (o.0, rising_ordered x l (looser x l o.1))
  where
    looser : (y : ℕ) (m : List ℕ) → RisingFrom (y + 1) m → RisingFrom y m
    looser y [] q = tt
    looser y (z ∷ m) q = (omega (arith, q.0), q.1)

-- ---- which arcs an arc joins with

joins-one : (d p t : ℕ) (a : Arc) → a.transition ≡ t → a.direction ≡ d → a.place ≡ p → joins d p t a ≡ true
joins-one d p t a x y z = rw (eq-eqb a.transition t x, eq-eqb a.direction d y, eq-eqb a.place p z)

-- the number of order that the arcs between p and t in direction d have
abbrev at : ℕ → ℕ → ℕ → ℕ
at d p t = 131072 * t + 65536 * d + p

joins-key : (d p t : ℕ) (a : Arc) → joins d p t a ≡ true → key a ≡ at d p t
joins-key d p t a e = let x = joins-parallel (record { transition = t; direction = d; place = p; weight = 0 }) a e in omega (arith, x.transition, x.direction, x.place)

-- strictly rising arcs past that number do not join p and t in direction d
absent : (d p t least : ℕ) (l : List Arc) → RisingFrom least (map key l) → at d p t < least → weight_on d p t l ≡ 0
unfolding weight_on
absent d p t least [] o h = refl
absent d p t least (a ∷ l) o h =
    by_cases (joins d p t a)
    (λ e. absurd (omega (arith, joins-key d p t a e, o.0)))
    (λ e. omega (arith, ap (λ (b : Bool). counted b a.weight) e, absent d p t (key a + 1) l o.1 (omega (arith, o.0))))

own : (a : Arc) → joins a.direction a.place a.transition a ≡ true
own a = joins-one a.direction a.place a.transition a refl refl refl

-- arcs in range with one number of order are parallel
module _ (P T : ℕ) (few : P ≤ 65536) where
  pub by_key : (a b : Arc) → ArcGood P T a → ArcGood P T b → key a ≡ key b → Parallel a b
  by_key a b x y e =
      let da = x.direction in
      let db = y.direction in
      let pa = x.place in
      let pb = y.place in
      record { transition = omega arith; direction = omega arith; place = omega arith }

  -- ---- joined arcs

  range_to : (a : Arc) (l : List Arc) → ArcGood P T a → InRange P T l → InRange P T (joined_to a l)
  unfolding joined_to
  range_to a [] g r = (g, tt)
  range_to a (b ∷ rest) g r =
      by_cases (joins a.direction a.place a.transition b)
      (λ e. subst⁻¹ (InRange P T) (joined-one a b rest e) (record { direction = g.direction; place = g.place; transition = g.transition; weight = let w = g.weight in omega arith }, r.1))
      (λ e. subst⁻¹ (InRange P T) (joined-more a b rest e) (g, r))

  pub joined-range : (l : List Arc) → InRange P T l → InRange P T (joined l)
  unfolding joined
  joined-range [] r = tt
  joined-range (a ∷ rest) r = range_to a (joined rest) r.0 (joined-range rest r.1)

  rise_to : (least : ℕ) (a : Arc) (l : List Arc) → least ≤ key a → ArcGood P T a → InRange P T l → RisingFrom (key a) (map key l) → RisingFrom least (map key (joined_to a l))
  unfolding joined_to
  rise_to least a [] h g r o = (h, tt)
  rise_to least a (b ∷ rest) h g r o =
      by_cases (joins a.direction a.place a.transition b)
      (λ e. let x = joins-parallel a b e in
      let same : key b ≡ key a = omega (arith, x.transition, x.direction, x.place) in
      subst⁻¹ (λ (m : List Arc). RisingFrom least (map key m)) (joined-one a b rest e) (h, rw same at o.1))
      (λ e. subst⁻¹ (λ (m : List Arc). RisingFrom least (map key m)) (joined-more a b rest e) (h, (above e, o.1)))
    where
      above : joins a.direction a.place a.transition b ≡ false → key a + 1 ≤ key b
      above e =
          by_order (key a) (key b)
          (λ l. omega (arith, l))
          (λ k. let x = by_key a b g r.0 k in
          let one = joins-one a.direction a.place a.transition b (sym x.transition) (sym x.direction) (sym x.place) in
          let z : ◌≡◌ {A = Bool} true false = sym one ∙ e in
          let y : ◌≡◌ {A = ℕ} 0 1 = cc in absurd (omega arith))
          (λ l. absurd (omega (arith, l, o.0)))

  -- "parallel arcs joined": strictly rising
  pub joined-rise : (least : ℕ) (l : List Arc) → InRange P T l → OrderedFrom least (map key l) → RisingFrom least (map key (joined l))
  unfolding joined
  joined-rise least [] r o = tt
  joined-rise least (a ∷ rest) r o = rise_to least a (joined rest) o.0 r.0 (joined-range rest r.1) (joined-rise (key a) rest r.1 o.1)

  -- ---- strictly rising arcs are their weights

  -- what the first arc weighs, where it alone joins its two in its direction
  first-weight : (a : Arc) (l : List Arc) → RisingFrom (key a + 1) (map key l) → weight_on a.direction a.place a.transition (a ∷ l) ≡ a.weight
  unfolding weight_on
  first-weight a l o =
      omega (arith, ap (λ (b : Bool). counted b a.weight) (own a), absent a.direction a.place a.transition (key a + 1) l o (omega arith))

  -- the arcs weigh alike in both directions, at every place for every transition
  abbrev pub Alike : List Arc → List Arc → Type 0
  Alike l m = (d p t : ℕ) → d ≤ 1 → p < P → t < T → weight_on d p t l ≡ weight_on d p t m

  missing : (a : Arc) (l m : List Arc) (least : ℕ) → ArcGood P T a → RisingFrom (key a + 1) (map key l) → RisingFrom least (map key m) → key a < least → Alike (a ∷ l) m → ⊥
  missing a l m least g o o' h same =
      let w = same a.direction a.place a.transition g.direction g.place g.transition in
      omega (arith, w, first-weight a l o, absent a.direction a.place a.transition least m o' (omega (arith, h)), g.weight)

  pub rising_same : (k k' : ℕ) (l m : List Arc) → InRange P T l → InRange P T m → RisingFrom k (map key l) → RisingFrom k' (map key m) → Alike l m → l ≡ m
  unfolding weight_on
  rising_same k k' [] [] r r' o o' same = refl
  rising_same k k' [] (b ∷ m) r r' o o' same = absurd (missing b m [] (key b + 1) r'.0 o'.1 tt (omega arith) (λ d p t x y z. sym (same d p t x y z)))
  rising_same k k' (a ∷ l) [] r r' o o' same = absurd (missing a l [] (key a + 1) r.0 o.1 tt (omega arith) same)
  rising_same k k' (a ∷ l) (b ∷ m) r r' o o' same =
      by_order (key a) (key b)
      (λ h. absurd (missing a l (b ∷ m) (key b) r.0 o.1 (omega arith, o'.1) h same))
      (λ e. let x = by_key a b r.0 r'.0 e in
      let w≡ : a.weight ≡ b.weight =
      sym (first-weight a l o.1) ∙ same a.direction a.place a.transition r.0.direction r.0.place r.0.transition
      ∙ (λ i. weight_on (x.direction i) (x.place i) (x.transition i) (b ∷ m)) ∙ first-weight b m o'.1 in
      let a≡ : a ≡ b = λ i. record { transition = x.transition i; direction = x.direction i; place = x.place i; weight = w≡ i } in
      let l≡ = rising_same (key a + 1) (key b + 1) l m r.1 r'.1 o.1 o'.1 (rest a≡) in
      λ i. a≡ i ∷ l≡ i)
      (λ h. absurd (missing b m (a ∷ l) (key a) r'.0 o'.1 (omega arith, o.1) h (λ d p t x y z. sym (same d p t x y z))))
    where
      rest : a ≡ b → Alike l m
      rest e d p t x y z = omega (arith, same d p t x y z, ap (λ (c : Arc). counted (joins d p t c) c.weight) e)

  -- strictly rising arcs are joined
  pub joined_same : (least : ℕ) (l : List Arc) → InRange P T l → RisingFrom least (map key l) → joined l ≡ l
  joined_same least l r o =
      rising_same least least (joined l) l (joined-range l r) r (joined-rise least l r (rising_ordered least (map key l) o)) o (λ d p t x y z. weight_joined d p t l)

length_to : (a : Arc) (l : List Arc) → length (joined_to a l) ≤ suc (length l)
unfolding joined_to
length_to a [] = omega arith
length_to a (b ∷ rest) =
    by_cases (joins a.direction a.place a.transition b)
    (λ e. omega (arith, ap length (joined-one a b rest e)))
    (λ e. omega (arith, ap length (joined-more a b rest e)))

pub joined_length : (l : List Arc) → length (joined l) ≤ length l
unfolding joined
joined_length [] = omega arith
joined_length (a ∷ rest) = omega (arith, length_to a (joined rest), joined_length rest)

-- ---- 25

-- it is the only refusal of weights
pub weights_25 : (l : List Arc) → weights_refusal l ≢ 0 → weights_refusal l ≡ 25
unfolding weights_refusal
weights_25 [] h = absurd (h refl)
weights_25 (a ∷ l) h =
    by_cases (ltb 65535 a.weight)
    (λ e. ap (λ (b : Bool). refuse b 25 (weights_refusal l)) e)
    (λ e. let same = ap (λ (b : Bool). refuse b 25 (weights_refusal l)) e in same ∙ weights_25 l (λ z. h (same ∙ z)))

-- of strictly rising arcs none is heavy exactly where no sum is
pub light_sums : (least : ℕ) (l : List Arc) → RisingFrom least (map key l) → weights_refusal l ≡ 0 → (d p t : ℕ) → weight_on d p t l ≤ 65535
unfolding weights_refusal weight_on
light_sums least [] o e d p t = omega arith
light_sums least (a ∷ l) o e d p t =
    let x = refuse-0 (ltb 65535 a.weight) 24 _ e in
    by_cases (joins d p t a)
    (λ j. omega (arith, ap (λ (b : Bool). counted b a.weight) j, ltb-false 65535 a.weight x.0, absent d p t (key a + 1) l o.1 (omega (arith, joins-key d p t a j))))
    (λ j. omega (arith, ap (λ (b : Bool). counted b a.weight) j, light_sums (key a + 1) l o.1 x.1 d p t))

pub sums_light : (P T : ℕ) (l : List Arc) → InRange P T l → ((d p t : ℕ) → d ≤ 1 → p < P → t < T → weight_on d p t l ≤ 65535) → weights_refusal l ≡ 0
unfolding weights_refusal weight_on
sums_light P T [] r h = refl
sums_light P T (a ∷ l) r h =
    let g = r.0 in
    let w = h a.direction a.place a.transition g.direction g.place g.transition in
    let o = ap (λ (b : Bool). counted b a.weight) (own a) in
    rw (le-ltb 65535 a.weight (omega (arith, w, o))) (sums_light P T l r.1 (λ d p t x y z. omega (arith, h d p t x y z)))

pub weights_fit : (P T : ℕ) (l : List Arc) → P ≤ 1024 → T ≤ 1024 → InRange P T l → weights_refusal l ≡ 0 → AllFit l
unfolding weights_refusal
weights_fit P T [] hp ht r e = tt
weights_fit P T (a ∷ l) hp ht r e =
    let x = refuse-0 (ltb 65535 a.weight) 24 _ e in
    let w = ltb-false 65535 a.weight x.0 in
    let g = r.0 in
    let d = g.direction in
    let p = g.place in
    let t = g.transition in
    (record { direction = omega arith; place = omega arith; transition = omega arith; weight = omega arith }, weights_fit P T l hp ht r.1 x.1)
