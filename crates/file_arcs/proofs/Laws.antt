-- Laws of the refusals of arcs, of a run of arcs by its first, and of the order.
use Rattle.std.proofs.Common.{◌≡◌, ℕ, zero, suc, ◌+◌, ◌-◌, ◌<◌, ◌≤◌, true, false, ltb, List, [], ◌∷◌, ◌∙◌, lt_irrefl, sub-one, arith, le-ltb, lt-ltb}
use native.Mathlib.Decide.{dec_lt}
use lib.Arith.{le-zero}
use Rattle.net.specs.declared.Arc.{Arc}
use Rattle.file_words.specs.Word.{byte_at}
use Rattle.file_words.specs.Refusal.{refuse}
use Rattle.file_arcs.specs.Layout.{arc_at, arcs_from}
use Rattle.file_arcs.specs.Refusal.{key, arc_wrong, arcs_refusal}

-- one turn of a loop over arcs
pub arcs_step : (s : List ℕ) (P T at least n : ℕ) → 0 < n
    → arcs_refusal s P T at least n
    ≡ refuse (arc_wrong P T (arc_at s at) (byte_at s (at + 3))) 6
    (refuse (ltb (key (arc_at s at)) least) 7
    (arcs_refusal s P T (at + 8) (key (arc_at s at)) (n - 1)))
unfolding arcs_refusal
arcs_step s P T at least zero h = absurd (lt_irrefl 0 h)
arcs_step s P T at least (suc n) h = rw sub-one

module _ (s : List ℕ) (P T at least n : ℕ) where
  pub arcs_6 : 0 < n → arc_wrong P T (arc_at s at) (byte_at s (at + 3)) ≡ true → arcs_refusal s P T at least n ≡ 6
  arcs_6 h a = arcs_step s P T at least n h ∙ rw a

  pub arcs_7 : 0 < n → arc_wrong P T (arc_at s at) (byte_at s (at + 3)) ≡ false → key (arc_at s at) < least → arcs_refusal s P T at least n ≡ 7
  arcs_7 h a k = arcs_step s P T at least n h ∙ rw (a, lt-ltb _ _ k)

  pub arcs_on : 0 < n → arc_wrong P T (arc_at s at) (byte_at s (at + 3)) ≡ false → least ≤ key (arc_at s at)
      → arcs_refusal s P T at least n ≡ arcs_refusal s P T (at + 8) (key (arc_at s at)) (n - 1)
  arcs_on h a k = arcs_step s P T at least n h ∙ rw (a, le-ltb _ _ k)

pub arcs_end : (s : List ℕ) (P T at least n : ℕ) → n ≤ 0 → arcs_refusal s P T at least n ≡ 0
unfolding arcs_refusal
arcs_end s P T at least n h = rw (le-zero h)

-- a run of arcs by its first arc
pub arcs_cons : (s : List ℕ) (at n : ℕ) → 0 < n → arcs_from s at n ≡ arc_at s at ∷ arcs_from s (at + 8) (n - 1)
unfolding arcs_from
arcs_cons s at zero h = absurd (lt_irrefl 0 h)
arcs_cons s at (suc n) h = rw sub-one

pub arcs_none : (s : List ℕ) (at n : ℕ) → n ≤ 0 → arcs_from s at n ≡ []
unfolding arcs_from
arcs_none s at n h = rw (le-zero h)

-- the order of keys is that of (transition, direction, place)
pub data Before (a b : Arc) : Type 0 where
  transition : a.transition < b.transition → Before a b
  direction : a.transition ≡ b.transition → a.direction < b.direction → Before a b
  place : a.transition ≡ b.transition → a.direction ≡ b.direction → a.place < b.place → Before a b

module _ (a b : Arc) (ha : a.direction ≤ 1) (hb : b.direction ≤ 1) (pa : a.place < 65536) (pb : b.place < 65536) where
  pub before-key : Before a b → key a < key b
  before-key (transition h) = omega arith
  before-key (direction e h) = omega arith
  before-key (place e f h) = omega arith

  by_direction : a.transition ≡ b.transition → key a < key b → Dec (a.direction < b.direction) → Before a b
  by_direction e k (yes h) = direction e h
  by_direction e k (no h) = place e (omega (arith, h)) (omega (arith, h))

  by_transition : key a < key b → Dec (a.transition < b.transition) → Before a b
  by_transition k (yes h) = transition h
  by_transition k (no h) = by_direction (omega (arith, h)) k (dec_lt a.direction b.direction)

  pub key-before : key a < key b → Before a b
  key-before k = by_transition k (dec_lt a.transition b.transition)
