-- An arc of the plan by what is kept of its ends, as its sum tells it.
use Prim.Native.Nat.{ℕ, ◌+◌, ◌-◌, ◌*◌, ◌/◌, ◌%◌, ◌≤◌, ◌<◌}
use mathlib.Core.Path.{◌≡◌, refl, sym, ap, ◌∙◌}
use mathlib.Core.Bool.{Bool, true, false, ◌&&◌}
use mathlib.Core.List.{List}
use native.Mathlib.Omega.{arith}
use native.Mathlib.Nat.{div-div-eq-div-mul}
use lib.ListN.{get_or}
use Rattle.net.specs.Numbers.{among, position}
use Rattle.net.specs.Net.{Net, capped}
use Rattle.net.specs.Slice.{renumber}
use Rattle.net.specs.declared.Arc.{Arc}
use Rattle.net.proofs.Numbers.{by_cases, holds, position-lt}
use Rattle.file.specs.Layout.{net_from, slice_from}
use Rattle.file_arcs.specs.Facts.{ArcGood, arc_of}
use Rattle.file_header.specs.declared.Header.{Header}
use Rattle.file.proofs.Rows.{length-words}
use Rattle.file_arcs.proofs.Words.{field_transition, field_direction, field_place, field_weight}
use Rattle.check_fast.specs.Entries.{left_place, left_capped, left_transition, numbered, flagged, marked, either}
use Rattle.check_fast.specs.Pass.{watched, Ready, joined_of, kept_of, odd_of, due_of, Fine}
use Rattle.check_fast.proofs.Sums.{Flags, flags_at, below, few_flags, many_flags, even_flags, Alike, own_is}

pub numbered-in : (unit : ℕ) (os : List ℕ) (rest x : ℕ) → among x os ≡ true → numbered unit os rest x ≡ unit * (1024 + position x os - x)
unfolding numbered
numbered-in unit os rest x e = rw (e, numbered)

pub numbered-out : (unit : ℕ) (os : List ℕ) (rest x : ℕ) → among x os ≡ false → numbered unit os rest x ≡ rest
unfolding numbered
numbered-out unit os rest x e = rw (e, numbered)

pub marked-in : (Q : List ℕ) (v x : ℕ) → among x Q ≡ true → marked Q v x ≡ flagged v
unfolding marked
marked-in Q v x e = rw (e, marked)

pub marked-out : (Q : List ℕ) (v x : ℕ) → among x Q ≡ false → marked Q v x ≡ v
unfolding marked
marked-out Q v x e = rw (e, marked)

pub flagged-whole : (m : ℕ) → flagged (4294967296 * m) ≡ 4294967296 * m + 131072
flagged-whole m = omega arith

pub apart : {A : Type 0} {b : Bool} → b ≡ true → b ≡ false → A
apart e f = absurd (let z : ◌≡◌ {A = ℕ} 0 1 = cc in omega arith)

-- the spare byte
abbrev pub spare : ℕ → ℕ
spare w = w / 16777216 % 256

whole : (w : ℕ) → w ≡ (arc_of w).transition + 65536 * (arc_of w).direction + 16777216 * spare w + 4294967296 * (arc_of w).place + 281474976710656 * (arc_of w).weight
whole w =
    let one : w / 65536 / 256 ≡ w / 16777216 = div-div-eq-div-mul w 65536 256 in
    let two : w / 16777216 / 256 ≡ w / 4294967296 = div-div-eq-div-mul w 16777216 256 in
    let three : w / 4294967296 / 65536 ≡ w / 281474976710656 = div-div-eq-div-mul w 4294967296 65536 in
    parts w (w / 65536) (w / 16777216) (w / 4294967296) (w / 281474976710656) refl one two three
  where
    parts : (w a b c e : ℕ) → w / 65536 ≡ a → a / 256 ≡ b → b / 256 ≡ c → c / 65536 ≡ e → w ≡ w % 65536 + 65536 * (a % 256) + 16777216 * (b % 256) + 4294967296 * (c % 65536) + 281474976710656 * e
    parts w a b c e h i j k = omega arith

-- z by the ends of the arc w
pub data Ends (N : Net) (ps ts Q : List ℕ) (w z : ℕ) : Type 0 where
  both : (q : ℕ) → q ≤ 1 → among (arc_of w).place ps ≡ true → among (arc_of w).transition ts ≡ true
      → Flags (1024 + position (arc_of w).transition ts) (spare w) (1024 + position (arc_of w).place ps) (arc_of w).weight ((arc_of w).direction + 2 * q) z → Ends N ps ts Q w z
  at_place : among (arc_of w).place ps ≡ true → among (arc_of w).transition ts ≡ false → among (arc_of w).place Q ≡ false
      → Flags (1024 + (arc_of w).transition) (spare w) (1024 + position (arc_of w).place ps) (arc_of w).weight ((arc_of w).direction + 7) z → Ends N ps ts Q w z
  at_asked : among (arc_of w).place ps ≡ true → among (arc_of w).transition ts ≡ false → among (arc_of w).place Q ≡ true
      → Flags (1024 + (arc_of w).transition) (spare w) (1024 + position (arc_of w).place ps) (arc_of w).weight ((arc_of w).direction + 9) z → Ends N ps ts Q w z
  at_transition : among (arc_of w).place ps ≡ false → among (arc_of w).transition ts ≡ true → capped N (arc_of w).place ≡ false
      → Flags (1024 + position (arc_of w).transition ts) (spare w) (1024 + (arc_of w).place) (arc_of w).weight ((arc_of w).direction + 15) z → Ends N ps ts Q w z
  at_capped : among (arc_of w).place ps ≡ false → among (arc_of w).transition ts ≡ true
      → Flags (1024 + position (arc_of w).transition ts) (spare w) (1024 + (arc_of w).place) (arc_of w).weight ((arc_of w).direction + 14) z → Ends N ps ts Q w z
  neither : (f : ℕ) → 21 ≤ f → among (arc_of w).place ps ≡ false → among (arc_of w).transition ts ≡ false → among (arc_of w).place Q ≡ false
      → Flags (1024 + (arc_of w).transition) (spare w) (1024 + (arc_of w).place) (arc_of w).weight f z → Ends N ps ts Q w z

-- t, d, s, p, g are the arc's numbers, v and u its entries
module _ (t d s p g v u z : ℕ) (sum : z ≡ t + 65536 * d + 16777216 * s + 4294967296 * p + 281474976710656 * g + v + u) (dl : d ≤ 1) (tl : t < 1024) (pl : p < 1024) (gl : g < 65536) (sl : s < 256) where
  flags_both : (a b q : ℕ) → a < 1024 → b < 1024 → q ≤ 1 → v ≡ 4294967296 * (1024 + a - p) + 131072 * q → u ≡ 1 * (1024 + b - t) → Flags (1024 + b) s (1024 + a) g (d + 2 * q) z
  flags_both a b q al bl ql e f = record { least_t = omega arith; small_t = omega arith; small_f = omega arith; small_s = sl; least_p = omega arith; small_p = omega arith; small_g = gl; sum = omega arith }

  flags_place : (a : ℕ) → a < 1024 → v ≡ 4294967296 * (1024 + a - p) → u ≡ left_transition → Flags (1024 + t) s (1024 + a) g (d + 7) z
  flags_place a al e f = record { least_t = omega arith; small_t = omega arith; small_f = omega arith; small_s = sl; least_p = omega arith; small_p = omega arith; small_g = gl; sum = omega arith }

  flags_asked : (a : ℕ) → a < 1024 → v ≡ 4294967296 * (1024 + a - p) + 131072 → u ≡ left_transition → Flags (1024 + t) s (1024 + a) g (d + 9) z
  flags_asked a al e f = record { least_t = omega arith; small_t = omega arith; small_f = omega arith; small_s = sl; least_p = omega arith; small_p = omega arith; small_g = gl; sum = omega arith }

  flags_transition : (b : ℕ) → b < 1024 → v ≡ left_place → u ≡ 1 * (1024 + b - t) → Flags (1024 + b) s (1024 + p) g (d + 15) z
  flags_transition b bl e f = record { least_t = omega arith; small_t = omega arith; small_f = omega arith; small_s = sl; least_p = omega arith; small_p = omega arith; small_g = gl; sum = omega arith }

  flags_capped : (b : ℕ) → b < 1024 → v ≡ left_capped → u ≡ 1 * (1024 + b - t) → Flags (1024 + b) s (1024 + p) g (d + 14) z
  flags_capped b bl e f = record { least_t = omega arith; small_t = omega arith; small_f = omega arith; small_s = sl; least_p = omega arith; small_p = omega arith; small_g = gl; sum = omega arith }

  flags_neither : v ≡ left_place → u ≡ left_transition → Flags (1024 + t) s (1024 + p) g (d + 22) z
  flags_neither e f = record { least_t = omega arith; small_t = omega arith; small_f = omega arith; small_s = sl; least_p = omega arith; small_p = omega arith; small_g = gl; sum = omega arith }

  flags_neither_capped : v ≡ left_capped → u ≡ left_transition → Flags (1024 + t) s (1024 + p) g (d + 21) z
  flags_neither_capped e f = record { least_t = omega arith; small_t = omega arith; small_f = omega arith; small_s = sl; least_p = omega arith; small_p = omega arith; small_g = gl; sum = omega arith }

module _ (plan : List ℕ) (hp : Header) (slice : List ℕ) (hs : Header) (Q places transitions : List ℕ) (r : Ready plan hp slice hs Q places transitions) (w : ℕ) (wl : w < 18446744073709551616) (good : ArcGood hp.places hp.transitions (arc_of w)) where
  pub own-place : among (arc_of w).place (slice_from slice hs).place_origins ≡ true → position (arc_of w).place (slice_from slice hs).place_origins < 1024
  own-place e = omega (arith, position-lt _ _ (holds _ e), length-words slice hs.originstart hs.places, r.sliced.placed.places)

  pub own-transition : among (arc_of w).transition (slice_from slice hs).transition_origins ≡ true → position (arc_of w).transition (slice_from slice hs).transition_origins < 1024
  own-transition e = omega (arith, position-lt _ _ (holds _ e), length-words slice (hs.originstart + 2 * hs.places) hs.transitions, r.sliced.placed.transitions)

  module _ (z : ℕ) (is : z ≡ joined_of w places transitions) where
    sum_is : z ≡ (arc_of w).transition + 65536 * (arc_of w).direction + 16777216 * spare w + 4294967296 * (arc_of w).place + 281474976710656 * (arc_of w).weight + get_or places (arc_of w).place 0 + get_or transitions (arc_of w).transition 0
    sum_is = is ∙ ap (λ (n : ℕ). n + get_or places (arc_of w).place 0 + get_or transitions (arc_of w).transition 0) (whole w)

    few_transitions : (arc_of w).transition < 1024
    few_transitions = omega (arith, good.transition, r.planned.placed.transitions)

    few_places : (arc_of w).place < 1024
    few_places = omega (arith, good.place, r.planned.placed.places)

    light : (arc_of w).weight < 65536
    light = omega (arith, wl)

    spare_lt : spare w < 256
    spare_lt = omega arith

    transition-in : among (arc_of w).transition (slice_from slice hs).transition_origins ≡ true → get_or transitions (arc_of w).transition 0 ≡ 1 * (1024 + position (arc_of w).transition (slice_from slice hs).transition_origins - (arc_of w).transition)
    transition-in e = r.transition_entry _ good.transition ∙ numbered-in 1 _ left_transition _ e

    transition-out : among (arc_of w).transition (slice_from slice hs).transition_origins ≡ false → get_or transitions (arc_of w).transition 0 ≡ left_transition
    transition-out e = r.transition_entry _ good.transition ∙ numbered-out 1 _ left_transition _ e

    -- what stands for the place where it is left out
    abbrev pub left : ℕ
    left = either (capped (net_from plan hp) (arc_of w).place) left_capped left_place

    abbrev pub W : List ℕ
    W = watched plan hp slice hs Q

    place-plain : among (arc_of w).place (slice_from slice hs).place_origins ≡ true → among (arc_of w).place W ≡ false → get_or places (arc_of w).place 0 ≡ 4294967296 * (1024 + position (arc_of w).place (slice_from slice hs).place_origins - (arc_of w).place)
    place-plain e q = r.place_entry _ good.place ∙ marked-out W _ _ q ∙ numbered-in 4294967296 _ left _ e

    place-asked : among (arc_of w).place (slice_from slice hs).place_origins ≡ true → among (arc_of w).place W ≡ true → get_or places (arc_of w).place 0 ≡ 4294967296 * (1024 + position (arc_of w).place (slice_from slice hs).place_origins - (arc_of w).place) + 131072
    place-asked e q = r.place_entry _ good.place ∙ marked-in W _ _ q ∙ ap flagged (numbered-in 4294967296 _ left _ e) ∙ flagged-whole (1024 + position (arc_of w).place (slice_from slice hs).place_origins - (arc_of w).place)

    place_out : among (arc_of w).place (slice_from slice hs).place_origins ≡ false → among (arc_of w).place W ≡ false → (b : Bool) → capped (net_from plan hp) (arc_of w).place ≡ b → get_or places (arc_of w).place 0 ≡ either b left_capped left_place
    place_out e q b k = r.place_entry _ good.place ∙ marked-out W _ _ q ∙ numbered-out 4294967296 _ left _ e ∙ ap (λ (c : Bool). either c left_capped left_place) k

    pub ends : Ends (net_from plan hp) (slice_from slice hs).place_origins (slice_from slice hs).transition_origins W w z
    ends =
        by_cases (among (arc_of w).place (slice_from slice hs).place_origins)
        (λ kp. by_cases (among (arc_of w).transition (slice_from slice hs).transition_origins)
        (λ kt. by_cases (among (arc_of w).place W)
        (λ kq. both 1 (omega arith) kp kt (flags_both _ _ _ _ _ _ _ z sum_is good.direction few_transitions few_places light spare_lt _ _ 1 (own-place kp) (own-transition kt) (omega arith) (omega (arith, place-asked kp kq)) (transition-in kt)))
        (λ kq. both 0 (omega arith) kp kt (flags_both _ _ _ _ _ _ _ z sum_is good.direction few_transitions few_places light spare_lt _ _ 0 (own-place kp) (own-transition kt) (omega arith) (omega (arith, place-plain kp kq)) (transition-in kt))))
        (λ kt. by_cases (among (arc_of w).place W)
        (λ kq. at_asked kp kt kq (flags_asked _ _ _ _ _ _ _ z sum_is good.direction few_transitions few_places light spare_lt _ (own-place kp) (place-asked kp kq) (transition-out kt)))
        (λ kq. at_place kp kt kq (flags_place _ _ _ _ _ _ _ z sum_is good.direction few_transitions few_places light spare_lt _ (own-place kp) (place-plain kp kq) (transition-out kt)))))
        (λ kp. by_cases (among (arc_of w).place W)
        (λ kq. apart (r.watches _ kq) kp)
        (λ kq. by_cases (among (arc_of w).transition (slice_from slice hs).transition_origins)
        (λ kt. by_cases (capped (net_from plan hp) (arc_of w).place)
        (λ kc. at_capped kp kt (flags_capped _ _ _ _ _ _ _ z sum_is good.direction few_transitions few_places light spare_lt _ (own-transition kt) (place_out kp kq true kc) (transition-in kt)))
        (λ kc. at_transition kp kt kc (flags_transition _ _ _ _ _ _ _ z sum_is good.direction few_transitions few_places light spare_lt _ (own-transition kt) (place_out kp kq false kc) (transition-in kt))))
        (λ kt. by_cases (capped (net_from plan hp) (arc_of w).place)
        (λ kc. neither _ (omega arith) kp kt kq (flags_neither_capped _ _ _ _ _ _ _ z sum_is good.direction few_transitions few_places light spare_lt (place_out kp kq true kc) (transition-out kt)))
        (λ kc. neither _ (omega arith) kp kt kq (flags_neither _ _ _ _ _ _ _ z sum_is good.direction few_transitions few_places light spare_lt (place_out kp kq false kc) (transition-out kt))))))

-- ---- what the sum tells

eight : (d : ℕ) → d ≡ 1 → (d + 7) / 8 % 2 ≡ 0 → ⊥
eight d e f = let g : ◌≡◌ {A = ℕ} 1 0 = rw e at f in omega arith

fifteen : (d : ℕ) → d ≡ 0 → (d + 15) / 8 % 2 ≡ 0 → ⊥
fifteen d e f = let g : ◌≡◌ {A = ℕ} 1 0 = rw e at f in omega arith

module _ {N : Net} {ps ts Q : List ℕ} {w z : ℕ} (dl : (arc_of w).direction ≤ 1) where
  pub sum_below : Ends N ps ts Q w z → z < 18446744073709551616
  sum_below (both q ql kp kt x) = below x
  sum_below (at_place kp kt kq x) = below x
  sum_below (at_asked kp kt kq x) = below x
  sum_below (at_transition kp kt kc x) = below x
  sum_below (at_capped kp kt x) = below x
  sum_below (neither n l kp kt kq x) = below x

  -- both ends are kept
  pub ends_kept : Ends N ps ts Q w z → kept_of z ≡ true → (among (arc_of w).place ps && among (arc_of w).transition ts) ≡ true
  ends_kept (both q ql kp kt x) k = rw (kp, kt)
  ends_kept (at_place kp kt kq x) k = absurd (omega (arith, (few_flags x k).0))
  ends_kept (at_asked kp kt kq x) k = absurd (omega (arith, (few_flags x k).0))
  ends_kept (at_transition kp kt kc x) k = absurd (omega (arith, (few_flags x k).0))
  ends_kept (at_capped kp kt x) k = absurd (omega (arith, (few_flags x k).0))
  ends_kept (neither n l kp kt kq x) k = absurd (omega (arith, (few_flags x k).0))

  -- and an arc of the slice that is like the sum is the one due
  pub due_arc : Ends N ps ts Q w z → kept_of z ≡ true → (own : ℕ) → ArcGood 1024 1024 (arc_of own) → Alike z own → arc_of own ≡ renumber ps ts (arc_of w)
  unfolding renumber
  due_arc (both q ql kp kt x) k own g like =
      let e = own_is x x.small_p (arc_of w).direction dl q ql refl (few_flags x k).1 (arc_of own).transition (arc_of own).direction (spare own) (arc_of own).place (arc_of own).weight own g.transition g.direction (spare_below own) g.place (whole own) like in
      let t : (arc_of own).transition ≡ position (arc_of w).transition ts = e.0 ∙ less (position (arc_of w).transition ts) in
      let p : (arc_of own).place ≡ position (arc_of w).place ps = e.2 ∙ less (position (arc_of w).place ps) in
      λ i. record { transition = t i; direction = e.1 i; place = p i; weight = e.3 i }
    where
      less : (a : ℕ) → 1024 + a - 1024 ≡ a
      less a = omega arith

      spare_below : (v : ℕ) → spare v < 256
      spare_below v = omega arith
  due_arc (at_place kp kt kq x) k own g like = absurd (omega (arith, (few_flags x k).0))
  due_arc (at_asked kp kt kq x) k own g like = absurd (omega (arith, (few_flags x k).0))
  due_arc (at_transition kp kt kc x) k own g like = absurd (omega (arith, (few_flags x k).0))
  due_arc (at_capped kp kt x) k own g like = absurd (omega (arith, (few_flags x k).0))
  due_arc (neither n l kp kt kq x) k own g like = absurd (omega (arith, (few_flags x k).0))

  -- an end is left out
  pub end_out : Ends N ps ts Q w z → spare w ≡ 0 → kept_of z ≡ false → (among (arc_of w).place ps && among (arc_of w).transition ts) ≡ false
  end_out (both q ql kp kt x) n k = absurd (omega (arith, many_flags x k n))
  end_out (at_place kp kt kq x) n k = rw (kp, kt)
  end_out (at_asked kp kt kq x) n k = rw (kp, kt)
  end_out (at_transition kp kt kc x) n k = rw kp
  end_out (at_capped kp kt x) n k = rw kp
  end_out (neither m l kp kt kq x) n k = rw kp

  -- nothing wants a closer look
  pub arc-fine : (d : ℕ) → Ends N ps ts Q w z → odd_of z ≡ false → Fine N ps ts Q d (arc_of w)
  arc-fine d (both q ql kp kt x) o = record { fed = λ g t n. kp; unchanged = λ g t q. apart kt t; unraised = λ g t p n. apart kt t; held = λ g t n c. kp }
  arc-fine d (at_place kp kt kq x) o = record { fed = λ g t n. kp; unchanged = λ g t q. apart q kq; unraised = λ g t p n. absurd (eight (arc_of w).direction n (even_flags x o)); held = λ g t n c. kp }
  arc-fine d (at_asked kp kt kq x) o = absurd (omega (arith, even_flags x o))
  arc-fine d (at_transition kp kt kc x) o = record { fed = λ g t n. absurd (fifteen (arc_of w).direction n (even_flags x o)); unchanged = λ g t q. apart kt t; unraised = λ g t p n. apart kt t; held = λ g t n c. apart c kc }
  arc-fine d (at_capped kp kt x) o = absurd (omega (arith, even_flags x o))
  arc-fine d (neither n l kp kt kq x) o = record { fed = λ g t n. apart t kt; unchanged = λ g t q. apart q kq; unraised = λ g t p n. apart p kp; held = λ g t n c. apart t kt }

  -- the flags of an arc that the effect decides
  pub raising : Ends N ps ts Q w z → z / 65536 % 65536 ≡ 8 → (among (arc_of w).transition ts ≡ false) × (among (arc_of w).place Q ≡ false)
  raising (both q ql kp kt x) e = absurd (omega (arith, flags_at x))
  raising (at_place kp kt kq x) e = (kt, kq)
  raising (at_asked kp kt kq x) e = absurd (omega (arith, flags_at x))
  raising (at_transition kp kt kc x) e = absurd (omega (arith, flags_at x))
  raising (at_capped kp kt x) e = absurd (omega (arith, flags_at x))
  raising (neither n l kp kt kq x) e = absurd (omega (arith, flags_at x))

  pub changing : Ends N ps ts Q w z → 9 ≤ z / 65536 % 65536 → z / 65536 % 65536 ≤ 10 → among (arc_of w).transition ts ≡ false
  changing (both q ql kp kt x) e f = absurd (omega (arith, flags_at x))
  changing (at_place kp kt kq x) e f = kt
  changing (at_asked kp kt kq x) e f = kt
  changing (at_transition kp kt kc x) e f = absurd (omega (arith, flags_at x))
  changing (at_capped kp kt x) e f = absurd (omega (arith, flags_at x))
  changing (neither n l kp kt kq x) e f = kt

-- ---- the arc due, as one word

-- a sum of two ends that are kept: its own numbers are 1024 more each, and it may have the criterion's mark
module _ (t p g d q z : ℕ) (sum : z ≡ t + 65536 * (d + 2 * q) + 4294967296 * p + 281474976710656 * g) (dl : d ≤ 1) (ql : q ≤ 1) (tl : 1024 ≤ t) (th : t < 2048) (pl : 1024 ≤ p) (ph : p < 2048) where
  mark_at : z / 131072 % 2 ≡ q
  mark_at = let e : z ≡ t + 65536 * d + 131072 * (q + 2 * (16384 * p + 1073741824 * g)) = omega arith in by_mark z (t + 65536 * d) q (16384 * p + 1073741824 * g) e (omega arith) ql
    where
      by_mark : (z u q m : ℕ) → z ≡ u + 131072 * (q + 2 * m) → u < 131072 → q ≤ 1 → z / 131072 % 2 ≡ q
      by_mark z u q m e l h = omega arith

  due_low : 4398046512128 + z / 131072 % 2 * 131072 ≤ z
  due_low = omega (arith, mark_at)

  due_parts : due_of z ≡ (t - 1024) + 65536 * d + 16777216 * 0 + 4294967296 * (p - 1024) + 281474976710656 * g
  due_parts = omega (arith, mark_at)

module _ {N : Net} {ps ts Q : List ℕ} {w z : ℕ} (dl : (arc_of w).direction ≤ 1) (plain : spare w ≡ 0) where
  pub due_fits : Ends N ps ts Q w z → kept_of z ≡ true → 4398046512128 + z / 131072 % 2 * 131072 ≤ z
  due_fits (both q ql kp kt x) k = due_low _ _ (arc_of w).weight (arc_of w).direction q z (omega (arith, x.sum, plain)) dl ql x.least_t x.small_t x.least_p x.small_p
  due_fits (at_place kp kt kq x) k = absurd (omega (arith, (few_flags x k).0))
  due_fits (at_asked kp kt kq x) k = absurd (omega (arith, (few_flags x k).0))
  due_fits (at_transition kp kt kc x) k = absurd (omega (arith, (few_flags x k).0))
  due_fits (at_capped kp kt x) k = absurd (omega (arith, (few_flags x k).0))
  due_fits (neither n l kp kt kq x) k = absurd (omega (arith, (few_flags x k).0))

  -- the word of the arc due
  pub due_word : Ends N ps ts Q w z → kept_of z ≡ true → due_of z ≡ position (arc_of w).transition ts + 65536 * (arc_of w).direction + 16777216 * 0 + 4294967296 * position (arc_of w).place ps + 281474976710656 * (arc_of w).weight
  due_word (both q ql kp kt x) k = omega (arith, due_parts _ _ (arc_of w).weight (arc_of w).direction q z (omega (arith, x.sum, plain)) dl ql x.least_t x.small_t x.least_p x.small_p)
  due_word (at_place kp kt kq x) k = absurd (omega (arith, (few_flags x k).0))
  due_word (at_asked kp kt kq x) k = absurd (omega (arith, (few_flags x k).0))
  due_word (at_transition kp kt kc x) k = absurd (omega (arith, (few_flags x k).0))
  due_word (at_capped kp kt x) k = absurd (omega (arith, (few_flags x k).0))
  due_word (neither n l kp kt kq x) k = absurd (omega (arith, (few_flags x k).0))

  module _ (z-ends : Ends N ps ts Q w z) (k : kept_of z ≡ true) (tl : position (arc_of w).transition ts < 65536) (pl : position (arc_of w).place ps < 65536) (wl : (arc_of w).weight < 65536) (v : ℕ) where
    -- equal words, equal arcs
    pub word-arc : v ≡ due_of z → arc_of v ≡ renumber ps ts (arc_of w)
    unfolding renumber
    word-arc e =
        let f = e ∙ due_word z-ends k in
        λ i. record {
          transition = field_transition v _ _ 0 _ _ f tl (omega arith) (omega arith) pl wl i;
          direction = field_direction v _ _ 0 _ _ f tl (omega arith) (omega arith) pl wl i;
          place = field_place v _ _ 0 _ _ f tl (omega arith) (omega arith) pl wl i;
          weight = field_weight v _ _ 0 _ _ f tl (omega arith) (omega arith) pl wl i;
        }

    pub arc-word : spare v ≡ 0 → arc_of v ≡ renumber ps ts (arc_of w) → v ≡ due_of z
    unfolding renumber
    arc-word n e =
        let a = ap (λ (a : Arc). a.transition) e in
        let b = ap (λ (a : Arc). a.direction) e in
        let c = ap (λ (a : Arc). a.place) e in
        let g = ap (λ (a : Arc). a.weight) e in
        whole v ∙ by_fields a b n c g ∙ sym (due_word z-ends k)
      where
        by_fields : {t t' d d' s p p' g g' : ℕ} → t ≡ t' → d ≡ d' → s ≡ 0 → p ≡ p' → g ≡ g' → t + 65536 * d + 16777216 * s + 4294967296 * p + 281474976710656 * g ≡ t' + 65536 * d' + 16777216 * 0 + 4294967296 * p' + 281474976710656 * g'
        by_fields a b n c g = omega arith
