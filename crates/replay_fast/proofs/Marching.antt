-- Firings by the arcs of a transition: one that is done, and one that is undone.
use Rattle.std.proofs.Common.{◌≡◌, ℕ, ◌+◌, ◌-◌, ◌*◌, ◌<◌, ◌≤◌, List, length, get_or, sym, ◌∙◌, subst, arith, ext_get_or}
use native.Mathlib.Decide.{dec_lt}
use lib.ListN.{get_or-eq_default}
use Rattle.net.specs.Net.{WithinCaps, Supplied, Enabled, input, output, fire}
use Rattle.file_arcs.specs.Layout.{arc_at}
use Rattle.file.specs.Layout.{net_from}
use Rattle.file_header.specs.declared.Header.{Header}
use Rattle.arcs_starts.specs.Table.{slot_at, Split}
use Rattle.arcs_starts.proofs.Reached.{order_at}
use Rattle.arcs_column.proofs.Arcs.{none_past}
use Rattle.file.proofs.Rows.{good_at}
use Rattle.arcs_column.proofs.Stretch.{Stretch, rises, own, sums, small}
use Rattle.arcs_column.proofs.Ways.{sum-quiet, sum-rises}
use Rattle.replay_steps.specs.Steps.{held, Ready, Underway}
use Rattle.replay_fast.specs.Moves.{lift_at, Movable, Moved, Whole, Shifted, Roomy, Indexed}
use Rattle.replay_steps.proofs.Underway.{split_by, fired_on_lem}
use Rattle.replay_fast.proofs.Caps.{within}

-- firing k moves the entries by the arcs from..to: it can, it can be undone, and where no input took more than the tokens and no place is above its cap it was a firing
pub record Step (s : List ℕ) (h : Header) (ts was is : List ℕ) (k from to : ℕ) : Type 0 where
  pub shifting : Movable s h from to is
  pub undoing : (is' : List ℕ) (v : ℕ) → Shifted s h.arcstart from to is is' v → Movable s h from to is'
  pub undone : (is' is'' : List ℕ) (v : ℕ) → Shifted s h.arcstart from to is is' v → Moved 1 0 s h.arcstart from to is' is'' → Underway s h ts was is'' k
  pub leaving : (r : ℕ) → from ≤ r → r < to → (is' : List ℕ) → Moved 0 1 s h.arcstart from (r + 1) is is' → Movable s h from (r + 1) is'
  pub left : (r : ℕ) → (is' is'' : List ℕ) → Moved 0 1 s h.arcstart from (r + 1) is is' → Moved 1 0 s h.arcstart from (r + 1) is' is'' → Underway s h ts was is'' k
  pub fits : (is' : List ℕ) (v : ℕ) → Shifted s h.arcstart from to is is' v → v < 9223372036854775808 → Roomy s h from to is' → WithinCaps (net_from s h) (held is')
  pub fired : (is' : List ℕ) (v : ℕ) → Shifted s h.arcstart from to is is' v → v < 9223372036854775808 → WithinCaps (net_from s h) (held is') → Underway s h ts was is' (k + 1)

-- the arcs of t, in a table by slots, and in one by transitions
module _ {s : List ℕ} {h : Header} {table m : List ℕ} {t from to : ℕ} (known : t < h.transitions) where
  by_slots : Ready s h table m → from ≡ get_or table (2 * t) 0 → to ≡ get_or table (2 * t + 2) 0 → Stretch s h t from to
  by_slots r p q = record { bytes = r.bytes; sound = r.sound; start = split_by r (2 * t) (omega arith) p; end = split_by r (2 * t + 2) (omega arith) q }

  by_transitions : Indexed s h table m → from ≡ get_or table t 0 → to ≡ get_or table (t + 1) 0 → Stretch s h t from to
  by_transitions r p q =
      let next : 2 * (t + 1) ≡ 2 * t + 2 = omega arith in
      record {
        bytes = r.bytes;
        sound = r.sound;
        start = subst (Split s h.arcstart h.arcs (2 * t)) (sym p) (r.firsts t (omega arith));
        end = subst (Split s h.arcstart h.arcs (2 * t + 2)) (sym q) (rw next at (r.firsts (t + 1) (omega arith)));
      }

module _ {s : List ℕ} {h : Header} {ts was is : List ℕ} {k : ℕ} (places : length was ≡ h.places) (x : Underway s h ts was is k) where
  module _ (l : k < length ts) {from to : ℕ} (run : Stretch s h (get_or ts k 0) from to) where
    abbrev t : ℕ
    t = get_or ts k 0

    abbrev start : ℕ
    start = h.arcstart

    -- no arc of t before an input is an output
    inputs_first : (j : ℕ) → from ≤ j → j < to → (arc_at s (h.arcstart + 8 * j)).direction ≡ 0 → (i : ℕ) → from ≤ i → i < j + 1 → (arc_at s (h.arcstart + 8 * i)).direction ≡ 1 → ⊥
    unfolding slot_at
    inputs_first j a b z i c d q =
        omega (arith, z, q, own run j a b, own run i c (omega arith), order_at s start 0 h.arcs i j run.sound.order (omega arith) (omega (arith, run.end.within)), (good_at s h run.sound j (omega (arith, run.end.within))).place, run.sound.placed.places)

    movable : {upto : ℕ} → from ≤ upto → upto ≤ to → (m : List ℕ) → length m ≡ length was → ((p : ℕ) → p < length m → 4611686018427387904 ≤ lift_at m p) → ((p : ℕ) → p < length m → lift_at m p < 13835058055282163712) → ((p : ℕ) → get_or m p 0 < 18446744073709551616)
        → Movable s h from upto m
    movable {upto} lo hi m long least most fits = record {
      sound = run.sound;
      bytes = run.bytes;
      rising = lo;
      within = omega (arith, hi, run.end.within);
      held = long ∙ places;
      small = λ d p. omega (arith, sums run d p, small run d p, sum-rises d s start p upto to hi);
      inputs = λ j p a b z. sum-quiet 1 s start p from (j + 1) (omega arith) (inputs_first j a (omega (arith, b, hi)) z);
      least = least;
      most = most;
      fits = fits;
    }

    -- between two firings the entries are the tokens
    low : (p : ℕ) → get_or is p 0 < 140737488355328
    low p = omega (arith, x.low p, x.within, x.listed.short)

    whole : Whole is
    whole p u = omega (arith, low p)

    can_shift : Movable s h from to is
    can_shift = movable (rises run) (omega arith) is x.long (λ p u. omega (arith, low p)) (λ p u. omega (arith, low p)) (λ p. omega (arith, low p))

    -- some of the arcs, moved and moved back
    module _ {upto : ℕ} {is' : List ℕ} (y : Moved 0 1 s h.arcstart from upto is is') where
      can_back : from ≤ upto → upto ≤ to → Movable s h from upto is'
      can_back lo hi =
          movable lo hi is' (y.long ∙ x.long)
          (λ p u.
          let w : p < length is = omega (arith, y.long) in
          omega (arith, y.at p w, low p, sums run 0 p, small run 0 p, sum-rises 0 s start p upto to hi, sum-rises 1 s start p from upto lo))
          (λ p u.
          let w : p < length is = omega (arith, y.long) in
          omega (arith, y.at p w, low p, sums run 1 p, small run 1 p, sum-rises 1 s start p upto to hi, sum-rises 0 s start p from upto lo))
          y.fits

      -- what was moved back is as it was
      undone : {is'' : List ℕ} → Moved 1 0 s h.arcstart from upto is' is'' → Underway s h ts was is'' k
      undone {is''} z =
          subst (λ (m : List ℕ). Underway s h ts was m k)
          (sym (ext_get_or 0 is'' is long (λ p u. omega (arith, at p (omega (arith, long, u)), z.fits p, low p)))) x
        where
          long : length is'' ≡ length is
          long = z.long ∙ y.long

          at : (p : ℕ) → p < length is → lift_at is'' p ≡ lift_at is p
          at p u = omega (arith, y.at p u, z.at p (omega (arith, y.long, u)))

    module _ {is' : List ℕ} {v : ℕ} (y : Shifted s h.arcstart from to is is' v) where
      -- a transition that took no more than the tokens was enabled, and has fired
      module _ (n : v < 9223372036854775808) where
        enabled : (p : ℕ) → input (net_from s h) p (get_or ts k 0) ≤ get_or is p 0
        unfolding input
        enabled p = go (dec_lt p (length is))
          where
            go : Dec (p < length is) → input (net_from s h) p (get_or ts k 0) ≤ get_or is p 0
            go (yes u) = omega (arith, y.enough n whole p u, sums run 0 p, low p)
            go (no u) = omega (arith, none_past s h run.sound 0 p t (omega (arith, u, x.long, places)))

        fired_at_lem : (p : ℕ) → get_or is' p 0 ≡ get_or is p 0 - input (net_from s h) p (get_or ts k 0) + output (net_from s h) p (get_or ts k 0)
        unfolding input output
        fired_at_lem p = go (dec_lt p (length is))
          where
            go : Dec (p < length is) → get_or is' p 0 ≡ get_or is p 0 - input (net_from s h) p (get_or ts k 0) + output (net_from s h) p (get_or ts k 0)
            go (yes u) = omega (arith, y.enough n whole p u, y.moved.at p u, sums run 0 p, sums run 1 p, low p, y.moved.fits p)
            go (no u) =
                omega (
                  arith,
                  none_past s h run.sound 1 p t (omega (arith, u, x.long, places)),
                  get_or-eq_default is 0 {n = p} (omega (arith, u)),
                  get_or-eq_default is' 0 {n = p} (omega (arith, u, y.moved.long)),
                )

        -- no place is above its cap where none of the arcs' is
        fits : Roomy s h from to is' → WithinCaps (net_from s h) (held is')
        fits r = within run r is (λ p e. omega (arith, fired_at_lem p, e)) x.caps

        able : WithinCaps (net_from s h) (held is') → Enabled (net_from s h) (get_or ts k 0) (held is)
        unfolding Enabled Supplied WithinCaps fire
        able w = (λ p u. enabled p, λ p u c. omega (arith, fired_at_lem p, w p u c))

        next : WithinCaps (net_from s h) (held is') → Underway s h ts was is' (k + 1)
        unfolding fire
        next w = fired_on_lem x l run.sound run.bytes (able w) (record { long = y.moved.long; at = fired_at_lem })

    step : Step s h ts was is k from to
    step = record { shifting = can_shift; undoing = λ is' v y. can_back y.moved (rises run) (omega arith); undone = λ is' is'' v y z. undone y.moved z; leaving = λ r a b is' y. can_back y (omega arith) (omega arith); left = λ r is' is'' y z. undone y z; fits = λ is' v y n r. fits y n r; fired = λ is' v y n w. next y n w }

-- a firing of the transition that is listed at k, in each table
module _ {s : List ℕ} {h : Header} {table ts was is : List ℕ} {k t from to : ℕ} (x : Underway s h ts was is k) (l : k < length ts) (e : t ≡ get_or ts k 0) where
  pub step_by_slots : Ready s h table was → from ≡ get_or table (2 * t) 0 → to ≡ get_or table (2 * t + 2) 0 → Step s h ts was is k from to
  step_by_slots r p q = step r.places x l (subst (λ (u : ℕ). Stretch s h u from to) e (by_slots (omega (arith, e, x.listed.known k l)) r p q))

  pub step_by_transitions : Indexed s h table was → from ≡ get_or table t 0 → to ≡ get_or table (t + 1) 0 → Step s h ts was is k from to
  step_by_transitions r p q = step r.places x l (subst (λ (u : ℕ). Stretch s h u from to) e (by_transitions (omega (arith, e, x.listed.known k l)) r p q))
