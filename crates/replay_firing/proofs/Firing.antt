-- A firing takes the inputs of a transition and gives its outputs; undone, it takes the outputs and gives the inputs.
use Prim.Native.Nat.{ℕ, ◌+◌, ◌*◌, ◌<◌, ◌≤◌}
use mathlib.Core.Path.{◌≡◌, sym, ap, subst, ◌∙◌}
use mathlib.Core.List.{List}
use native.Mathlib.Omega.{arith}
use native.Mathlib.Decide.{dec_lt}
use lib.ListN.{length, get_or, get_or-eq_default}
use Rattle.net.specs.Net.{Marking, input, output, fire, weight_on}
use Rattle.file_arcs.specs.Layout.{arc_at, arcs_from}
use Rattle.file.specs.Layout.{net_from}
use Rattle.file.specs.Facts.{Sound}
use Rattle.file_header.specs.declared.Header.{Header}
use Rattle.file_arcs.proofs.Rows.{weight_le}
use Rattle.file.proofs.Rows.{good_at}
use Rattle.arcs_starts.specs.Table.{Split}
use Rattle.arcs_column.specs.Gain.{sum_to, Run, Takes, Gives}
use Rattle.arcs_column.proofs.Arcs.{none_past}
use Rattle.arcs_column.proofs.Weights as weights
use Rattle.replay_steps.specs.Steps.{held, Ready, Holds}
use Rattle.replay_steps.proofs.Underway.{split_by}
use Rattle.replay_firing.specs.Firing.{unfired}

pub arcs_fit_lem : {s : List ℕ} {h : Header} → Sound s h → h.arcstart + 8 * h.arcs ≤ length s
arcs_fit_lem w = omega (arith, w.placed.arcs_fit, w.placed.origins_fit)

-- the inputs of t are the arcs from..middle, its outputs the arcs middle..to
pub record Runs (s : List ℕ) (h : Header) (t from middle to : ℕ) : Type 0 where
  pub first : from ≤ middle
  pub second : middle ≤ to
  pub within : to ≤ h.arcs
  pub few : h.arcs ≤ 4096
  pub inputs : (p : ℕ) → sum_to s h.arcstart p middle ≡ sum_to s h.arcstart p from + input (net_from s h) p t
  pub outputs : (p : ℕ) → sum_to s h.arcstart p to ≡ sum_to s h.arcstart p middle + output (net_from s h) p t
  pub taken : (p : ℕ) → input (net_from s h) p t ≤ 65535 * h.arcs
  pub given : (p : ℕ) → output (net_from s h) p t ≤ 65535 * h.arcs

module _ {s : List ℕ} {h : Header} {table m : List ℕ} (r : Ready s h table m) where
  abbrev start : ℕ
  start = h.arcstart

  -- the arcs of t in direction d
  module _ (d t b e : ℕ) (l : d ≤ 1) (low : Split s h.arcstart h.arcs (2 * t + d) b) (high : Split s h.arcstart h.arcs (2 * t + d + 1) e) where
    ways : (i : ℕ) → i < h.arcs → (arc_at s (h.arcstart + 8 * i)).direction ≤ 1
    ways i u = (good_at s h r.sound i u).direction

    rises : b ≤ e
    rises = weights.rising d 0 t s start h.arcs b e l ways low high

    sums : (p : ℕ) → sum_to s h.arcstart p e ≡ sum_to s h.arcstart p b + weight_on d p t (arcs_from s h.arcstart h.arcs)
    sums p = weights.weight_run d p t s start h.arcs b e l ways low high

  -- where the arcs of t start, by the table
  pub runs : {t from middle to : ℕ} → t < h.transitions → from ≡ get_or table (2 * t) 0 → middle ≡ get_or table (2 * t + 1) 0 → to ≡ get_or table (2 * t + 2) 0 → Runs s h t from middle to
  unfolding input output
  runs {t} {from} {middle} {to} l e f g =
      let inputs : Split s start h.arcs (2 * t + 0) from = split_by r (2 * t + 0) (omega arith) (e ∙ same (omega arith)) in
      let outputs = split_by r (2 * t + 1) (omega arith) f in
      let past : Split s start h.arcs (2 * t + 1 + 1) to = split_by r (2 * t + 1 + 1) (omega arith) (g ∙ same (omega arith)) in
      let middle' : Split s start h.arcs (2 * t + 0 + 1) middle = split_by r (2 * t + 0 + 1) (omega arith) (f ∙ same (omega arith)) in
      record {
        first = rises 0 t from middle (omega arith) inputs middle';
        second = rises 1 t middle to (omega arith) outputs past;
        within = past.within;
        few = r.sound.placed.arcs;
        inputs = sums 0 t from middle (omega arith) inputs middle';
        outputs = sums 1 t middle to (omega arith) outputs past;
        taken = λ p. weight_le 0 p t s r.bytes start h.arcs;
        given = λ p. weight_le 1 p t s r.bytes start h.arcs;
      }
    where
      same : {k k' : ℕ} → k ≡ k' → get_or table k 0 ≡ get_or table k' 0
      same q = ap (λ (k : ℕ). get_or table k 0) q

  pub run_of : {n from to : ℕ} → n ≡ h.places → from ≤ to → to ≤ h.arcs → Run s h.arcstart from to n
  run_of {n} {from} {to} e l u =
      subst (λ (P : ℕ). Run s h.arcstart from to P) (sym e)
      (record { rising = l; fit = omega (arith, arcs_fit_lem r.sound); short = r.sound.placed.short; places = λ i a. (good_at s h r.sound i (omega arith)).place })

  -- what is taken from m, and given then: the marking that is held, place by place; past the places there is none
  module _ {a b c e : ℕ} {m₁ m₂ : List ℕ} (takes : Takes s h.arcstart a b m m₁) (gives : Gives s h.arcstart c e m₁ m₂) where
    pub turned : (M : Marking) → ((p : ℕ) → h.places ≤ p → M p ≡ 0)
        → ((p : ℕ) → get_or m₁ p 0 + sum_to s h.arcstart p b ≡ get_or m p 0 + sum_to s h.arcstart p a → get_or m₂ p 0 + sum_to s h.arcstart p c ≡ get_or m₁ p 0 + sum_to s h.arcstart p e → get_or m₂ p 0 ≡ M p)
        → Holds m m₂ M
    turned M off here = record { long = gives.long ∙ takes.long; at = λ p. go p (dec_lt p h.places) }
      where
        go : (p : ℕ) → Dec (p < h.places) → get_or m₂ p 0 ≡ M p
        go p (yes l) = here p (takes.at p) (gives.at p (omega (arith, l, takes.long, r.places)))
        go p (no l) = get_or-eq_default m₂ 0 {n = p} (omega (arith, l, gives.long, takes.long, r.places)) ∙ sym (off p (omega (arith, l)))

  -- no tokens past the places
  none_held : (p : ℕ) → h.places ≤ p → get_or m p 0 ≡ 0
  none_held p l = get_or-eq_default m 0 {n = p} (omega (arith, r.places))

  pub fire-off : (t p : ℕ) → h.places ≤ p → fire (net_from s h) t (held m) p ≡ 0
  unfolding fire output
  fire-off t p l = omega (arith, none_held p l, none_past s h r.sound 1 p t l)

  pub unfired-off : (t p : ℕ) → h.places ≤ p → unfired (net_from s h) t (held m) p ≡ 0
  unfolding input
  unfired-off t p l = omega (arith, none_held p l, none_past s h r.sound 0 p t l)
