-- The arcs of one transition and direction by their places: the sum at one place.
use Prim.Native.Nat.{ℕ, zero, suc, ◌+◌, ◌-◌, ◌*◌, ◌≤◌, ◌<◌}
use mathlib.Core.Path.{◌≡◌, sym, ap, ◌∙◌}
use mathlib.Core.List.{List}
use native.Mathlib.Omega.{arith}
use Rattle.file_arcs.specs.Layout.{arc_at}
use Rattle.net.specs.declared.Arc.{Arc}
use Rattle.arcs_column.specs.Gain.{sum_to, part}
use Rattle.arcs_column.proofs.Sums.{sum_next, part-here, part-other}
use Rattle.arcs_effect.specs.Runs.{Within, FromPlace}

-- the place of arc i
abbrev pub place_at : List ℕ → ℕ → ℕ → ℕ
place_at s start i = (arc_at s (start + 8 * i)).place

-- arcs at other places add nothing
skip_by : (s : List ℕ) (start p a k : ℕ) → ((i : ℕ) → a ≤ i → i < a + k → (arc_at s (start + 8 * i)).place ≡ p → ⊥) → sum_to s start p (a + k) ≡ sum_to s start p a
skip_by s start p a zero h = ap (sum_to s start p) (let e : a + 0 ≡ a = omega arith in e)
skip_by s start p a (suc k) h =
    let e : a + suc k ≡ a + k + 1 = omega arith in
    ap (sum_to s start p) e ∙ sum_next s start p (a + k)
    ∙ (let z = part-other (arc_at s (start + 8 * (a + k))) p (h (a + k) (omega arith) (omega arith)) in
    let r = skip_by s start p a k (λ i l m. h i l (omega (arith, m))) in
    omega (arith, z, r))

pub skip : (s : List ℕ) (start p a b : ℕ) → a ≤ b → ((i : ℕ) → a ≤ i → i < b → (arc_at s (start + 8 * i)).place ≡ p → ⊥) → sum_to s start p b ≡ sum_to s start p a
skip s start p a b l h =
    let e : a + (b - a) ≡ b = omega arith in
    ap (sum_to s start p) (sym e) ∙ skip_by s start p a (b - a) (λ i f g. h i f (omega (arith, g, l)))

-- the sum so far, j arcs being gone through
pub record Summed (s : List ℕ) (start from to p sum j : ℕ) : Type 0 where
  pub run : Within s start from to
  pub first : ℕ
  pub found : FromPlace s start from to p first
  pub after : first ≤ j
  pub within : j ≤ to
  pub bound : sum + 65535 * (4096 - j) ≤ 268431360
  pub same : sum_to s start p from + sum ≡ sum_to s start p j

pub summed_start : {s : List ℕ} {start from to p r : ℕ} → Within s start from to → FromPlace s start from to p r → Summed s start from to p 0 r
summed_start {s} {start} {from} {to} {p} {r} w f = record {
  run = w;
  first = r;
  found = f;
  after = omega arith;
  within = f.within;
  bound = omega arith;
  same = omega (arith, skip s start p from r f.after (λ i l m e. omega (arith, e, f.below i l m)));
}

module _ {s : List ℕ} {start from to p sum j : ℕ} (x : Summed s start from to p sum j) where
  pub summed_next : {a : Arc} → a ≡ arc_at s (start + 8 * j) → a.place ≡ p → a.weight < 65536 → j < to → Summed s start from to p (sum + a.weight) (j + 1)
  summed_next {a} e q l m = record {
    run = x.run;
    first = x.first;
    found = x.found;
    after = omega (arith, x.after);
    within = omega (arith, m);
    bound = omega (arith, x.bound, l, m, x.run.few);
    same = omega (arith, x.same, sum_next s start p j, ap (part p) e, part-here a p q);
  }

  -- at a higher place: no arc is left
  pub summed_past : {a : Arc} → a ≡ arc_at s (start + 8 * j) → (a.place ≡ p → ⊥) → j < to → (sum_to s start p from + sum ≡ sum_to s start p to) × (sum ≤ 268431360)
  summed_past {a} e q l =
      let here = ap (λ (b : Arc). b.place) e in (
        x.same
            ∙ sym (skip s start p j to (omega (arith, l)) (λ i f g z. q (omega (arith, here, z, x.run.order j i (omega (arith, x.found.after, x.after)) f g, x.found.above j x.after l)))),
        omega (arith, x.bound),
      )

  pub summed_end : to ≤ j → (sum_to s start p from + sum ≡ sum_to s start p to) × (sum ≤ 268431360)
  summed_end l =
      let e : j ≡ to = omega (arith, l, x.within) in
      (x.same ∙ ap (sum_to s start p) e, omega (arith, x.bound))
