-- Rows of arcs by what is told so far.
use Prim.Native.Nat.{ℕ, suc, ◌+◌, ◌*◌, ◌-◌, ◌/◌, ◌%◌, ◌≤◌, ◌<◌}
use mathlib.Core.Bool.{Bool}
use mathlib.Core.List.{List}
use mathlib.Core.Path.{◌≡◌, refl, sym, ap, ◌∙◌, subst}
use native.Mathlib.Omega.{arith}
use native.Mathlib.Decide.{dec_lt}
use lib.Dec.{T}
use Rattle.file_header.specs.declared.Header.{Header}
use Rattle.arcs_starts.specs.Table.{Split}
use Rattle.arcs_column.specs.Ways.{transition_at, direction_at, place_at}
use Rattle.arcs_groups.specs.Groups.{Opens}
use Rattle.cut_rows.specs.Rows.{entry_of, Ends}

entry_arc : (j from : ℕ) → j < 4096 → (65536 * suc from + suc j) % 65536 ≡ suc j
entry_arc j from l = omega arith

entry_start : (j from : ℕ) → j < 4096 → (65536 * suc from + suc j) / 65536 ≡ suc from
entry_start j from l = omega arith

module _ (s : List ℕ) (h : Header) where
  -- of no arcs there is none
  pub ends_none : (passes : ℕ → Bool) (d p e : ℕ) → e ≡ 0 → Ends s h passes 0 d p e
  ends_none passes d p e z = rw z (record {
    within = omega arith;
    ends = λ q. refl;
    at = λ j q. absurd (omega arith);
    goes = λ j q. absurd (omega arith);
    passes_it = λ j q. absurd (omega arith);
    begun = λ j q. absurd (omega arith);
    first = λ j q. absurd (omega arith);
    opens = λ j q. absurd (omega arith);
    rest = λ k a b. absurd (omega arith);
  })

  -- the arcs from j to n are the last group of the first n
  pub ends_own : (passes : ℕ → Bool) (j n from : ℕ) → j < 4096 → j < n → ((k : ℕ) → j ≤ k → k < n → transition_at s h.arcstart k ≡ transition_at s h.arcstart j) → Opens s h.arcstart j
      → T (passes (transition_at s h.arcstart j)) → Split s h.arcstart h.arcs (2 * transition_at s h.arcstart j) from
      → Ends s h passes n (direction_at s h.arcstart j) (place_at s h.arcstart j) (entry_of j from)
  ends_own passes j n from l more alike opens m split = record {
    within = omega (arith, entry_arc j from l);
    ends = λ q. absurd (omega (arith, entry_arc j from l, q));
    at = λ i q. ap (place_at s h.arcstart) (is i q);
    goes = λ i q. ap (direction_at s h.arcstart) (is i q);
    passes_it = λ i q. subst (λ (k : ℕ). T (passes (transition_at s h.arcstart k))) (sym (is i q)) m;
    begun = λ i q. omega (arith, entry_start j from l);
    first = λ i q.
        let e : from ≡ entry_of j from / 65536 - 1 = omega (arith, entry_start j from l) in
        subst (λ (k : ℕ). Split s h.arcstart h.arcs (2 * transition_at s h.arcstart k) (entry_of j from / 65536 - 1)) (sym (is i q))
        (subst (Split s h.arcstart h.arcs (2 * transition_at s h.arcstart j)) e split);
    opens = λ i q. subst (Opens s h.arcstart) (sym (is i q)) opens;
    rest = λ k a b at goes y.
        let e : j ≡ entry_of j from % 65536 - 1 = omega (arith, entry_arc j from l) in
        (omega (arith, entry_arc j from l), alike k (omega (arith, entry_arc j from l, a)) b ∙ ap (transition_at s h.arcstart) e);
  }
    where
      is : (i : ℕ) → entry_of j from % 65536 ≡ suc i → i ≡ j
      is i q = omega (arith, entry_arc j from l, q)

  -- more arcs, of which those that pass are of the transition of the entry, and another test that the first pass alike
  pub ends_more : (f g : ℕ → Bool) (i n d p e : ℕ) → i ≤ n
      → ((k : ℕ) → k < i → place_at s h.arcstart k ≡ p → direction_at s h.arcstart k ≡ d → f (transition_at s h.arcstart k) ≡ g (transition_at s h.arcstart k))
      → ((k : ℕ) → i ≤ k → k < n → place_at s h.arcstart k ≡ p → direction_at s h.arcstart k ≡ d → T (g (transition_at s h.arcstart k))
      → (0 < e % 65536) × (transition_at s h.arcstart k ≡ transition_at s h.arcstart (e % 65536 - 1)))
      → Ends s h f i d p e → Ends s h g n d p e
  ends_more f g i n d p e l same later x = record {
    within = omega (arith, x.within);
    ends = x.ends;
    at = x.at;
    goes = x.goes;
    passes_it = λ k q. subst T (same k (omega (arith, x.within)) (x.at k q) (x.goes k q)) (x.passes_it k q);
    begun = x.begun;
    first = x.first;
    opens = x.opens;
    rest = λ k a b at goes m. older k a b at goes m (dec_lt k i);
  }
    where
      older : (k : ℕ) → e % 65536 ≤ k → k < n → place_at s h.arcstart k ≡ p → direction_at s h.arcstart k ≡ d → T (g (transition_at s h.arcstart k)) → Dec (k < i)
          → (0 < e % 65536) × (transition_at s h.arcstart k ≡ transition_at s h.arcstart (e % 65536 - 1))
      older k a b at goes m (yes q) = x.rest k a q at goes (subst T (sym (same k q at goes)) m)
      older k a b at goes m (no q) = later k (omega arith) b at goes m

  -- more arcs, of which none passes
  pub ends_keep : (f g : ℕ → Bool) (i n d p e : ℕ) → i ≤ n
      → ((k : ℕ) → k < i → place_at s h.arcstart k ≡ p → direction_at s h.arcstart k ≡ d → f (transition_at s h.arcstart k) ≡ g (transition_at s h.arcstart k))
      → ((k : ℕ) → i ≤ k → k < n → place_at s h.arcstart k ≡ p → direction_at s h.arcstart k ≡ d → T (g (transition_at s h.arcstart k)) → ⊥)
      → Ends s h f i d p e → Ends s h g n d p e
  ends_keep f g i n d p e l same none x = ends_more f g i n d p e l same (λ k a b at goes m. absurd (none k a b at goes m)) x
