-- The arcs found by the two tables are "every plan arc between" the kept places and transitions.
use Prim.Native.Nat.{ℕ, zero, suc, ◌+◌, ◌*◌, ◌<◌}
use mathlib.Core.Bool.{true, false}
use mathlib.Core.List.{List, ◌∷◌, ◌++◌}
use mathlib.Core.Path.{◌≡◌, refl, ap, subst, ◌∙◌}
use native.Mathlib.Omega.{arith}
use lib.ListN.{length, get_or}
use Rattle.net.specs.Numbers.{among, position}
use Rattle.net.specs.Slice.{renumber, restrict}
use Rattle.net.specs.declared.Arc.{Arc}
use Rattle.net.proofs.Numbers.{by_cases}
use Rattle.file_arcs.specs.Layout.{arc_at, arcs_from}
use Rattle.numbering.specs.Own.{own_entry, Own}
use Rattle.slice_arcs.specs.Between.{kept_arc, kept_arcs, Arcs}
use Rattle.file_arcs.proofs.Rows.{first, later}

-- the entry of a kept number, and of one that is not
module _ (os table : List ℕ) (owns : Own os table) (x : ℕ) (l : x < length table) where
  entry_kept : among x os ≡ true → get_or table x 0 ≡ suc (position x os)
  unfolding own_entry
  entry_kept k = owns.at x l ∙ rw (k, own_entry)

  entry_none : among x os ≡ false → get_or table x 0 ≡ 0
  unfolding own_entry
  entry_none k = owns.at x l ∙ rw (k, own_entry)

module _ (ps ts P T s : List ℕ) (places : Own ps P) (transitions : Own ts T) where
  one : (a : Arc) (rest : List Arc) → a.place < length P → a.transition < length T
      → kept_arc (get_or T a.transition 0) (get_or P a.place 0) a ++ restrict ps ts rest ≡ restrict ps ts (a ∷ rest)
  unfolding restrict kept_arc renumber
  one a rest l m =
      by_cases (among a.transition ts)
      (λ k. by_cases (among a.place ps)
      (λ q. rw (entry_kept ts T transitions a.transition m k, entry_kept ps P places a.place l q, k, q, restrict, kept_arc))
      (λ q. rw (entry_kept ts T transitions a.transition m k, entry_none ps P places a.place l q, q, restrict, kept_arc)))
      (λ k. by_cases (among a.place ps)
      (λ q. rw (entry_none ts T transitions a.transition m k, k, q, restrict, kept_arc))
      (λ q. rw (entry_none ts T transitions a.transition m k, q, restrict, kept_arc)))

  all : (at n : ℕ) → ((j : ℕ) → j < n → (arc_at s (at + 8 * j)).place < length P) → ((j : ℕ) → j < n → (arc_at s (at + 8 * j)).transition < length T)
      → kept_arcs P T (arcs_from s at n) ≡ restrict ps ts (arcs_from s at n)
  unfolding arcs_from restrict kept_arcs
  all at zero h g = refl
  all at (suc n) h g =
      ap (λ (r : List Arc). kept_arc (get_or T (arc_at s at).transition 0) (get_or P (arc_at s at).place 0) (arc_at s at) ++ r)
      (all (at + 8) n
      (λ j l. subst (λ (a : Arc). a.place < length P) (later s at j) (h (suc j) (omega arith)))
      (λ j l. subst (λ (a : Arc). a.transition < length T) (later s at j) (g (suc j) (omega arith))))
      ∙ one (arc_at s at) (arcs_from s (at + 8) n)
      (subst (λ (a : Arc). a.place < length P) (first s at) (h 0 (omega arith)))
      (subst (λ (a : Arc). a.transition < length T) (first s at) (g 0 (omega arith)))

  pub arcs_restricted : (start n : ℕ) → Arcs s start n P T → kept_arcs P T (arcs_from s start n) ≡ restrict ps ts (arcs_from s start n)
  arcs_restricted start n k = all start n k.places_known k.transitions_known
