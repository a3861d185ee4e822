-- Rows of arcs, one by one, and what is kept of them.
use Prim.Native.Nat.{ℕ, ◌+◌, ◌-◌, ◌*◌, ◌≤◌, ◌<◌}
use mathlib.Core.Path.{◌≡◌, refl, ap, ◌∙◌}
use mathlib.Core.Bool.{true, false, ◌&&◌}
use mathlib.Core.List.{List, [], ◌∷◌}
use native.Mathlib.Omega.{arith}
use Rattle.net.specs.Numbers.{among}
use Rattle.net.specs.Slice.{renumber, restrict}
use Rattle.net.specs.declared.Arc.{Arc}
use Rattle.file_arcs.specs.Layout.{arc_at, arcs_from}
use Rattle.file_arcs.proofs.Laws.{arcs_cons, arcs_none}

-- of n arcs, those from k on
module _ (s : List ℕ) (start n k : ℕ) where
  pub row_cons : k < n → arcs_from s (start + 8 * k) (n - k) ≡ arc_at s (start + 8 * k) ∷ arcs_from s (start + 8 * (k + 1)) (n - (k + 1))
  row_cons l =
      let e : start + 8 * k + 8 ≡ start + 8 * (k + 1) = omega arith in
      let f : n - k - 1 ≡ n - (k + 1) = omega arith in
      arcs_cons s (start + 8 * k) (n - k) (omega arith)
      ∙ ap (λ (at : ℕ). arc_at s (start + 8 * k) ∷ arcs_from s at (n - k - 1)) e
      ∙ ap (λ (m : ℕ). arc_at s (start + 8 * k) ∷ arcs_from s (start + 8 * (k + 1)) m) f

  pub row_end : n ≤ k → arcs_from s (start + 8 * k) (n - k) ≡ []
  row_end l = arcs_none s (start + 8 * k) (n - k) (omega arith)

-- an arc between what is kept, and one that is not
module _ (ps ts : List ℕ) (a : Arc) (rest : List Arc) where
  pub restrict-in : (among a.place ps && among a.transition ts) ≡ true → restrict ps ts (a ∷ rest) ≡ renumber ps ts a ∷ restrict ps ts rest
  unfolding restrict
  restrict-in e = rw (e, restrict)

  pub restrict-out : (among a.place ps && among a.transition ts) ≡ false → restrict ps ts (a ∷ rest) ≡ restrict ps ts rest
  unfolding restrict
  restrict-out e = rw (e, restrict)

pub restrict-none : (ps ts : List ℕ) → restrict ps ts [] ≡ []
unfolding restrict
restrict-none ps ts = refl
