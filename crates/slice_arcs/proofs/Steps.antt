-- One turn of each loop over arcs.
use Prim.Native.Nat.{ℕ, suc, ◌+◌, ◌-◌, ◌*◌, ◌≤◌, ◌<◌}
use mathlib.Core.List.{List, [], ◌∷◌, ◌++◌, append_assoc}
use mathlib.Core.Path.{◌≡◌, refl, sym, ap, ◌∙◌}
use native.Mathlib.Omega.{arith}
use lib.ListN.{length, get_or, length-append}
use Rattle.net.specs.declared.Arc.{Arc}
use Rattle.file_arcs.specs.Layout.{arc_at, arcs_from}
use Rattle.file_writing.specs.Writing.{arc_bytes, arcs_bytes}
use Rattle.file_arcs.proofs.Laws.{arcs_cons, arcs_none}
use Rattle.slice_arcs.specs.Between.{kept_arc, kept_arcs}

bytes-append : (l m : List Arc) → arcs_bytes (l ++ m) ≡ arcs_bytes l ++ arcs_bytes m
unfolding arcs_bytes
bytes-append [] m = refl
bytes-append (a ∷ l) m = ap (λ (r : List ℕ). arc_bytes a ++ r) (bytes-append l m) ∙ sym (append_assoc (arc_bytes a) (arcs_bytes l) (arcs_bytes m))

-- an arc whose transition is not kept, one whose place is not, and one that is kept
module _ (t p : ℕ) (a : Arc) where
  pub arc-no_transition : t ≡ 0 → kept_arc t p a ≡ []
  unfolding kept_arc
  arc-no_transition e = rw e

  pub arc-no_place : (t ≡ 0 → ⊥) → p ≡ 0 → kept_arc t p a ≡ []
  unfolding kept_arc
  arc-no_place h e = let one : t ≡ suc (t - 1) = omega (arith, h) in ap (λ (x : ℕ). kept_arc x p a) one ∙ rw e

  pub arc-kept : (t ≡ 0 → ⊥) → (p ≡ 0 → ⊥) → length (kept_arc t p a) ≡ 1
  unfolding kept_arc
  arc-kept h k =
      let one : t ≡ suc (t - 1) = omega (arith, h) in
      let two : p ≡ suc (p - 1) = omega (arith, k) in
      λ i. length (kept_arc (one i) (two i) a)

-- the arcs from number j on
abbrev pub arcs_at : List ℕ → ℕ → ℕ → ℕ → List Arc
arcs_at s start j n = arcs_from s (start + 8 * j) (n - j)

pub arcs_all : (s : List ℕ) (start n : ℕ) → arcs_from s start n ≡ arcs_at s start 0 n
arcs_all s start n = let e : start ≡ start + 8 * 0 = omega arith in let d : n ≡ n - 0 = omega arith in λ i. arcs_from s (e i) (d i)

module _ (s : List ℕ) (start : ℕ) (P T : List ℕ) (j n : ℕ) where
  module _ (a : Arc) (e : a ≡ arc_at s (start + 8 * j)) (h : j < n) where
    abbrev here : List Arc
    here = kept_arc (get_or T a.transition 0) (get_or P a.place 0) a

    abbrev rest : List Arc
    rest = kept_arcs P T (arcs_at s start (j + 1) n)

    next : kept_arcs P T (arcs_at s start j n) ≡ here ++ rest
    unfolding kept_arcs
    next =
        let after : start + 8 * j + 8 ≡ start + 8 * (j + 1) = omega arith in
        let less : n - j - 1 ≡ n - (j + 1) = omega arith in
        let same = sym e in
        ap (kept_arcs P T) (arcs_cons s (start + 8 * j) (n - j) (omega arith))
        ∙ (λ i. kept_arc (get_or T (same i).transition 0) (get_or P (same i).place 0) (same i) ++ kept_arcs P T (arcs_from s (after i) (less i)))

    pub next-bytes : arcs_bytes (kept_arcs P T (arcs_at s start j n)) ≡ arcs_bytes here ++ arcs_bytes rest
    next-bytes = ap arcs_bytes next ∙ bytes-append here rest

    pub next-count : length (kept_arcs P T (arcs_at s start j n)) ≡ length here + length rest
    next-count = ap length next ∙ length-append here rest

  pub none_left : n ≤ j → kept_arcs P T (arcs_at s start j n) ≡ []
  unfolding kept_arcs
  none_left h = rw (arcs_none s (start + 8 * j) (n - j) (omega arith), kept_arcs)

pub no_bytes : {l : List Arc} → l ≡ [] → arcs_bytes l ≡ []
unfolding arcs_bytes
no_bytes e = ap arcs_bytes e
