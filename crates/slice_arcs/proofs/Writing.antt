-- Arcs written one after the other, where one that is not kept is written over.
use Prim.Native.Nat.{ℕ, zero, suc, ◌+◌, ◌/◌, ◌%◌, ◌≤◌}
use mathlib.Core.List.{List, [], ◌∷◌, ◌++◌, append_assoc, append-nil}
use mathlib.Core.Path.{◌≡◌, refl, sym, ap, ◌∙◌}
use native.Mathlib.Omega.{arith}
use lib.ListN.{length, length-append}
use lib.Seq.{sets, length-sets}
use Rattle.net.specs.declared.Arc.{Arc}
use Rattle.file_words.specs.Word.{bytes16}
use Rattle.file_writing.specs.Writing.{arc_bytes, arcs_bytes}
use Rattle.file_writing.proofs.Bytes.{length-arc}
use Rattle.tables.proofs.Sets.{sets_join, sets_over}
use Rattle.slice_arcs.specs.Between.{renumbered, kept_arc, ArcsWritten}

-- 65,535 more is one less in 16 bits
wraps : (n : ℕ) → bytes16 (suc n + 65535) ≡ bytes16 n
unfolding bytes16
wraps n =
    let low : (suc n + 65535) % 256 ≡ n % 256 = omega arith in
    let more : (suc n + 65535) / 256 ≡ n / 256 + 256 = omega arith in
    let round : (n / 256 + 256) % 256 ≡ n / 256 % 256 = omega arith in
    let high : (suc n + 65535) / 256 % 256 ≡ n / 256 % 256 = ap (λ (k : ℕ). k % 256) more ∙ round in
    λ i. low i ∷ high i ∷ []

-- of `all`, to be written in `entry` from `first` on, `left` is to be written in l from `at` on, and eight bytes or more after it
pub record Writing (entry : List ℕ) (first : ℕ) (all l : List ℕ) (at : ℕ) (left : List ℕ) : Type 0 where
  pub long : length l ≡ length entry
  pub count : at + length left ≡ first + length all
  pub same : (rest : List ℕ) → 8 ≤ length rest → sets l at (left ++ rest) ≡ sets entry first (all ++ rest)

pub writing_all : (l : List ℕ) (first : ℕ) (all : List ℕ) → Writing l first all l first all
writing_all l first all = record { long = refl; count = refl; same = λ rest h. refl }

module _ {entry : List ℕ} {first : ℕ} {all l : List ℕ} {at : ℕ} where
  -- the rest by another name
  pub writing_as : {left next : List ℕ} → Writing entry first all l at left → left ≡ next → Writing entry first all l at next
  writing_as w e = rw e at w

  pub written : Writing entry first all l at [] → ArcsWritten entry first all l at
  written w = record { long = w.long; count = omega (arith, w.count); same = w.same }

  -- eight bytes that stay, and eight that are written over
  module _ (bytes left next : List ℕ) (k : ℕ) (eight : length bytes ≡ 8) (e : next ≡ sets l at bytes) where
    stays : Writing entry first all l at (bytes ++ left) → k ≡ at + 8 → Writing entry first all next k left
    stays w f = record {
      long = ap length e ∙ length-sets l at bytes ∙ w.long;
      count = omega (arith, w.count, length-append bytes left, eight, f);
      same = λ rest h.
          ap (λ (x : List ℕ). sets x k (left ++ rest)) e ∙ sets_join bytes (left ++ rest) l at k (omega (arith, f, eight))
          ∙ ap (sets l at) (sym (append_assoc bytes left rest)) ∙ w.same rest h;
    }

    goes : Writing entry first all l at left → k ≡ at → Writing entry first all next k left
    goes w f = record {
      long = ap length e ∙ length-sets l at bytes ∙ w.long;
      count = omega (arith, w.count, f);
      same = λ rest h.
          ap (λ (x : ℕ). sets next x (left ++ rest)) f ∙ ap (λ (x : List ℕ). sets x at (left ++ rest)) e
          ∙ sets_over bytes (left ++ rest) l at (omega (arith, eight, length-append left rest, h)) ∙ w.same rest h;
    }

  pub writing_arc : (t p : ℕ) (a : Arc) (left next : List ℕ) (k : ℕ) → Writing entry first all l at (arcs_bytes (kept_arc t p a) ++ left)
      → next ≡ sets l at (arc_bytes (renumbered t p a)) → k ≡ at + length (arcs_bytes (kept_arc t p a)) → Writing entry first all next k left
  unfolding kept_arc arcs_bytes arc_bytes
  writing_arc zero p a left next k w e f = goes (arc_bytes (renumbered zero p a)) left next k (length-arc (renumbered zero p a)) e w (omega (arith, f))
  writing_arc (suc t) zero a left next k w e f = goes (arc_bytes (renumbered (suc t) zero a)) left next k (length-arc (renumbered (suc t) zero a)) e w (omega (arith, f))
  writing_arc (suc t) (suc p) a left next k w e f =
      let b = arc_bytes (renumbered (suc t) (suc p) a) in
      let eight = length-arc (renumbered (suc t) (suc p) a) in
      let kept : arcs_bytes (kept_arc (suc t) (suc p) a) ≡ b = append-nil _ ∙ (λ i. sym (wraps t) i ++ (a.direction ∷ 0 ∷ []) ++ sym (wraps p) i ++ bytes16 a.weight) in
      stays b left next k eight e (writing_as w (ap (λ (x : List ℕ). x ++ left) kept)) (omega (arith, f, ap length kept, eight))
