-- Two ids character by character, with 0 for none.
use Prim.Native.Nat.{ℕ, ◌+◌, ◌<◌}
use mathlib.Core.Path.{◌≡◌, sym, ap, ◌∙◌}
use lib.Dec.{leb}
use mathlib.Core.Bool.{Bool, true, false}
use mathlib.Core.List.{List, [], ◌∷◌}
use native.Mathlib.Omega.{arith}
use lib.ListN.{length, get_or}
use borrow.Author.Tests.{eq-eqb, ne_eqb, leb-true, leb-false}
use Rattle.std.specs.Option.{unwrap_or}
use Rattle.net.proofs.Numbers.{by_cases}
use Rattle.pnml_text.specs.Characters.{kind_of, goes_on}
use Rattle.pnml_text.specs.declared.Run.TheVariants.{Id}
use Rattle.pnml_text.proofs.Runs.{front-on, front-stop, front-end}
use Rattle.pnml_page.specs.Meant.{id_at}
use Rattle.pnml_names.specs.Names.{same_id}
use Rattle.pnml_names.specs.Tables.{head_of}

-- the first character of an id, or 0
abbrev pub first_of : List ℕ → ℕ
first_of x = unwrap_or (head_of x) 0

-- the character of an id
module _ (s : List ℕ) (i : ℕ) where
  zero_not : (b : ℕ) → b ≡ 0 → goes_on Id (kind_of b) ≡ true → ⊥
  unfolding kind_of
  zero_not b e g = let z : false ≡ true = (rw e at g) in let w : ◌≡◌ {A = ℕ} 0 1 = cc in omega arith

  -- an id is empty, or has a first character, which is not 0
  pub data Starts : Type 0 where
    empty : id_at s i ≡ [] → Starts
    character : (b : ℕ) → i < length s → (b ≡ 0 → ⊥) → id_at s i ≡ b ∷ id_at s (i + 1) → Starts

  pub starts : Starts
  unfolding id_at
  starts =
      by_cases (leb (length s) i)
      (λ t. empty (front-end Id s i (leb-true (length s) i t)))
      (λ f.
      let h : i < length s = leb-false (length s) i f in
      by_cases (goes_on Id (kind_of (get_or s i 0)))
      (λ g. character (get_or s i 0) h (λ z. zero_not (get_or s i 0) z g) (front-on Id s i h g))
      (λ g. empty (front-stop Id s i h g)))

pub record Comparing (s : List ℕ) (i j : ℕ) (answer : Bool) : Type 0 where
  pub so : same_id (id_at s i) (id_at s j) ≡ answer

module _ {s : List ℕ} {i j : ℕ} {answer : Bool} (inv : Comparing s i j answer) where
  pub unlike : {x y : ℕ} → x ≡ first_of (id_at s i) → y ≡ first_of (id_at s j) → (x ≡ y → ⊥) → false ≡ answer
  unfolding same_id
  unlike {x} {y} e f n = go (starts s i) (starts s j)
    where
      go : Starts s i → Starts s j → false ≡ answer
      go (empty p) (empty q) = absurd (n (e ∙ ap first_of (p ∙ sym q) ∙ sym f))
      go (empty p) (character b h z q) = sym (rw (p, q)) ∙ inv.so
      go (character a g z p) (empty q) = sym (rw (p, q)) ∙ inv.so
      go (character a g z p) (character b h w q) =
          sym (rw (p, q, ne_eqb a b (λ t. n (e ∙ ap first_of p ∙ t ∙ sym (ap first_of q) ∙ sym f)))) ∙ inv.so

  pub over : {x y : ℕ} → x ≡ first_of (id_at s i) → y ≡ first_of (id_at s j) → x ≡ y → x ≡ 0 → true ≡ answer
  unfolding same_id
  over {x} {y} e f t u = go (starts s i) (starts s j)
    where
      go : Starts s i → Starts s j → true ≡ answer
      go (empty p) (empty q) = sym (rw (p, q)) ∙ inv.so
      go (empty p) (character b h z q) = absurd (z (sym (f ∙ ap first_of q) ∙ sym t ∙ u))
      go (character a g z p) (empty q) = absurd (z (sym (e ∙ ap first_of p) ∙ u))
      go (character a g z p) (character b h w q) = absurd (z (sym (e ∙ ap first_of p) ∙ u))

  pub on : {x y : ℕ} → x ≡ first_of (id_at s i) → y ≡ first_of (id_at s j) → x ≡ y → (x ≡ 0 → ⊥) → Comparing s (i + 1) (j + 1) answer
  unfolding same_id
  on {x} {y} e f t u = go (starts s i) (starts s j)
    where
      go : Starts s i → Starts s j → Comparing s (i + 1) (j + 1) answer
      go (empty p) (empty q) = absurd (u (e ∙ ap first_of p))
      go (empty p) (character b h z q) = absurd (u (e ∙ ap first_of p))
      go (character a g z p) (empty q) = absurd (u (t ∙ f ∙ ap first_of q))
      go (character a g z p) (character b h w q) =
          record { so = sym (rw (p, q, eq-eqb a b (sym (e ∙ ap first_of p) ∙ t ∙ f ∙ ap first_of q))) ∙ inv.so }

pub within : (s : List ℕ) (i : ℕ) {x : ℕ} → x ≡ first_of (id_at s i) → (x ≡ 0 → ⊥) → i < length s
within s i {x} e u = go (starts s i)
  where
    go : Starts s i → i < length s
    go (empty p) = absurd (u (e ∙ ap first_of p))
    go (character a g z p) = g
