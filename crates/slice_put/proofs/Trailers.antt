-- Kind and edition as one number.
use Prim.Native.Nat.{ℕ, ◌+◌, ◌*◌, ◌/◌, ◌%◌, ◌≤◌}
use mathlib.Core.List.{[], ◌∷◌}
use mathlib.Core.Path.{◌≡◌, ap, ◌∙◌}
use native.Mathlib.Omega.{arith}
use Rattle.file_words.specs.Word.{bytes16}

pub kind_edition : (k e : ℕ) → k ≤ 1 → e ≤ 2 → bytes16 (k + 256 * e) ≡ k ∷ e ∷ []
unfolding bytes16
kind_edition k e l h =
    let kind : (k + 256 * e) % 256 ≡ k = omega arith in
    let whole : (k + 256 * e) / 256 ≡ e = omega arith in
    let small : e % 256 ≡ e = omega arith in
    λ i. kind i ∷ (ap (λ (n : ℕ). n % 256) whole ∙ small) i ∷ []
