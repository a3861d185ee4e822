-- The elements of a page are fewer than `most` where the text has at most 65536 bytes. Assumes nothing.
use Prim.Native.Nat.{ℕ, zero, suc, ◌-◌, ◌*◌, ◌≤◌}
use mathlib.Core.Path.{◌≡◌, refl, sym, ap, ◌∙◌}
use mathlib.Core.List.{List, []}
use native.Mathlib.Omega.{arith}
use lib.ListN.{length}
use Rattle.pnml_text.specs.Rest.{Rest, outside, more, spaces}
use Rattle.pnml_page.specs.Steps
use Rattle.pnml_page.proofs.Sizes.{size, element-size, spaces-size, inside-size, page-size, net-size}

none_left : (r : Rest) → size r ≤ 0 → r ≡ outside
none_left outside h = refl
none_left (more s) h = absurd (omega arith)

content-outside : (m : ℕ) → Steps.content m outside ≡ record { elements = []; rest = outside }
unfolding Steps.content
content-outside zero = refl
content-outside (suc m) = rw (none_left (Steps.element outside).rest (element-size outside))

-- with enough rounds, more of them change nothing
pub enough : (n m : ℕ) (r : Rest) → n ≤ m → size r ≤ 15 * n → Steps.content m r ≡ Steps.content n r
unfolding Steps.content
enough zero m r h g = ap (Steps.content m) (none_left r g) ∙ content-outside m ∙ sym (ap (Steps.content zero) (none_left r g))
enough (suc n) zero r h g = absurd (omega arith)
enough (suc n) (suc m) r h g =
    let a = element-size r in
    let b = spaces-size (Steps.element r).rest in
    ap (λ (c : Steps.Content). Steps.if_read (Steps.element r).rest (record { elements = []; rest = r }) (Steps.before (Steps.element r).element c))
    (enough n m (spaces (Steps.element r).rest) (omega arith) (omega arith))

-- no text of 65536 bytes has more elements than are read
pub most-enough : (s : List ℕ) (m : ℕ) → length s ≤ 65536 → 4370 ≤ m → Steps.content m (Steps.inside (more s)) ≡ Steps.content Steps.most (Steps.inside (more s))
most-enough s m h g =
    let a = inside-size (more s) in
    let b = page-size (more s) in
    let c = net-size (more s) in
    enough 4370 m (Steps.inside (more s)) g (omega arith)

-- each takes 15 bytes or more
pub elements_size : (n : ℕ) (r : Rest) → 15 * length (Steps.content n r).elements ≤ size r
unfolding Steps.content
elements_size zero r = omega arith
elements_size (suc n) r = go (Steps.element r).rest (element-size r) (λ x. elements_size n (spaces x))
  where
    go : (x : Rest) → size x ≤ size r - 15 → ((y : Rest) → 15 * length (Steps.content n (spaces y)).elements ≤ size (spaces y))
        → 15 * length (Steps.if_read x (record { elements = []; rest = r }) (Steps.before (Steps.element r).element (Steps.content n (spaces x)))).elements ≤ size r
    go outside h all = omega arith
    go (more s) h all = let i = all (more s) in let j = spaces-size (more s) in omega arith
