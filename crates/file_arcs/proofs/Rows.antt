-- Arcs that stand in a row in a file, by their index.
use Rattle.std.proofs.Common.{◌≡◌, ℕ, zero, suc, ◌+◌, ◌*◌, ◌<◌, ◌≤◌, Bool, true, false, List, ◌∷◌, ◌++◌, map, length, sym, refl, ap, ◌∙◌, subst, arith}
use Rattle.net.specs.Net.{counted, joins, weight_on}
use Rattle.net.specs.declared.Arc.{Arc}
use Rattle.file_words.specs.Word.{Bytes}
use Rattle.file_words.proofs.Bytes.{le16-lt}
use Rattle.file_arcs.specs.Layout.{arc_at, arcs_from}
use Rattle.file_arcs.specs.Refusal.{key}
use Rattle.file_arcs.specs.Facts.{ArcGood, InRange, OrderedFrom}

pub first : (s : List ℕ) (at : ℕ) → arc_at s (at + 8 * 0) ≡ arc_at s at
first s at = ap (arc_at s) (let e : at + 8 * 0 ≡ at = omega arith in e)

-- arc i of a run that starts 8 bytes later
pub later : (s : List ℕ) (at i : ℕ) → arc_at s (at + 8 * suc i) ≡ arc_at s (at + 8 + 8 * i)
later s at i = ap (arc_at s) (let e : at + 8 * suc i ≡ at + 8 + 8 * i = omega arith in e)

pub arcs_append : (s : List ℕ) (at m n : ℕ) → arcs_from s at (m + n) ≡ arcs_from s at m ++ arcs_from s (at + 8 * m) n
unfolding arcs_from
arcs_append s at zero n =
    let e : 0 + n ≡ n = omega arith in
    let f : at ≡ at + 8 * 0 = omega arith in
    rw e (ap (λ (k : ℕ). arcs_from s k n) f)
arcs_append s at (suc m) n =
    let e : suc m + n ≡ suc (m + n) = omega arith in
    let f : at + 8 + 8 * m ≡ at + 8 * suc m = omega arith in
    rw e (ap (λ (l : List Arc). arc_at s at ∷ l) (arcs_append s (at + 8) m n ∙ ap (λ (k : ℕ). arcs_from s (at + 8) m ++ arcs_from s k n) f))

pub range_at : (P T : ℕ) (s : List ℕ) (at n i : ℕ) → InRange P T (arcs_from s at n) → i < n → ArcGood P T (arc_at s (at + 8 * i))
unfolding arcs_from
range_at P T s at zero i r l = absurd (omega arith)
range_at P T s at (suc n) zero r l = subst (ArcGood P T) (sym (first s at)) r.0
range_at P T s at (suc n) (suc i) r l = subst (ArcGood P T) (sym (later s at i)) (range_at P T s (at + 8) n i r.1 (omega arith))

least_at : (s : List ℕ) (at least n i : ℕ) → OrderedFrom least (map key (arcs_from s at n)) → i < n → least ≤ key (arc_at s (at + 8 * i))
unfolding arcs_from
least_at s at least zero i r l = absurd (omega arith)
least_at s at least (suc n) zero r l = omega (arith, r.0, ap key (first s at))
least_at s at least (suc n) (suc i) r l = omega (arith, r.0, ap key (later s at i), least_at s (at + 8) _ n i r.1 (omega arith))

-- "Arcs now need only not fall in order"
pub key-le : (s : List ℕ) (at least n i j : ℕ) → OrderedFrom least (map key (arcs_from s at n)) → i ≤ j → j < n → key (arc_at s (at + 8 * i)) ≤ key (arc_at s (at + 8 * j))
unfolding arcs_from
key-le s at least zero i j r l h = absurd (omega arith)
key-le s at least (suc n) zero zero r l h = omega arith
key-le s at least (suc n) (suc i) zero r l h = absurd (omega arith)
key-le s at least (suc n) zero (suc j) r l h = omega (arith, ap key (first s at), ap key (later s at j), least_at s (at + 8) _ n j r.1 (omega arith))
key-le s at least (suc n) (suc i) (suc j) r l h = omega (arith, ap key (later s at i), ap key (later s at j), key-le s (at + 8) _ n i j r.1 (omega arith) (omega arith))

pub length-arcs_from : (s : List ℕ) (at n : ℕ) → length (arcs_from s at n) ≡ n
unfolding arcs_from
length-arcs_from s at zero = refl
length-arcs_from s at (suc n) = ap suc (length-arcs_from s (at + 8) n)

-- weights, one arc more at the end
pub weight_none : (d p t : ℕ) (s : List ℕ) (at : ℕ) → weight_on d p t (arcs_from s at 0) ≡ 0
unfolding weight_on arcs_from
weight_none d p t s at = refl

pub weight_next : (d p t : ℕ) (s : List ℕ) (at j : ℕ) → weight_on d p t (arcs_from s at (suc j)) ≡ weight_on d p t (arcs_from s at j) + counted (joins d p t (arc_at s (at + 8 * j))) (arc_at s (at + 8 * j)).weight
unfolding weight_on arcs_from
weight_next d p t s at zero = omega (arith, ap (λ (a : Arc). counted (joins d p t a) a.weight) (first s at))
weight_next d p t s at (suc j) = omega (arith, weight_next d p t s (at + 8) j, ap (λ (a : Arc). counted (joins d p t a) a.weight) (later s at j))

counted-le : (b : Bool) (n : ℕ) → counted b n ≤ n
counted-le true n = omega arith
counted-le false n = omega arith

-- weights are of 16 bits
pub weight_le : (d p t : ℕ) (s : List ℕ) → Bytes s → (at n : ℕ) → weight_on d p t (arcs_from s at n) ≤ 65535 * n
weight_le d p t s b at zero = omega (arith, weight_none d p t s at)
weight_le d p t s b at (suc n) =
    omega (arith, weight_next d p t s at n, weight_le d p t s b at n, counted-le (joins d p t (arc_at s (at + 8 * n))) (arc_at s (at + 8 * n)).weight, le16-lt s b (at + 8 * n + 6))
