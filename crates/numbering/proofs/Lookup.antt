-- What an entry of a table of own numbers says.
use Prim.Native.Nat.{ℕ, suc, ◌<◌}
use mathlib.Core.Bool.{true, false}
use mathlib.Core.Path.{◌≡◌, ◌∙◌}
use mathlib.Core.List.{List}
use native.Mathlib.Omega.{arith}
use lib.ListN.{length, get_or}
use Rattle.net.specs.Numbers.{among, position}
use Rattle.net.proofs.Numbers.{by_cases}
use Rattle.numbering.specs.Own.{Own, own_entry}

entry_true : (os : List ℕ) (x : ℕ) → among x os ≡ true → own_entry os x ≡ suc (position x os)
unfolding own_entry
entry_true os x e = rw (e, own_entry)

entry_false : (os : List ℕ) (x : ℕ) → among x os ≡ false → own_entry os x ≡ 0
unfolding own_entry
entry_false os x e = rw (e, own_entry)

module _ (os table : List ℕ) (o : Own os table) (x : ℕ) (l : x < length table) where
  -- an entry that is 0: the number is left out
  pub left_out : get_or table x 0 ≡ 0 → among x os ≡ false
  left_out z = by_cases (among x os) (λ e. absurd (omega (arith, o.at x l, entry_true os x e))) (λ e. e)

  -- an entry that is not 0: the number is kept
  pub is_kept : (get_or table x 0 ≡ 0 → ⊥) → among x os ≡ true
  is_kept n = by_cases (among x os) (λ e. e) (λ e. absurd (n (omega (arith, o.at x l, entry_false os x e))))

  -- and the entry tells its own number
  pub own-number : (get_or table x 0 ≡ 0 → ⊥) → get_or table x 0 ≡ suc (position x os)
  own-number n = omega (arith, o.at x l, entry_true os x (is_kept n))

  -- the entry of a number that is left out
  pub zero_entry : among x os ≡ false → get_or table x 0 ≡ 0
  zero_entry e = o.at x l ∙ entry_false os x e
