-- A list that is being stored: what stands there now, with the rest still to be stored, is the whole list stored.
use Prim.Native.Nat.{ℕ, ◌+◌}
use mathlib.Core.List.{List, [], ◌∷◌, ◌++◌}
use mathlib.Core.Path.{◌≡◌, refl, ap, ◌∙◌}
use native.Mathlib.Numerals.{add-one}
use native.Mathlib.Omega.{arith}
use lib.ListN.{length, set, length-set, length-append}
use lib.Seq.{sets, length-sets}
use Rattle.tables.proofs.Sets.{sets_join}

-- of `all`, to be stored in l₀ from `first` on, `left` is to be stored in l from `at` on
pub record Storing (l₀ : List ℕ) (first : ℕ) (all l : List ℕ) (at : ℕ) (left : List ℕ) : Type 0 where
  pub long : length l ≡ length l₀
  pub count : at + length left ≡ first + length all
  pub same : sets l at left ≡ sets l₀ first all

pub storing_all : (l : List ℕ) (first : ℕ) (all : List ℕ) → Storing l first all l first all
storing_all l first all = record { long = refl; count = refl; same = refl }

module _ {l₀ : List ℕ} {first : ℕ} {all l : List ℕ} {at : ℕ} where
  -- the rest by another name
  pub storing_as : {left next : List ℕ} → Storing l₀ first all l at left → left ≡ next → Storing l₀ first all l at next
  storing_as s e = rw e at s

  -- from the same index by another name
  pub storing_from : {left : List ℕ} {next : ℕ} → at ≡ next → Storing l₀ first all l at left → Storing l₀ first all l next left
  storing_from e s = rw e at s

  -- a number of it
  pub storing_one : {x : ℕ} {rest : List ℕ} → Storing l₀ first all l at (x ∷ rest) → Storing l₀ first all (set l at x) (at + 1) rest
  storing_one {x} {rest} s = record {
    long = length-set l at x ∙ s.long;
    count = omega (arith, s.count);
    same = ap (λ (k : ℕ). sets (set l at x) k rest) (add-one at) ∙ s.same;
  }

  -- a part of it
  pub storing_part : (vs ws next : List ℕ) (k : ℕ) → Storing l₀ first all l at (vs ++ ws) → next ≡ sets l at vs → k ≡ at + length vs → Storing l₀ first all next k ws
  storing_part vs ws next k s e f = record {
    long = ap length e ∙ length-sets l at vs ∙ s.long;
    count = omega (arith, s.count, length-append vs ws, f);
    same = ap (λ (x : List ℕ). sets x k ws) e ∙ sets_join vs ws l at k f ∙ s.same;
  }

  -- nothing of it
  pub storing_none : Storing l₀ first all l at [] → l ≡ sets l₀ first all
  storing_none s = s.same

  pub storing_end : Storing l₀ first all l at [] → at ≡ first + length all
  storing_end s = omega (arith, s.count)
