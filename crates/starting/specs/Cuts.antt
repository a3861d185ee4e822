-- What a cut from a start does: the sets that are kept, and their slice written.
use Rattle.std.specs.Prelude.{Result, ℕ, zero, suc, ◌≤◌, ◌<◌, Bool, true, false, List, [], ◌++◌, ◌≡◌, eqb}
use Rattle.file.specs.Layout.{net_from}
use Rattle.file_header.specs.declared.Header.{Header}
use Rattle.file_writing.specs.Writing.{place_bytes}
use Rattle.sets.specs.Member.{member}
use Rattle.sets.specs.declared.KeptSets.{KeptSets}
use Rattle.cut.specs.Kept.{draws_all, growth_of, Kept}
use Rattle.cut.specs.declared.Kind.{Kind}
use Rattle.slice.specs.Kept.{kept_slice, Answers}
use Rattle.slice.specs.declared.Written.{Written}
use Rattle.refusals.specs.declared.Refusal.{Refusal}

pub record Cuts (k : Kind) (s : List ℕ) (h : Header) (Q entry exit : List ℕ) (r : Result Written Refusal) : Type 0 where
  pub kept : KeptSets
  pub sets : Kept (growth_of (draws_all k) (net_from s h) Q) kept
  pub answers : Answers h.edition (kept_slice s h kept) entry exit r

-- the bytes where the test holds, else none
abbrev pub given : Bool → List ℕ → List ℕ
given true l = l
given false l = []

-- of n places from p on those that pass the test: what they hold, in edition 2 their caps too
unfoldable pub passed_bytes : ℕ → (ℕ → ℕ) → (ℕ → ℕ) → (ℕ → Bool) → ℕ → ℕ → List ℕ
passed_bytes edition marking cap test p zero = []
passed_bytes edition marking cap test p (suc n) = given (test p) (place_bytes (eqb edition 2) (marking p) (cap p)) ++ passed_bytes edition marking cap test (suc p) n

-- no member from p up to q
pub record NoneKept (words : List ℕ) (p q : ℕ) : Type 0 where
  pub at : (k : ℕ) → p ≤ k → k < q → member words k ≡ false
