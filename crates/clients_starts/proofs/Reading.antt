-- A plan is a file of either kind.
use Prim.Native.Nat.{ℕ}
use mathlib.Core.List.{List}
use mathlib.Core.Path.{◌≡◌}
use native.Mathlib.Omega.{arith}
use lib.ListN.{length}
use lib.Dec.{eqb}
use borrow.Author.Tests.{eqb-true, le-ltb, not-false}
use Rattle.file_words.proofs.Laws.{refuse-0, or_else_0}
use Rattle.file_header.specs.Layout.{trailer_of}
use Rattle.file_header.specs.Refusal.{letters_wrong, kind_wrong, trailer_refusal}
use Rattle.file_header.specs.declared.Due.TheVariants as due
use Rattle.file.specs.Refusal.{length_wrong, file_refusal}

pub plan_either : (s : List ℕ) → file_refusal due.Plan s ≡ 0 → file_refusal due.Either s ≡ 0
unfolding file_refusal trailer_refusal
plan_either s e =
    let k = (trailer_of s).kind in
    let l = refuse-0 (length_wrong (length s)) 0 _ e in
    let t = or_else_0 (trailer_refusal due.Plan (length s) (trailer_of s)) _ l.1 in
    let w = refuse-0 (letters_wrong (trailer_of s)) 1 _ t.0 in
    let d = refuse-0 (kind_wrong due.Plan k) 2 _ w.1 in
    rw (l.0, w.0, le-ltb 1 k (omega (arith, eqb-true k 0 (not-false (eqb k 0) d.0))), d.1) t.1
