-- What follows from a trailer's being passed.
use Prim.Native.Nat.{ℕ, ◌+◌, ◌-◌, ◌≤◌}
use mathlib.Core.Path.{◌≡◌, refl}
use mathlib.Core.Bool.{false, not, ◌||◌, ◌&&◌}
use native.Mathlib.Omega.{arith}
use lib.Dec.{eqb, ltb}
use borrow.Author.Tests.{ltb-false, eqb-true, not-false}
use Rattle.net.proofs.Numbers.{by_cases}
use Rattle.file_words.proofs.Laws.{refuse-0, or-false}
use Rattle.file_header.specs.Layout.{header_from, body_length}
use Rattle.file_header.specs.Refusal.{edition_wrong, letters_wrong, kind_wrong, counts_wrong, body_wrong, trailer_refusal}
use Rattle.file_header.specs.Facts.{Counts, Placed}
use Rattle.file_header.specs.declared.Due.{Due}
use Rattle.file_header.specs.declared.Due.TheVariants.{Plan, Slice, Either}
use Rattle.file_header.specs.declared.Trailer.{Trailer}

kind_most : (due : Due) (k : ℕ) → kind_wrong due k ≡ false → k ≤ 1
kind_most Plan k e = omega (arith, eqb-true k 0 (not-false _ e))
kind_most Slice k e = omega (arith, eqb-true k 1 (not-false _ e))
kind_most Either k e = ltb-false 1 k e

edition_most : (e : ℕ) → edition_wrong e ≡ false → e ≤ 2
edition_most e h = by_cases (eqb e 1)
    (λ one. omega (arith, eqb-true e 1 one))
    (λ other. omega (arith, eqb-true e 2 (not-false (eqb e 2) (rw other at h))))

module _ (t : Trailer) (e : counts_wrong t ≡ false) where
  pub counts : Counts t
  counts =
      let a = or-false (ltb 1024 t.places || ltb 1024 t.transitions || ltb 4096 t.arcs) (eqb t.places 0 && eqb t.transitions 0 && eqb t.kind 0) e in
      let b = or-false (ltb 1024 t.places || ltb 1024 t.transitions) (ltb 4096 t.arcs) a.0 in
      let d = or-false (ltb 1024 t.places) (ltb 1024 t.transitions) b.0 in
      record {
        places = ltb-false 1024 t.places d.0;
        transitions = ltb-false 1024 t.transitions d.1;
        arcs = ltb-false 4096 t.arcs b.1;
      }

module _ (due : Due) (n : ℕ) (t : Trailer) (e : trailer_refusal due n t ≡ 0) where
  -- the trailer's rules, each passed
  record Passed : Type 0 where
    edition : edition_wrong t.edition ≡ false
    kind : kind_wrong due t.kind ≡ false
    counts : counts_wrong t ≡ false
    body : body_wrong n t ≡ false

  passed : Passed
  unfolding trailer_refusal
  passed =
      let b = refuse-0 (letters_wrong t) 1 _ e in
      let d = refuse-0 _ 2 _ b.1 in
      let f = refuse-0 _ 3 _ d.1 in
      record { edition = (or-false (not (eqb t.letters 0x4C4C4542)) (edition_wrong t.edition) b.0).1; kind = d.0; counts = f.0; body = (refuse-0 (body_wrong n t) 4 0 f.1).0 }

  pub trailer_kind : kind_wrong due t.kind ≡ false
  trailer_kind = passed.kind

  pub trailer_edition : edition_wrong t.edition ≡ false
  trailer_edition = passed.edition

  pub trailer_counts : Counts t
  trailer_counts = counts t passed.counts

  pub trailer_fits : 16 ≤ n → t.body + 16 ≤ n
  trailer_fits long =
      let b = or-false (not (eqb t.body (body_length t))) (ltb (n - 16) t.body) passed.body in
      omega (arith, ltb-false (n - 16) t.body b.1)

  pub trailer_placed : 16 ≤ n → n ≤ 65536 → Placed n (header_from n t)
  trailer_placed long short =
      let b = or-false (not (eqb t.body (body_length t))) (ltb (n - 16) t.body) passed.body in
      let size : t.body ≡ body_length t = eqb-true _ _ (not-false _ b.0) in
      let within : t.body + 16 ≤ n = trailer_fits long in
      let k = trailer_counts in
      record {
        short = short;
        kind = kind_most due t.kind passed.kind;
        edition_small = edition_most t.edition passed.edition;
        places = k.places;
        transitions = k.transitions;
        arcs = k.arcs;
        markings_fit = refl;
        arcs_fit = refl;
        origins_fit = omega arith;
      }
