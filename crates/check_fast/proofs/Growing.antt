-- The two tables while they are filled, origin by origin and place by place.
use Prim.Native.Nat.{ℕ, ◌+◌, ◌-◌, ◌*◌, ◌≤◌, ◌<◌}
use mathlib.Core.Path.{◌≡◌, refl, sym, ap, ◌∙◌, subst}
use mathlib.Core.Bool.{true, false}
use mathlib.Core.List.{List, [], ◌∷◌, ◌++◌}
use native.Mathlib.Omega.{arith}
use native.Mathlib.Numerals.{add-one}
use lib.Dec.{eqb}
use lib.ListN.{length, get_or, take, set, length-set}
use lib.Seq.{length-take-le, take-suc, get_or-set_same, get_or-set_other}
use borrow.Author.Tests.{eqb-true, eqb-false}
use Rattle.net.specs.Numbers.{among}
use Rattle.net.specs.Net.{Net}
use Rattle.net.proofs.Numbers.{by_cases}
use Rattle.file.specs.Facts.{RisingFrom}
use Rattle.numbering.proofs.Entries.{among-other, position-other, among-new, position-new, once}
use Rattle.check_fast.specs.Entries.{numbered, Numbered, flagged, marked, Marked, bound, Bound}

pub grown : (l : List ℕ) (j : ℕ) → j < length l → take (j + 1) l ≡ take j l ++ (get_or l j 0 ∷ [])
grown l j h = rw (add-one, take-suc l j 0)

-- ---- own numbers

numbered-other : (unit : ℕ) (l : List ℕ) (rest x y : ℕ) → eqb x y ≡ false → numbered unit (l ++ (y ∷ [])) rest x ≡ numbered unit l rest x
unfolding numbered
numbered-other unit l rest x y e =
    by_cases (among x l)
    (λ q. rw (among-other x y l e, numbered, q, numbered) (ap (λ (k : ℕ). unit * (1024 + k - x)) (position-other x y l q)))
    (λ q. rw (among-other x y l e, numbered, q, numbered))

numbered-new : (unit : ℕ) (l : List ℕ) (rest y : ℕ) → among y l ≡ false → numbered unit (l ++ (y ∷ [])) rest y ≡ unit * (1024 + length l - y)
unfolding numbered
numbered-new unit l rest y e = rw (among-new y l, numbered) (ap (λ (k : ℕ). unit * (1024 + k - y)) (position-new y l e))

pub numbered-none : (unit : ℕ) (before : List ℕ) → Numbered unit [] before before
unfolding numbered among
numbered-none unit before = record { long = refl; at = λ x h. refl }

module _ (unit : ℕ) (l : List ℕ) (rise : RisingFrom 0 l) (j : ℕ) (inside : j < length l) {before table : List ℕ} (n : Numbered unit (take j l) before table) where
  -- one origin more
  pub numbered_next : {origin : ℕ} {next : List ℕ} → origin ≡ get_or l j 0 → next ≡ set table origin (unit * (1024 + j - origin)) → Numbered unit (take (j + 1) l) before next
  numbered_next {origin} {next} o e =
      rw (e, grown l j inside) (record {
        long = length-set table origin (unit * (1024 + j - origin)) ∙ n.long;
        at = λ x h. by_cases (eqb x origin) (here x h) (there x h);
      })
    where
      here : (x : ℕ) → x < length before → eqb x origin ≡ true → get_or (set table origin (unit * (1024 + j - origin))) x 0 ≡ numbered unit (take j l ++ (get_or l j 0 ∷ [])) (get_or before x 0) x
      here x h q =
          let s : x ≡ origin = eqb-true x origin q in
          let a : get_or (set table origin (unit * (1024 + j - origin))) origin 0 ≡ unit * (1024 + j - origin) = get_or-set_same table origin (unit * (1024 + j - origin)) 0 (omega (arith, n.long)) in
          let b = numbered-new unit (take j l) (get_or before origin 0) (get_or l j 0) (once l rise j inside) in
          let c : length (take j l) ≡ j = length-take-le j l (omega arith) in
          let d : numbered unit (take j l ++ (get_or l j 0 ∷ [])) (get_or before origin 0) origin ≡ unit * (1024 + j - origin) =
          ap (λ (y : ℕ). numbered unit (take j l ++ (get_or l j 0 ∷ [])) (get_or before origin 0) y) o ∙ b ∙ ap (λ (k : ℕ). unit * (1024 + k - get_or l j 0)) c ∙ ap (λ (y : ℕ). unit * (1024 + j - y)) (sym o) in
          rw s (a ∙ sym d)

      there : (x : ℕ) → x < length before → eqb x origin ≡ false → get_or (set table origin (unit * (1024 + j - origin))) x 0 ≡ numbered unit (take j l ++ (get_or l j 0 ∷ [])) (get_or before x 0) x
      there x h q =
          get_or-set_other table origin x (unit * (1024 + j - origin)) 0 (eqb-false x origin q)
          ∙ n.at x h
          ∙ sym (numbered-other unit (take j l) (get_or before x 0) x (get_or l j 0) (subst (λ (y : ℕ). eqb x y ≡ false) o q))

-- ---- the criterion's marks

pub flagged-again : (v : ℕ) → flagged (flagged v) ≡ flagged v
flagged-again v = omega arith

marked_other : (l : List ℕ) (v x y : ℕ) → eqb x y ≡ false → marked (l ++ (y ∷ [])) v x ≡ marked l v x
unfolding marked
marked_other l v x y e = rw (among-other x y l e, marked)

marked-new : (l : List ℕ) (v y : ℕ) → marked (l ++ (y ∷ [])) v y ≡ flagged (marked l v y)
unfolding marked
marked-new l v y =
    rw (among-new y l, marked)
    (by_cases (among y l) (λ q. rw (q, marked) (sym (flagged-again v))) (λ q. rw (q, marked)))

pub marked-none : (before : List ℕ) → Marked [] before before
unfolding marked among
marked-none before = record { long = refl; at = λ x h. refl }

module _ (l : List ℕ) (j : ℕ) (inside : j < length l) {before table : List ℕ} (m : Marked (take j l) before table) where
  -- one place more
  pub marked_next : {q : ℕ} {next : List ℕ} → q ≡ get_or l j 0 → next ≡ set table q (flagged (get_or table q 0)) → Marked (take (j + 1) l) before next
  marked_next {q} {next} o e =
      rw (e, grown l j inside) (record {
        long = length-set table q (flagged (get_or table q 0)) ∙ m.long;
        at = λ x h. by_cases (eqb x q) (here x h) (there x h);
      })
    where
      here : (x : ℕ) → x < length before → eqb x q ≡ true → get_or (set table q (flagged (get_or table q 0))) x 0 ≡ marked (take j l ++ (get_or l j 0 ∷ [])) (get_or before x 0) x
      here x h z =
          let s : x ≡ q = eqb-true x q z in
          let a : get_or (set table q (flagged (get_or table q 0))) q 0 ≡ flagged (get_or table q 0) = get_or-set_same table q (flagged (get_or table q 0)) 0 (omega (arith, m.long)) in
          let b : get_or table q 0 ≡ marked (take j l) (get_or before q 0) q = m.at q (omega arith) in
          rw s (a ∙ ap flagged b ∙ sym (marked-new (take j l) (get_or before q 0) q) ∙ ap (λ (y : ℕ). marked (take j l ++ (y ∷ [])) (get_or before q 0) q) o)

      there : (x : ℕ) → x < length before → eqb x q ≡ false → get_or (set table q (flagged (get_or table q 0))) x 0 ≡ marked (take j l ++ (get_or l j 0 ∷ [])) (get_or before x 0) x
      there x h z =
          get_or-set_other table q x (flagged (get_or table q 0)) 0 (eqb-false x q z)
          ∙ m.at x h
          ∙ sym (marked_other (take j l) (get_or before x 0) x (get_or l j 0) (subst (λ (y : ℕ). eqb x y ≡ false) o z))

-- ---- the capped places

-- the first p entries are those by the caps, the others as before
pub record BoundTo (N : Net) (before : List ℕ) (p : ℕ) (table : List ℕ) : Type 0 where
  pub long : length table ≡ length before
  pub done : (x : ℕ) → x < p → get_or table x 0 ≡ bound (N.cap x) (get_or before x 0)
  pub rest : (x : ℕ) → p ≤ x → get_or table x 0 ≡ get_or before x 0

module _ (N : Net) (before : List ℕ) where
  -- no place has a cap
  pub bound-none : ((x : ℕ) → N.cap x ≡ 0) → Bound N before before
  bound-none none = record { long = refl; at = λ x h. rw (none x) }
