-- A transfer that is not refused: each new place has its sum, the total is unchanged, and the calls that start there do not refuse it.
use Prim.Native.Nat.{ℕ, zero, suc, ◌+◌, ◌≤◌, ◌<◌}
use mathlib.Core.Bool.{Bool, true, false, not, ◌&&◌}
use mathlib.Core.List.{List, [], ◌∷◌, ◌++◌, map}
use mathlib.Core.Path.{◌≡◌, refl, sym, ap, ◌∙◌}
use native.Mathlib.Omega.{arith}
use native.Mathlib.Nat.{zero-add}
use lib.ListN.{length, take, drop, get_or, get_or-append}
use lib.Dec.{eqb, ltb}
use borrow.Author.Tests.{ltb-true, ltb-false, eqb-true, eqb-false, eq-eqb, ne_eqb, le-leb, not-false}
use Rattle.net.specs.Numbers.{any, selected}
use Rattle.net.specs.Net.{Net, counted, tokens}
use Rattle.net.proofs.Numbers.{by_cases}
use Rattle.net.proofs.Markings.{length-tokens, get_d_tokens}
use Rattle.file_words.specs.Refusal.{or_else}
use Rattle.file_words.proofs.Laws.{refuse-0, or_else_0, or-false}
use Rattle.file.specs.Layout.{net_of}
use Rattle.file.specs.Refusal.{file_refusal}
use Rattle.file.proofs.Opening.{sound}
use Rattle.file_header.specs.declared.Due.TheVariants as due
use Rattle.promise.specs.Together.{standing}
use Rattle.promise.specs.Starts.{too_many, overfull, start_refusal, from_refusal}
use Rattle.promise.specs.Transfer.{carried_to, names_no_place, table_wrong, strands, carry_refusal, transfer_answer, transfer_marking, total, Carried, CarriedOn}
use Rattle.promise.proofs.Demands.{take-file}
use Rattle.promise.proofs.Started.{none_over, over_none}

-- sums over places
sum-add : (f g : ℕ → ℕ) (l : List ℕ) → total (map (λ q. f q + g q) l) ≡ total (map f l) + total (map g l)
unfolding total
sum-add f g [] = refl
sum-add f g (q ∷ l) = omega (arith, sum-add f g l)

sum-none : (l : List ℕ) → total (map (λ q. 0) l) ≡ 0
unfolding total
sum-none [] = refl
sum-none (q ∷ l) = zero-add _ ∙ sum-none l

-- one old place gives its tokens to one new place, or to none
module _ (x n : ℕ) where
  sum-off : (a k : ℕ) → x < a → total (map (λ q. counted (eqb x q) n) (selected (λ q. true) a k)) ≡ 0
  unfolding total selected
  sum-off a zero l = refl
  sum-off a (suc k) l = rw (ne_eqb x a (λ z. omega (arith, z))) (zero-add _ ∙ sum-off (suc a) k (omega arith))

  sum_one : (a k : ℕ) → a ≤ x → x < a + k → total (map (λ q. counted (eqb x q) n) (selected (λ q. true) a k)) ≡ n
  unfolding total selected
  sum_one a zero l m = absurd (omega arith)
  sum_one a (suc k) l m = by_cases (eqb x a)
      (λ e. rw e (omega (arith, sum-off (suc a) k (omega (arith, eqb-true x a e)))))
      (λ e. rw e (let d = eqb-false x a e in zero-add _ ∙ sum_one (suc a) k (omega arith) (omega arith)))

counted-0 : (b : Bool) → counted b 0 ≡ 0
counted-0 true = refl
counted-0 false = refl

all_none : (x : ℕ) (l : List ℕ) → total (map (λ q. counted (eqb x q) 0) l) ≡ 0
unfolding total
all_none x [] = refl
all_none x (q ∷ l) = rw (counted-0 (eqb x q)) (zero-add _ ∙ all_none x l)

-- the first of a table
first_part : (P x n : ℕ) → P ≤ 65535 → names_no_place P x ≡ false → (eqb x 65535 && ltb 0 n) ≡ false → total (map (λ q. counted (eqb x q) n) (selected (λ q. true) 0 P)) ≡ n
first_part P x n small placed none = by_cases (ltb x P)
    (λ e. sum_one x n 0 P (omega arith) (omega (arith, ltb-true x P e)))
    (λ e.
    let x≡ : eqb x 65535 ≡ true = not-false (eqb x 65535) (rw (le-leb P x (ltb-false x P e)) at placed) in
    let n≡ : n ≡ 0 = omega (arith, ltb-false 0 n (rw x≡ at none)) in
    ap (λ (m : ℕ). total (map (λ q. counted (eqb x q) m) (selected (λ q. true) 0 P))) n≡ ∙ all_none x (selected (λ q. true) 0 P) ∙ sym n≡)

carried-total : (P : ℕ) → P ≤ 65535 → (table running : List ℕ) → length table ≡ length running → any (names_no_place P) table ≡ false → strands table running ≡ false
    → total (map (λ q. carried_to q table running) (selected (λ q. true) 0 P)) ≡ total running
unfolding carried_to strands any total
carried-total P small [] [] e placed none = sum-none (selected (λ q. true) 0 P)
carried-total P small [] (n ∷ running) e placed none = absurd (omega arith)
carried-total P small (x ∷ table) [] e placed none = absurd (omega arith)
carried-total P small (x ∷ table) (n ∷ running) e placed none =
    let p = or-false (names_no_place P x) (any (names_no_place P) table) placed in
    let s = or-false (eqb x 65535 && ltb 0 n) (strands table running) none in
    sum-add (λ q. counted (eqb x q) n) (λ q. carried_to q table running) (selected (λ q. true) 0 P)
    ∙ omega (arith, first_part P x n small p.0 s.0, carried-total P small table running (omega arith) p.1 s.1)

-- what a transfer that is not refused went through
module _ (old new running table marking : List ℕ) (e : transfer_answer old new running table (length marking) ≡ 0) where
  abbrev N : Net
  N = net_of new

  abbrev C : ℕ → ℕ
  C q = carried_to q table running

  both : (file_refusal due.Plan new ≡ 0) × (carry_refusal (net_of old).places N running table (length marking) ≡ 0)
  unfolding transfer_answer
  both = or_else_0 _ _ (or_else_0 (file_refusal due.Plan old) (or_else (file_refusal due.Plan new) (carry_refusal (net_of old).places N running table (length marking))) e).1

  passed : (table_wrong (net_of old).places N.places running table ≡ false) × (strands table running ≡ false) × (overfull N C ≡ false)
  unfolding carry_refusal
  passed =
      let a = refuse-0 (table_wrong (net_of old).places N.places running table) 21 _ both.1 in
      let b = refuse-0 (strands table running) 22 _ a.1 in
      (a.0, b.0, (refuse-0 (overfull N C) 23 _ b.1).0)

  lengths : (length table ≡ length running) × (any (names_no_place N.places) table ≡ false)
  unfolding table_wrong
  lengths =
      let a = or-false (not (eqb (length running) (net_of old).places)) _ passed.0 in
      let b = or-false (not (eqb (length table) (net_of old).places)) (any (names_no_place N.places) table) a.1 in
      (eqb-true _ _ (not-false _ b.0) ∙ sym (eqb-true _ _ (not-false _ a.0)), b.1)

  exit_is : transfer_marking old new running table marking ≡ tokens N C ++ drop (length (tokens N C)) marking
  unfolding transfer_marking
  exit_is = rw e

  front : take N.places (transfer_marking old new running table marking) ≡ tokens N C
  front = ap (take N.places) exit_is ∙ ap (λ (k : ℕ). take k (tokens N C ++ drop (length (tokens N C)) marking)) (sym (length-tokens N C)) ∙ take-file (tokens N C) _

  ready_there : start_refusal N (tokens N C) ≡ 0
  unfolding start_refusal
  ready_there =
      rw (
        eq-eqb (length (tokens N C)) N.places (length-tokens N C),
        over_none N (standing (tokens N C)) (λ p l. ap (λ (m : ℕ). too_many m (N.cap p)) (get_d_tokens N C p l) ∙ none_over N C passed.2 p l),
      )

  same_total : total (tokens N C) ≡ total running
  unfolding tokens
  same_total = carried-total N.places (let w = (sound due.Plan new both.0).placed.places in omega (arith, w)) table running lengths.0 lengths.1 passed.1

  pub carried : Carried new running table (transfer_marking old new running table marking)
  carried = record {
    sums = λ q l. ap (λ (m : List ℕ). get_or m q 0) exit_is ∙ get_or-append (tokens N C) _ 0 q (omega (arith, length-tokens N C)) ∙ get_d_tokens N C q l;
    total = ap total front ∙ same_total;
    ready = ap (start_refusal N) front ∙ ready_there;
  }

pub carried_on : (new running table exit exit' : List ℕ) → file_refusal due.Plan new ≡ 0 → Carried new running table exit → Carried new running table exit' → CarriedOn new exit exit'
unfolding from_refusal
carried_on new running table exit exit' r x y = record {
  same = λ q l. x.sums q l ∙ sym (y.sums q l);
  totals = x.total ∙ sym y.total;
  begins = rw (r, x.ready);
}
