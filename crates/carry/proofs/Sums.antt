-- Laws of what is carried: entry by entry.
use Prim.Native.Nat.{ℕ, zero, suc, ◌+◌, ◌*◌, ◌≤◌, ◌<◌}
use mathlib.Core.Bool.{Bool, true, false, not, ◌&&◌, ◌||◌}
use mathlib.Core.List.{List, [], ◌∷◌}
use mathlib.Core.Path.{◌≡◌, refl, sym, ap, ◌∙◌}
use native.Mathlib.Omega.{arith}
use native.Mathlib.Numerals.{add-one}
use lib.Dec.{eqb, ltb, leb}
use Rattle.tables.proofs.Zeros.{zeros_at}
use lib.ListN.{length, take, drop, get_or, replicate, length-take, drop_of_length-le, get_or-eq_default}
use lib.Seq.{get_or-take, drop-cons}
use borrow.Author.Tests.{lt-ltb, le-ltb, ltb-true, ltb-false, leb-false, eqb-true, eq-eqb, ne_eqb, not-false}
use Rattle.std.specs.List.{list_any}
use Rattle.net.proofs.Numbers.{by_cases}
use Rattle.file_words.proofs.Laws.{or-false}
use Rattle.promise.proofs.Replays.{differ}
use Rattle.carry.specs.Sums.{Passed, AddsUp, sums_refusal}
use Rattle.net.specs.Numbers.{any}
use Rattle.net.specs.Net.{counted}
use Rattle.net.specs.Net.{Net, tokens}
use Rattle.net.proofs.Markings.{tokens-are}
use Rattle.promise.specs.Together.{standing}
use Rattle.promise.specs.Starts.{overfull}
use Rattle.promise.specs.Transfer.{carried_to, names_no_place, table_wrong, strands, carry_refusal}
use Rattle.promise.proofs.Started.{over_some, over_same}

-- the sums of the first entries
module _ (q : ℕ) where
  carried-suc : (t r : List ℕ) (i : ℕ) → i < length t → i < length r → carried_to q (take (suc i) t) (take (suc i) r) ≡ carried_to q (take i t) (take i r) + counted (eqb (get_or t i 0) q) (get_or r i 0)
  unfolding carried_to
  carried-suc [] r i l m = absurd (omega arith)
  carried-suc (x ∷ t) [] i l m = absurd (omega arith)
  carried-suc (x ∷ t) (n ∷ r) zero l m = omega arith
  carried-suc (x ∷ t) (n ∷ r) (suc i) l m = omega (arith, carried-suc t r i (omega arith) (omega arith))

  pub carried-next : (t r : List ℕ) (i : ℕ) → length t ≡ length r → i < length t → carried_to q (take (i + 1) t) (take (i + 1) r) ≡ carried_to q (take i t) (take i r) + counted (eqb (get_or t i 0) q) (get_or r i 0)
  carried-next t r i e l = rw (add-one i) (carried-suc t r i l (omega (arith, e)))

  pub carried_none : (t r : List ℕ) → carried_to q (take 0 t) (take 0 r) ≡ 0
  unfolding carried_to
  carried_none t r = refl

  -- a sum is at least each of its entries
  pub carried-least : (t r : List ℕ) (i : ℕ) → i < length t → i < length r → get_or t i 0 ≡ q → get_or r i 0 ≤ carried_to q t r
  unfolding carried_to
  carried-least [] r i l m e = absurd (omega arith)
  carried-least (x ∷ t) [] i l m e = absurd (omega arith)
  carried-least (x ∷ t) (n ∷ r) zero l m e = rw (eq-eqb x q e) (omega arith)
  carried-least (x ∷ t) (n ∷ r) (suc i) l m e = omega (arith, carried-least t r i (omega arith) (omega arith) e)

-- the entries from i on
module _ (t r : List ℕ) (e : length t ≡ length r) (i : ℕ) where
  pub strands-next : i < length t → strands (drop i t) (drop i r) ≡ (eqb (get_or t i 0) 65535 && ltb 0 (get_or r i 0) || strands (drop (i + 1) t) (drop (i + 1) r))
  unfolding strands
  strands-next l = rw (drop-cons t i 0 l, drop-cons r i 0 (omega (arith, e)), add-one i)

  pub strands-none : length t ≤ i → strands (drop i t) (drop i r) ≡ false
  unfolding strands
  strands-none l = rw (drop_of_length-le t {i = i} l)

-- a marked place that has a target has a place
pub placed_at : (P : ℕ) (t r : List ℕ) (i : ℕ) → any (names_no_place P) t ≡ false → strands t r ≡ false → i < length t → i < length r → 0 < get_or r i 0 → get_or t i 0 < P
unfolding any strands
placed_at P [] r i p s l m n = absurd (omega arith)
placed_at P (x ∷ t) [] i p s l m n = absurd (omega arith)
placed_at P (x ∷ t) (k ∷ r) zero p s l m n =
    let a = (or-false (names_no_place P x) (any (names_no_place P) t) p).0 in
    let b = (or-false (eqb x 65535 && ltb 0 k) (strands t r) s).0 in
    by_cases (leb P x)
    (λ e.
    let x≡ : eqb x 65535 ≡ true = not-false (eqb x 65535) (rw e at a) in
    let none = ltb-false 0 k (rw x≡ at b) in
    absurd (omega (arith, none)))
    (λ e. leb-false P x e)
placed_at P (x ∷ t) (k ∷ r) (suc i) p s l m n =
    placed_at P t r i (or-false (names_no_place P x) (any (names_no_place P) t) p).1 (or-false (eqb x 65535 && ltb 0 k) (strands t r) s).1 (omega arith) (omega arith) n

-- the sums after i entries
pub record Adding (t r s₀ s : List ℕ) (i : ℕ) : Type 0 where
  pub long : length s ≡ length s₀
  pub at : (q : ℕ) → q < length s → get_or s q 0 ≡ carried_to q (take i t) (take i r)
  pub low : (q : ℕ) → get_or s q 0 ≤ i * 4294967295

module _ {t r s₀ : List ℕ} (passed : Passed t r s₀) where
  pub adding-none : Adding t r s₀ s₀ 0
  adding-none = record {
    long = refl;
    at = λ q l. passed.zeros q ∙ sym (carried_none q t r);
    low = λ q. omega (arith, passed.zeros q);
  }

  module _ {s : List ℕ} {i : ℕ} (a : Adding t r s₀ s i) where
    pub adding-next : {s' : List ℕ} → i < length t → get_or r i 0 ≤ 4294967295 → length s' ≡ length s
        → ((p : ℕ) → p < length s → get_or s' p 0 ≡ get_or s p 0 + counted (eqb (get_or t i 0) p) (get_or r i 0)) → Adding t r s₀ s' (i + 1)
    adding-next {s'} l h e f = record {
      long = e ∙ a.long;
      at = λ q k. f q (omega (arith, e)) ∙ ap (λ (x : ℕ). x + counted (eqb (get_or t i 0) q) (get_or r i 0)) (a.at q (omega (arith, e))) ∙ sym (carried-next q t r i passed.long l);
      low = λ q. by_cases (ltb q (length s))
          (λ k. omega (arith, f q (ltb-true q (length s) k), a.low q, counted-le (eqb (get_or t i 0) q) (get_or r i 0)))
          (λ k. omega (arith, get_or-eq_default s' 0 {n = q} (omega (arith, e, ltb-false q (length s) k))));
    }
      where
        counted-le : (b : Bool) (n : ℕ) → counted b n ≤ n
        counted-le true n = omega arith
        counted-le false n = omega arith

    pub adding-above : i < length t → 4294967295 < get_or r i 0 → AddsUp t r s₀ s false
    adding-above l h =
        let q = get_or t i 0 in
        let m : i < length r = omega (arith, passed.long) in
        let k = placed_at (length s₀) t r i passed.placed passed.targets l m (omega arith) in
        record {
          long = a.long;
          all = λ e. differ e;
          above = λ e. (q, omega (arith, k, a.long), omega (arith, h, carried-least q t r i l m refl));
        }

-- a test of a list, by two names
any_listed : (f : ℕ → Bool) (l : List ℕ) → list_any f l ≡ any f l
unfolding any
any_listed f [] = refl
any_listed f (x ∷ l) = ap (λ (b : Bool). f x || b) (any_listed f l)

-- the table, by the way out
module _ (old new : ℕ) (running table : List ℕ) where
  pub running_wrong : (length running ≡ old → ⊥) → true ≡ table_wrong old new running table
  unfolding table_wrong
  running_wrong d = rw (ne_eqb (length running) old d)

  pub length-wrong : length running ≡ old → (length table ≡ old → ⊥) → true ≡ table_wrong old new running table
  unfolding table_wrong
  length-wrong e d = rw (eq-eqb (length running) old e, ne_eqb (length table) old d)

  pub entries-wrong : {b : Bool} → length running ≡ old → length table ≡ old → b ≡ list_any (names_no_place new) table → b ≡ table_wrong old new running table
  unfolding table_wrong
  entries-wrong e f k = rw (eq-eqb (length running) old e, eq-eqb (length table) old f) (k ∙ any_listed (names_no_place new) table)

  -- and what is known where it is not wrong
  pub right : table_wrong old new running table ≡ false → (length running ≡ old) × (length table ≡ old) × (any (names_no_place new) table ≡ false)
  unfolding table_wrong
  right e =
      let a = or-false (not (eqb (length running) old)) (not (eqb (length table) old) || any (names_no_place new) table) e in
      let b = or-false (not (eqb (length table) old)) (any (names_no_place new) table) a.1 in
      (eqb-true _ _ (not-false _ a.0), eqb-true _ _ (not-false _ b.0), b.1)

-- the refusal, by the way out
module _ (N : Net) (running table : List ℕ) (room : ℕ) where
  abbrev C : ℕ → ℕ
  C q = carried_to q table running

  pub sums_over : overfull N C ≡ true → 24 ≡ sums_refusal N running table room
  sums_over e = rw e

  pub room_short : overfull N C ≡ false → room < N.places → 13 ≡ sums_refusal N running table room
  room_short e l = rw (e, lt-ltb room N.places l)

  pub sums_pass : overfull N C ≡ false → N.places ≤ room → 0 ≡ sums_refusal N running table room
  sums_pass e l = rw (e, le-ltb room N.places l)

  -- a sum that a plan cannot hold
  pub above_over : {sums₀ sums : List ℕ} {b : Bool} → length sums₀ ≡ N.places → AddsUp table running sums₀ sums b → b ≡ false → overfull N C ≡ true
  above_over e a f =
      let x = a.above f in
      over_some N C x.0 (omega (arith, x.1, e, a.long)) (rw (lt-ltb 4294967295 (C x.0) x.2))

  pub sums_same : {sums₀ sums : List ℕ} {b : Bool} → length sums₀ ≡ N.places → AddsUp table running sums₀ sums b → b ≡ true → overfull N (standing sums) ≡ overfull N C
  sums_same {sums = sums} e a f = over_same N (standing sums) C (λ p l. a.all f p (omega (arith, e, a.long)))

  pub sums_are : {sums₀ sums : List ℕ} {b : Bool} → length sums₀ ≡ N.places → AddsUp table running sums₀ sums b → b ≡ true → sums ≡ tokens N C
  sums_are {sums = sums} e a f = tokens-are N C sums (a.long ∙ e) (λ p l. a.all f p (omega (arith, e, a.long)))

module _ (old : ℕ) (N : Net) (running table : List ℕ) (room : ℕ) where
  pub carry_22 : true ≡ table_wrong old N.places running table → 22 ≡ carry_refusal old N running table room
  unfolding carry_refusal
  carry_22 e = rw (← e)

  pub carry_23 : table_wrong old N.places running table ≡ false → strands table running ≡ true → 23 ≡ carry_refusal old N running table room
  unfolding carry_refusal
  carry_23 e f = rw (e, f)

  pub carry_rest : {r : ℕ} → table_wrong old N.places running table ≡ false → strands table running ≡ false → r ≡ sums_refusal N running table room → r ≡ carry_refusal old N running table room
  unfolding carry_refusal
  carry_rest e f k = rw (e, f) k

-- a part of a table of zeros
pub zeros_taken : (k n q : ℕ) → ◌≡◌ {A = ℕ} (get_or {A = ℕ} (take k (replicate {A = ℕ} n 0)) q 0) 0
zeros_taken k n q = by_cases (ltb q k)
    (λ l. get_or-take {A = ℕ} k (replicate n 0) q 0 (ltb-true q k l) ∙ zeros_at n q)
    (λ l. get_or-eq_default {A = ℕ} (take k (replicate n 0)) 0 {n = q} (omega (arith, ltb-false q k l, length-take {A = ℕ} k (replicate n 0))))
