-- Laws of runs, words and numbers in a text. Assumes nothing.
use Prim.Native.Nat.{ℕ, ◌+◌, ◌-◌, ◌*◌, ◌≤◌, ◌<◌}
use mathlib.Core.Path.{◌≡◌, refl, sym, ap, ◌∙◌}
use mathlib.Core.Bool.{Bool, true≢false, true, false, cond}
use mathlib.Core.List.{List, [], ◌∷◌}
use native.Mathlib.Omega.{arith}
use native.Mathlib.Numerals.{add-one}
use lib.Dec.{eqb, leb}
use lib.ListN.{length, get_or, take, drop, drop_of_length-le, length-drop}
use lib.Seq.{drop-cons, drop-drop}
use borrow.Author.Tests.{eqb-true, eqb-false, eq-eqb, ne_eqb, le-leb, lt-leb, leb-true, leb-false}
use Rattle.std.specs.List.{take_while, starts_with}
use Rattle.std.proofs.lemmas.List.{take_rest}
use Rattle.std.proofs.lemmas.List.Sums.{take_while-cons}
use Rattle.std.specs.Cmp.Lexicographic.{pointwise}
use Rattle.pnml_text.specs.Characters.{kind_of, goes_on}
use Rattle.pnml_text.specs.Rest.{Rest, outside, more, if_more, if_bytes, strip, word, front, past, left, spaces, id, id_wrong, digits, decimal, number_of, rest_at, capped}
use Rattle.pnml_text.specs.declared.Run.{Run}
use Rattle.pnml_text.specs.declared.Run.TheVariants.{Spaces, Digits, Id}
use Rattle.net.proofs.Numbers.{by_cases, and-true}

-- runs, a character at a time
module _ (c : Run) (s : List ℕ) (a : ℕ) where
  pub front-on : a < length s → goes_on c (kind_of (get_or s a 0)) ≡ true → front c (drop a s) ≡ get_or s a 0 ∷ front c (drop (a + 1) s)
  unfolding front
  front-on h g = rw (add-one, drop-cons s a 0 h, g)

  pub front-stop : a < length s → goes_on c (kind_of (get_or s a 0)) ≡ false → front c (drop a s) ≡ []
  unfolding front
  front-stop h g = rw (drop-cons s a 0 h, g)

  pub front-end : length s ≤ a → front c (drop a s) ≡ []
  unfolding front
  front-end h = rw (drop_of_length-le s h)

pub front-within : (c : Run) (l : List ℕ) → length (front c l) ≤ length l
unfolding front
front-within c [] = omega arith
front-within c (b ∷ l) =
    by_cases (goes_on c (kind_of b))
    (λ e. rw e (let i = front-within c l in omega arith))
    (λ e. rw e (omega arith))

pub past-drop : (c : Run) (l : List ℕ) → drop (length (front c l)) l ≡ past c l
unfolding front past
past-drop c [] = refl
past-drop c (b ∷ l) =
    by_cases (goes_on c (kind_of b))
    (λ e. rw e (past-drop c l))
    (λ e. rw e)

-- what is left at a position within the text, and past it
pub rest_in : (s : List ℕ) (a : ℕ) → a ≤ length s → rest_at s a ≡ more (drop a s)
unfolding rest_at
rest_in s a h = rw (le-leb a (length s) h)

pub rest_out : (s : List ℕ) (a : ℕ) → length s < a → rest_at s a ≡ outside
unfolding rest_at
rest_out s a h = rw (lt-leb a (length s) h)

-- the end of a run, as what is left there
pub run-rest : (c : Run) (s : List ℕ) (a r : ℕ) → r ≡ a + length (front c (drop a s)) → a ≤ length s → rest_at s r ≡ more (past c (drop a s))
run-rest c s a r e h =
    rest_in s r (let w = front-within c (drop a s) in let l = length-drop a s in omega arith)
    ∙ ap more (ap (λ (k : ℕ). drop k s) e ∙ sym (drop-drop (length (front c (drop a s))) a s) ∙ past-drop c (drop a s))

pub run_out : (c : Run) (s : List ℕ) (a r : ℕ) → r ≡ a + length (front c (drop a s)) → length s < a → r ≡ a
run_out c s a r e h = e ∙ (rw (front-end c s a (omega arith)) (omega arith))

-- a run as std takes it
one_more : (t : Bool) (b : ℕ) {l m : List ℕ} → l ≡ m → if_bytes t (b ∷ l) [] ≡ cond t (b ∷ m) []
one_more true b e = ap (λ (r : List ℕ). b ∷ r) e
one_more false b e = refl

pub front-run : (c : Run) (l : List ℕ) → front c l ≡ take_while (λ b. goes_on c (kind_of b)) l
unfolding front
front-run c [] = refl
front-run c (b ∷ l) = one_more (goes_on c (kind_of b)) b (front-run c l) ∙ sym (take_while-cons (λ (x : ℕ). goes_on c (kind_of x)) b l)

-- words
pub strip-whole : (w s : List ℕ) → pointwise eqb w (take (length w) s) ≡ true → strip w s ≡ more (drop (length w) s)
unfolding strip
strip-whole [] s e = refl
strip-whole (a ∷ w) [] e = absurd (true≢false (sym e))
strip-whole (a ∷ w) (b ∷ s) e =
    let t = and-true (eqb a b) (pointwise eqb w (take (length w) s)) e in
    rw (eq-eqb b a (sym (eqb-true a b t.0))) (strip-whole w s t.1)

pub strip-other : (w s : List ℕ) → pointwise eqb w (take (length w) s) ≡ false → strip w s ≡ outside
unfolding strip
strip-other [] s e = absurd (true≢false e)
strip-other (a ∷ w) [] e = refl
strip-other (a ∷ w) (b ∷ s) e =
    by_cases (eqb a b)
    (λ t. rw (eq-eqb b a (sym (eqb-true a b t))) (strip-other w s (rw t at e)))
    (λ f. rw (ne_eqb b a (λ g. eqb-false a b f (sym g))))

starts-within : (w s : List ℕ) → pointwise eqb w (take (length w) s) ≡ true → length w ≤ length s
starts-within [] s e = omega arith
starts-within (a ∷ w) [] e = absurd (true≢false (sym e))
starts-within (a ∷ w) (b ∷ s) e = let i = starts-within w s (and-true (eqb a b) (pointwise eqb w (take (length w) s)) e).1 in omega arith

module _ (s w : List ℕ) (a : ℕ) (h : a ≤ length s) where
  pub word_in : starts_with eqb (take (length s - a) (drop a s)) w ≡ true → rest_at s (a + length w) ≡ word w (rest_at s a)
  word_in f =
      let e : starts_with eqb (drop a s) w ≡ true = ap (λ (l : List ℕ). starts_with eqb l w) (sym (take_rest s a)) ∙ f in
      rest_in s (a + length w) (omega (arith, starts-within w (drop a s) e, length-drop a s))
      ∙ ap more (sym (drop-drop (length w) a s))
      ∙ sym (ap (word w) (rest_in s a h) ∙ strip-whole w (drop a s) e)

  pub word-out : starts_with eqb (take (length s - a) (drop a s)) w ≡ false → rest_at s (length s + 1) ≡ word w (rest_at s a)
  word-out f =
      let e : starts_with eqb (drop a s) w ≡ false = ap (λ (l : List ℕ). starts_with eqb l w) (sym (take_rest s a)) ∙ f in
      rest_out s (length s + 1) (omega arith) ∙ sym (ap (word w) (rest_in s a h) ∙ strip-other w (drop a s) e)

-- numbers
pub cap_low : (n : ℕ) → n ≤ 4294967296 → capped n ≡ n
cap_low n h = rw (le-leb n 4294967296 h)

pub cap_high : (n : ℕ) → 4294967296 ≤ n → capped n ≡ 4294967296
cap_high n h = by_cases (leb n 4294967296)
    (λ e. rw e (let g = leb-true n 4294967296 e in omega arith))
    (λ e. rw e)

pub cap_most : (n : ℕ) → capped n ≤ 4294967296
cap_most n = by_cases (leb n 4294967296) (λ e. rw e (leb-true n 4294967296 e)) (λ e. rw e (omega arith))

decimal-more : (n : ℕ) (l : List ℕ) → n ≤ decimal n l
unfolding decimal
decimal-more n [] = omega arith
decimal-more n (b ∷ l) = let i = decimal-more (10 * n + (b - 48)) l in omega arith

-- a capped number goes on as the number itself
pub decimal-cap : (n : ℕ) (l : List ℕ) → capped (decimal (capped n) l) ≡ capped (decimal n l)
decimal-cap n l =
    by_cases (leb n 4294967296)
    (λ e. ap (λ (k : ℕ). capped (decimal k l)) (cap_low n (leb-true n 4294967296 e)))
    (λ e.
    let h = leb-false n 4294967296 e in
    ap (λ (k : ℕ). capped (decimal k l)) (cap_high n (omega arith))
    ∙ cap_high (decimal 4294967296 l) (decimal-more 4294967296 l)
    ∙ sym (cap_high (decimal n l) (let g = decimal-more n l in omega arith)))

pub decimal-on : (n b : ℕ) (l : List ℕ) → decimal n (b ∷ l) ≡ decimal (10 * n + (b - 48)) l
unfolding decimal
decimal-on n b l = refl

pub decimal-end : (n : ℕ) → decimal n [] ≡ n
unfolding decimal
decimal-end n = refl

-- the loop over digits
pub record Numbering (s : List ℕ) (a n m : ℕ) : Type 0 where
  pub most : n ≤ 4294967296
  pub so : capped (decimal n (front Digits (drop a s))) ≡ m

module _ {s : List ℕ} {a n m : ℕ} (inv : Numbering s a n m) where
  pub number_stop : a < length s → goes_on Digits (kind_of (get_or s a 0)) ≡ false → n ≡ m
  number_stop h g = sym (cap_low n inv.most) ∙ ap capped (sym (decimal-end n) ∙ ap (decimal n) (sym (front-stop Digits s a h g))) ∙ inv.so

  pub number_end : length s ≤ a → n ≡ m
  number_end h = sym (cap_low n inv.most) ∙ ap capped (sym (decimal-end n) ∙ ap (decimal n) (sym (front-end Digits s a h))) ∙ inv.so

  pub number_on : a < length s → goes_on Digits (kind_of (get_or s a 0)) ≡ true → {k : ℕ} → k ≤ 4294967296 → k ≡ capped (10 * n + (get_or s a 0 - 48)) → Numbering s (a + 1) k m
  number_on h g l e = record {
    most = l;
    so =
        ap (λ (x : ℕ). capped (decimal x (front Digits (drop (a + 1) s)))) e
        ∙ decimal-cap (10 * n + (get_or s a 0 - 48)) (front Digits (drop (a + 1) s))
        ∙ ap capped (sym (decimal-on n (get_or s a 0) (front Digits (drop (a + 1) s))) ∙ ap (decimal n) (sym (front-on Digits s a h g)))
        ∙ inv.so;
  }

-- the text from a position on, inside or past it
pub left-rest : (s : List ℕ) (a : ℕ) → left (rest_at s a) ≡ drop a s
unfolding rest_at
left-rest s a =
    by_cases (leb a (length s))
    (λ e. rw e)
    (λ e. let h : length s ≤ a = (let g = leb-false a (length s) e in omega arith) in rw e (sym (drop_of_length-le s h)))

pub number_of_lem : (s : List ℕ) (a : ℕ) → number_of (rest_at s a) ≡ capped (decimal 0 (front Digits (drop a s)))
number_of_lem s a = ap (λ (l : List ℕ). capped (decimal 0 (front Digits l))) (left-rest s a)

-- white space, ids and digits, from the end of the run
module _ (s : List ℕ) (a r : ℕ) where
  pub spaces-at : r ≡ a + length (front Spaces (drop a s)) → rest_at s r ≡ spaces (rest_at s a)
  spaces-at e =
      by_cases (leb a (length s))
      (λ t. run-rest Spaces s a r e (leb-true a (length s) t) ∙ ap spaces (sym (rest_in s a (leb-true a (length s) t))))
      (λ f. ap (rest_at s) (run_out Spaces s a r e (leb-false a (length s) f)) ∙ rest_out s a (leb-false a (length s) f) ∙ ap spaces (sym (rest_out s a (leb-false a (length s) f))))

  id-in : r ≡ a + length (front Id (drop a s)) → a ≤ length s → id (rest_at s a) ≡ if_more (id_wrong (r - a)) outside (rest_at s r)
  id-in e h =
      ap id (rest_in s a h)
      ∙ ap (λ (n : ℕ). if_more (id_wrong n) outside (more (past Id (drop a s)))) (let g : length (front Id (drop a s)) ≡ r - a = omega arith in g)
      ∙ ap (λ (x : Rest). if_more (id_wrong (r - a)) outside x) (sym (run-rest Id s a r e h))

  id-out : r ≡ a + length (front Id (drop a s)) → length s < a → (id_wrong (r - a) ≡ true) × (id (rest_at s a) ≡ outside)
  id-out e h = let g : r - a ≡ 0 = (let o = run_out Id s a r e h in omega arith) in (rw g, ap id (rest_out s a h))

  pub id_wrong_lem : r ≡ a + length (front Id (drop a s)) → id_wrong (r - a) ≡ true → rest_at s (length s + 1) ≡ id (rest_at s a)
  id_wrong_lem e w =
      rest_out s (length s + 1) (omega arith)
      ∙ by_cases (leb a (length s))
      (λ t. sym (id-in e (leb-true a (length s) t) ∙ rw w))
      (λ f. sym (id-out e (leb-false a (length s) f)).1)

  pub id_right : r ≡ a + length (front Id (drop a s)) → id_wrong (r - a) ≡ false → rest_at s r ≡ id (rest_at s a)
  id_right e w =
      by_cases (leb a (length s))
      (λ t. sym (id-in e (leb-true a (length s) t) ∙ rw w))
      (λ f. let o : true ≡ false = sym (id-out e (leb-false a (length s) f)).0 ∙ w in let z : ◌≡◌ {A = ℕ} 0 1 = cc in absurd (omega arith))

  digits_in : r ≡ a + length (front Digits (drop a s)) → a ≤ length s → digits (rest_at s a) ≡ if_more (eqb (r - a) 0) outside (rest_at s r)
  digits_in e h =
      ap digits (rest_in s a h)
      ∙ ap (λ (n : ℕ). if_more (eqb n 0) outside (more (past Digits (drop a s)))) (let g : length (front Digits (drop a s)) ≡ r - a = omega arith in g)
      ∙ ap (λ (x : Rest). if_more (eqb (r - a) 0) outside x) (sym (run-rest Digits s a r e h))

  pub digits-wrong : r ≡ a + length (front Digits (drop a s)) → r ≡ a → rest_at s (length s + 1) ≡ digits (rest_at s a)
  digits-wrong e w =
      rest_out s (length s + 1) (omega arith)
      ∙ by_cases (leb a (length s))
      (λ t. sym (digits_in e (leb-true a (length s) t) ∙ (let g : r - a ≡ 0 = omega arith in rw g)))
      (λ f. sym (ap digits (rest_out s a (leb-false a (length s) f))))

  pub digits-right : r ≡ a + length (front Digits (drop a s)) → (r ≡ a → ⊥) → rest_at s r ≡ digits (rest_at s a)
  digits-right e w =
      by_cases (leb a (length s))
      (λ t. sym (digits_in e (leb-true a (length s) t) ∙ rw (ne_eqb (r - a) 0 (λ g. w (omega arith)))))
      (λ f. absurd (w (run_out Digits s a r e (leb-false a (length s) f))))
