-- The pieces of the profile, read one after the other, are the steps that the code takes. Assumes nothing.
use Prim.Native.Nat.{ℕ, ◌≤◌}
use mathlib.Core.Path.{◌≡◌, refl, sym, ap, ◌∙◌}
use mathlib.Core.Bool.{Bool, true, false, ◌||◌, not, true≢false}
use mathlib.Core.List.{List, [], ◌∷◌, ◌++◌, append-nil, append_assoc}
use native.Mathlib.Omega.{arith}
use lib.Dec.{eqb, ltb, leb}
use lib.ListN.{length, drop}
use borrow.Author.Tests.{eqb-true, eq-eqb, leb-true, le-leb, lt-leb}
use Rattle.net.proofs.Numbers.{by_cases, and-true}
use Rattle.pnml_text.specs.Words.{bytes}
use Rattle.pnml_text.specs.Characters.{kind_of, goes_on, if_kind, is_letter, is_digit, is_mark, is_space, is_id}
use Rattle.pnml_text.specs.declared.Kind.TheVariants.{Letter, Digit, Mark, Space, Other}
use Rattle.pnml_text.specs.declared.Run.{Run}
use Rattle.pnml_text.specs.declared.Run.TheVariants.{Spaces, Digits, Id}
use Rattle.pnml_text.specs.Rest
use Rattle.pnml_text.specs.Rest.{Rest, outside, more, strip, word, front, left, spaces, id, id_wrong, digits}
use Rattle.pnml_text.proofs.Runs.{past-drop}
use Rattle.pnml_page.specs.Profile.{Piece, tag, blank, name, number, Parse, failed, parsed, starts, run, past, next, reads}

-- ---- characters

no_space : (l d m : Bool) → goes_on Spaces (if_kind l Letter (if_kind d Digit (if_kind m Mark Other))) ≡ false
no_space true d m = refl
no_space false true m = refl
no_space false false true = refl
no_space false false false = refl

space_is : (b : ℕ) → goes_on Spaces (kind_of b) ≡ is_space b
unfolding kind_of
space_is b = by_cases (eqb b 9) (λ e. rw (eqb-true b 9 e))
    (λ f. by_cases (eqb b 10) (λ e. rw (eqb-true b 10 e))
    (λ g. by_cases (eqb b 13) (λ e. rw (eqb-true b 13 e))
    (λ h. by_cases (eqb b 32) (λ e. rw (eqb-true b 32 e))
    (λ i. rw (f, g, h, i) (no_space (is_letter b) (is_digit b) (is_mark b))))))

digit_or : (d m s : Bool) → goes_on Digits (if_kind d Digit (if_kind m Mark (if_kind s Space Other))) ≡ d
digit_or true m s = refl
digit_or false true s = refl
digit_or false false true = refl
digit_or false false false = refl

letter_high : (b : ℕ) → is_letter b ≡ true → 65 ≤ b
letter_high b e = by_cases (leb 65 b) (λ t. leb-true 65 b t) (λ f. by_cases (leb 97 b) (λ t. let h = leb-true 97 b t in omega arith) (λ g. absurd (true≢false (sym (rw (f, g) at e)))))

digit-is : (b : ℕ) → goes_on Digits (kind_of b) ≡ is_digit b
unfolding kind_of
digit-is b = by_cases (is_letter b)
    (λ e. let h = letter_high b e in rw e (sym (rw (le-leb 48 b (omega arith), lt-leb b 57 (omega arith)))))
    (λ e. rw e (digit_or (is_digit b) (is_mark b) (is_space b)))

id-or : (l d m s : Bool) → goes_on Id (if_kind l Letter (if_kind d Digit (if_kind m Mark (if_kind s Space Other)))) ≡ (l || d || m)
id-or true d m s = refl
id-or false true m s = refl
id-or false false true s = refl
id-or false false false true = refl
id-or false false false false = refl

id-is : (b : ℕ) → goes_on Id (kind_of b) ≡ is_id b
unfolding kind_of
id-is b = id-or (is_letter b) (is_digit b) (is_mark b) (is_space b)

-- ---- runs and words

module _ (f : ℕ → Bool) (c : Run) (same : (b : ℕ) → goes_on c (kind_of b) ≡ f b) where
  front-is : (s : List ℕ) → front c s ≡ run f s
  unfolding front run
  front-is [] = refl
  front-is (b ∷ s) = by_cases (f b)
      (λ e. rw (same b ∙ e, e, run) (ap (λ (l : List ℕ). b ∷ l) (front-is s)))
      (λ e. rw (same b ∙ e, e, run))

  past_is : (s : List ℕ) → Rest.past c s ≡ past f s
  past_is s = sym (past-drop c s) ∙ ap (λ (l : List ℕ). drop (length l) s) (front-is s)

strip-yes : (w s : List ℕ) → starts w s ≡ true → strip w s ≡ more (drop (length w) s)
unfolding strip starts
strip-yes [] s e = refl
strip-yes (a ∷ w) [] e = absurd (true≢false (sym e))
strip-yes (a ∷ w) (b ∷ s) e = let t = and-true (eqb b a) (starts w s) e in rw t.0 (strip-yes w s t.1)

strip-no : (w s : List ℕ) → starts w s ≡ false → strip w s ≡ outside
unfolding strip starts
strip-no [] s e = absurd (true≢false e)
strip-no (a ∷ w) [] e = refl
strip-no (a ∷ w) (b ∷ s) e = by_cases (eqb b a) (λ t. rw t (strip-no w s (rw t at e))) (λ f. rw f)

-- two words that differ do not both stand at a place
abbrev pub clash : List ℕ → List ℕ → Bool
clash [] w = false
clash (a ∷ v) [] = false
clash (a ∷ v) (b ∷ w) = not (eqb a b) || clash v w

clash_strip : (v w s x : List ℕ) → clash v w ≡ true → strip v s ≡ more x → strip w s ≡ outside
unfolding strip
clash_strip [] w s x c e = absurd (true≢false (sym c))
clash_strip (a ∷ v) [] s x c e = absurd (true≢false (sym c))
clash_strip (a ∷ v) (b ∷ w) [] x c e = refl
clash_strip (a ∷ v) (b ∷ w) (k ∷ s) x c e = by_cases (eqb k a)
    (λ t. by_cases (eqb k b)
    (λ u.
    let p = eqb-true k a t in
    let q = eqb-true k b u in
    let d : eqb a b ≡ true = eq-eqb a b (sym p ∙ q) in
    rw u (clash_strip v w s x (rw d at c) (rw t at e)))
    (λ u. rw u))
    (λ t. absurd (not_more (rw t at e)))
  where
    not_more : outside ≡ more x → ⊥
    not_more z = let y : ◌≡◌ {A = ℕ} 0 1 = cc in omega arith

pub clash_word : (v w : List ℕ) (r : Rest) (x : List ℕ) → clash v w ≡ true → word v r ≡ more x → word w r ≡ outside
clash_word v w outside x c e = refl
clash_word v w (more s) x c e = clash_strip v w s x c e

-- ---- pieces

-- what is left after a piece, and what it holds
abbrev pub step : Rest → Piece → Rest
step r (tag w) = word (bytes w) r
step r blank = spaces r
step r name = id r
step r number = digits r

abbrev pub holds : Rest → Piece → List (List ℕ)
holds r (tag w) = []
holds r blank = []
holds r name = front Id (left r) ∷ []
holds r number = front Digits (left r) ∷ []

abbrev pub steps : Rest → List Piece → Rest
steps r [] = r
steps r (p ∷ l) = steps (step r p) l

abbrev pub held : Rest → List Piece → List (List ℕ)
held r [] = []
held r (p ∷ l) = holds r p ++ held (step r p) l

abbrev pub parse : List (List ℕ) → Rest → Parse
parse h outside = failed
parse h (more s) = parsed h s

module _ (s : List ℕ) where
  abbrev id-test : Bool
  id-test = eqb (length (run is_id s)) 0 || ltb 32 (length (run is_id s))

  id-no : id-test ≡ true → id (more s) ≡ outside
  id-no t = rw (front-is is_id Id id-is s, t)

  id-yes : id-test ≡ false → id (more s) ≡ more (Rest.past Id s)
  id-yes f = rw (front-is is_id Id id-is s, f)

  digits-no : eqb (length (run is_digit s)) 0 ≡ true → digits (more s) ≡ outside
  digits-no t = rw (front-is is_digit Digits digit-is s, t)

  digits-yes : eqb (length (run is_digit s)) 0 ≡ false → digits (more s) ≡ more (Rest.past Digits s)
  digits-yes f = rw (front-is is_digit Digits digit-is s, f)

next_is : (h : List (List ℕ)) (s : List ℕ) (p : Piece) → next (parsed h s) p ≡ parse (h ++ holds (more s) p) (step (more s) p)
unfolding next
next_is h s (tag w) = by_cases (starts (bytes w) s)
    (λ t. rw (t, next) ((λ j. parsed (sym (append-nil h) j) (drop (length (bytes w)) s)) ∙ sym (ap (parse (h ++ [])) (strip-yes (bytes w) s t))))
    (λ f. rw (f, next) (sym (ap (parse (h ++ [])) (strip-no (bytes w) s f))))
next_is h s blank = λ j. parsed (sym (append-nil h) j) (sym (past_is is_space Spaces space_is s) j)
next_is h s name = by_cases (eqb (length (run is_id s)) 0 || ltb 32 (length (run is_id s)))
    (λ t. rw (t, next) (sym (ap (parse (h ++ (front Id s ∷ []))) (id-no s t))))
    (λ f. rw (f, next) ((λ j. parsed (h ++ (sym (front-is is_id Id id-is s) j ∷ [])) (sym (past_is is_id Id id-is s) j)) ∙ sym (ap (parse (h ++ (front Id s ∷ []))) (id-yes s f))))
next_is h s number = by_cases (eqb (length (run is_digit s)) 0)
    (λ t. rw (t, next) (sym (ap (parse (h ++ (front Digits s ∷ []))) (digits-no s t))))
    (λ f. rw (f, next) ((λ j. parsed (h ++ (sym (front-is is_digit Digits digit-is s) j ∷ [])) (sym (past_is is_digit Digits digit-is s) j)) ∙ sym (ap (parse (h ++ (front Digits s ∷ []))) (digits-yes s f))))

step_outside : (p : Piece) → step outside p ≡ outside
step_outside (tag w) = refl
step_outside blank = refl
step_outside name = refl
step_outside number = refl

pub steps_outside : (l : List Piece) → steps outside l ≡ outside
steps_outside [] = refl
steps_outside (p ∷ l) = ap (λ (r : Rest). steps r l) (step_outside p) ∙ steps_outside l

reads-failed : (l : List Piece) → reads failed l ≡ failed
unfolding reads next
reads-failed [] = refl
reads-failed (p ∷ l) = reads-failed l

-- pieces are read as the steps go, and hold what stands there
pub reads-are : (l : List Piece) (h : List (List ℕ)) (r : Rest) → reads (parse h r) l ≡ parse (h ++ held r l) (steps r l)
unfolding reads next
reads-are [] h outside = refl
reads-are [] h (more s) = ap (λ (y : List (List ℕ)). parsed y s) (sym (append-nil h))
reads-are (p ∷ l) h outside = reads-failed l ∙ sym (ap (parse (h ++ held outside (p ∷ l))) (steps_outside (p ∷ l)))
reads-are (p ∷ l) h (more s) =
    ap (λ (y : Parse). reads y l) (next_is h s p)
    ∙ reads-are l (h ++ holds (more s) p) (step (more s) p)
    ∙ ap (λ (y : List (List ℕ)). parse y (steps (step (more s) p) l)) (append_assoc h (holds (more s) p) (held (step (more s) p) l))

-- white space
pub spaces-are : (s : List ℕ) → spaces (more s) ≡ more (past is_space s)
spaces-are s = ap more (past_is is_space Spaces space_is s)
