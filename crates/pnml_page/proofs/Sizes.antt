-- How much of the text each step takes at least.
use Prim.Native.Nat.{ℕ, zero, suc, ◌+◌, ◌-◌, ◌≤◌}
use mathlib.Core.Bool.{true}
use mathlib.Core.Path.{◌≡◌, refl, ap, ◌∙◌}
use mathlib.Core.List.{List, [], ◌∷◌}
use native.Mathlib.Omega.{arith}
use lib.Dec.{eqb, leb}
use lib.ListN.{length, length-drop}
use Rattle.pnml_text.specs.Words.{bytes}
use Rattle.pnml_text.specs.Characters.{kind_of, goes_on}
use Rattle.pnml_text.specs.Rest.{Rest, outside, more, strip, word, front, past, spaces, id, id_wrong, digits, rest_at}
use Rattle.pnml_page.specs.Steps
use Rattle.pnml_text.specs.declared.Run.{Run}
use Rattle.pnml_text.specs.declared.Run.TheVariants.{Spaces, Digits, Id}
use borrow.Author.Tests.{leb-true, leb-false}
use Rattle.net.proofs.Numbers.{by_cases}
use Rattle.pnml_text.proofs.Runs.{rest_in, rest_out}

-- bytes left, and one; 0 outside
abbrev pub size : Rest → ℕ
size outside = 0
size (more s) = suc (length s)

pub strip-size : (w s : List ℕ) → size (strip w s) ≤ suc (length s) - length w
unfolding strip
strip-size [] s = omega arith
strip-size (a ∷ w) [] = omega arith
strip-size (a ∷ w) (b ∷ s) =
    by_cases (eqb b a) (λ e. rw e (let i = strip-size w s in omega arith)) (λ e. rw e (omega arith))

pub word_size : (w : List ℕ) (r : Rest) → size (word w r) ≤ size r - length w
word_size w outside = omega arith
word_size w (more s) = strip-size w s

past-front : (c : Run) (s : List ℕ) → length (past c s) + length (front c s) ≡ length s
unfolding past front
past-front c [] = refl
past-front c (b ∷ s) =
    by_cases (goes_on c (kind_of b)) (λ e. rw e (let i = past-front c s in omega arith)) (λ e. rw e (omega arith))

pub spaces-size : (r : Rest) → size (spaces r) ≤ size r
spaces-size outside = omega arith
spaces-size (more s) = let e = past-front Spaces s in omega arith

pub id-size : (r : Rest) → size (id r) ≤ size r - 1
id-size outside = omega arith
id-size (more s) = go (length (front Id s)) refl
  where
    go : (n : ℕ) → length (front Id s) ≡ n → size (id (more s)) ≤ suc (length s) - 1
    go zero e = rw e (omega arith)
    go (suc n) e =
        by_cases (id_wrong (length (front Id s)))
        (λ t. rw t (omega arith))
        (λ t. rw t (let p = past-front Id s in omega arith))

pub digits-size : (r : Rest) → size (digits r) ≤ size r
digits-size outside = omega arith
digits-size (more s) =
    by_cases (eqb (length (front Digits s)) 0) (λ t. rw t (omega arith)) (λ t. rw t (let p = past-front Digits s in omega arith))

pub held-size : (stop : List ℕ) (r : Rest) → size (Steps.held stop r).rest ≤ size r
unfolding Steps.held
held-size stop r =
    let a = spaces-size r in
    let b = word_size (bytes "<text>") (spaces r) in
    let c = digits-size (word (bytes "<text>") (spaces r)) in
    let d = word_size (bytes "</text>") (digits (word (bytes "<text>") (spaces r))) in
    let e = spaces-size (word (bytes "</text>") (digits (word (bytes "<text>") (spaces r)))) in
    let f = word_size stop (spaces (word (bytes "</text>") (digits (word (bytes "<text>") (spaces r))))) in
    let g = spaces-size (word stop (spaces (word (bytes "</text>") (digits (word (bytes "<text>") (spaces r)))))) in
    omega arith

pub label-size : (start stop : List ℕ) (missing : ℕ) (r : Rest) → size (Steps.label start stop missing r).rest ≤ size r
unfolding Steps.label
label-size start stop missing r = go (word start r) (word_size start r)
  where
    go : (x : Rest) → size x ≤ size r - length start → size (Steps.or_missing missing stop r x).rest ≤ size r
    go outside h = omega arith
    go (more s) h = let i = held-size stop (more s) in omega arith

pub tail-size : (start stop finish : List ℕ) (missing : ℕ) (r : Rest) → 1 ≤ length finish → size (Steps.tail start stop finish missing r).rest ≤ size r - 3
unfolding Steps.tail
tail-size start stop finish missing r h = go (word (bytes "\"/>") r) (word_size (bytes "\"/>") r)
  where
    go : (x : Rest) → size x ≤ size r - 3 → size (Steps.or_closed missing x (Steps.ended finish (Steps.label start stop missing (spaces (word (bytes "\">") r))))).rest ≤ size r - 3
    go (more s) g = g
    go outside g =
        let a = word_size (bytes "\">") r in
        let b = spaces-size (word (bytes "\">") r) in
        let c = label-size start stop missing (spaces (word (bytes "\">") r)) in
        let d = word_size finish (Steps.label start stop missing (spaces (word (bytes "\">") r))).rest in
        omega arith

pub place-size : (r : Rest) → size (Steps.place r).rest ≤ size r - 4
unfolding Steps.place
place-size r =
    let a = id-size r in
    let b = tail-size (bytes "<initialMarking>") (bytes "</initialMarking>") (bytes "</place>") 0 (id r) (omega arith) in
    omega arith

pub transition-size : (r : Rest) → size (Steps.transition r) ≤ size r - 4
unfolding Steps.transition
transition-size r = go (word (bytes "\"/>") (id r)) (word_size (bytes "\"/>") (id r))
  where
    go : (x : Rest) → size x ≤ size (id r) - 3 → size (Steps.or_else x (word (bytes "</transition>") (spaces (word (bytes "\">") (id r))))) ≤ size r - 4
    go (more s) g = let a = id-size r in omega arith
    go outside g =
        let a = id-size r in
        let b = word_size (bytes "\">") (id r) in
        let c = spaces-size (word (bytes "\">") (id r)) in
        let d = word_size (bytes "</transition>") (spaces (word (bytes "\">") (id r))) in
        omega arith

pub source-size : (r : Rest) → size (Steps.source r) ≤ size r - 11
unfolding Steps.source
source-size r = let a = id-size r in let b = word_size (bytes "\" source=\"") (id r) in omega arith

pub target-size : (r : Rest) → size (Steps.target r) ≤ size r - 22
unfolding Steps.target
target-size r =
    let a = source-size r in
    let b = id-size (Steps.source r) in
    let c = word_size (bytes "\" target=\"") (id (Steps.source r)) in
    omega arith

pub arc-size : (r : Rest) → size (Steps.arc r).rest ≤ size r - 26
unfolding Steps.arc
arc-size r =
    let a = target-size r in
    let b = id-size (Steps.target r) in
    let c = tail-size (bytes "<inscription>") (bytes "</inscription>") (bytes "</arc>") 1 (id (Steps.target r)) (omega arith) in
    omega arith

pub element-size : (r : Rest) → size (Steps.element r).rest ≤ size r - 15
unfolding Steps.element
element-size r = go (word (bytes "<place id=\"") r) (word_size (bytes "<place id=\"") r) (word (bytes "<transition id=\"") r) (word_size (bytes "<transition id=\"") r)
  where
    go : (x : Rest) → size x ≤ size r - 11 → (y : Rest) → size y ≤ size r - 16
        → size (Steps.if_stands x Steps.place_read (Steps.if_stands y Steps.transition_read (Steps.arc_read (word (bytes "<arc id=\"") r)))).rest ≤ size r - 15
    go (more s) h y k = let a = place-size (more s) in omega arith
    go outside h (more s) k = let a = transition-size (more s) in omega arith
    go outside h outside k =
        let a = word_size (bytes "<arc id=\"") r in
        let b = arc-size (word (bytes "<arc id=\"") r) in
        omega arith

-- what is left at a position
pub rest_size : (s : List ℕ) (a : ℕ) → size (rest_at s a) ≡ suc (length s) - a
rest_size s a =
    by_cases (leb a (length s))
    (λ t. let h = leb-true a (length s) t in let l = length-drop a s in ap size (rest_in s a h) ∙ omega arith)
    (λ f. let h = leb-false a (length s) f in ap size (rest_out s a h) ∙ omega arith)

-- a position before which more of the text is left than at one within the text is within it too
pub before-within : (s : List ℕ) (a b k : ℕ) → size (rest_at s b) ≤ size (rest_at s a) - suc k → b ≤ length s → a + k ≤ length s
before-within s a b k h i = omega (arith, rest_size s a, rest_size s b)

pub content-size : (n : ℕ) (r : Rest) → size (Steps.content n r).rest ≤ size r
unfolding Steps.content
content-size zero r = omega arith
content-size (suc n) r = go (Steps.element r).rest (element-size r) (λ x. content-size n (spaces x))
  where
    go : (x : Rest) → size x ≤ size r - 15 → ((y : Rest) → size (Steps.content n (spaces y)).rest ≤ size (spaces y)) → size (Steps.if_read x (record { elements = []; rest = r }) (Steps.before (Steps.element r).element (Steps.content n (spaces x)))).rest ≤ size r
    go outside h all = omega arith
    go (more s) h all = let a = all (more s) in let b = spaces-size (more s) in omega arith

pub inside-size : (r : Rest) → size (Steps.inside r) ≤ size (Steps.page r) - 3
unfolding Steps.inside
inside-size r =
    let a = id-size (Steps.page r) in
    let b = word_size (bytes "\">") (id (Steps.page r)) in
    let c = spaces-size (word (bytes "\">") (id (Steps.page r))) in
    omega arith

pub page-size : (r : Rest) → size (Steps.page r) ≤ size (Steps.net r) - 11
unfolding Steps.page
page-size r =
    let a = id-size (Steps.net r) in
    let b = word_size (bytes "\" type=\"http://www.pnml.org/version-2009/grammar/ptnet\">") (id (Steps.net r)) in
    let c = spaces-size (word (bytes "\" type=\"http://www.pnml.org/version-2009/grammar/ptnet\">") (id (Steps.net r))) in
    let d = word_size (bytes "<page id=\"") (spaces (word (bytes "\" type=\"http://www.pnml.org/version-2009/grammar/ptnet\">") (id (Steps.net r)))) in
    omega arith

pub net-size : (r : Rest) → size (Steps.net r) ≤ size r
unfolding Steps.net
net-size r =
    let a = spaces-size r in
    let b = word_size (bytes "<pnml xmlns=\"http://www.pnml.org/version-2009/grammar/pnml\">") (spaces r) in
    let c = spaces-size (word (bytes "<pnml xmlns=\"http://www.pnml.org/version-2009/grammar/pnml\">") (spaces r)) in
    let d = word_size (bytes "<net id=\"") (spaces (word (bytes "<pnml xmlns=\"http://www.pnml.org/version-2009/grammar/pnml\">") (spaces r))) in
    omega arith

pub after-size : (r : Rest) → size (Steps.after r) ≤ size r
unfolding Steps.after
after-size r =
    let a = word_size (bytes "</page>") r in
    let b = spaces-size (word (bytes "</page>") r) in
    let c = word_size (bytes "</net>") (spaces (word (bytes "</page>") r)) in
    let d = spaces-size (word (bytes "</net>") (spaces (word (bytes "</page>") r))) in
    let e = word_size (bytes "</pnml>") (spaces (word (bytes "</net>") (spaces (word (bytes "</page>") r)))) in
    let f = spaces-size (word (bytes "</pnml>") (spaces (word (bytes "</net>") (spaces (word (bytes "</page>") r))))) in
    omega arith

-- a text of the profile goes on after the id of its page
pub page-read : (s : List ℕ) → Steps.read_whole s ≡ true → 4 ≤ size (Steps.page (more s))
unfolding Steps.read_whole
page-read s e =
    let c = (Steps.content Steps.most (Steps.inside (more s))).rest in
    go (Steps.after c) e (let a = after-size c in let b = content-size Steps.most (Steps.inside (more s)) in let d = inside-size (more s) in omega arith)
  where
    go : (x : Rest) → Steps.nothing x ≡ true → size x ≤ size (Steps.page (more s)) - 3 → 4 ≤ size (Steps.page (more s))
    go outside f h = let z : ◌≡◌ {A = ℕ} 0 1 = cc in absurd (omega arith)
    go (more l) f h = omega arith
