-- Ids, character by character; ids in tables.
use Prim.Native.Nat.{ℕ, zero, suc, ◌+◌, ◌<◌, ◌≤◌}
use mathlib.Core.Path.{◌≡◌, refl, sym, ap, ◌∙◌}
use lib.Dec.{eqb, leb}
use mathlib.Core.Bool.{true≢false, Bool, true, false, ◌||◌}
use Rattle.std.proofs.Common.{Option, Some, None}
use mathlib.Core.List.{List, [], ◌∷◌, ◌++◌, map}
use native.Mathlib.Omega.{arith}
use native.Mathlib.Numerals.{add-one}
use lib.ListN.{length, get_or, drop, take, drop_of_length-le}
use lib.Seq.{drop-cons, take-suc}
use borrow.Author.Tests.{eqb-true, eq-eqb, ne_eqb, leb-true, leb-false}
use Rattle.net.proofs.Numbers.{by_cases, and-true}
use Rattle.pnml_text.specs.Characters.{kind_of, goes_on}
use Rattle.pnml_text.specs.declared.Run.TheVariants.{Id}
use Rattle.pnml_text.proofs.Runs.{front-on, front-stop, front-end}
use Rattle.pnml_page.specs.Meant.{id_at}
use Rattle.pnml_names.specs.Names.{same_id, position, among, repeats}
use Rattle.pnml_names.specs.Tables.{head_of}

-- a character, or none
abbrev value : Option ℕ → ℕ
value None = 0
value (Some b) = b

abbrev there : Option ℕ → Bool
there None = false
there (Some b) = true

pub some_none : {b : ℕ} → ◌≡◌ {A = Option ℕ} (Some b) None → ⊥
some_none e = true≢false (ap there e)

pub same_some : {a b : ℕ} → ◌≡◌ {A = Option ℕ} (Some a) (Some b) → a ≡ b
same_some e = ap value e

-- the character of an id
module _ (s : List ℕ) (i : ℕ) where
  pub character_past : length s ≤ i → None ≡ head_of (id_at s i)
  unfolding id_at
  character_past h = rw (front-end Id s i h)

  pub character_in : i < length s → goes_on Id (kind_of (get_or s i 0)) ≡ true → Some (get_or s i 0) ≡ head_of (id_at s i)
  unfolding id_at
  character_in h g = rw (front-on Id s i h g)

  pub character_not : i < length s → goes_on Id (kind_of (get_or s i 0)) ≡ false → None ≡ head_of (id_at s i)
  unfolding id_at
  character_not h g = rw (front-stop Id s i h g)

  -- an id is empty, or has a first character
  pub data Starts : Type 0 where
    empty : id_at s i ≡ [] → Starts
    character : (b : ℕ) → i < length s → id_at s i ≡ b ∷ id_at s (i + 1) → Starts

  pub starts : Starts
  unfolding id_at
  starts =
      by_cases (leb (length s) i)
      (λ t. empty (front-end Id s i (leb-true (length s) i t)))
      (λ f.
      let h : i < length s = leb-false (length s) i f in
      by_cases (goes_on Id (kind_of (get_or s i 0)))
      (λ g. character (get_or s i 0) h (front-on Id s i h g))
      (λ g. empty (front-stop Id s i h g)))

pub record Comparing (s : List ℕ) (i j : ℕ) (answer : Bool) : Type 0 where
  pub so : same_id (id_at s i) (id_at s j) ≡ answer

module _ {s : List ℕ} {i j : ℕ} {answer : Bool} (inv : Comparing s i j answer) where
  pub unlike : {x y : Option ℕ} → x ≡ head_of (id_at s i) → y ≡ head_of (id_at s j) → (x ≡ y → ⊥) → false ≡ answer
  unfolding same_id
  unlike {x} {y} e f n = go (starts s i) (starts s j)
    where
      go : Starts s i → Starts s j → false ≡ answer
      go (empty p) (empty q) = absurd (n (e ∙ ap head_of (p ∙ sym q) ∙ sym f))
      go (empty p) (character b h q) = sym (rw (p, q)) ∙ inv.so
      go (character a g p) (empty q) = sym (rw (p, q)) ∙ inv.so
      go (character a g p) (character b h q) =
          let d : a ≡ b → ⊥ = λ t. n (e ∙ ap head_of p ∙ (λ k. Some (t k)) ∙ sym (f ∙ ap head_of q)) in
          sym (rw (p, q, ne_eqb a b d)) ∙ inv.so

  pub over : None ≡ head_of (id_at s i) → None ≡ head_of (id_at s j) → true ≡ answer
  unfolding same_id
  over e f = go (starts s i) (starts s j)
    where
      go : Starts s i → Starts s j → true ≡ answer
      go (empty p) (empty q) = sym (rw (p, q)) ∙ inv.so
      go (empty p) (character b h q) = absurd (some_none (sym (f ∙ ap head_of q)))
      go (character a g p) (empty q) = absurd (some_none (sym (e ∙ ap head_of p)))
      go (character a g p) (character b h q) = absurd (some_none (sym (e ∙ ap head_of p)))

  pub on : {x y : ℕ} → Some x ≡ head_of (id_at s i) → Some y ≡ head_of (id_at s j) → x ≡ y → Comparing s (i + 1) (j + 1) answer
  unfolding same_id
  on {x} {y} e f t = go (starts s i) (starts s j)
    where
      go : Starts s i → Starts s j → Comparing s (i + 1) (j + 1) answer
      go (empty p) q = absurd (some_none (e ∙ ap head_of p))
      go (character a g p) (empty q) = absurd (some_none (f ∙ ap head_of q))
      go (character a g p) (character b h q) =
          record { so = sym (rw (p, q, eq-eqb a b (sym (same_some (e ∙ ap head_of p)) ∙ t ∙ same_some (f ∙ ap head_of q)))) ∙ inv.so }

pub within : (s : List ℕ) (i : ℕ) {x : ℕ} → Some x ≡ head_of (id_at s i) → i < length s
within s i {x} e = go (starts s i)
  where
    go : Starts s i → i < length s
    go (empty p) = absurd (some_none (e ∙ ap head_of p))
    go (character a g p) = g

-- two ids are the same where they are equal
pub same_refl : (x : List ℕ) → same_id x x ≡ true
unfolding same_id
same_refl [] = refl
same_refl (a ∷ x) = rw (eq-eqb a a refl) (same_refl x)

pub same_eq : (x y : List ℕ) → same_id x y ≡ true → x ≡ y
unfolding same_id
same_eq [] [] e = refl
same_eq [] (b ∷ y) e = let z : ◌≡◌ {A = ℕ} 0 1 = cc in absurd (omega arith)
same_eq (a ∷ x) [] e = let z : ◌≡◌ {A = ℕ} 0 1 = cc in absurd (omega arith)
same_eq (a ∷ x) (b ∷ y) e =
    let t = and-true (eqb a b) (same_id x y) e in
    let p = eqb-true a b t.0 in
    let q = same_eq x y t.1 in
    λ i. p i ∷ q i

-- ids in a list
pub among-append : (x : List ℕ) (l m : List (List ℕ)) → among x (l ++ m) ≡ (among x l || among x m)
unfolding among
among-append x [] m = refl
among-append x (y ∷ l) m = by_cases (same_id x y) (λ e. rw e) (λ e. rw e (among-append x l m))

pub position-among : (x : List ℕ) (l : List (List ℕ)) → among x l ≡ true → position x l < length l
unfolding among position
position-among x [] e = let z : ◌≡◌ {A = ℕ} 0 1 = cc in absurd (omega arith)
position-among x (y ∷ l) e =
    by_cases (same_id x y)
    (λ f. rw f (omega arith))
    (λ f. rw f (let i = position-among x l (rw f at e) in omega arith))

pub position-not : (x : List ℕ) (l m : List (List ℕ)) → among x l ≡ false → position x (l ++ m) ≡ length l + position x m
unfolding among position
position-not x [] m e = omega arith
position-not x (y ∷ l) m e =
    by_cases (same_id x y)
    (λ f. absurd (true≢false (rw f at e)))
    (λ f. rw f (let i = position-not x l m (rw f at e) in omega arith))

pub position_in : (x : List ℕ) (l m : List (List ℕ)) → among x l ≡ true → position x (l ++ m) ≡ position x l
unfolding among position
position_in x [] m e = let z : ◌≡◌ {A = ℕ} 0 1 = cc in absurd (omega arith)
position_in x (y ∷ l) m e =
    by_cases (same_id x y)
    (λ f. rw f)
    (λ f. rw f (ap suc (position_in x l m (rw f at e))))

-- lists in which no id stands twice
pub or-false : (a b : Bool) → (a || b) ≡ false → (a ≡ false) × (b ≡ false)
or-false false b e = (refl, e)
or-false true b e = let z : ◌≡◌ {A = ℕ} 0 1 = cc in absurd (omega arith)

pub repeats-more : (x : List ℕ) (l : List (List ℕ)) → repeats (l ++ (x ∷ [])) ≡ (repeats l || among x l)
unfolding repeats among
repeats-more x [] = refl
repeats-more x (y ∷ l) =
    by_cases (same_id x y)
    (λ e.
    let q = same_eq x y e in
    let a : among y (l ++ (x ∷ [])) ≡ true = ap (λ (z : List ℕ). among z (l ++ (x ∷ []))) (sym q) ∙ among-append x l (x ∷ []) ∙ last (among x l) (same_id x x) (same_refl x) in
    rw (e, a) (sym (ends (among y l || repeats l))))
    (λ e.
    let a : among y (l ++ (x ∷ [])) ≡ among y l = among-append y l (x ∷ []) ∙ none (among y l) (same_id y x) (other e) in
    rw (e, a, repeats-more x l) (sym (assoc (among y l) (repeats l) (among x l))))
  where
    last : (a b : Bool) → b ≡ true → (a || (b || false)) ≡ true
    last true b e = refl
    last false b e = rw e

    ends : (a : Bool) → (a || true) ≡ true
    ends true = refl
    ends false = refl

    none : (a b : Bool) → b ≡ false → (a || (b || false)) ≡ a
    none true b e = refl
    none false b e = rw e

    assoc : (a b d : Bool) → ((a || b) || d) ≡ (a || (b || d))
    assoc true b d = refl
    assoc false b d = refl

    other : same_id x y ≡ false → same_id y x ≡ false
    other e = by_cases (same_id y x) (λ f. let g : same_id x y ≡ true = ap (λ (z : List ℕ). same_id x z) (same_eq y x f) ∙ same_refl x in absurd (true≢false (sym g ∙ e))) (λ f. f)

pub repeats-front : (l m : List (List ℕ)) → repeats (l ++ m) ≡ false → repeats l ≡ false
unfolding repeats
repeats-front [] m e = refl
repeats-front (y ∷ l) m e =
    let a = or-false (among y (l ++ m)) (repeats (l ++ m)) e in
    rw (or-false (among y l) (among y m) (sym (among-append y l m) ∙ a.0)).0 (repeats-front l m a.1)

pub repeats-back : (l m : List (List ℕ)) → repeats (l ++ m) ≡ false → repeats m ≡ false
unfolding repeats
repeats-back [] m e = e
repeats-back (y ∷ l) m e = repeats-back l m (or-false (among y (l ++ m)) (repeats (l ++ m)) e).1

-- an id of one part is in no other
pub no_other : (x : List ℕ) (l m : List (List ℕ)) → repeats (l ++ m) ≡ false → among x m ≡ true → among x l ≡ false
unfolding repeats among
no_other x [] m e f = refl
no_other x (y ∷ l) m e f =
    let a = or-false (among y (l ++ m)) (repeats (l ++ m)) e in
    let b = (or-false (among y l) (among y m) (sym (among-append y l m) ∙ a.0)).1 in
    by_cases (same_id x y)
    (λ t. let q : among y m ≡ true = ap (λ (z : List ℕ). among z m) (sym (same_eq x y t)) ∙ f in absurd (true≢false (sym q ∙ b)))
    (λ t. rw t (no_other x l m a.1 f))

-- ids at the positions of a table
module _ {A : Type 0} (f : ℕ → A) (table : List ℕ) where
  pub map-cons : (k : ℕ) → k < length table → map f (drop k table) ≡ f (get_or table k 0) ∷ map f (drop (k + 1) table)
  map-cons k h = let d : drop k table ≡ get_or table k 0 ∷ drop (k + 1) table = rw (add-one, drop-cons table k 0 h) in ap (map f) d

  pub map-none : (k : ℕ) → length table ≤ k → map f (drop k table) ≡ []
  map-none k h = ap (map f) (drop_of_length-le table h)

pub map-append : {A B : Type 0} (f : A → B) (l m : List A) → map f (l ++ m) ≡ map f l ++ map f m
map-append f [] m = refl
map-append {A} {B} f (x ∷ l) m = ap (λ (r : List B). f x ∷ r) (map-append f l m)

pub map_more : {A : Type 0} (f : ℕ → A) (table : List ℕ) (k : ℕ) → k < length table → map f (take (k + 1) table) ≡ map f (take k table) ++ (f (get_or table k 0) ∷ [])
map_more {A} f table k h =
    ap (λ (j : ℕ). map f (take j table)) (add-one k) ∙ ap (map f) (take-suc table k 0 h) ∙ map-append f (take k table) (get_or table k 0 ∷ [])

pub among-at : (f : ℕ → List ℕ) (l : List ℕ) (r : ℕ) → r < length l → among (f (get_or l r 0)) (map f l) ≡ true
unfolding among
among-at f [] r h = absurd (omega arith)
among-at f (y ∷ l) zero h = rw (same_refl (f y))
among-at f (y ∷ l) (suc r) h = by_cases (same_id (f (get_or l r 0)) (f y)) (λ e. rw e) (λ e. rw e (among-at f l r (omega arith)))

-- where no id stands twice, each stands where it stands
pub position_at : (f : ℕ → List ℕ) (l : List ℕ) (r : ℕ) → repeats (map f l) ≡ false → r < length l → position (f (get_or l r 0)) (map f l) ≡ r
unfolding repeats position
position_at f [] r e h = absurd (omega arith)
position_at f (y ∷ l) zero e h = rw (same_refl (f y))
position_at f (y ∷ l) (suc r) e h =
    let a = or-false (among (f y) (map f l)) (repeats (map f l)) e in
    by_cases (same_id (f (get_or l r 0)) (f y))
    (λ t.
    let q : among (f y) (map f l) ≡ true = ap (λ (z : List ℕ). among z (map f l)) (sym (same_eq (f (get_or l r 0)) (f y) t)) ∙ among-at f l r (omega arith) in
    absurd (true≢false (sym q ∙ a.0)))
    (λ t. rw t (ap suc (position_at f l r a.1 (omega arith))))

pub position-none : (f : ℕ → List ℕ) (l : List ℕ) (x : List ℕ) → ((j : ℕ) → j < length l → same_id x (f (get_or l j 0)) ≡ false) → position x (map f l) ≡ length l
unfolding position
position-none f [] x h = refl
position-none f (y ∷ l) x h = rw (h 0 (omega arith)) (ap suc (position-none f l x (λ j g. h (suc j) (omega arith))))
