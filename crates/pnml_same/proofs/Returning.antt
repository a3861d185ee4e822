-- The round trip of the profile: what is written as Spelled says is read as it was written. Assumes nothing.
use Prim.Native.Nat.{ℕ, zero, suc, ◌≤◌, ◌<◌}
use Prim.Native.String.{String}
use mathlib.Core.Path.{◌≡◌, refl, sym, ap, ◌∙◌}
use mathlib.Core.Bool.{Bool, true, false, ◌||◌, ◌&&◌, not, true≢false}
use mathlib.Core.List.{List, [], ◌∷◌, ◌++◌, map, append-nil, append_assoc}
use native.Mathlib.Omega.{arith}
use lib.Dec.{eqb, ltb}
use lib.ListN.{length, drop, length-append}
use lib.Seq.{drop_at}
use borrow.Author.Tests.{eqb-true, eq-eqb, ne_eqb, le-ltb}
use Rattle.net.proofs.Numbers.{by_cases, and-true}
use Rattle.pnml_text.specs.Words.{bytes}
use Rattle.pnml_text.specs.Characters.{is_space, is_digit, is_id}
use Rattle.pnml_page.specs.Profile
use Rattle.pnml_page.specs.Profile.{Piece, tag, blank, name, number, Parse, failed, parsed, starts, run, past, next, reads, Form, made, forms, Next, none, stands, element, content, head, foot, body, of_profile, drawing}
use Rattle.pnml_same.proofs.Reading.{body-so, heads_so, profile_so}
use Rattle.pnml_same.specs.Spelled.{one_of, Each, RightId, RightDigits, White, Spelling, closed_place, empty_place, marked_place, closed_transition, empty_transition, closed_arc, empty_arc, inscribed_arc, meaning, Right, AllRight, spelled, spelled_all, spelled_end, spelled_text, Returns}

-- ---- runs

-- a test passes each of these
abbrev passes : (ℕ → Bool) → List ℕ → Bool
passes f [] = true
passes f (a ∷ l) = f a && passes f l

pass_at : (f : ℕ → Bool) (l : List ℕ) (b : ℕ) → passes f l ≡ true → one_of l b ≡ true → f b ≡ true
pass_at f [] b p e = absurd (true≢false (sym e))
pass_at f (a ∷ l) b p e =
    let t = and-true (f a) (passes f l) p in
    by_cases (eqb b a) (λ u. ap f (eqb-true b a u) ∙ t.0) (λ u. pass_at f l b t.1 (rw u at e))

-- a run of such characters does not go on with a text
abbrev stops : (ℕ → Bool) → List ℕ → Bool
stops f [] = true
stops f (b ∷ s) = not (f b)

module _ (f : ℕ → Bool) (l : List ℕ) (p : passes f l ≡ true) where
  run-over : (x s : List ℕ) → Each l x → stops f s ≡ true → run f (x ++ s) ≡ x
  unfolding run
  run-over [] [] e q = refl
  run-over [] (b ∷ s) e q = by_cases (f b) (λ t. absurd (true≢false (sym q ∙ ap not t))) (λ u. rw (u, run))
  run-over (b ∷ x) s e q = rw (pass_at f l b p e.0, run) (ap (λ (y : List ℕ). b ∷ y) (run-over x s e.1 q))

  past-over : (x s : List ℕ) → Each l x → stops f s ≡ true → past f (x ++ s) ≡ s
  past-over x s e q = ap (λ (y : List ℕ). drop (length y) (x ++ s)) (run-over x s e q) ∙ drop_at x s (length x) refl

starts-own : (v s : List ℕ) → starts v (v ++ s) ≡ true
unfolding starts
starts-own [] s = refl
starts-own (a ∷ v) s = rw (eq-eqb a a refl) (starts-own v s)

-- ---- pieces

tag_ok : (h : List (List ℕ)) (t : String) (s : List ℕ) → next (parsed h (bytes t ++ s)) (tag t) ≡ parsed h s
unfolding next
tag_ok h t s = rw (starts-own (bytes t) s, next) (ap (parsed h) (drop_at (bytes t) s (length (bytes t)) refl))

tag_no : (h : List (List ℕ)) (t : String) (s : List ℕ) → starts (bytes t) s ≡ false → next (parsed h s) (tag t) ≡ failed
unfolding next
tag_no h t s e = rw (e, next)

blank_ok : (h : List (List ℕ)) (w s : List ℕ) → White w → stops is_space s ≡ true → next (parsed h (w ++ s)) blank ≡ parsed h s
unfolding next
blank_ok h w s v q = ap (parsed h) (past-over is_space (9 ∷ 10 ∷ 13 ∷ 32 ∷ []) refl w s v q)

name_ok : (h : List (List ℕ)) (x s : List ℕ) → RightId x → stops is_id s ≡ true → next (parsed h (x ++ s)) name ≡ parsed (h ++ (x ∷ [])) s
unfolding next
name_ok h x s g q =
    let r = run-over is_id (bytes "ABCDEFGHIJKLMNOPQRSTUVWXYZabcdefghijklmnopqrstuvwxyz0123456789-_.") refl x s g.right q in
    let d = past-over is_id (bytes "ABCDEFGHIJKLMNOPQRSTUVWXYZabcdefghijklmnopqrstuvwxyz0123456789-_.") refl x s g.right q in
    let a : eqb (length (run is_id (x ++ s))) 0 ≡ false = ap (λ (y : List ℕ). eqb (length y) 0) r ∙ ne_eqb (length x) 0 (λ z. omega (arith, z, g.some)) in
    let b : ltb 32 (length (run is_id (x ++ s))) ≡ false = ap (λ (y : List ℕ). ltb 32 (length y)) r ∙ le-ltb 32 (length x) g.few in
    let c : (eqb (length (run is_id (x ++ s))) 0 || ltb 32 (length (run is_id (x ++ s)))) ≡ false = (λ j. a j || b j) in
    rw (c, next) (λ j. parsed (h ++ (r j ∷ [])) (d j))

number_ok : (h : List (List ℕ)) (x s : List ℕ) → RightDigits x → stops is_digit s ≡ true → next (parsed h (x ++ s)) number ≡ parsed (h ++ (x ∷ [])) s
unfolding next
number_ok h x s g q =
    let r = run-over is_digit (bytes "0123456789") refl x s g.right q in
    let d = past-over is_digit (bytes "0123456789") refl x s g.right q in
    let c : eqb (length (run is_digit (x ++ s))) 0 ≡ false = ap (λ (y : List ℕ). eqb (length y) 0) r ∙ ne_eqb (length x) 0 (λ z. omega (arith, z, g.some)) in
    rw (c, next) (λ j. parsed (h ++ (r j ∷ [])) (d j))

-- pieces written out, with these ids and digits, before a text
abbrev written : List Piece → List (List ℕ) → List ℕ → List ℕ → List ℕ
written [] h w r = r
written (tag t ∷ l) h w r = bytes t ++ written l h w r
written (blank ∷ l) h w r = w ++ written l h w r
written (name ∷ l) [] w r = written l [] w r
written (name ∷ l) (x ∷ h) w r = x ++ written l h w r
written (number ∷ l) [] w r = written l [] w r
written (number ∷ l) (x ∷ h) w r = x ++ written l h w r

-- they are right, and no run goes on with what stands after it
abbrev Good : List Piece → List (List ℕ) → List ℕ → List ℕ → Type 0
Good [] h w r = h ≡ []
Good (tag t ∷ l) h w r = Good l h w r
Good (blank ∷ l) h w r = (stops is_space (written l h w r) ≡ true) × Good l h w r
Good (name ∷ l) [] w r = ⊥
Good (name ∷ l) (x ∷ h) w r = RightId x × ((stops is_id (written l h w r) ≡ true) × Good l h w r)
Good (number ∷ l) [] w r = ⊥
Good (number ∷ l) (x ∷ h) w r = RightDigits x × ((stops is_digit (written l h w r) ≡ true) × Good l h w r)

reads_on : (p : Parse) {q r : Parse} (x : Piece) (l : List Piece) → next p x ≡ q → reads q l ≡ r → reads p (x ∷ l) ≡ r
unfolding reads
reads_on p x l e f = ap (λ (y : Parse). reads y l) e ∙ f

module _ (w r : List ℕ) (v : White w) where
  reads-written : (l : List Piece) (h acc : List (List ℕ)) → Good l h w r → reads (parsed acc (written l h w r)) l ≡ parsed (acc ++ h) r
  unfolding reads
  reads-written [] h acc g = ap (λ (y : List (List ℕ)). parsed y r) (sym (append-nil acc) ∙ ap (λ (y : List (List ℕ)). acc ++ y) (sym g))
  reads-written (tag t ∷ l) h acc g = reads_on (parsed acc (bytes t ++ written l h w r)) (tag t) l (tag_ok acc t (written l h w r)) (reads-written l h acc g)
  reads-written (blank ∷ l) h acc g = reads_on (parsed acc (w ++ written l h w r)) blank l (blank_ok acc w (written l h w r) v g.0) (reads-written l h acc g.1)
  reads-written (name ∷ l) [] acc g = absurd g
  reads-written (name ∷ l) (x ∷ h) acc g =
      reads_on (parsed acc (x ++ written l h w r)) name l (name_ok acc x (written l h w r) g.0 g.1.0) (reads-written l h (acc ++ (x ∷ [])) g.1.1)
      ∙ ap (λ (y : List (List ℕ)). parsed y r) (append_assoc acc (x ∷ []) h)
  reads-written (number ∷ l) [] acc g = absurd g
  reads-written (number ∷ l) (x ∷ h) acc g =
      reads_on (parsed acc (x ++ written l h w r)) number l (number_ok acc x (written l h w r) g.0 g.1.0) (reads-written l h (acc ++ (x ∷ [])) g.1.1)
      ∙ ap (λ (y : List (List ℕ)). parsed y r) (append_assoc acc (x ∷ []) h)

reads-failed : (l : List Piece) → reads failed l ≡ failed
unfolding reads next
reads-failed [] = refl
reads-failed (p ∷ l) = reads-failed l

reads-append : (p : Parse) (l m : List Piece) → reads p (l ++ m) ≡ reads (reads p l) m
unfolding reads
reads-append p [] m = refl
reads-append p (x ∷ l) m = reads-append (next p x) l m

-- a tag does not stand after pieces that do
reads-fail : (w r : List ℕ) → White w → (l : List Piece) (h : List (List ℕ)) (t : String) (m : List Piece) → Good l h w r → starts (bytes t) r ≡ false
    → reads (parsed [] (written l h w r)) (l ++ (tag t ∷ m)) ≡ failed
reads-fail w r v l h t m g e =
    reads-append (parsed [] (written l h w r)) l (tag t ∷ m)
    ∙ ap (λ (p : Parse). reads p (tag t ∷ m)) (reads-written w r v l h [] g)
    ∙ reads_on (parsed h r) (tag t) m (tag_no h t r e) (reads-failed m)

first-fail : (s : List ℕ) (t : String) (m : List Piece) → starts (bytes t) s ≡ false → reads (parsed [] s) (tag t ∷ m) ≡ failed
first-fail s t m e = reads_on (parsed [] s) (tag t) m (tag_no [] t s e) (reads-failed m)

-- ---- elements

yes : (f : Form) (others : List Form) (h : List (List ℕ)) (w r : List ℕ) → White w → Good f.pieces h w r → element (f ∷ others) (written f.pieces h w r) ≡ stands (made f h) r
unfolding element
yes f others h w r v g = rw (reads-written w r v f.pieces h [] g, element)

no : (f : Form) (others : List Form) (s : List ℕ) → reads (parsed [] s) f.pieces ≡ failed → element (f ∷ others) s ≡ element others s
unfolding element
no f others s e = rw (e, element)

abbrev label : String → String → String → List Piece
label start stop finish = tag "\">" ∷ blank ∷ tag start ∷ blank ∷ tag "<text>" ∷ number ∷ tag "</text>" ∷ blank ∷ tag stop ∷ blank ∷ tag finish ∷ []

abbrev to_place : List Piece
to_place = tag "<place id=\"" ∷ name ∷ []

abbrev to_transition : List Piece
to_transition = tag "<transition id=\"" ∷ name ∷ []

abbrev to_arc : List Piece
to_arc = tag "<arc id=\"" ∷ name ∷ tag "\" source=\"" ∷ name ∷ tag "\" target=\"" ∷ name ∷ []

abbrev close : List Piece
close = tag "\"/>" ∷ []

abbrev void : String → List Piece
void finish = tag "\">" ∷ blank ∷ tag finish ∷ []

abbrev marked : List Piece
marked = label "<initialMarking>" "</initialMarking>" "</place>"

abbrev inscribed : List Piece
inscribed = label "<inscription>" "</inscription>" "</arc>"

-- a transition or an arc is in no form of a place, an arc in none of a transition
no_place : (s : List ℕ) → starts (bytes "<place id=\"") s ≡ false
    → element forms s ≡ element (Profile.transition close ∷ Profile.transition (void "</transition>") ∷ Profile.arc close ∷ Profile.arc (void "</arc>") ∷ Profile.arc inscribed ∷ []) s
no_place s e =
    no (Profile.place close) _ s (first-fail s "<place id=\"" (name ∷ close) e)
    ∙ no (Profile.place (void "</place>")) _ s (first-fail s "<place id=\"" (name ∷ void "</place>") e)
    ∙ no (Profile.place marked) _ s (first-fail s "<place id=\"" (name ∷ marked) e)

no_transition : (s : List ℕ) → starts (bytes "<place id=\"") s ≡ false → starts (bytes "<transition id=\"") s ≡ false
    → element forms s ≡ element (Profile.arc close ∷ Profile.arc (void "</arc>") ∷ Profile.arc inscribed ∷ []) s
no_transition s e f =
    no_place s e
    ∙ no (Profile.transition close) _ s (first-fail s "<transition id=\"" (name ∷ close) f)
    ∙ no (Profile.transition (void "</transition>")) _ s (first-fail s "<transition id=\"" (name ∷ void "</transition>") f)

module _ (w r : List ℕ) (v : White w) where
  -- each is read in its form
  element-back : (x : Spelling) → Right x → element forms (spelled w x r) ≡ stands (meaning x) r
  unfolding starts
  element-back (closed_place i) g = yes (Profile.place close) _ (i ∷ []) w r v (g, (refl, refl))
  element-back (empty_place i) g =
      let s = spelled w (empty_place i) r in
      no (Profile.place close) _ s (reads-fail w (written (void "</place>") [] w r) v to_place (i ∷ []) "\"/>" [] (g, (refl, refl)) refl)
      ∙ yes (Profile.place (void "</place>")) _ (i ∷ []) w r v (g, (refl, (refl, refl)))
  element-back (marked_place i n) g =
      let s = spelled w (marked_place i n) r in
      no (Profile.place close) _ s (reads-fail w (written marked (n ∷ []) w r) v to_place (i ∷ []) "\"/>" [] (g.0, (refl, refl)) refl)
      ∙ no (Profile.place (void "</place>")) _ s
      (reads-fail w (written (tag "<initialMarking>" ∷ blank ∷ tag "<text>" ∷ number ∷ tag "</text>" ∷ blank ∷ tag "</initialMarking>" ∷ blank ∷ tag "</place>" ∷ []) (n ∷ []) w r) v (tag "<place id=\"" ∷ name ∷ tag "\">" ∷ blank ∷ []) (i ∷ []) "</place>" [] (g.0, (refl, (refl, refl))) refl)
      ∙ yes (Profile.place marked) _ (i ∷ n ∷ []) w r v (g.0, (refl, (refl, (refl, (g.1, (refl, (refl, (refl, refl))))))))
  element-back (closed_transition i) g = no_place (spelled w (closed_transition i) r) refl ∙ yes (Profile.transition close) _ (i ∷ []) w r v (g, (refl, refl))
  element-back (empty_transition i) g =
      let s = spelled w (empty_transition i) r in
      no_place s refl
      ∙ no (Profile.transition close) _ s (reads-fail w (written (void "</transition>") [] w r) v to_transition (i ∷ []) "\"/>" [] (g, (refl, refl)) refl)
      ∙ yes (Profile.transition (void "</transition>")) _ (i ∷ []) w r v (g, (refl, (refl, refl)))
  element-back (closed_arc i a b) g =
      no_transition (spelled w (closed_arc i a b) r) refl refl
      ∙ yes (Profile.arc close) _ (i ∷ a ∷ b ∷ []) w r v (g.0, (refl, (g.1, (refl, (g.2, (refl, refl))))))
  element-back (empty_arc i a b) g =
      let s = spelled w (empty_arc i a b) r in
      no_transition s refl refl
      ∙ no (Profile.arc close) _ s (reads-fail w (written (void "</arc>") [] w r) v to_arc (i ∷ a ∷ b ∷ []) "\"/>" [] (g.0, (refl, (g.1, (refl, (g.2, (refl, refl)))))) refl)
      ∙ yes (Profile.arc (void "</arc>")) _ (i ∷ a ∷ b ∷ []) w r v (g.0, (refl, (g.1, (refl, (g.2, (refl, (refl, refl)))))))
  element-back (inscribed_arc i a b n) g =
      let s = spelled w (inscribed_arc i a b n) r in
      no_transition s refl refl
      ∙ no (Profile.arc close) _ s (reads-fail w (written inscribed (n ∷ []) w r) v to_arc (i ∷ a ∷ b ∷ []) "\"/>" [] (g.0, (refl, (g.1, (refl, (g.2, (refl, refl)))))) refl)
      ∙ no (Profile.arc (void "</arc>")) _ s
      (reads-fail w (written (tag "<inscription>" ∷ blank ∷ tag "<text>" ∷ number ∷ tag "</text>" ∷ blank ∷ tag "</inscription>" ∷ blank ∷ tag "</arc>" ∷ []) (n ∷ []) w r) v
      (tag "<arc id=\"" ∷ name ∷ tag "\" source=\"" ∷ name ∷ tag "\" target=\"" ∷ name ∷ tag "\">" ∷ blank ∷ []) (i ∷ a ∷ b ∷ []) "</arc>" [] (g.0, (refl, (g.1, (refl, (g.2, (refl, (refl, refl))))))) refl)
      ∙ yes (Profile.arc inscribed) [] (i ∷ a ∷ b ∷ n ∷ []) w r v (g.0, (refl, (g.1, (refl, (g.2, (refl, (refl, (refl, (g.3, (refl, (refl, (refl, refl))))))))))))

-- ---- a body and a text

module _ (w : List ℕ) (v : White w) where
  -- a body starts with a tag, and has more bytes than elements
  opens : (l : List Spelling) → stops is_space (spelled_all w l (spelled_end w)) ≡ true
  unfolding spelled_all
  opens [] = refl
  opens (closed_place i ∷ l) = refl
  opens (empty_place i ∷ l) = refl
  opens (marked_place i n ∷ l) = refl
  opens (closed_transition i ∷ l) = refl
  opens (empty_transition i ∷ l) = refl
  opens (closed_arc i a b ∷ l) = refl
  opens (empty_arc i a b ∷ l) = refl
  opens (inscribed_arc i a b n ∷ l) = refl

  no_element : element forms (spelled_end w) ≡ none
  unfolding element starts reads next
  no_element = refl

  content-back : (n : ℕ) (l : List Spelling) → AllRight l → length l ≤ n → content n (spelled_all w l (spelled_end w)) ≡ record { elements = map meaning l; rest = spelled_end w }
  unfolding content spelled_all
  content-back zero [] g h = refl
  content-back zero (x ∷ l) g h = absurd (omega arith)
  content-back (suc n) [] g h = rw (no_element, content)
  content-back (suc n) (x ∷ l) g h =
      let e = element-back w (w ++ spelled_all w l (spelled_end w)) v x g.0 in
      let p = past-over is_space (9 ∷ 10 ∷ 13 ∷ 32 ∷ []) refl w (spelled_all w l (spelled_end w)) v (opens l) in
      let i = ap (content n) p ∙ content-back n l g.1 (omega arith) in
      rw (e, content) (λ j. record { elements = meaning x ∷ (i j).elements; rest = (i j).rest })

-- how long it is
tail-long : (a b : List ℕ) → length b ≤ length (a ++ b)
tail-long a b = omega (arith, length-append a b)

long_written : (l : List Piece) (h : List (List ℕ)) (w r : List ℕ) → length r ≤ length (written l h w r)
long_written [] h w r = omega arith
long_written (tag t ∷ l) h w r = let i = long_written l h w r in let j = tail-long (bytes t) (written l h w r) in omega arith
long_written (blank ∷ l) h w r = let i = long_written l h w r in let j = tail-long w (written l h w r) in omega arith
long_written (name ∷ l) [] w r = long_written l [] w r
long_written (name ∷ l) (x ∷ h) w r = let i = long_written l h w r in let j = tail-long x (written l h w r) in omega arith
long_written (number ∷ l) [] w r = long_written l [] w r
long_written (number ∷ l) (x ∷ h) w r = let i = long_written l h w r in let j = tail-long x (written l h w r) in omega arith

longer : (w : List ℕ) (x : Spelling) (s : List ℕ) → length s < length (spelled w x s)
longer w (closed_place i) s = let h = long_written (name ∷ close) (i ∷ []) w s in omega arith
longer w (empty_place i) s = let h = long_written (name ∷ void "</place>") (i ∷ []) w s in omega arith
longer w (marked_place i n) s = let h = long_written (name ∷ marked) (i ∷ n ∷ []) w s in omega arith
longer w (closed_transition i) s = let h = long_written (name ∷ close) (i ∷ []) w s in omega arith
longer w (empty_transition i) s = let h = long_written (name ∷ void "</transition>") (i ∷ []) w s in omega arith
longer w (closed_arc i a b) s = let h = long_written (name ∷ tag "\" source=\"" ∷ name ∷ tag "\" target=\"" ∷ name ∷ close) (i ∷ a ∷ b ∷ []) w s in omega arith
longer w (empty_arc i a b) s = let h = long_written (name ∷ tag "\" source=\"" ∷ name ∷ tag "\" target=\"" ∷ name ∷ void "</arc>") (i ∷ a ∷ b ∷ []) w s in omega arith
longer w (inscribed_arc i a b n) s = let h = long_written (name ∷ tag "\" source=\"" ∷ name ∷ tag "\" target=\"" ∷ name ∷ inscribed) (i ∷ a ∷ b ∷ n ∷ []) w s in omega arith

few : (w : List ℕ) (l : List Spelling) → length l ≤ length (spelled_all w l (spelled_end w))
unfolding spelled_all
few w [] = omega arith
few w (x ∷ l) = let i = few w l in let j = longer w x (w ++ spelled_all w l (spelled_end w)) in let k = tail-long w (spelled_all w l (spelled_end w)) in omega arith

module _ (w n g : List ℕ) (l : List Spelling) (v : White w) (rn : RightId n) (rg : RightId g) (right : AllRight l) where
  abbrev s : List ℕ
  s = spelled_text w n g l

  abbrev inside : List ℕ
  inside = spelled_all w l (spelled_end w)

  head-back : reads (parsed [] s) head ≡ parsed (n ∷ g ∷ []) inside
  unfolding spelled_text
  head-back = reads-written w inside v head (n ∷ g ∷ []) [] (refl, (refl, (rn, (refl, (refl, (rg, (refl, (opens w v l, refl))))))))

  many : length l ≤ length s
  unfolding spelled_text
  many = omega (arith, few w l, long_written head (n ∷ g ∷ []) w inside)

  body_back : body s ≡ record { elements = map meaning l; rest = spelled_end w }
  body_back = body-so s (parsed (n ∷ g ∷ []) inside) head-back ∙ content-back w v (length s) l right many

  end_back : reads (parsed [] (spelled_end w)) foot ≡ parsed [] []
  end_back =
      ap (λ (y : List ℕ). reads (parsed [] (bytes "</page>" ++ (w ++ (bytes "</net>" ++ (w ++ (bytes "</pnml>" ++ y)))))) foot) (sym (append-nil w))
      ∙ reads-written w [] v foot [] [] (refl, (refl, (refl, refl)))

  pub returns : Returns w n g l
  unfolding drawing
  returns = record {
    taken = profile_so s (parsed [] []) (ap (λ (b : Profile.Body). reads (parsed [] b.rest) foot) body_back ∙ end_back);
    heads = heads_so s (parsed (n ∷ g ∷ []) inside) head-back;
    elements = ap (λ (b : Profile.Body). b.elements) body_back;
  }
