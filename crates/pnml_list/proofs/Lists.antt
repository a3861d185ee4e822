-- The table as it is filled: three kinds of elements, one after the other.
use Prim.Native.Nat.{ℕ, zero, suc, ◌+◌, ◌-◌, ◌*◌, ◌/◌, ◌≤◌, ◌<◌}
use mathlib.Core.Path.{◌≡◌, refl, sym, ap, ◌∙◌}
use mathlib.Core.Bool.{true, true≢false}
use mathlib.Core.List.{List, [], ◌∷◌, ◌++◌, map, append_assoc}
use native.Mathlib.Omega.{arith}
use lib.Dec.{eqb}
use borrow.Author.Tests.{eqb-true, ne_eqb}
use lib.ListN.{length, take, drop, set, length-set, length-append, length-map}
use lib.Seq.{length-take-le, take_at, drop_at}
use Rattle.pnml_text.specs.Rest
use Rattle.pnml_text.specs.Rest.{Rest, outside, more, word, spaces, rest_at}
use Rattle.pnml_text.proofs.Runs.{rest_in}
use Rattle.pnml_page.specs.Meant.{id_at}
use Rattle.pnml_page.specs.Steps
use Rattle.pnml_page.specs.Profile.{Element}
use Rattle.pnml_page.proofs.Tags.{id-at}
use Rattle.net.proofs.Numbers.{by_cases}
use Rattle.pnml_text.specs.Words.{bytes}
use Rattle.pnml_page.proofs.Sizes.{size, word_size, spaces-size, arc-size, element-size, inside-size, net-size, rest_size, page-size, page-read}
use Rattle.pnml_page.proofs.Enough.{elements_size}
use Rattle.pnml_names.specs.Names.{entries_of}
use Rattle.pnml_names.specs.Tables.{is_wanted, ids_in, wanted_read, entries_in, Collected}
use Rattle.pnml_names.specs.declared.Which.{Which}
use Rattle.pnml_names.specs.declared.Which.TheVariants.{Places, Transitions, Arcs}
use Rattle.pnml_names.proofs.Ids.{map-append}
use Rattle.pnml_net.specs.Named
use Rattle.pnml_net.specs.Read.{read_of, id_of, entries, ids, names}
use Rattle.pnml_list.specs.Listing.{Listed}

-- the text's beginning
pub start : (s : List ℕ) → rest_at s 0 ≡ more s
start s = rest_in s 0 (omega arith)

-- the ids of the net and of the page stand within the text
module _ (s : List ℕ) (short : length s ≤ 65536) (of : Steps.read_whole s ≡ true) where
  pub page-fits : (a : ℕ) → rest_at s a ≡ Steps.page (rest_at s 0) → a < 65536
  page-fits a e =
      let m = page-read s of in
      let q = ap size (e ∙ ap Steps.page (start s)) in
      omega (arith, rest_size s a)

  pub net-fits : (a : ℕ) → rest_at s a ≡ Steps.net (rest_at s 0) → a < 65536
  net-fits a e =
      let m = page-read s of in
      let n = page-size (more s) in
      let q = ap size (e ∙ ap Steps.net (start s)) in
      omega (arith, rest_size s a)

-- each element is of one kind at most
split_kinds : (l : List Element) → length (entries_of Places l) + length (entries_of Transitions l) + length (entries_of Arcs l) ≤ length l
unfolding entries_of
split_kinds [] = omega arith
split_kinds (e ∷ l) =
    let k = split_kinds l in
    by_cases (eqb e.sort 0)
    (λ t.
    let q = eqb-true e.sort 0 t in
    rw (t, ne_eqb e.sort 1 (λ z. omega arith), ne_eqb e.sort 2 (λ z. omega arith)) (omega arith))
    (λ f. by_cases (eqb e.sort 1)
    (λ t. let q = eqb-true e.sort 1 t in rw (f, t, ne_eqb e.sort 2 (λ z. omega arith)) (omega arith))
    (λ g. by_cases (eqb e.sort 2) (λ t. rw (f, g, t) (omega arith)) (λ h. rw (f, g, h) (omega arith))))

-- an element takes 15 bytes or more
pub few_ids : (s : List ℕ) → length (entries Places s) + length (entries Transitions s) + length (entries Arcs s) ≤ length s / 15
unfolding Named.entries read_of
few_ids s =
    let a = split_kinds (read_of s).elements in
    let b = elements_size Steps.most (Steps.inside (more s)) in
    let c = inside-size (more s) in
    let d = page-size (more s) in
    let e = net-size (more s) in
    omega arith

-- an arc takes 35 bytes or more
arc-size_of : (r : Rest) → is_wanted Arcs (Steps.element r).element ≡ true → size (Steps.element r).rest ≤ size r - 35
unfolding Steps.element
arc-size_of r = go (word (bytes "<place id=\"") r) (word (bytes "<transition id=\"") r)
  where
    go : (x y : Rest) → is_wanted Arcs (Steps.if_stands x Steps.place_read (Steps.if_stands y Steps.transition_read (Steps.arc_read (word (bytes "<arc id=\"") r)))).element ≡ true
        → size (Steps.if_stands x Steps.place_read (Steps.if_stands y Steps.transition_read (Steps.arc_read (word (bytes "<arc id=\"") r)))).rest ≤ size r - 35
    go (more s) y e = absurd (true≢false (sym e))
    go outside (more s) e = absurd (true≢false (sym e))
    go outside outside e =
        let a = word_size (bytes "<arc id=\"") r in
        let b = arc-size (word (bytes "<arc id=\"") r) in
        omega arith

arcs_size : (n : ℕ) (r : Rest) → 35 * length (entries_of Arcs (Steps.content n r).elements) ≤ size r
unfolding Steps.content entries_of
arcs_size zero r = omega arith
arcs_size (suc n) r = go (Steps.element r).rest (element-size r) (arc-size_of r) (λ x. arcs_size n (spaces x))
  where
    go : (x : Rest) → size x ≤ size r - 15 → (is_wanted Arcs (Steps.element r).element ≡ true → size x ≤ size r - 35)
        → ((y : Rest) → 35 * length (entries_of Arcs (Steps.content n (spaces y)).elements) ≤ size (spaces y))
        → 35 * length (entries_of Arcs (Steps.if_read x (record { elements = []; rest = r }) (Steps.before (Steps.element r).element (Steps.content n (spaces x)))).elements) ≤ size r
    go outside h k all = omega arith
    go (more s) h k all =
        let i = all (more s) in
        let j = spaces-size (more s) in
        by_cases (is_wanted Arcs (Steps.element r).element)
        (λ e. let m = k e in rw e (omega arith))
        (λ e. rw e (omega arith))

pub few_arcs : (s : List ℕ) → length s ≤ 65536 → length (entries Arcs s) ≤ 2048
unfolding Named.entries read_of
few_arcs s h =
    let a = arcs_size Steps.most (Steps.inside (more s)) in
    let b = inside-size (more s) in
    let c = page-size (more s) in
    let d = net-size (more s) in
    omega arith

pub entries_at : (w : Which) (s : List ℕ) (first : ℕ) → rest_at s first ≡ Steps.inside (rest_at s 0) → entries_of w (Steps.content Steps.most (rest_at s first)).elements ≡ entries w s
unfolding Named.entries read_of
entries_at w s first e = ap (λ (y : Rest). entries_of w (Steps.content Steps.most y).elements) (e ∙ ap Steps.inside (start s))

-- the id of what is read at a position
id-read : (w : Which) (s : List ℕ) (a : ℕ) → id_of (wanted_read w s a) ≡ id_at s a
id-read Places s a = sym (id-at s a)
id-read Transitions s a = sym (id-at s a)
id-read Arcs s a = sym (id-at s a)

ids-read : (w : Which) (s : List ℕ) (l : List ℕ) → ids_in s l ≡ map id_of (entries_in w s l)
ids-read w s [] = refl
ids-read w s (a ∷ l) = λ j. sym (id-read w s a) j ∷ ids-read w s l j

-- the first two entries
pub two_set : (l : List ℕ) (a b : ℕ) → 2 ≤ length l → take 2 (set (set l 0 a) 1 b) ≡ a ∷ b ∷ []
two_set [] a b h = absurd (omega arith)
two_set (x ∷ []) a b h = absurd (omega arith)
two_set (x ∷ y ∷ l) a b h = refl

pub long_set : (l : List ℕ) (a b : ℕ) → length (set (set l 0 a) 1 b) ≡ length l
long_set l a b = length-set (set l 0 a) 1 b ∙ length-set l 0 a

-- room for what is left to be listed
pub room_for : (w : Which) (s : List ℕ) (first k size : ℕ) → rest_at s first ≡ Steps.inside (rest_at s 0) → k + length (entries w s) ≤ size
    → k + length (entries_of w (Steps.content Steps.most (rest_at s first)).elements) ≤ size
room_for w s first k size e h = omega (arith, ap length (entries_at w s first e))

pub found_count : (w : Which) (s : List ℕ) (first : ℕ) {table later : List ℕ} {k r : ℕ} → rest_at s first ≡ Steps.inside (rest_at s 0) → Collected s first w table k later r → r ≡ k + length (entries w s)
found_count w s first e c = omega (arith, c.count, sym (length-map c.found (wanted_read w s)) ∙ ap length (c.entries ∙ entries_at w s first e))

module _ (s : List ℕ) (a b first : ℕ) {t₀ t₁ t₂ t₃ : List ℕ} {p t n : ℕ} (short : length s ≤ 65536) (room : 2 + length s / 15 ≤ length t₀) (heads : take 2 t₀ ≡ a ∷ b ∷ [])
    (ea : rest_at s a ≡ Steps.net (rest_at s 0)) (eb : rest_at s b ≡ Steps.page (rest_at s 0)) (ef : rest_at s first ≡ Steps.inside (rest_at s 0))
    (cp : Collected s first Places t₀ 2 t₁ p) (ct : Collected s first Transitions t₁ p t₂ t) (ca : Collected s first Arcs t₂ t t₃ n) where
  abbrev ps : List ℕ
  ps = cp.found

  abbrev ts : List ℕ
  ts = ct.found

  abbrev as' : List ℕ
  as' = ca.found

  front : take t t₂ ≡ (a ∷ b ∷ ps) ++ ts
  front = ct.taken ∙ ap (λ (y : List ℕ). y ++ ts) (cp.taken ∙ ap (λ (y : List ℕ). y ++ ps) heads)

  whole : take n t₃ ≡ ((a ∷ b ∷ ps) ++ ts) ++ as'
  whole = ca.taken ∙ ap (λ (y : List ℕ). y ++ as') front

  counted : (w : Which) (l : List ℕ) → entries_in w s l ≡ entries_of w (Steps.content Steps.most (rest_at s first)).elements → length l ≡ length (entries w s)
  counted w l e = sym (length-map l (wanted_read w s)) ∙ ap length (e ∙ entries_at w s first ef)

  ids-of : (w : Which) (l : List ℕ) → entries_in w s l ≡ entries_of w (Steps.content Steps.most (rest_at s first)).elements → ids_in s l ≡ ids w s
  ids-of w l e = ids-read w s l ∙ ap (map id_of) (e ∙ entries_at w s first ef)

  all_ids : ids_in s (((a ∷ b ∷ ps) ++ ts) ++ as') ≡ names s
  unfolding Named.names read_of
  all_ids =
      ap (ids_in s) (append_assoc (a ∷ b ∷ ps) ts as')
      ∙ ap (λ (y : List (List ℕ)). id_at s a ∷ id_at s b ∷ y) (map-append (id_at s) ps (ts ++ as') ∙ ap (λ (y : List (List ℕ)). ids_in s ps ++ y) (map-append (id_at s) ts as'))
      ∙ (λ j.
      (id-at s a ∙ ap Rest.id_of (ea ∙ ap Steps.net (start s))) j ∷ (id-at s b ∙ ap Rest.id_of (eb ∙ ap Steps.page (start s))) j
      ∷ (ids-of Places ps cp.entries j ++ (ids-of Transitions ts ct.entries j ++ ids-of Arcs as' ca.entries j)))

  pub listed : Listed s t₃ (record { places = p - 2; transitions = t - p; arcs = n - t })
  listed =
      let np = counted Places ps cp.entries in
      let nt = counted Transitions ts ct.entries in
      let na = counted Arcs as' ca.entries in
      let f = few_ids s in
      let kp = cp.count in
      let kt = ct.count in
      let ka = ca.count in
      let r = ca.room ∙ ct.room ∙ cp.room in
      let e : 2 + (p - 2) + (t - p) + (n - t) ≡ n = omega arith in
      let table : take (2 + (p - 2) + (t - p) + (n - t)) t₃ ≡ ((a ∷ b ∷ ps) ++ ts) ++ as' = ap (λ (i : ℕ). take i t₃) e ∙ whole in
      let l : length ((a ∷ b ∷ ps) ++ ts) ≡ 2 + (p - 2) + (t - p) = (let q = length-append (a ∷ b ∷ ps) ts in omega arith) in
      record {
        room = omega arith;
        table = record {
          ids = ap (ids_in s) table ∙ all_ids;
          few = (let q : n ≤ length t₃ = omega arith in omega (arith, length-take-le n t₃ q, ap (λ (i : ℕ). length (take i t₃)) e));
          place_count = omega arith;
          transition_count = omega arith;
          places =
              ap (λ (y : List ℕ). entries_in Places s (take (p - 2) (drop 2 y))) (table ∙ append_assoc (a ∷ b ∷ ps) ts as')
              ∙ ap (entries_in Places s) (take_at ps (ts ++ as') (p - 2) (omega arith))
              ∙ cp.entries ∙ entries_at Places s first ef;
          arcs =
              ap (λ (y : List ℕ). entries_in Arcs s (drop (2 + (p - 2) + (t - p)) y)) table
              ∙ ap (entries_in Arcs s) (drop_at ((a ∷ b ∷ ps) ++ ts) as' (2 + (p - 2) + (t - p)) l)
              ∙ ca.entries ∙ entries_at Arcs s first ef;
        };
        arc_count = omega arith;
      }
