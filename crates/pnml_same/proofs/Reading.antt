-- What the code reads of a text is what the profile says of it, numbers being capped; so it refuses the same texts and makes the same net. Assumes nothing.
use Prim.Native.Nat.{ℕ, suc, ◌≤◌, ◌<◌}
use mathlib.Core.Path.{◌≡◌, refl, sym, ap, ◌∙◌}
use mathlib.Core.Bool.{Bool, true, false, ◌||◌, ◌&&◌, true≢false}
use mathlib.Core.List.{List, [], ◌∷◌, ◌++◌, map}
use native.Mathlib.Omega.{arith}
use lib.Dec.{eqb, ltb, leb}
use lib.ListN.{length, get_or, length-map}
use borrow.Author.Tests.{leb-true, leb-false, lt-ltb, le-ltb, ne_eqb}
use Rattle.net.proofs.Numbers.{by_cases}
use Rattle.pnml_text.specs.Rest.{Rest, outside, more, strip, id_of, capped}
use Rattle.pnml_text.proofs.Runs.{cap_low, cap_high}
use Rattle.pnml_page.specs.Profile
use Rattle.pnml_page.specs.Profile.{Parse, failed, parsed, reads, head, foot, Element, Drawing, drawing, body, of_profile, content}
use Rattle.pnml_page.specs.Steps
use Rattle.pnml_page.specs.Steps.{most, read_whole, nothing}
use Rattle.pnml_page.proofs.Sizes.{size, inside-size, page-size, net-size, content-size}
use Rattle.pnml_page.proofs.Enough.{enough, most-enough}
use Rattle.pnml_names.specs.Names.{sort_of, entries_of, among, repeats}
use Rattle.pnml_names.specs.declared.Which.{Which}
use Rattle.pnml_names.specs.declared.Which.TheVariants.{Places, Transitions, Arcs}
use Rattle.pnml_net.specs.Named
use Rattle.pnml_net.specs.Named.{joined, arcs_of, any_off}
use Rattle.pnml_net.specs.Read
use Rattle.pnml_net.specs.Read.{read_of, counts_off, sorted}
use Rattle.pnml_net.proofs.Arcs.{not-off, apart_is}
use Rattle.pnml_same.proofs.Pieces.{steps, held, parse, reads-are}
use Rattle.pnml_same.proofs.Elements.{cap, same}

-- ---- a text

-- what is left, what was held, and whether nothing is left
abbrev pub left : Parse → List ℕ
left failed = []
left (parsed held s) = s

abbrev pub names : Parse → List (List ℕ)
names failed = []
names (parsed held s) = held

abbrev pub ended : Parse → Bool
ended failed = false
ended (parsed held s) = eqb (length s) 0

pub body-so : (s : List ℕ) (p : Parse) → reads (parsed [] s) head ≡ p → body s ≡ content (length s) (left p)
unfolding body
body-so s failed e = rw (e, body)
body-so s (parsed held r) e = rw (e, body)

pub heads_so : (s : List ℕ) (p : Parse) → reads (parsed [] s) head ≡ p → (drawing s).heads ≡ names p
unfolding drawing
heads_so s failed e = rw (e, drawing)
heads_so s (parsed held r) e = rw (e, drawing)

pub profile_so : (s : List ℕ) (p : Parse) → reads (parsed [] (body s).rest) foot ≡ p → of_profile s ≡ ended p
unfolding of_profile
profile_so s failed e = rw (e, of_profile)
profile_so s (parsed held r) e = rw (e, of_profile)

abbrev pub capped-all : Drawing → Drawing
capped-all d = record { heads = d.heads; elements = map cap d.elements }

none_left : (r : Rest) → size r ≤ 0 → r ≡ outside
none_left outside h = refl
none_left (more s) h = absurd (omega arith)

empty_list : (l : List ℕ) → length l ≤ 0 → l ≡ []
empty_list [] h = refl
empty_list (b ∷ l) h = absurd (omega arith)

ended_is : (h : List (List ℕ)) (r : Rest) → ended (parse h r) ≡ nothing r
ended_is h outside = refl
ended_is h (more []) = refl
ended_is h (more (b ∷ s)) = ne_eqb (suc (length s)) 0 (λ z. omega arith)

-- outside the profile, and at the end of the text, its last tags do not stand
dead : nothing (Steps.after outside) ≡ false
unfolding Steps.after
dead = refl

dead_foot : nothing (Steps.after (more [])) ≡ false
unfolding Steps.after strip
dead_foot = refl

-- the end of a text
foot-is : (l : List ℕ) → ended (reads (parsed [] l) foot) ≡ nothing (Steps.after (more l))
unfolding Steps.after
foot-is l = ap ended (reads-are foot [] (more l)) ∙ ended_is [] (steps (more l) foot)

module _ (s : List ℕ) where
  abbrev heads : List (List ℕ)
  heads = id_of (Steps.net (more s)) ∷ id_of (Steps.page (more s)) ∷ []

  head_is : reads (parsed [] s) head ≡ parse heads (Steps.inside (more s))
  unfolding Steps.net Steps.page Steps.inside
  head_is = reads-are head [] (more s)

  -- as many rounds as the text has bytes are enough
  rounds : length s ≤ 65536 → Steps.content (length s) (Steps.inside (more s)) ≡ Steps.content most (Steps.inside (more s))
  rounds h =
      let a = inside-size (more s) in
      let b = page-size (more s) in
      let c = net-size (more s) in
      by_cases (leb 4370 (length s))
      (λ t. most-enough s (length s) h (leb-true 4370 (length s) t))
      (λ f. let g = leb-false 4370 (length s) f in sym (enough (length s) 4370 (Steps.inside (more s)) (omega arith) (omega arith)))

  -- where the body starts
  body_is : {r : Rest} → Steps.inside (more s) ≡ r → body s ≡ content (length s) (left (parse heads r))
  body_is {r} e = body-so s (parse heads r) (head_is ∙ ap (parse heads) e)

  no_body : Steps.inside (more s) ≡ outside → (body s).rest ≡ []
  no_body e =
      let n = length s in
      let q = (same n []).rest in
      let l = ap size q in
      let z = content-size n (more []) in
      ap (λ (b : Profile.Body). b.rest) (body_is e) ∙ empty_list (content n []).rest (omega arith)

  profile_is : of_profile s ≡ nothing (Steps.after (more (body s).rest))
  profile_is = profile_so s (reads (parsed [] (body s).rest) foot) refl ∙ foot-is (body s).rest

  no_profile : Steps.inside (more s) ≡ outside → of_profile s ≡ false
  no_profile e = profile_is ∙ ap (λ (l : List ℕ). nothing (Steps.after (more l))) (no_body e) ∙ dead_foot

  profile_as : length s ≤ 65536 → (r : Rest) → Steps.inside (more s) ≡ r → read_whole s ≡ of_profile s
  unfolding read_whole
  profile_as h outside e =
      let c : (Steps.content most (Steps.inside (more s))).rest ≡ outside = none_left _ (let z = content-size most (Steps.inside (more s)) in let y = ap size e in omega arith) in
      ap (λ (r : Rest). nothing (Steps.after r)) c ∙ dead ∙ sym (no_profile e)
  profile_as h (more b) e =
      let q : (Steps.content most (Steps.inside (more s))).rest ≡ more (body s).rest =
      ap (λ (c : Steps.Content). c.rest) (sym (rounds h) ∙ ap (Steps.content (length s)) e) ∙ (same (length s) b).rest ∙ ap (λ (c : Profile.Body). more c.rest) (sym (body_is e)) in
      ap (λ (r : Rest). nothing (Steps.after r)) q ∙ sym profile_is

  -- the code takes the texts of the profile
  pub profile_same : length s ≤ 65536 → read_whole s ≡ of_profile s
  profile_same h = profile_as h (Steps.inside (more s)) refl

  reading-as : length s ≤ 65536 → of_profile s ≡ true → (r : Rest) → Steps.inside (more s) ≡ r → read_of s ≡ capped-all (drawing s)
  unfolding read_of drawing
  reading-as h of outside e = absurd (true≢false (sym of ∙ no_profile e))
  reading-as h of (more b) e =
      let p : heads ≡ (drawing s).heads = sym (heads_so s (parse heads (more b)) (head_is ∙ ap (parse heads) e)) in
      let q : (Steps.content most (Steps.inside (more s))).elements ≡ map cap (body s).elements =
      ap (λ (c : Steps.Content). c.elements) (sym (rounds h) ∙ ap (Steps.content (length s)) e) ∙ (same (length s) b).elements ∙ ap (λ (c : Profile.Body). map cap c.elements) (sym (body_is e)) in
      λ j. record { heads = p j; elements = q j }

  -- and reads what they say
  pub reading : length s ≤ 65536 → of_profile s ≡ true → read_of s ≡ capped-all (drawing s)
  reading h of = reading-as h of (Steps.inside (more s)) refl

-- ---- numbers that are capped change no refusal

entries-cap : (w : Which) (l : List Element) → entries_of w (map cap l) ≡ map cap (entries_of w l)
unfolding entries_of
entries-cap w [] = refl
entries-cap w (e ∷ l) =
    by_cases (eqb e.sort (sort_of w))
    (λ t. rw t (ap (λ (y : List Element). cap e ∷ y) (entries-cap w l)))
    (λ f. rw f (entries-cap w l))

id-cap : (l : List Element) → map Read.id_of (map cap l) ≡ map Read.id_of l
id-cap [] = refl
id-cap (e ∷ l) = ap (λ (y : List (List ℕ)). e.id ∷ y) (id-cap l)

arcs_long : (ps ts : List (List ℕ)) (l : List Element) → length (arcs_of ps ts (map cap l)) ≡ length (arcs_of ps ts l)
unfolding arcs_of
arcs_long ps ts [] = refl
arcs_long ps ts (e ∷ l) =
    let i = arcs_long ps ts l in
    by_cases (among e.source ps && among e.target ts)
    (λ t. rw t (ap suc i))
    (λ f. by_cases (among e.target ps && among e.source ts) (λ t. rw (f, t) (ap suc i)) (λ g. rw (f, g) i))

module _ (least most : ℕ) (h : least ≤ 4294967296) (g : most < 4294967296) where
  number_cap : (n : ℕ) → (ltb (capped n) least || ltb most (capped n)) ≡ (ltb n least || ltb most n)
  number_cap n =
      by_cases (leb n 4294967296)
      (λ t. rw (cap_low n (leb-true n 4294967296 t)))
      (λ f.
      let k = leb-false n 4294967296 f in
      rw (cap_high n (omega arith), lt-ltb most 4294967296 g, lt-ltb most n (omega arith), le-ltb 4294967296 least h, le-ltb n least (omega arith)))

  off_cap : (l : List Element) → any_off least most (map cap l) ≡ any_off least most l
  unfolding any_off
  off_cap [] = refl
  off_cap (e ∷ l) = λ j. number_cap e.number j || off_cap l j

  -- and where none is past its limit, no number is changed
  on_same : (l : List Element) → any_off least most l ≡ false → map cap l ≡ l
  on_same [] f = refl
  on_same (e ∷ l) f =
      let m = not-off least most e l f in
      let q : capped e.number ≡ e.number = cap_low e.number (omega (arith, m.1)) in
      λ j. record { sort = e.sort; id = e.id; source = e.source; target = e.target; number = q j } ∷ on_same l m.2 j

last_two : (a b c : Bool) → (a || b || c) ≡ false → (b ≡ false) × (c ≡ false)
last_two false false false e = (refl, refl)
last_two true b c e = absurd (true≢false e)
last_two false true c e = absurd (true≢false e)
last_two false false true e = absurd (true≢false e)

module _ (d : Drawing) where
  all-cap : (w : Which) → Named.entries w (capped-all d) ≡ map cap (Named.entries w d)
  unfolding Named.entries
  all-cap w = entries-cap w d.elements

  ids-cap : (w : Which) → Named.ids w (capped-all d) ≡ Named.ids w d
  ids-cap w = ap (map Read.id_of) (all-cap w) ∙ id-cap (Named.entries w d)

  long_cap : (w : Which) → length (Named.entries w (capped-all d)) ≡ length (Named.entries w d)
  long_cap w = ap length (all-cap w) ∙ length-map (Named.entries w d) cap

  twice_cap : Read.twice_in (capped-all d) ≡ Read.twice_in d
  unfolding Named.names
  twice_cap = ap repeats (λ j. d.heads ++ (ids-cap Places j ++ (ids-cap Transitions j ++ ids-cap Arcs j)))

  wrong_cap : Read.wrong_in (capped-all d) ≡ Read.wrong_in d
  unfolding Named.arcs_named
  wrong_cap =
      let a : length (Named.arcs_named (capped-all d)) ≡ length (Named.arcs_named d) =
      (λ j. length (arcs_of (ids-cap Places j) (ids-cap Transitions j) (all-cap Arcs j))) ∙ arcs_long (Named.ids Places d) (Named.ids Transitions d) (Named.entries Arcs d) in
      λ j. ltb (a j) (long_cap Arcs j)

  unfit-cap : Named.unfit (capped-all d) ≡ Named.unfit d
  unfolding Named.unfit
  unfit-cap =
      let p = ap (any_off 0 4294967295) (all-cap Places) ∙ off_cap 0 4294967295 (omega arith) (omega arith) (Named.entries Places d) in
      let a = ap (any_off 1 65535) (all-cap Arcs) ∙ off_cap 1 65535 (omega arith) (omega arith) (Named.entries Arcs d) in
      λ j. counts_off (long_cap Places j) (long_cap Transitions j) (long_cap Arcs j) || p j || a j

  net-cap : Named.unfit d ≡ false → Named.net_named (capped-all d) ≡ Named.net_named d
  unfolding Named.unfit Named.net_named Named.arcs_named
  net-cap f =
      let u = last_two (counts_off (length (Named.entries Places d)) (length (Named.entries Transitions d)) (length (Named.entries Arcs d))) (any_off 0 4294967295 (Named.entries Places d)) (any_off 1 65535 (Named.entries Arcs d)) f in
      let p : Named.entries Places (capped-all d) ≡ Named.entries Places d = all-cap Places ∙ on_same 0 4294967295 (omega arith) (omega arith) (Named.entries Places d) u.0 in
      let a : Named.entries Arcs (capped-all d) ≡ Named.entries Arcs d = all-cap Arcs ∙ on_same 1 65535 (omega arith) (omega arith) (Named.entries Arcs d) u.1 in
      λ j. record {
        places = length (p j);
        transitions = long_cap Transitions j;
        marking = λ i. get_or (map Read.number_of (p j)) i 0;
        cap = λ i. 0;
        arcs = sorted (arcs_of (ids-cap Places j) (ids-cap Transitions j) (a j));
      }

-- ---- what the code refuses, and the net that it makes

module _ (s : List ℕ) (short : length s ≤ 65536) (of : of_profile s ≡ true) where
  pub twice_same : Read.id_twice s ≡ Read.twice_in (drawing s)
  twice_same = ap Read.twice_in (reading s short of) ∙ twice_cap (drawing s)

  apart_so : Read.end_wrong s ≡ Read.wrong_in (read_of s)
  unfolding Read.end_wrong Named.arcs_named
  apart_so = apart_is (Read.ids Places s) (Read.ids Transitions s) (Read.entries Arcs s)

  pub wrong_same : Read.end_wrong s ≡ Read.wrong_in (drawing s)
  wrong_same = apart_so ∙ ap Read.wrong_in (reading s short of) ∙ wrong_cap (drawing s)

  pub unfit-same : Read.unfit s ≡ Named.unfit (drawing s)
  unfit-same = ap Named.unfit (reading s short of) ∙ unfit-cap (drawing s)

  pub net-same : Named.unfit (drawing s) ≡ false → Read.net_named s ≡ Named.net_named (drawing s)
  net-same f = ap Named.net_named (reading s short of) ∙ net-cap (drawing s) f
