-- The parts of the file, and the refusals before it.
use Prim.Native.Nat.{ℕ, zero, suc, ◌+◌, ◌-◌, ◌*◌, ◌/◌, ◌%◌, ◌≤◌, ◌<◌}
use mathlib.Core.Path.{◌≡◌, refl, sym, ap, ◌∙◌}
use mathlib.Core.Bool.{Bool, true, false, ◌||◌, ◌&&◌, true≢false}
use mathlib.Core.List.{List, [], ◌∷◌, map}
use native.Mathlib.Omega.{arith}
use lib.Dec.{ltb, eqb}
use lib.ListN.{length, get_or, take, drop, length-map}
use lib.Seq.{sets}
use borrow.Author.Tests.{lt-ltb, le-ltb, ltb-false}
use Rattle.net.specs.declared.Arc.{Arc}
use Rattle.file_writing.specs.Writing.{places_bytes, arcs_bytes, trailer_bytes}
use Rattle.file_writing.proofs.PlanTrip.{length-plan}
use Rattle.plan_put.proofs.Laws.{plan_stored}
use Rattle.pnml_text.specs.Rest.{rest_at}
use Rattle.pnml_page.specs.Steps.{place}
use Rattle.pnml_names.specs.Tables.{wanted_read, entries_in}
use Rattle.pnml_names.specs.declared.Which.TheVariants.{Places, Transitions, Arcs}
use Rattle.pnml_names.proofs.Ids.{map-cons, map-none}
use Rattle.pnml_net.specs.Named
use Rattle.pnml_net.specs.Read.{id_of, entries, ids, end_wrong, unfit, number_of, arcs_named, net_named, counts_off, sorted}
use Rattle.pnml_net.specs.Named.{any_off}
use Rattle.pnml_net.proofs.Arcs.{AllFine, Fine, fine_sorted, arcs_fine, length-sorted, arcs_count}
use Rattle.pnml_sort.specs.Words.{word_of}
use Rattle.pnml_list.specs.Listing.{Listing}
use Rattle.pnml_file.specs.Ready.{read_file, marking_in, arc_of, arcs_in, Ready, Sorted, unfit_but}

-- ---- the loop over markings

pub record Looking (s places : List ℕ) (k : ℕ) : Type 0 where
  pub below : k ≤ length places
  pub so : any_off 0 4294967295 (entries_in Places s (drop k places)) ≡ any_off 0 4294967295 (entries_in Places s places)

module _ {s places : List ℕ} {k : ℕ} (inv : Looking s places k) where
  pub look_off : k < length places → {a n : ℕ} → a ≡ get_or places k 0 → n ≡ (place (rest_at s a)).number → 4294967295 < n → true ≡ any_off 0 4294967295 (entries_in Places s places)
  unfolding any_off
  look_off h {a} {n} e f g =
      let q : number_of (wanted_read Places s (get_or places k 0)) ≡ n = ap (λ (y : ℕ). (place (rest_at s y)).number) (sym e) ∙ sym f in
      sym (rw (map-cons (wanted_read Places s) places k h, q, le-ltb n 0 (omega arith), lt-ltb 4294967295 n g)) ∙ inv.so

  pub look_on : k < length places → {a n : ℕ} → a ≡ get_or places k 0 → n ≡ (place (rest_at s a)).number → n ≤ 4294967295 → Looking s places (k + 1)
  unfolding any_off
  look_on h {a} {n} e f g =
      let q : number_of (wanted_read Places s (get_or places k 0)) ≡ n = ap (λ (y : ℕ). (place (rest_at s y)).number) (sym e) ∙ sym f in
      record { below = omega arith; so = sym (rw (map-cons (wanted_read Places s) places k h, q, le-ltb n 0 (omega arith), le-ltb 4294967295 n g)) ∙ inv.so }

  pub look_end : length places ≤ k → false ≡ any_off 0 4294967295 (entries_in Places s places)
  unfolding any_off
  look_end h = sym (rw (map-none (wanted_read Places s) places k h)) ∙ inv.so

-- ---- the markings

pub marking_at_lem : (s places : List ℕ) (p a : ℕ) {n : ℕ} → p < length places → a ≡ get_or places p 0 → n ≡ (place (rest_at s a)).number → n ≡ marking_in s places p
marking_at_lem s places p a h e f = f ∙ ap (λ (y : ℕ). (place (rest_at s y)).number) e ∙ go places p h
  where
    go : (l : List ℕ) (q : ℕ) → q < length l → (place (rest_at s (get_or l q 0))).number ≡ get_or (map number_of (entries_in Places s l)) q 0
    go [] q g = absurd (omega arith)
    go (x ∷ l) zero g = refl
    go (x ∷ l) (suc q) g = go l q (omega arith)

-- ---- the arcs

arc-back : {P T : ℕ} (a : Arc) → P ≤ 1024 → T ≤ 1024 → Fine P T a → arc_of (word_of a) ≡ a
arc-back {P} {T} a hp ht f =
    let d = f.good.direction in
    let p = f.good.place in
    let w = f.light in
    let t≡ : word_of a / 8589934592 ≡ a.transition = omega arith in
    let d≡ : word_of a / 4294967296 % 2 ≡ a.direction = omega arith in
    let p≡ : word_of a / 65536 % 65536 ≡ a.place = omega arith in
    let w≡ : word_of a % 65536 ≡ a.weight = omega arith in
    λ i. record { transition = t≡ i; direction = d≡ i; place = p≡ i; weight = w≡ i }

arcs_back : {P T : ℕ} (l : List Arc) → P ≤ 1024 → T ≤ 1024 → AllFine P T l → arcs_in (map word_of l) ≡ l
arcs_back [] hp ht f = refl
arcs_back (a ∷ l) hp ht f = λ i. arc-back a hp ht f.0 i ∷ arcs_back l hp ht f.1 i

pub arcs_next : (words : List ℕ) (k : ℕ) → k < length words → arcs_in (drop k words) ≡ arc_of (get_or words k 0) ∷ arcs_in (drop (k + 1) words)
arcs_next words k h = map-cons arc_of words k h

pub arcs_left_lem : (words : List ℕ) (k : ℕ) → length words ≤ k → arcs_bytes (arcs_in (drop k words)) ≡ []
unfolding arcs_bytes
arcs_left_lem words k h = ap arcs_bytes (map-none arc_of words k h)

-- ---- the file

module _ (s : List ℕ) {places : List ℕ} {T : ℕ} {words : List ℕ} (r : Ready s places T words) where
  place_count : length places ≡ length (entries Places s)
  place_count = sym (length-map places (wanted_read Places s)) ∙ ap length r.places_are

  arc_count : length words ≡ length (sorted (arcs_named s))
  arc_count = sym (length-map words arc_of) ∙ ap length r.arcs_are

  pub file_long : length (read_file s) ≡ 4 * length places + 8 * length words + 16
  unfolding read_file Named.net_named
  file_long = let p = place_count in let a = arc_count in omega (arith, length-plan 1 (net_named s))

  pub file_stored : (b : List ℕ) {b₁ b₂ b₃ : List ℕ} → b₁ ≡ sets b 0 (places_bytes 1 (marking_in s places) (λ p. 0) 0 (length places))
      → b₂ ≡ sets b₁ (4 * length places) (arcs_bytes (arcs_in words))
      → b₃ ≡ sets b₂ (4 * length places + 8 * length words) (trailer_bytes 0 1 (4 * length places + 8 * length words) (length places) T (length words))
      → b₃ ≡ sets b 0 (read_file s)
  unfolding read_file Named.net_named
  file_stored b {b₁} {b₂} f g h =
      plan_stored 1 (net_named s) b
      (f ∙ (λ i. sets b 0 (places_bytes 1 (λ p. get_or (map number_of (r.places_are i)) p 0) (λ p. 0) 0 (place_count i))))
      (g ∙ (λ i. sets b₁ (4 * place_count i) (arcs_bytes (r.arcs_are i))))
      (h ∙ (λ i. sets b₂ (4 * place_count i + 8 * arc_count i) (trailer_bytes 0 1 (4 * place_count i + 8 * arc_count i) (place_count i) (r.transitions_are i) (arc_count i))))

-- ---- what refusal 20 tests

pub unfit-is : (s : List ℕ) (off : Bool) {P T A : ℕ} {counts markings : Bool} → P ≡ length (entries Places s) → T ≡ length (entries Transitions s) → A ≡ length (entries Arcs s)
    → counts ≡ counts_off P T A → markings ≡ any_off 0 4294967295 (entries Places s) → (counts || markings || off) ≡ unfit_but s off
unfit-is s off p t a c m = λ i. (c ∙ (λ j. counts_off (p j) (t j) (a j))) i || m i || off

-- the places' part of the table
pub places_part : {s table : List ℕ} {P T : ℕ} → Listing s table P T → entries_in Places s (take (2 + P - 2) (drop 2 table)) ≡ entries Places s
places_part {s} {table} {P} g = let e : 2 + P - 2 ≡ P = omega arith in ap (λ (i : ℕ). entries_in Places s (take i (drop 2 table))) e ∙ g.places

module _ (s : List ℕ) (fit : unfit s ≡ false) where
  pub parts : (counts_off (length (entries Places s)) (length (entries Transitions s)) (length (entries Arcs s)) ≡ false) × (any_off 0 4294967295 (entries Places s) ≡ false) × (any_off 1 65535 (entries Arcs s) ≡ false)
  unfolding Named.unfit
  parts = three (counts_off (length (entries Places s)) (length (entries Transitions s)) (length (entries Arcs s))) (any_off 0 4294967295 (entries Places s)) (any_off 1 65535 (entries Arcs s)) fit
    where
      three : (a b c : Bool) → (a || b || c) ≡ false → (a ≡ false) × (b ≡ false) × (c ≡ false)
      three false false false e = (refl, refl, refl)
      three true b c e = absurd (true≢false e)
      three false true c e = absurd (true≢false e)
      three false false true e = absurd (true≢false e)

  pub limits : (length (entries Places s) ≤ 1024) × (length (entries Transitions s) ≤ 1024) × (length (entries Arcs s) ≤ 4096)
  limits =
      let P = length (entries Places s) in
      let T = length (entries Transitions s) in
      let A = length (entries Arcs s) in
      let a = four (ltb 1024 P) (ltb 1024 T) (ltb 4096 A) (eqb P 0 && eqb T 0) parts.0 in
      (ltb-false 1024 P a.0, ltb-false 1024 T a.1, ltb-false 4096 A a.2)
    where
      four : (a b c d : Bool) → (a || b || c || d) ≡ false → (a ≡ false) × (b ≡ false) × (c ≡ false)
      four false false false d e = (refl, refl, refl)
      four true b c d e = absurd (true≢false e)
      four false true c d e = absurd (true≢false e)
      four false false true d e = absurd (true≢false e)

  -- the numbers of the arcs, in order
  pub words_are : end_wrong s ≡ false → {words : List ℕ} → words ≡ map word_of (sorted (arcs_named s)) → Sorted s words
  unfolding Named.arcs_named end_wrong
  words_are joins {words} e =
      let l = limits in
      let fine = fine_sorted (length (ids Places s)) (length (ids Transitions s)) (arcs_named s) (arcs_fine (ids Places s) (ids Transitions s) (entries Arcs s) joins parts.2) in
      record {
        fit = fit;
        count = ap length e ∙ length-map (sorted (arcs_named s)) word_of ∙ length-sorted (arcs_named s) ∙ arcs_count (ids Places s) (ids Transitions s) (entries Arcs s) joins;
        arcs_are =
            ap arcs_in e
            ∙ arcs_back (sorted (arcs_named s)) (omega (arith, length-map (entries Places s) id_of, l.0)) (omega (arith, length-map (entries Transitions s) id_of, l.1)) fine;
      }

pub ready : {s table : List ℕ} {P T : ℕ} {words : List ℕ} → Listing s table P T → Sorted s words → Ready s (take (2 + P - 2) (drop 2 table)) T words
ready {s} {table} {P} {T} g w =
    let l = limits s w.fit in
    let p = places_part g in
    record {
      few_places = omega (arith, sym (length-map (take (2 + P - 2) (drop 2 table)) (wanted_read Places s)) ∙ ap length p, l.0);
      few_transitions = omega (arith, g.transition_count, l.1);
      few_arcs = omega (arith, w.count, l.2);
      places_are = p;
      transitions_are = g.transition_count;
      arcs_are = w.arcs_are;
    }
