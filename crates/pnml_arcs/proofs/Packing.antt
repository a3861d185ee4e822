-- The loop over the arcs of a text.
use Prim.Native.Nat.{ℕ, suc, ◌+◌, ◌-◌, ◌≤◌, ◌<◌}
use mathlib.Core.Path.{◌≡◌, refl, sym, ap, subst, ◌∙◌}
use mathlib.Core.Bool.{Bool, true, false, ◌||◌}
use Rattle.std.proofs.Common.{Ok, Err}
use Rattle.refusals.specs.declared.Refusal.TheVariants.{Id}
use Rattle.file_words.specs.Refusal.{refuse}
use mathlib.Core.List.{List, [], ◌∷◌, ◌++◌, map, append-nil, append_assoc}
use native.Mathlib.Omega.{arith}
use lib.Dec.{ltb}
use lib.ListN.{length, get_or, set, take, drop, length-set, length-map, length-drop}
use lib.Seq.{take-suc-set, get_or-drop}
use Rattle.std.proofs.lemmas.List.{take_rest}
use Rattle.net.specs.declared.Arc.{Arc}
use Rattle.pnml_names.specs.Tables.{wanted_read, entries_in}
use Rattle.pnml_names.specs.declared.Which.TheVariants.{Places, Transitions, Arcs}
use Rattle.pnml_names.proofs.Ids.{map-append, map-cons, map-none}
use Rattle.pnml_net.proofs.Arcs.{joined-known}
use Rattle.pnml_net.specs.Named
use Rattle.pnml_net.specs.Read.{id_of, entries, ids, any_apart, end_wrong, number_of, arcs_named}
use Rattle.pnml_net.specs.Named.{joined, arcs_of, any_off}
use Rattle.pnml_list.specs.Listing.{Listing}
use Rattle.pnml_sort.specs.Words.{word_of}
use Rattle.pnml_arcs.specs.Ends.{Lowest, Weighed}

-- the arcs before number k of the table of ids are done
pub record Packing (s names : List ℕ) (P T size : ℕ) (words : List ℕ) (off : Bool) (k : ℕ) : Type 0 where
  pub done : List Arc
  pub least : 2 + P + T ≤ k
  pub most : k ≤ length names
  pub count : k ≡ 2 + P + T + length done
  pub packed : take (length done) words ≡ map word_of done
  pub so : done ++ arcs_of (ids Places s) (ids Transitions s) (entries_in Arcs s (drop k names)) ≡ arcs_named s
  pub apart : any_apart (ids Places s) (ids Transitions s) (entries_in Arcs s (drop k names)) ≡ end_wrong s
  pub limits : (off || any_off 1 65535 (entries_in Arcs s (drop k names))) ≡ any_off 1 65535 (entries Arcs s)
  pub room : length words ≡ size
  pub fits : length names ≤ 2 + P + T + size

-- the arcs' part of the table
pub part_long : (names : List ℕ) (a : ℕ) → length (take (length names - a) (drop a names)) ≡ length names - a
part_long names a = ap (λ (l : List ℕ). length l) (take_rest names a) ∙ length-drop a names

pub part_at : (names : List ℕ) (a k : ℕ) {x : ℕ} → x ≡ get_or (take (length names - a) (drop a names)) k 0 → x ≡ get_or names (a + k) 0
part_at names a k e = e ∙ ap (λ (l : List ℕ). get_or l k 0) (take_rest names a) ∙ get_or-drop a names k 0

abbrev first : ℕ → ℕ → ℕ
first P T = 2 + P + T

module _ {s names : List ℕ} {P T : ℕ} (g : Listing s names P T) where
  packing_none : (words : List ℕ) → first P T ≤ length names → length names ≤ 2 + P + T + length words → Packing s names P T (length words) words false (2 + P + T)
  unfolding Named.arcs_named end_wrong
  packing_none words h f = record {
    done = [];
    least = omega arith;
    most = h;
    count = omega arith;
    packed = refl;
    so = ap (arcs_of (ids Places s) (ids Transitions s)) g.arcs;
    apart = ap (any_apart (ids Places s) (ids Transitions s)) g.arcs;
    limits = ap (any_off 1 65535) g.arcs;
    room = refl;
    fits = f;
  }

  pub packing_first : (words : List ℕ) → first P T ≤ length names → length names ≤ 2 + P + T + length words → Packing s names P T (length words) words false (2 + P + T + 0)
  packing_first words h f =
      let e : 2 + P + T ≡ 2 + P + T + 0 = omega arith in
      subst (λ (n : ℕ). Packing s names P T (length words) words false n) e (packing_none words h f)

  module _ {size : ℕ} {words : List ℕ} {off : Bool} {k : ℕ} (inv : Packing s names P T size words off k) where
    rest : k < length names → entries_in Arcs s (drop k names) ≡ wanted_read Arcs s (get_or names k 0) ∷ entries_in Arcs s (drop (k + 1) names)
    rest h = map-cons (wanted_read Arcs s) names k h

    pub pack_apart : k < length names → {a : ℕ} → a ≡ get_or names k 0 → [] ≡ joined (ids Places s) (ids Transitions s) (wanted_read Arcs s a) → true ≡ end_wrong s
    unfolding any_apart
    pack_apart h {a} e f =
        sym (rw (rest h, sym (ap (λ (y : ℕ). joined (ids Places s) (ids Transitions s) (wanted_read Arcs s y)) e) ∙ sym f)) ∙ inv.apart

    module _ (h : k < length names) {at : ℕ} {a : Arc} (e : at ≡ get_or names k 0) (f : a ∷ [] ≡ joined (ids Places s) (ids Transitions s) (wanted_read Arcs s at)) where
      pub low : Lowest a
      low =
          let q = joined-known (ids Places s) (ids Transitions s) (wanted_read Arcs s at) (sym f) in
          let p = length-map (entries Places s) id_of in
          let t = length-map (entries Transitions s) id_of in
          let m = g.few in
          let c = inv.count in
          record {
            transition = omega (arith, q.transition, g.transition_count);
            direction = q.direction;
            place = omega (arith, q.place, g.place_count);
          }

      here : joined (ids Places s) (ids Transitions s) (wanted_read Arcs s (get_or names k 0)) ≡ a ∷ []
      here = sym (ap (λ (y : ℕ). joined (ids Places s) (ids Transitions s) (wanted_read Arcs s y)) e) ∙ sym f

      number : a.weight ≡ number_of (wanted_read Arcs s (get_or names k 0))
      number = (joined-known (ids Places s) (ids Transitions s) (wanted_read Arcs s at) (sym f)).weight ∙ ap (λ (y : ℕ). number_of (wanted_read Arcs s y)) e

      pack_on : {w : ℕ} {b : Bool} → w ≡ word_of a → b ≡ (ltb a.weight 1 || ltb 65535 a.weight) → Packing s names P T size (set words (k - (2 + P + T)) w) (off || b) (k + 1)
      unfolding arcs_of any_apart any_off
      pack_on {w} {b} p q =
          let c = inv.count in
          let r = inv.room in
          let f = inv.fits in
          let i : k - (2 + P + T) ≡ length inv.done = omega arith in
          let l : length (inv.done ++ (a ∷ [])) ≡ suc (length inv.done) = length_more inv.done in
          let d : length inv.done < length words = omega arith in
          let o : (ltb (number_of (wanted_read Arcs s (get_or names k 0))) 1 || ltb 65535 (number_of (wanted_read Arcs s (get_or names k 0)))) ≡ b = (λ j. ltb (sym number j) 1 || ltb 65535 (sym number j)) ∙ sym q in
          record {
            done = inv.done ++ (a ∷ []);
            least = omega (arith, inv.least);
            most = omega arith;
            count = omega arith;
            packed =
                (λ j. take (l j) (set words (i j) w)) ∙ take-suc-set words (length inv.done) w d
                ∙ (λ j. inv.packed j ++ (p j ∷ [])) ∙ sym (map-append word_of inv.done (a ∷ []));
            so = append_assoc inv.done (a ∷ []) _ ∙ sym (rw (rest h, here)) ∙ inv.so;
            apart = sym (rw (rest h, here)) ∙ inv.apart;
            limits = assoc off b (any_off 1 65535 (entries_in Arcs s (drop (k + 1) names))) ∙ sym (rw (rest h, o)) ∙ inv.limits;
            room = length-set words (k - (2 + P + T)) w ∙ r;
            fits = f;
          }
        where
          length_more : (y : List Arc) → length (y ++ (a ∷ [])) ≡ suc (length y)
          length_more [] = refl
          length_more (x ∷ y) = ap suc (length_more y)

          assoc : (x y z : Bool) → ((x || y) || z) ≡ (x || (y || z))
          assoc true y z = refl
          assoc false y z = refl

      pub pack_as : (j : ℕ) {w : ℕ} {b : Bool} → k ≡ 2 + P + T + j → w ≡ word_of a → b ≡ (ltb a.weight 1 || ltb 65535 a.weight)
          → Packing s names P T size (set words j w) (off || b) (2 + P + T + (j + 1))
      pack_as j {w} {b} d p q =
          let x : k - (2 + P + T) ≡ j = omega arith in
          let y : k + 1 ≡ 2 + P + T + (j + 1) = omega arith in
          subst (λ (n : ℕ). Packing s names P T size (set words j w) (off || b) n) y
          (subst (λ (n : ℕ). Packing s names P T size (set words n w) (off || b) (k + 1)) x (pack_on p q))

    pub pack_end : length names ≤ k → (entry : List ℕ) → length entry ≡ size → Weighed s entry words (Ok off)
    unfolding arcs_of any_apart any_off
    pack_end h entry el =
        let n = map-none (wanted_read Arcs s) names k h in
        let m = inv.most in
        let c = inv.count in
        let joins : false ≡ end_wrong s = sym (rw n) ∙ inv.apart in
        let t : length (entries Arcs s) ≡ length inv.done = sym (ap length g.arcs) ∙ length-map (drop (2 + P + T) names) (wanted_read Arcs s) ∙ (let d = length-drop (2 + P + T) names in omega arith) in
        record {
          apart = ap (λ (b : Bool). refuse b 19 0) joins;
          off = sym (or_none off) ∙ sym (rw n) ∙ inv.limits;
          words = ap (λ (i : ℕ). take i words) t ∙ inv.packed ∙ ap (map word_of) (sym (append-nil inv.done) ∙ sym (rw n) ∙ inv.so);
          room = inv.room ∙ sym el;
        }
      where
        or_none : (b : Bool) → (b || false) ≡ b
        or_none true = refl
        or_none false = refl

pub pack_told : {s entry words : List ℕ} → length words ≡ length entry → true ≡ end_wrong s → Weighed s entry words (Err Id)
pack_told l e = record {
  room = l;
  apart = ap (λ (b : Bool). refuse b 19 0) e;
  off = tt;
  words = tt;
}
