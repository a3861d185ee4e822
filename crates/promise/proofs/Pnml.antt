-- The plan of a text in PNML reads back as the net that the text names (document 02, A10).
use Prim.Native.Nat.{ℕ, zero, suc, ◌+◌, ◌≤◌, ◌<◌}
use mathlib.Core.Logic.{◌≢◌}
use mathlib.Core.Path.{◌≡◌, refl, sym, ap, subst⁻¹, ◌∙◌}
use mathlib.Core.Bool.{Bool, true, false, not, ◌||◌, ◌&&◌, true≢false}
use mathlib.Core.List.{List, [], ◌∷◌, ◌++◌, map, append_assoc}
use native.Mathlib.Omega.{arith}
use lib.Dec.{eqb, ltb}
use lib.ListN.{length, take, drop, get_or, length-append, length-map, get_or-eq_default}
use lib.Seq.{take_at}
use borrow.Author.Tests.{ltb-false, le-ltb, lt-ltb, ne_eqb}
use Rattle.net.specs.Net.{Net, input, output, capped, Uncapped, WithinCaps}
use Rattle.net.specs.declared.Arc.{Arc}
use Rattle.file_words.specs.Refusal.{refuse, or_else}
use Rattle.file_header.specs.Layout.{header_of}
use Rattle.file_header.specs.declared.Header.{Header}
use Rattle.file_header.specs.declared.Due.TheVariants as due
use Rattle.file.specs.Layout.{net_of}
use Rattle.file.specs.Refusal.{file_refusal}
use Rattle.file_writing.proofs.Bytes.{AllFit}
use Rattle.file_writing.proofs.Parts.{NetWritable}
use Rattle.file_writing.proofs.PlanTrip.{plan_header, plan_back, plan_passes}
use Rattle.pnml_page.specs.Profile.{Element, Drawing, drawing, of_profile}
use Rattle.pnml_names.specs.Names.{repeats}
use Rattle.pnml_net.specs.Read.{any_apart, twice_in, wrong_in, id_of, number_of, counts_off, sorted}
use Rattle.pnml_names.specs.declared.Which.TheVariants.{Places, Transitions, Arcs}
use Rattle.pnml_names.proofs.Ids.{or-false, repeats-front, repeats-back}
use Rattle.pnml_net.specs.Named.{entries, ids, names, misnamed, unfit, any_off, arcs_named, net_named}
use Rattle.pnml_net.proofs.Sorted.{sorted-ordered, sorted-stable, sum-sorted}
use Rattle.pnml_net.proofs.Arcs.{AllFine, in_range, fine_sorted, length-sorted, not-off, arcs_fine, arcs_count, apart_is}
use Rattle.pnml_net.proofs.Drawing.{taken_drawn, given-drawn}
use Rattle.promise.specs.Calls.{written}
use Rattle.promise.specs.Normal.{FileAnswer, file_answer}
use Rattle.promise.specs.Pnml.{pnml_refusal, pnml_file, pnml_write_refusal, pnml_answer, pnml_buffer, NetOfText, WritesNamed, OneNet, Within, TextLimits}

-- ---- what no refusal means

refuse-0 : (b : Bool) (n k : ℕ) → refuse b (suc n) k ≡ 0 → (b ≡ false) × (k ≡ 0)
refuse-0 false n k e = (refl, e)
refuse-0 true n k e = absurd (omega (arith, e))

module _ (s : List ℕ) (none : pnml_refusal s ≡ 0) where
  low : (ltb 65536 (length s) ≡ false) × (refuse (not (of_profile s)) 18 (refuse (misnamed (drawing s)) 19 (refuse (unfit (drawing s)) 20 0)) ≡ 0)
  unfolding pnml_refusal
  low = refuse-0 (ltb 65536 (length s)) 0 _ none

  names-right : (misnamed (drawing s) ≡ false) × (refuse (unfit (drawing s)) 20 0 ≡ 0)
  names-right = refuse-0 (misnamed (drawing s)) 18 _ (refuse-0 (not (of_profile s)) 17 _ low.1).1

  once : twice_in (drawing s) ≡ false
  unfolding misnamed
  once = (or-false (twice_in (drawing s)) (wrong_in (drawing s)) names-right.0).0

  joins : wrong_in (drawing s) ≡ false
  unfolding misnamed
  joins = (or-false (twice_in (drawing s)) (wrong_in (drawing s)) names-right.0).1

  apart : any_apart (ids Places (drawing s)) (ids Transitions (drawing s)) (entries Arcs (drawing s)) ≡ false
  unfolding arcs_named
  apart = apart_is (ids Places (drawing s)) (ids Transitions (drawing s)) (entries Arcs (drawing s)) ∙ joins

  fits : (counts_off (length (entries Places (drawing s))) (length (entries Transitions (drawing s))) (length (entries Arcs (drawing s))) ≡ false) × (any_off 0 4294967295 (entries Places (drawing s)) ≡ false) × (any_off 1 65535 (entries Arcs (drawing s)) ≡ false)
  unfolding unfit
  fits =
      let c = counts_off (length (entries Places (drawing s))) (length (entries Transitions (drawing s))) (length (entries Arcs (drawing s))) in
      let m = any_off 0 4294967295 (entries Places (drawing s)) in
      let w = any_off 1 65535 (entries Arcs (drawing s)) in
      let a = three c m w (refuse-0 (unfit (drawing s)) 19 0 names-right.1).0 in
      a
    where
      three : (a b c : Bool) → (a || b || c) ≡ false → (a ≡ false) × (b ≡ false) × (c ≡ false)
      three false false false e = (refl, refl, refl)
      three true b c e = absurd (true≢false e)
      three false true c e = absurd (true≢false e)
      three false false true e = absurd (true≢false e)

  counts : (length (entries Places (drawing s)) ≤ 1024) × (length (entries Transitions (drawing s)) ≤ 1024) × (length (entries Arcs (drawing s)) ≤ 4096) × (eqb (length (entries Places (drawing s))) 0 && eqb (length (entries Transitions (drawing s))) 0 ≡ false)
  counts =
      let P = length (entries Places (drawing s)) in
      let T = length (entries Transitions (drawing s)) in
      let A = length (entries Arcs (drawing s)) in
      let a = four (ltb 1024 P) (ltb 1024 T) (ltb 4096 A) (eqb P 0 && eqb T 0) fits.0 in
      (ltb-false 1024 P a.0, ltb-false 1024 T a.1, ltb-false 4096 A a.2, a.3)
    where
      four : (a b c d : Bool) → (a || b || c || d) ≡ false → (a ≡ false) × (b ≡ false) × (c ≡ false) × (d ≡ false)
      four false false false false e = (refl, refl, refl, refl)
      four true b c d e = absurd (true≢false e)
      four false true c d e = absurd (true≢false e)
      four false false true d e = absurd (true≢false e)
      four false false false true e = absurd (true≢false e)

  -- ---- the net that the text names fits a plan file

  id-count : length (ids Places (drawing s)) ≡ length (entries Places (drawing s))
  id-count = length-map (entries Places (drawing s)) id_of

  transition_count : length (ids Transitions (drawing s)) ≡ length (entries Transitions (drawing s))
  transition_count = length-map (entries Transitions (drawing s)) id_of

  fine : AllFine (length (ids Places (drawing s))) (length (ids Transitions (drawing s))) (sorted (arcs_named (drawing s)))
  unfolding arcs_named
  fine = fine_sorted (length (ids Places (drawing s))) (length (ids Transitions (drawing s))) (arcs_named (drawing s)) (arcs_fine (ids Places (drawing s)) (ids Transitions (drawing s)) (entries Arcs (drawing s)) apart fits.2)

  fine_net : AllFine (length (entries Places (drawing s))) (length (entries Transitions (drawing s))) (sorted (arcs_named (drawing s)))
  fine_net = subst⁻¹ (λ (n : ℕ). AllFine n (length (entries Transitions (drawing s))) (sorted (arcs_named (drawing s)))) (sym id-count) (subst⁻¹ (λ (n : ℕ). AllFine (length (ids Places (drawing s))) n (sorted (arcs_named (drawing s)))) (sym transition_count) fine)

  arc_count : length (sorted (arcs_named (drawing s))) ≡ length (entries Arcs (drawing s))
  unfolding arcs_named
  arc_count = length-sorted (arcs_named (drawing s)) ∙ arcs_count (ids Places (drawing s)) (ids Transitions (drawing s)) (entries Arcs (drawing s)) apart

  pub writable : NetWritable 1 (net_named (drawing s))
  unfolding net_named Uncapped WithinCaps capped
  writable = record {
    edition_known = refl;
    edition_small_lem = omega arith;
    places = counts.0;
    transitions = counts.1;
    arcs = omega (arith, arc_count, counts.2);
    markings = λ p h. small (entries Places (drawing s)) p fits.1;
    no_others = λ p h. get_or-eq_default (map number_of (entries Places (drawing s))) 0 {n = p} (omega (arith, length-map (entries Places (drawing s)) number_of));
    caps = λ p h. omega arith;
    no_other_caps = λ p h. refl;
    no_caps = λ e p. refl;
    within = λ p h c. absurd c;
    in_range = in_range (length (entries Places (drawing s))) (length (entries Transitions (drawing s))) (sorted (arcs_named (drawing s))) fine_net;
    fit = fit (sorted (arcs_named (drawing s))) fine_net;
    order = sorted-ordered (arcs_named (drawing s));
  }
    where
      small : (l : List Element) (p : ℕ) → any_off 0 4294967295 l ≡ false → get_or (map number_of l) p 0 < 4294967296
      small [] p e = omega arith
      small (x ∷ l) zero e = let m = not-off 0 4294967295 x l e in omega (arith, m.1)
      small (x ∷ l) (suc p) e = small l p (not-off 0 4294967295 x l e).2

      fit : (l : List Arc) → AllFine (length (entries Places (drawing s))) (length (entries Transitions (drawing s))) l → AllFit l
      fit [] f = tt
      fit (a ∷ l) f =
          let g = f.0.good in
          let c = counts in (
            record {
              direction = omega (arith, g.direction);
              place = omega (arith, g.place, c.0);
              transition = omega (arith, g.transition, c.1);
              weight = f.0.light;
            },
            fit l f.1,
          )

  -- ---- the converted net is the net that the text names

  nodes_once : repeats (ids Places (drawing s) ++ ids Transitions (drawing s)) ≡ false
  unfolding names
  nodes_once =
      repeats-front (ids Places (drawing s) ++ ids Transitions (drawing s)) (ids Arcs (drawing s))
      (ap repeats (append_assoc (ids Places (drawing s)) (ids Transitions (drawing s)) (ids Arcs (drawing s)))
      ∙ repeats-back (drawing s).heads (ids Places (drawing s) ++ (ids Transitions (drawing s) ++ ids Arcs (drawing s))) once)

  pub net-of_text : NetOfText (drawing s) (net_named (drawing s))
  unfolding net_named Uncapped input output arcs_named entries
  net-of_text = record {
    places = refl;
    transitions = refl;
    marking = λ p h. refl;
    uncapped = λ p. refl;
    taken = λ p t hp ht. sum-sorted 0 p t (arcs_named (drawing s)) ∙ taken_drawn (ids Places (drawing s)) (ids Transitions (drawing s)) nodes_once p t (omega (arith, id-count)) (omega (arith, transition_count)) (entries Arcs (drawing s)) apart;
    given = λ p t hp ht. sum-sorted 1 p t (arcs_named (drawing s)) ∙ given-drawn (ids Places (drawing s)) (ids Transitions (drawing s)) nodes_once p t (omega (arith, id-count)) (omega (arith, transition_count)) (entries Arcs (drawing s)) apart;
    in_order = λ k. sorted-stable k (arcs_named (drawing s));
  }

  -- ---- the file

  pub file_read_lem : file_refusal due.Plan (pnml_file s) ≡ 0
  unfolding pnml_file net_named
  file_read_lem = plan_passes 1 (net_named (drawing s)) writable counts.3

  pub file_net : net_of (pnml_file s) ≡ net_named (drawing s)
  unfolding pnml_file
  file_net = plan_back 1 (net_named (drawing s)) writable

  pub file_edition : (header_of (pnml_file s)).edition ≡ 1
  unfolding pnml_file
  file_edition = ap (λ (h : Header). h.edition) (plan_header 1 (net_named (drawing s)) writable)

  pub file_no_note : (header_of (pnml_file s)).markstart ≡ 0
  unfolding pnml_file
  file_no_note = ap (λ (h : Header). h.markstart) (plan_header 1 (net_named (drawing s)) writable)

-- ---- at the call

not-refused : (n k : ℕ) → (file_answer n k).refused ≡ false → n ≡ 0
not-refused zero k e = refl
not-refused (suc n) k e = absurd (true≢false e)

or_0 : (a b : ℕ) → or_else a b ≡ 0 → a ≡ 0
or_0 zero b e = refl
or_0 (suc a) b e = absurd (omega (arith, e))

module _ (s buffer : List ℕ) (passed : (pnml_answer s (length buffer)).refused ≡ false) where
  none_of : pnml_write_refusal s (length buffer) ≡ 0
  unfolding pnml_answer
  none_of = not-refused (pnml_write_refusal s (length buffer)) (length (pnml_file s)) passed

  pub converted : pnml_refusal s ≡ 0
  unfolding pnml_write_refusal
  converted = or_0 (pnml_refusal s) _ none_of

  pub length-told : (pnml_answer s (length buffer)).length ≡ length (pnml_file s)
  unfolding pnml_answer
  length-told = ap (λ (n : ℕ). (file_answer n (length (pnml_file s))).length) none_of

  -- the buffer's first bytes, up to the length returned
  pub file_written : take (pnml_answer s (length buffer)).length (pnml_buffer s buffer) ≡ pnml_file s
  unfolding pnml_buffer
  file_written =
      ap (λ (n : ℕ). take (pnml_answer s (length buffer)).length (written n (pnml_file s) buffer)) none_of
      ∙ take_at (pnml_file s) (drop (length (pnml_file s)) buffer) (pnml_answer s (length buffer)).length (sym length-told)

  pub room_for : length (pnml_file s) ≤ length (pnml_buffer s buffer)
  unfolding pnml_buffer
  room_for = omega (arith, ap (λ (n : ℕ). length (written n (pnml_file s) buffer)) none_of, length-append (pnml_file s) (drop (length (pnml_file s)) buffer))

module _ (s buffer : List ℕ) where
  writes : WritesNamed s (pnml_answer s (length buffer)) (pnml_buffer s buffer)
  writes = record {
    long = λ e. omega (arith, length-told s buffer e, room_for s buffer e);
    read = λ e. ap (file_refusal due.Plan) (file_written s buffer e) ∙ file_read_lem s (converted s buffer e);
    net = λ e. ap net_of (file_written s buffer e) ∙ file_net s (converted s buffer e);
    named = λ e. subst⁻¹ (NetOfText (drawing s)) (ap net_of (file_written s buffer e) ∙ file_net s (converted s buffer e)) (net-of_text s (converted s buffer e));
    edition = λ e. ap (λ (l : List ℕ). (header_of l).edition) (file_written s buffer e) ∙ file_edition s (converted s buffer e);
    no_note = λ e. ap (λ (l : List ℕ). (header_of l).markstart) (file_written s buffer e) ∙ file_no_note s (converted s buffer e);
  }

  -- by the call's own answer and buffer
  pub writes_named : {a : FileAnswer} {exit : List ℕ} → a ≡ pnml_answer s (length buffer) → exit ≡ pnml_buffer s buffer → WritesNamed s a exit
  writes_named {a} {exit} e f =
      subst⁻¹ (λ (x : FileAnswer). WritesNamed s x exit) e (subst⁻¹ (λ (l : List ℕ). WritesNamed s (pnml_answer s (length buffer)) l) f writes)

pub one_net : (d : Drawing) (N N' : Net) → NetOfText d N → NetOfText d N' → OneNet N N'
unfolding Uncapped
one_net d N N' x y =
    let P : N.places ≡ N'.places = x.places ∙ sym y.places in
    let T : N.transitions ≡ N'.transitions = x.transitions ∙ sym y.transitions in
    record {
      same = record {
        places = P;
        transitions = T;
        markings = λ p l. x.marking p l ∙ sym (y.marking p (omega (arith, P)));
        caps = λ p l. x.uncapped p ∙ sym (y.uncapped p);
        inputs = λ p t l m. x.taken p t l m ∙ sym (y.taken p t (omega (arith, P)) (omega (arith, T)));
        outputs = λ p t l m. x.given p t l m ∙ sym (y.given p t (omega (arith, P)) (omega (arith, T)));
      };
      in_order = λ k. x.in_order k ∙ sym (y.in_order k);
    }

-- two files that were written of one text
pub one-net_written : (s : List ℕ) (a a' : FileAnswer) (exit exit' : List ℕ) → WritesNamed s a exit → WritesNamed s a' exit' → a.refused ≡ false → a'.refused ≡ false
    → OneNet (net_of (take a.length exit)) (net_of (take a'.length exit'))
one-net_written s a a' exit exit' x y e f = one_net (drawing s) (net_of (take a.length exit)) (net_of (take a'.length exit')) (x.named e) (y.named f)

-- ---- what 1 and 20 mean

none_off : (least most : ℕ) (l : List Element) → ((k : ℕ) → k < length l → (least ≤ get_or (map number_of l) k 0) × (get_or (map number_of l) k 0 ≤ most)) → any_off least most l ≡ false
unfolding any_off
none_off least most [] f = refl
none_off least most (e ∷ l) f =
    let h = f 0 (omega arith) in
    rw (le-ltb (number_of e) least h.0, le-ltb most (number_of e) h.1) (none_off least most l (λ k b. f (suc k) (omega arith)))

all-on : (least most : ℕ) (l : List Element) → any_off least most l ≡ false → (k : ℕ) → k < length l → (least ≤ get_or (map number_of l) k 0) × (get_or (map number_of l) k 0 ≤ most)
all-on least most [] e k b = absurd (omega arith)
all-on least most (x ∷ l) e zero b = let m = not-off least most x l e in (m.0, m.1)
all-on least most (x ∷ l) e (suc k) b = all-on least most l (not-off least most x l e).2 k (omega arith)

module _ (s : List ℕ) where
  told-1 : 65536 < length s → pnml_refusal s ≡ 1
  unfolding pnml_refusal
  told-1 h = rw (lt-ltb 65536 (length s) h)

  later : (p m u : Bool) → refuse (not p) 18 (refuse m 19 (refuse u 20 0)) ≢ 1
  later true true u e = absurd (omega (arith, e))
  later true false true e = absurd (omega (arith, e))
  later true false false e = absurd (omega (arith, e))
  later false m u e = absurd (omega (arith, e))

  not-1 : length s ≤ 65536 → pnml_refusal s ≢ 1
  unfolding pnml_refusal
  not-1 h e = later (of_profile s) (misnamed (drawing s)) (unfit (drawing s)) (rw (le-ltb 65536 (length s) h) at e)

  inside-limits : pnml_refusal s ≡ 0 → Within (drawing s)
  inside-limits e =
      let c = counts s e in
      record {
        places = c.0;
        transitions = c.1;
        arcs = c.2;
        some = nodes (length (entries Places (drawing s))) (length (entries Transitions (drawing s))) c.3;
        markings = λ k. low_marking (entries Places (drawing s)) (fits s e).1 k;
        weights = all-on 1 65535 (entries Arcs (drawing s)) (fits s e).2;
      }
    where
      nodes : (P T : ℕ) → eqb P 0 && eqb T 0 ≡ false → 0 < P + T
      nodes zero zero x = absurd (true≢false x)
      nodes zero (suc T) x = omega arith
      nodes (suc P) T x = omega arith

      low_marking : (l : List Element) → any_off 0 4294967295 l ≡ false → (k : ℕ) → get_or (map number_of l) k 0 ≤ 4294967295
      low_marking [] x k = omega arith
      low_marking (y ∷ l) x zero = (not-off 0 4294967295 y l x).1
      low_marking (y ∷ l) x (suc k) = low_marking l (not-off 0 4294967295 y l x).2 k

  fitting : Within (drawing s) → unfit (drawing s) ≡ false
  unfolding unfit
  fitting w =
      rw (
        le-ltb 1024 (length (entries Places (drawing s))) w.places,
        le-ltb 1024 (length (entries Transitions (drawing s))) w.transitions,
        le-ltb 4096 (length (entries Arcs (drawing s))) w.arcs,
        nobody (length (entries Places (drawing s))) (length (entries Transitions (drawing s))) w.some,
        none_off 0 4294967295 (entries Places (drawing s)) (λ k b. (omega arith, w.markings k)),
        none_off 1 65535 (entries Arcs (drawing s)) w.weights,
      ) refl
    where
      nobody : (P T : ℕ) → 0 < P + T → eqb P 0 && eqb T 0 ≡ false
      nobody zero zero x = absurd (omega arith)
      nobody zero (suc T) x = rw (ne_eqb (suc T) 0 (λ z. omega (arith, z))) refl
      nobody (suc P) T x = rw (ne_eqb (suc P) 0 (λ z. omega (arith, z))) refl

  pub text_limits : TextLimits s
  unfolding pnml_refusal
  text_limits = record {
    long = told-1;
    short = not-1;
    twenty = λ h p m. (inside-limits, λ w. rw (le-ltb 65536 (length s) h, p, m, fitting w) refl);
  }
