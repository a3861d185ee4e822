-- Rules 1, 2, 3 and 5: the lowest number that breaks them, found in the origins, or in the criterion.
use Prim.Native.Nat.{ℕ, ◌≤◌, ◌<◌}
use mathlib.Core.Path.{◌≡◌, refl, sym, ap, ◌∙◌}
use mathlib.Core.Bool.{Bool, true, false, not, ◌&&◌}
use mathlib.Core.List.{List}
use native.Mathlib.Omega.{arith}
use lib.Dec.{eqb, ltb}
use lib.ListN.{length, get_or}
use Rattle.net.specs.Numbers.{among, position, first}
use Rattle.net.specs.Net.{Net, Uncapped}
use Rattle.net.specs.Slice.{Slice, place_of, transition_of}
use Rattle.net.specs.Checker.{breaks, breaker, rule1, rule2, rule3, rule5}
use Rattle.net.proofs.Numbers.{position_at}
use Rattle.file.proofs.Rows.{rising_from}
use Rattle.file.specs.Facts.{RisingFrom}
use Rattle.rules_origins.specs.Known.{Known, first_unknown, same_at}
use Rattle.rules_origins.proofs.Firsts.{all_known, scan_found, scan_none}

pub unknown_place : (N : Net) (S : Slice) (limit : ℕ) → N.places ≡ limit → first_unknown limit S.place_origins S.net.places ≡ breaker (rule1 N S)
unfolding first_unknown breaker breaks rule1 place_of
unknown_place N S limit e = ap (λ (m : ℕ). first (λ i. not (ltb (get_or S.place_origins i 0) m)) 0 S.net.places) (sym e)

pub unknown_transition : (N : Net) (S : Slice) (limit : ℕ) → N.transitions ≡ limit → first_unknown limit S.transition_origins S.net.transitions ≡ breaker (rule2 N S)
unfolding first_unknown breaker breaks rule2 transition_of
unknown_transition N S limit e = ap (λ (m : ℕ). first (λ i. not (ltb (get_or S.transition_origins i 0) m)) 0 S.net.transitions) (sym e)

-- where rule 1 holds, the plan knows every place
pub places_known : (N : Net) (S : Slice) → length S.place_origins ≡ S.net.places → S.net.places ≤ breaker (rule1 N S) → Known N.places S.place_origins
places_known N S e h = all_known N.places S.place_origins S.net.places e (rw (unknown_place N S N.places refl) h)

-- where rule 2 holds, every transition
pub transitions_known : (N : Net) (S : Slice) → length S.transition_origins ≡ S.net.transitions → S.net.transitions ≤ breaker (rule2 N S) → Known N.transitions S.transition_origins
transitions_known N S e h = all_known N.transitions S.transition_origins S.net.transitions e (rw (unknown_transition N S N.transitions refl) h)

-- by the four numbers: what place i of M and place p of N hold, and at most hold
pub same_by : (N M : Net) (i p a b c d : ℕ) → a ≡ M.marking i → b ≡ N.marking p → c ≡ M.cap i → d ≡ N.cap p → eqb a b && eqb c d ≡ same_at N M i p
same_by N M i p a b c d e f g h = rw (e, f, g, h)

-- where no place has a cap, the markings decide
pub tokens-decide : (N M : Net) → Uncapped N → Uncapped M → (i p : ℕ) → same_at N M i p ≡ eqb (M.marking i) (N.marking p)
unfolding Uncapped
tokens-decide N M none none' i p = rw (none p, none' i) (both (eqb (M.marking i) (N.marking p)))
  where
    both : (b : Bool) → b && true ≡ b
    both true = refl
    both false = refl

-- the slice's place k has the marking and the cap of its origin
pub record Alike (N : Net) (S : Slice) (k : ℕ) : Type 0 where
  pub same : same_at N S.net k (get_or S.place_origins k 0) ≡ true

module _ (N : Net) (S : Slice) (rise : RisingFrom 0 S.place_origins) (known : Known N.places S.place_origins) where
  at_origin : (k : ℕ) → k < length S.place_origins → let p = get_or S.place_origins k 0 in same_at N S.net (position p S.place_origins) p ≡ same_at N S.net k p
  at_origin k l =
      let p = get_or S.place_origins k 0 in
      ap (λ (j : ℕ). same_at N S.net j p) (position_at S.place_origins (rising_from _ 0 rise) k l)

  -- the origin of k passes rule 3, or breaks it
  passes : (k : ℕ) → k < length S.place_origins → Alike N S k → let p = get_or S.place_origins k 0 in not (same_at N S.net (position p S.place_origins) p) ≡ false
  passes k l a = ap not (at_origin k l ∙ a.same)

  fails : (k : ℕ) → k < length S.place_origins → let p = get_or S.place_origins k 0 in same_at N S.net k p ≡ false → not (same_at N S.net (position p S.place_origins) p) ≡ true
  fails k l e = ap not (at_origin k l ∙ e)

  pub other_found : (i : ℕ) → i < length S.place_origins → ((k : ℕ) → k < i → Alike N S k)
      → same_at N S.net i (get_or S.place_origins i 0) ≡ false → get_or S.place_origins i 0 ≡ breaker (rule3 N S)
  unfolding breaker breaks rule3
  other_found i l same other =
      scan_found S.place_origins rise N.places known.at (λ p. not (same_at N S.net (position p S.place_origins) p)) i l
      (λ k d. passes k (omega arith) (same k d))
      (fails i l other)

  pub other_none : ((k : ℕ) → k < length S.place_origins → Alike N S k) → N.places ≡ breaker (rule3 N S)
  unfolding breaker breaks rule3
  other_none same =
      scan_none S.place_origins rise N.places known.at (λ p. not (same_at N S.net (position p S.place_origins) p))
      (λ k d. passes k d (same k d))

module _ (N : Net) (S : Slice) (Q : List ℕ) (rise : RisingFrom 0 Q) (known : (i : ℕ) → i < length Q → get_or Q i 0 < N.places) where
  pub missing_found : (i : ℕ) → i < length Q → ((k : ℕ) → k < i → among (get_or Q k 0) S.place_origins ≡ true)
      → among (get_or Q i 0) S.place_origins ≡ false → get_or Q i 0 ≡ breaker (rule5 N S Q)
  unfolding breaker breaks rule5
  missing_found i l kept missing =
      scan_found Q rise N.places known (λ p. not (among p S.place_origins)) i l (λ k d. rw (kept k d)) (rw missing)

  pub missing_none : ((k : ℕ) → k < length Q → among (get_or Q k 0) S.place_origins ≡ true) → N.places ≡ breaker (rule5 N S Q)
  unfolding breaker breaks rule5
  missing_none kept = scan_none Q rise N.places known (λ p. not (among p S.place_origins)) (λ k d. rw (kept k d))
