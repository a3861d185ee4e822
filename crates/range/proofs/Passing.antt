-- What is known where nothing is refused, and the answer in numbers where something is.
use Prim.Native.Nat.{ℕ, zero, suc, ◌≤◌}
use mathlib.Core.Bool.{Bool, true, false, not}
use mathlib.Core.List.{List}
use mathlib.Core.Path.{◌≡◌, sym, ap}
use lib.ListN.{length}
use lib.Dec.{eqb, ltb}
use borrow.Author.Tests.{ltb-false, eqb-true, not-false, ne_eqb, eq-eqb}
use Rattle.net.specs.Net.{has_caps}
use Rattle.net.specs.Range.{covers, Extent}
use Rattle.file_words.specs.Refusal.{refuse}
use Rattle.file.specs.Layout.{net_from}
use Rattle.file_header.specs.declared.Header.{Header}
use Rattle.file_words.proofs.Laws.{refuse-0, or_else_0, or_else_stop, or-false}
use Rattle.promise.specs.Firing.{list_refusal}
use Rattle.promise.specs.Together.{standing}
use Rattle.promise.specs.Range.{upper_wrong, range_or}
use Rattle.inputs_lists.proofs.Passing as listed
use Rattle.range.specs.Told.{held_back}
use Rattle.range.specs.Need.{Known}

-- ---- by the way out of the tests

module _ (s : List ℕ) (h : Header) (list upper : List ℕ) (room : ℕ) where
  module _ (none : has_caps (net_from s h) ≡ false) where
    pub by_list : {n : ℕ} → n ≡ list_refusal h.transitions list → (n ≡ 0 → ⊥) → n ≡ held_back s h list upper room
    by_list {n} e z = rw (none, ← e, or_else_stop n _ z)

    module _ (known : list_refusal h.transitions list ≡ 0) where
      pub by_length : (length upper ≡ h.places → ⊥) → 21 ≡ held_back s h list upper room
      unfolding upper_wrong
      by_length d = rw (none, known, ne_eqb (length upper) h.places d)

      module _ (long : length upper ≡ h.places) where
        pub by_entry : covers (net_from s h) (standing upper) (net_from s h).marking ≡ false → 21 ≡ held_back s h list upper room
        unfolding upper_wrong
        by_entry c = rw (none, known, eq-eqb (length upper) h.places long, c)

        module _ (rises : covers (net_from s h) (standing upper) (net_from s h).marking ≡ true) where
          pub by_room : {b : Bool} → ltb room h.places ≡ b → refuse b 13 0 ≡ held_back s h list upper room
          unfolding upper_wrong
          by_room e = rw (none, known, eq-eqb (length upper) h.places long, rises, e)

-- ---- where nothing is refused

module _ (s : List ℕ) (h : Header) (list upper : List ℕ) (room : ℕ) (e : 0 ≡ held_back s h list upper room) where
  tests : (list_refusal h.transitions list ≡ 0) × (upper_wrong (net_from s h) upper ≡ false) × (ltb room h.places ≡ false)
  tests =
      let a = refuse-0 (has_caps (net_from s h)) 16 _ (sym e) in
      let b = or_else_0 (list_refusal h.transitions list) _ a.1 in
      let c = refuse-0 (upper_wrong (net_from s h) upper) 20 _ b.1 in
      (b.0, c.0, (refuse-0 (ltb room h.places) 12 0 c.1).0)

  pub list_passes : list_refusal h.transitions list ≡ 0
  list_passes = tests.0

  pub as_many : length upper ≡ h.places
  unfolding upper_wrong
  as_many =
      eqb-true (length upper) h.places
      (not-false _ (or-false (not (eqb (length upper) h.places)) (not (covers (net_from s h) (standing upper) (net_from s h).marking)) tests.1).0)

  pub room_enough : h.places ≤ room
  room_enough = ltb-false room h.places tests.2

-- the firings of a list that is not refused
pub known_list : (h : Header) (list : List ℕ) → list_refusal h.transitions list ≡ 0 → Known h list
known_list h list e = record { short = listed.list_short h.transitions list e; known = listed.list_known h.transitions list e }

-- "A refusal returns its number with zeros elsewhere"
pub told-refused : (m : ℕ) {n : ℕ} (x : Extent) → n ≡ m → (n ≡ 0 → ⊥) → record { refused = true; refusal = n; every = false; partly = false; never = false } ≡ range_or m x
told-refused zero x e z = absurd (z e)
told-refused (suc m) x e z = ap (λ (k : ℕ). record { refused = true; refusal = k; every = false; partly = false; never = false }) e
