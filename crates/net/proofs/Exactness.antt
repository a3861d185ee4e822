-- An accepted slice in which no left-out transition changes a kept place: the guarantee for all its places, and the branching cut within it.
-- The branching cut is such a slice.
use Prim.Native.Nat.{ℕ, ◌<◌, ◌≤◌}
use mathlib.Core.Bool.{◌&&◌}
use mathlib.Core.List.{List}
use mathlib.Core.Path.{◌≡◌}
use native.Mathlib.Omega.{arith}
use lib.Dec.{T, eqb, eqb→eq, T_not}
use borrow.Author.Tests.{eq-eqb}
use Rattle.net.specs.Numbers.{among}
use Rattle.net.specs.Net.{Marking, Net, input, output, changes, capped, WithinCaps, Supplied, fire}
use Rattle.net.specs.Cut.{growth, safety, branching}
use Rattle.net.specs.Slice.{Slice, HasPlace, HasTransition, keeping, cut, Subnet, Accepted}
use Rattle.net.specs.Guarantee.{Guarantee, Contains}
use Rattle.net.specs.Exactness.{KeepsChangers, Undisturbed, branching_cut}
use Rattle.net.proofs.Numbers.{by_cases, by_or, holds, fails, not-not, or_left, and_right}
use Rattle.net.proofs.Subnet.{in_plan}
use Rattle.net.proofs.Closure.{Closed, computed_closed}
use Rattle.net.proofs.Contained.{closed_contains}
use Rattle.net.proofs.Theorem.{needs_kept, guarantee}

-- left out and unseen: by firing, and by the effect
module _ (N : Net) (S : Slice) where
  -- where its inputs are all there is, what leaves the tokens of p does not change it
  alone_unchanged : (t p : ℕ) → fire N t (λ q. input N q t) p ≡ input N p t → ¬ T (changes N t p)
  unfolding fire changes
  alone_unchanged t p e c = T_not (eqb (input N p t) (output N p t)) c (holds _ (eq-eqb (input N p t) (output N p t) (omega (arith, e))))

  pub keeps_changers : Undisturbed N S → KeepsChangers N S
  unfolding KeepsChangers Undisturbed Supplied
  keeps_changers u t p l hp c = by_cases (among t S.transition_origins)
      (λ e. holds _ e)
      (λ e. absurd (alone_unchanged t p (u t p (λ q. input N q t) l (fails _ e) hp (λ q h. omega arith)) c))

  -- and what does not change p leaves its tokens
  unchanged_alone : (t p : ℕ) (M : Marking) → ¬ T (changes N t p) → input N p t ≤ M p → fire N t M p ≡ M p
  unfolding fire changes
  unchanged_alone t p M n h = omega (arith, eqb→eq (input N p t) (output N p t) (not-not (eqb (input N p t) (output N p t)) n))

  pub undisturbed : Subnet N S → KeepsChangers N S → Undisturbed N S
  unfolding KeepsChangers Undisturbed Supplied
  undisturbed sub keeps t p M l out hp s = unchanged_alone t p M (λ c. out (keeps t p l hp c)) (s p (in_plan N S sub p hp))

-- the branching cut leaves out nothing that changes a kept place
pub branching-changers : (N : Net) (Q : List ℕ) → ((q : ℕ) → T (among q Q) → q < N.places) → KeepsChangers N (branching_cut N Q)
unfolding KeepsChangers cut keeping safety branching growth
branching-changers N Q q-known t p l h c = (computed_closed _ q-known).drawn_in p t h l (or_left (changes N t p) _ c)

module _ (N : Net) (S : Slice) (Q : List ℕ) (ok : Accepted N S Q) (keeps : KeepsChangers N S) where
  -- rules 5 and 6 hold of all its places
  all-places : Accepted N S S.place_origins
  unfolding KeepsChangers
  all-places = record {
    subnet = ok.subnet;
    criterion_kept = λ p h. h;
    changers_kept = keeps;
    inputs_kept = ok.inputs_kept;
    raisers_kept = ok.raisers_kept;
    outputs_kept = ok.outputs_kept;
    cap_changers_kept = ok.cap_changers_kept;
  }

  -- so the tokens are equal on each of them
  pub exact : WithinCaps N N.marking → Guarantee N S S.place_origins
  exact = guarantee N S S.place_origins all-places

  -- the origins are closed under the branching cut's two relations
  branching-closed : Closed (branching N Q) (HasPlace S) (HasTransition S)
  unfolding branching growth KeepsChangers
  branching-closed = record {
    criterion_in = ok.criterion_kept;
    needed_in = needs_kept N S Q ok;
    drawn_in = λ p t hp l d. by_or (changes N t p) (capped N p && changes N t p) d
        (λ c. keeps t p l hp c)
        (λ c. keeps t p l hp (and_right (capped N p) (changes N t p) c));
  }

  known : (q : ℕ) → T (among q (branching N Q).criterion) → q < (branching N Q).places
  unfolding branching growth
  known q h = in_plan N S ok.subnet q (ok.criterion_kept q h)

  pub contains_branching : Contains S (branching_cut N Q)
  contains_branching = closed_contains N S (branching N Q) ok.subnet.well_formed branching-closed known
