-- The places that no transition left out may change.
use Prim.Native.Nat.{ℕ, ◌<◌}
use mathlib.Core.Path.{◌≡◌}
use mathlib.Core.Bool.{Bool, true, ◌&&◌, ◌||◌}
use mathlib.Core.List.{List}
use lib.Dec.{T}
use Rattle.net.specs.Numbers.{among}
use Rattle.net.specs.Net.{capped}
use Rattle.net.proofs.Numbers.{holds, is_true, by_or, or_right, and_both, and_left, same_test, below-has, below-passes}
use Rattle.file.specs.Layout.{net_from, slice_from}
use Rattle.file_header.specs.declared.Header.{Header}
use Rattle.rules_tables.proofs.Caps.{capped-known}
use Rattle.check_fast.specs.Pass.{watched}

module _ (plan : List ℕ) (hp : Header) (slice : List ℕ) (hs : Header) (Q : List ℕ) where
  -- p is in the criterion, or it is kept and capped
  abbrev pub asked : ℕ → Bool
  asked p = among p Q || among p (slice_from slice hs).place_origins && capped (net_from plan hp) p

  pub watched-is : (p : ℕ) → p < hp.places → among p (watched plan hp slice hs Q) ≡ asked p
  unfolding watched
  watched-is p l =
      same_test (among p (watched plan hp slice hs Q)) (asked p)
      (λ h. (below-passes asked hp.places p h).1)
      (λ h. below-has asked hp.places p l h)

  -- those of the criterion
  pub watched-asked : (p : ℕ) → p < hp.places → among p Q ≡ true → among p (watched plan hp slice hs Q) ≡ true
  watched-asked p l e = rw (watched-is p l, e)

  -- the kept capped ones
  pub watched-capped : (p : ℕ) → T (among p (slice_from slice hs).place_origins) → T (capped (net_from plan hp) p) → among p (watched plan hp slice hs Q) ≡ true
  watched-capped p k c =
      let both = and_both (among p (slice_from slice hs).place_origins) (capped (net_from plan hp) p) k c in
      rw (watched-is p (capped-known plan hp p c)) (is_true (asked p) (or_right (among p Q) (among p (slice_from slice hs).place_origins && capped (net_from plan hp) p) both))

  -- all of them are kept, where those of the criterion are
  pub watched-kept : ((q : ℕ) → among q Q ≡ true → among q (slice_from slice hs).place_origins ≡ true) → (p : ℕ) → among p (watched plan hp slice hs Q) ≡ true → among p (slice_from slice hs).place_origins ≡ true
  unfolding watched
  watched-kept kept p e =
      by_or (among p Q) (among p (slice_from slice hs).place_origins && capped (net_from plan hp) p) (below-passes asked hp.places p (holds _ e)).1
      (λ q. kept p (is_true _ q))
      (λ q. is_true _ (and_left (among p (slice_from slice hs).place_origins) (capped (net_from plan hp) p) q))
