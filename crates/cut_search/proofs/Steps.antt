-- Laws of the steps of a search: the input places of a transition kept arc by arc, and a transition kept with them.
use Prim.Native.Nat.{ℕ, ◌+◌, ◌*◌, ◌-◌, ◌≤◌, ◌<◌}
use mathlib.Core.Bool.{Bool, true, false, not, ◌&&◌, ◌||◌, or-false, or_assoc}
use mathlib.Core.List.{List}
use mathlib.Core.Path.{◌≡◌, refl, sym, ap, ◌∙◌}
use lib.Dec.{eqb}
use lib.ListN.{length}
use borrow.Author.Tests.{eqb-true}
use Rattle.net.specs.Net.{takes_from}
use Rattle.file.specs.Layout.{net_from}
use Rattle.file.specs.Facts.{Sound}
use Rattle.file_header.specs.declared.Header.{Header}
use Rattle.sets.specs.Member.{member, Inserted}
use Rattle.arcs_starts.specs.Table.{Split}
use Rattle.sets_pending.specs.Growing.{PlacesKept}
use Rattle.arcs_column.specs.Ways.{transition_at, direction_at, place_at}
use Rattle.cut_rows.proofs.Inputs.{placed_in, placed_none, placed_more, InputsTo, to_none, to_more, to_stop, to_all}
use Rattle.cut_search.specs.Search

-- ---- places kept

pub places_none : (new : ℕ → Bool) (marks : ℕ) (places : List ℕ) → length places ≡ 16 → ((k : ℕ) → new k ≡ false) → PlacesKept new marks marks places places
places_none new marks places w e = record {
  kept = λ k. sym (ap (λ (b : Bool). member places k || b) (e k) ∙ or-false (member places k));
  long = w;
  marked = λ gone m. m;
}

pub places_as : (new new' : ℕ → Bool) (m m' : ℕ) (P P' : List ℕ) → PlacesKept new m m' P P' → ((k : ℕ) → new k ≡ new' k) → PlacesKept new' m m' P P'
places_as new new' m m' P P' x e = record { kept = λ k. x.kept k ∙ ap (λ (b : Bool). member P k || b) (e k); long = x.long; marked = x.marked }

pub places_join : (a b : ℕ → Bool) (m m' m'' : ℕ) (P P' P'' : List ℕ) → PlacesKept a m m' P P' → PlacesKept b m' m'' P' P'' → PlacesKept (λ k. a k || b k) m m'' P P''
places_join a b m m' m'' P P' P'' x y = record {
  kept = λ k. y.kept k ∙ ap (λ (c : Bool). c || b k) (x.kept k) ∙ or_assoc (member P k) (a k) (b k);
  long = y.long;
  marked = λ gone u. y.marked gone (x.marked gone u);
}

-- the places of the input arcs of t from `from` up to j are kept
pub record Inputs (s : List ℕ) (start arcs from t j marks marks' : ℕ) (places places' : List ℕ) : Type 0 where
  pub reach : InputsTo s start arcs from t j
  pub kept : PlacesKept (placed_in s start from (j - from)) marks marks' places places'

module _ (s : List ℕ) (h : Header) (sound : Sound s h) (from t : ℕ) (tl : t < h.transitions) (low : Split s h.arcstart h.arcs (2 * t) from) (marks : ℕ) (places : List ℕ) where
  pub inputs_none : length places ≡ 16 → Inputs s h.arcstart h.arcs from t from marks marks places places
  inputs_none w = record {
    reach = to_none s h sound from t tl low;
    kept = places_none _ marks places w (placed_none s h.arcstart from);
  }

  module _ (j m : ℕ) (P : List ℕ) (x : Inputs s h.arcstart h.arcs from t j marks m places P) where
    module _ (l : j < h.arcs) where
      pub inputs_more : transition_at s h.arcstart j + direction_at s h.arcstart j * 65536 ≡ t → (p m' : ℕ) (P' : List ℕ) → p ≡ place_at s h.arcstart j → PlacesKept (λ k. eqb k p) m m' P P'
          → Inputs s h.arcstart h.arcs from t (j + 1) marks m' places P'
      inputs_more e p m' P' q y = record {
        reach = to_more s h sound from t tl low j x.reach l e;
        kept = places_as _ _ marks m' places P' (places_join _ _ marks m m' places P P' x.kept y) (placed_more s h.arcstart from j p x.reach.after q);
      }

      -- arc j is no input of t
      pub inputs_stop : (transition_at s h.arcstart j + direction_at s h.arcstart j * 65536 ≡ t → ⊥) → PlacesKept (takes_from (net_from s h) t) marks m places P
      inputs_stop n = places_as _ _ marks m places P x.kept (to_stop s h sound from t tl low j x.reach l n)

    -- there are no more arcs
    pub inputs_all : h.arcs ≤ j → PlacesKept (takes_from (net_from s h) t) marks m places P
    inputs_all l = places_as _ _ marks m places P x.kept (to_all s h sound from t tl low j x.reach l)

-- ---- a transition kept, u, which the code has as t

module _ (needs : ℕ → ℕ → Bool) (t u : ℕ) (same : t ≡ u) (marks : ℕ) (places transitions : List ℕ) where
  -- it was kept before
  pub transition-known : member transitions t ≡ true → Search.Sets places transitions → Search.TransitionKept (needs u) u marks marks places transitions places transitions
  transition-known e w = record {
    members = λ k. has k (eqb k u) refl;
    long = w.transitions_long;
    needed = places_none _ marks places w.places_long (λ k. ap (λ (b : Bool). not b && needs u k) here);
  }
    where
      here : member transitions u ≡ true
      here = ap (member transitions) (sym same) ∙ e

      has : (k : ℕ) (b : Bool) → eqb k u ≡ b → member transitions k ≡ member transitions k || b
      has k true f = let q : member transitions k ≡ true = ap (member transitions) (eqb-true k u f) ∙ here in q ∙ sym (ap (λ (b : Bool). b || true) q)
      has k false f = sym (or-false (member transitions k))

  -- it is new
  pub transition-new : (marks' : ℕ) (places' transitions' : List ℕ) → member transitions t ≡ false → Inserted t transitions transitions'
      → PlacesKept (needs t) marks marks' places places' → Search.TransitionKept (needs u) u marks marks' places transitions places' transitions'
  transition-new marks' places' transitions' e x y = record {
    members = λ k. x.members k ∙ ap (λ (v : ℕ). member transitions k || eqb k v) same;
    long = x.long;
    needed = places_as (needs t) _ marks marks' places places' y (λ k. ap (λ (v : ℕ). needs v k) same ∙ sym (ap (λ (b : Bool). not b && needs u k) (ap (member transitions) (sym same) ∙ e)));
  }
