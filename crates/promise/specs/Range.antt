-- What `range` answers, as a computation over bytes, and what the answer means (document 02, A11).
use Rattle.std.specs.Prelude.{ℕ, zero, suc, ◌^◌, ◌<◌, Bool, true, false, not, ◌||◌, List, ◌≡◌, ◌↔◌, length, eqb, ltb}
use Rattle.net.specs.Net.{Marking, Net, after, has_caps, tokens}
use Rattle.net.specs.Range.{need, Covers, covers, Extent, every, partly, never, extent, FromEvery, FromSome, FromNone, Needs}
use Rattle.file.specs.Layout.{net_of}
use Rattle.file_words.specs.Refusal.{refuse, or_else}
use Rattle.file.specs.Refusal.{file_refusal}
use Rattle.file_header.specs.declared.Due.TheVariants as due
use Rattle.promise.specs.Calls.{written}
use Rattle.promise.specs.Firing.{list_refusal}
use Rattle.promise.specs.Together.{standing}

-- "the upper list is not P long or has an entry below the plan's"
unfoldable pub upper_wrong : Net → List ℕ → Bool
upper_wrong N upper = not (eqb (length upper) N.places) || not (covers N (standing upper) N.marking)

-- the plan; "Plans with caps are refused with 17"; the list; "21: .. after the list"; 13 where the lent list is shorter than P entries
unfoldable pub range_refusal : List ℕ → List ℕ → List ℕ → ℕ → ℕ
range_refusal plan list upper room =
    or_else (file_refusal due.Plan plan)
    (refuse (has_caps (net_of plan)) 17
    (or_else (list_refusal (net_of plan).transitions list) (refuse (upper_wrong (net_of plan) upper) 21 (refuse (ltb room (net_of plan).places) 13 0))))

-- whether the call is refused, and the refusal's number; whether the list fires "from every marking in the range, from some but not all, or from none"
pub record RangeAnswer : Type 0 where
  pub refused : Bool
  pub refusal : ℕ
  pub every : Bool
  pub partly : Bool
  pub never : Bool

-- how far the range fires the list, in numbers
abbrev pub range_told : Extent → RangeAnswer
range_told every = record { refused = false; refusal = 0; every = true; partly = false; never = false }
range_told partly = record { refused = false; refusal = 0; every = false; partly = true; never = false }
range_told never = record { refused = false; refusal = 0; every = false; partly = false; never = true }

-- a refusal in numbers, or that
abbrev pub range_or : ℕ → Extent → RangeAnswer
range_or zero x = range_told x
range_or (suc n) x = record { refused = true; refusal = suc n; every = false; partly = false; never = false }

-- "Say whether a list fires from every marking in the range, from some but not all, or from none", with `room` entries lent for the need
unfoldable pub range_answer : List ℕ → List ℕ → List ℕ → ℕ → RangeAnswer
range_answer plan list upper room = range_or (range_refusal plan list upper room) (extent (net_of plan) (standing upper) list)

-- "Also write the least marking that the list needs, one 64-bit entry a place"; later entries keep their values
unfoldable pub range_need : List ℕ → List ℕ → List ℕ → List ℕ → List ℕ
range_need plan list upper lent = written (range_refusal plan list upper (length lent)) (tokens (net_of plan) (need (net_of plan) list)) lent

-- what people conclude from the answer `a` and the lent list afterwards, `exit`
pub record TellsRange (plan list upper : List ℕ) (a : RangeAnswer) (exit : List ℕ) : Type 0 where
  -- "the list fires from a marking exactly when that covers the need"
  pub needed : a.refused ≡ false → Needs (net_of plan) list (standing exit)
  -- "whether a list fires from every marking in the range"
  pub from_every : a.refused ≡ false → (a.every ≡ true) ↔ FromEvery (net_of plan) (standing upper) list
  -- "from some but not all"
  pub from_some : a.refused ≡ false → (a.partly ≡ true) ↔ FromSome (net_of plan) (standing upper) list
  -- "or from none"
  pub from_none : a.refused ≡ false → (a.never ≡ true) ↔ FromNone (net_of plan) (standing upper) list

-- no other answer can be given: two that are not refusals agree, and tell the same need
pub record SameRange (plan : List ℕ) (a b : RangeAnswer) (exit exit' : List ℕ) : Type 0 where
  pub same_every : a.every ≡ b.every
  pub same_partly : a.partly ≡ b.partly
  pub same_never : a.never ≡ b.never
  pub same_need : (p : ℕ) → p < (net_of plan).places → standing exit p ≡ standing exit' p

-- "one 64-bit entry a place" is enough: a plan and a list, neither of them refused, need fewer tokens than 2 to the power 44 on each place
pub record NeedFits (plan list : List ℕ) : Type 0 where
  pub need_low : (p : ℕ) → need (net_of plan) list p < 2 ^ 44

-- what people conclude: asked again with other entries lent, the call gives the same answer, and the same markings cover what it writes
pub record AskedAgain (plan list upper lent lent' : List ℕ) : Type 0 where
  pub same_answer : range_answer plan list upper (length lent) ≡ range_answer plan list upper (length lent')
  pub same_covers : (M : Marking) → Covers (net_of plan) M (standing (range_need plan list upper lent)) ↔ Covers (net_of plan) M (standing (range_need plan list upper lent'))

-- and a list fired from just what it needs "stays below 2 to the power 45", as document 01 says of a replayed marking
pub record FromTheNeed (plan list : List ℕ) : Type 0 where
  pub ends_low : (p : ℕ) → after (net_of plan) (need (net_of plan) list) list p < 2 ^ 45
