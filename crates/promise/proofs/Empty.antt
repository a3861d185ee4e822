-- The empty criterion: neither cut keeps anything, and the slice with nothing in it is the smallest accepted one.
use Prim.Native.Nat.{ℕ, zero, suc, ◌≤◌}
use mathlib.Core.Bool.{Bool, false, ◌&&◌, ◌||◌}
use mathlib.Core.List.{List, [], ◌∷◌, ◌++◌}
use mathlib.Core.Path.{◌≡◌, refl, sym, ap, subst⁻¹, ◌∙◌}
use native.Mathlib.Omega.{arith}
use lib.ListN.{length, drop}
use borrow.Author.Tests.{le-ltb}
use Rattle.net.specs.Numbers.{among, any, selected}
use Rattle.net.specs.Net.{Net, changes, raises}
use Rattle.net.specs.Cut.{Growth, growth, safety, branching, drawn_by, grown, rounds, kept_places, kept_transitions}
use Rattle.net.specs.Slice.{Slice, strike, own, project, restrict, keeping, cut}
use Rattle.net.specs.Guarantee.{Contains}
use Rattle.net.specs.declared.Arc.{Arc}
use Rattle.file_words.specs.Word.{le16, le32, Bytes, bytes16, bytes32}
use Rattle.file_header.specs.Layout.{trailer_of, header_of}
use Rattle.file.specs.Layout.{words_from, net_of, slice_of}
use Rattle.file_header.proofs.Laws.{places_none}
use Rattle.file.specs.Refusal.{file_refusal}
use Rattle.file.specs.Criterion.{places_refusal, criterion_refusal, criterion_of}
use Rattle.file_writing.specs.Writing.{places_bytes, arcs_bytes, origins_bytes, slice_body, trailer_bytes, slice_bytes}
use Rattle.file_header.specs.declared.Due.TheVariants as due
use Rattle.promise.specs.Calls.{cut_of, safety_file, branching_file, cut_refusal, write_refusal, cut_answer, written, safety_answer, safety_buffer, branching_answer, branching_buffer, Accepts}
use Rattle.promise.specs.Promise.{empty_slice, EmptyCriterion}
use Rattle.promise.proofs.Demands.{safety-cut_accepted, contained, even_bytes}

-- no number passes
pub none_selected : (f : ℕ → Bool) (a n : ℕ) → ((x : ℕ) → f x ≡ false) → selected f a n ≡ []
unfolding selected
none_selected f a zero h = refl
none_selected f a (suc n) h = rw (h a, selected) (none_selected f (suc a) n h)

-- what grows from no place
module _ (N : Net) (draws : ℕ → ℕ → Bool) where
  abbrev G : Growth
  G = growth N [] draws

  none_drawn : drawn_by G [] ≡ []
  unfolding drawn_by any
  none_drawn = none_selected (λ t. any (λ p. G.draws p t) []) 0 G.transitions (λ x. refl)

  none_grown : grown G [] ≡ []
  unfolding grown among any
  none_grown = rw none_drawn (none_selected (λ p. among p [] || any (λ t. G.needs t p) []) 0 G.places (λ x. refl))

  no_round : (n : ℕ) → rounds G n ≡ []
  unfolding rounds growth among
  no_round zero = none_selected (λ p. among p []) 0 N.places (λ x. refl)
  no_round (suc n) = ap (grown G) (no_round n) ∙ none_grown

  no_place : kept_places G ≡ []
  unfolding kept_places
  no_place = no_round G.places

  no_transition : kept_transitions G ≡ []
  unfolding kept_transitions
  no_transition = ap (drawn_by G) no_place ∙ none_drawn

  nothing-kept : cut N G ≡ keeping N [] []
  unfolding cut
  nothing-kept = rw (no_place, no_transition)

no_arc : (l : List Arc) → restrict [] [] l ≡ []
unfolding restrict among
no_arc [] = refl
no_arc (a ∷ l) = no_arc l

pub nothing_written : (ed : ℕ) (N : Net) → slice_bytes ed (keeping N [] []) ≡ empty_slice ed
unfolding keeping slice_bytes places_bytes arcs_bytes origins_bytes slice_body trailer_bytes bytes16 bytes32 empty_slice
nothing_written ed N = rw (no_arc N.arcs, places_none ed) refl

-- the two cuts, and their files
safety_slice : (plan : List ℕ) → cut_of safety plan [] ≡ keeping (net_of plan) [] []
unfolding cut_of safety
safety_slice plan = nothing-kept (net_of plan) (λ p t. among p [] && changes (net_of plan) t p || raises (net_of plan) t p)

branching-slice : (plan : List ℕ) → cut_of branching plan [] ≡ keeping (net_of plan) [] []
unfolding cut_of branching
branching-slice plan = nothing-kept (net_of plan) (λ p t. changes (net_of plan) t p)

pub safety-file : (plan : List ℕ) → safety_file plan [] ≡ empty_slice (header_of plan).edition
unfolding safety_file
safety-file plan = ap (slice_bytes (header_of plan).edition) (safety_slice plan) ∙ nothing_written (header_of plan).edition (net_of plan)

branching-file : (plan : List ℕ) → branching_file plan [] ≡ empty_slice (header_of plan).edition
unfolding branching_file
branching-file plan = ap (slice_bytes (header_of plan).edition) (branching-slice plan) ∙ nothing_written (header_of plan).edition (net_of plan)

-- no transition is among no origins
none_stays : (l : List ℕ) → strike [] l ≡ []
unfolding strike among
none_stays [] = refl
none_stays (t ∷ l) = none_stays l

no_origin : (ed : ℕ) → (slice_of (empty_slice ed)).transition_origins ≡ []
unfolding empty_slice trailer_of header_of words_from le16 le32
no_origin ed = refl

module _ (plan : List ℕ) (bytes : Bytes plan) (read : file_refusal due.Plan plan ≡ 0) where
  pub passes : cut_refusal plan [] ≡ 0
  unfolding cut_refusal criterion_refusal places_refusal
  passes = rw read

  abbrev empty : List ℕ
  empty = empty_slice (header_of plan).edition

  pub fits : (room : ℕ) → 16 ≤ room → write_refusal plan [] room (empty_slice (header_of plan).edition) ≡ 0
  unfolding write_refusal empty_slice
  fits room h = rw (passes, le-ltb room 16 h)

  answer : (file : List ℕ) (S : Slice) → file ≡ empty → S ≡ keeping (net_of plan) [] [] → (room : ℕ) → 16 ≤ room
      → cut_answer (write_refusal plan [] room file) (length file) S ≡ record { refused = false; refusal = 0; length = 16; places = 0; transitions = 0 }
  unfolding keeping empty_slice
  answer file S f s room h = rw (f, s, fits room h)

  buffer : (file : List ℕ) → file ≡ empty → (entry : List ℕ) → 16 ≤ length entry
      → written (write_refusal plan [] (length entry) file) file entry ≡ empty ++ drop 16 entry
  unfolding empty_slice
  buffer file f entry h = rw (f, fits (length entry) h)

  own-accepted : Accepts plan empty []
  own-accepted = subst⁻¹ (λ (file : List ℕ). Accepts plan file []) (sym (safety-file plan)) (safety-cut_accepted plan [] bytes passes)

  contained_here : (slice : List ℕ) → Accepts plan slice [] → Contains (slice_of slice) (slice_of empty)
  contained_here slice a = subst⁻¹ (λ (file : List ℕ). Contains (slice_of slice) (slice_of file)) (sym (safety-file plan)) (contained plan [] bytes passes slice a)

  pub empty_criterion : EmptyCriterion plan
  unfolding safety_answer safety_buffer branching_answer branching_buffer project own criterion_of words_from
  empty_criterion = record {
    safety_answer_row = λ room h. answer (safety_file plan []) (cut_of safety plan []) (safety-file plan) (safety_slice plan) room (omega (arith, h));
    safety_buffer_row = λ entry h. buffer (safety_file plan []) (safety-file plan) entry (omega (arith, h));
    branching_answer_row = λ room h. answer (branching_file plan []) (cut_of branching plan []) (branching-file plan) (branching-slice plan) room (omega (arith, h));
    branching_buffer_row = λ entry h. buffer (branching_file plan []) (branching-file plan) entry (omega (arith, h));
    shadow = λ list. ap (λ (os : List ℕ). own os (strike os list)) (no_origin (header_of plan).edition) ∙ ap (own []) (none_stays list);
    accepted = own-accepted;
    accepted_bytes = even_bytes plan empty [] refl ∙ own-accepted;
    smallest = search contained_here;
  }
