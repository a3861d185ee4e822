-- From the parts of a slice file to the file, its length and the answer.
use Prim.Native.Nat.{ℕ, ◌+◌, ◌-◌, ◌*◌, ◌/◌, ◌≤◌, ◌<◌}
use mathlib.Core.Bool.{true, false, ◌&&◌}
use mathlib.Core.List.{List, [], ◌∷◌, ◌++◌, append_assoc}
use mathlib.Core.Path.{◌≡◌, refl, sym, ap, subst, subst⁻¹, ◌∙◌}
use native.Mathlib.Omega.{arith}
use lib.ListN.{length, get_or, take, length-append}
use lib.Seq.{sets, length-sets}
use borrow.Author.Tests.{lt-ltb, le-ltb}
use Rattle.std.specs.Prelude.{Result, Ok, Err}
use Rattle.refusals.specs.declared.Refusal.{Refusal}
use Rattle.refusals.specs.declared.Refusal.TheVariants.{Buffer}
use Rattle.net.specs.Numbers.{among, selected}
use Rattle.net.specs.Net.{Net}
use Rattle.net.specs.Slice.{Slice, restrict, on_kept, keeping}
use Rattle.net.specs.declared.Arc.{Arc}
use Rattle.net.proofs.Markings.{below_at}
use Rattle.net.proofs.Numbers.{by_cases, among-at, below-passes, selected-rises, length-selected}
use Rattle.file_arcs.specs.Facts.{ArcGood}
use Rattle.file.specs.Facts.{Sound}
use Rattle.file_arcs.specs.Layout.{arc_at, arcs_from}
use Rattle.file_header.specs.Layout.{places_length}
use Rattle.file.specs.Layout.{net_from}
use Rattle.file_writing.specs.Writing.{arcs_bytes, origins_bytes, slice_body, trailer_bytes, slice_bytes}
use Rattle.file_header.specs.declared.Header.{Header}
use Rattle.file_writing.proofs.Bytes.{length-places, length-origins, length-arcs}
use Rattle.file_writing.proofs.Parts.{length-trailer}
use Rattle.file_arcs.proofs.Rows.{length-arcs_from, range_at}
use Rattle.slice_arcs.specs.Between.{kept_arcs, Arcs, ArcsWritten}
use Rattle.slice_arcs.proofs.Restricted.{arcs_restricted}
use Rattle.slice_parts.specs.Places.{kept_place_bytes}
use Rattle.slice_parts.proofs.Steps.{places_same}
use Rattle.tables.proofs.Sets.{sets_after, sets_first, take-sets}
use Rattle.sets.specs.Member.{member, count_below}
use Rattle.sets.specs.declared.KeptSets.{KeptSets}
use Rattle.slice_members.proofs.Selected.{selected-below, count_selected}
use Rattle.slice.specs.Kept.{Within, Answers, kept_slice}
use Rattle.slice.specs.Parts.{Listable, Lists, MembersListed, Tables}
use Rattle.slice.specs.declared.Written.{Written}

-- the words that have the numbers below n
abbrev pub words_for : ℕ → ℕ
words_for n = (n + 63) / 64

-- the members of a set in the words for the numbers below n
module _ {words : List ℕ} {n : ℕ} {list : List ℕ} (l : Listable words n list) where
  members_are : selected (member words) 0 (words_for n * 64) ≡ selected (member words) 0 n
  members_are = selected-below (member words) n (words_for n * 64) l.within (omega arith)

  pub members_fit : length (selected (member words) 0 (words_for n * 64)) ≤ length list
  members_fit = omega (arith, ap length members_are, length-selected (member words) 0 n, l.room)

  pub members_listed : (stored : List ℕ) (r : ℕ) → r ≡ count_below (member words) (words_for n * 64) → stored ≡ sets list 0 (selected (member words) 0 (words_for n * 64)) → MembersListed words n stored r
  members_listed stored r count e =
      let counted : length (selected (member words) 0 (words_for n * 64)) ≡ r = omega (arith, count, count_selected (member words) (words_for n * 64)) in
      record {
        within = omega (arith, counted, members_fit, ap length e, length-sets list 0 (selected (member words) 0 (words_for n * 64)));
        members = ap (take r) e ∙ take-sets (selected (member words) 0 (words_for n * 64)) list r counted members_fit ∙ members_are;
      }

module _ (words : List ℕ) (P : ℕ) (within : (p : ℕ) → member words p ≡ true → p < P) where
  member-known : (i : ℕ) → i < length (selected (member words) 0 P) → get_or (selected (member words) 0 P) i 0 < P
  member-known i l = (below-passes (member words) P (get_or (selected (member words) 0 P) i 0) (among-at (selected (member words) 0 P) i l)).0

-- the kept numbers as lists
module _ (s : List ℕ) (h : Header) (kept : KeptSets) {places transitions : List ℕ} {p t : ℕ} (ps : MembersListed kept.places h.places places p) (ts : MembersListed kept.transitions h.transitions transitions t) where
  pub lists_kept : Within kept h → Sound s h → Lists h (take p places) (take t transitions)
  lists_kept w sound =
      subst⁻¹ (λ (l : List ℕ). Lists h l (take t transitions)) ps.members (subst⁻¹ (Lists h (selected (member kept.places) 0 h.places)) ts.members (record {
        few_places = omega (arith, length-selected (member kept.places) 0 h.places, sound.placed.places);
        few_transitions = omega (arith, length-selected (member kept.transitions) 0 h.transitions, sound.placed.transitions);
        places_rise = selected-rises (member kept.places) 0 h.places;
        transitions_rise = selected-rises (member kept.transitions) 0 h.transitions;
        places_known = member-known kept.places h.places w.places;
        transitions_known = member-known kept.transitions h.transitions w.transitions;
      }))

  pub slice_kept : {entry exit : List ℕ} {r : Result Written Refusal} → Answers h.edition (keeping (net_from s h) (take p places) (take t transitions)) entry exit r → Answers h.edition (kept_slice s h kept) entry exit r
  unfolding kept_slice
  slice_kept {entry} {exit} {r} = subst (λ (S : Slice). Answers h.edition S entry exit r) (λ i. keeping (net_from s h) (ps.members i) (ts.members i))

-- the plan's arcs, by the tables of the new numbers
module _ (s : List ℕ) (h : Header) (sound : Sound s h) (ps ts places transitions : List ℕ) (tables : Tables h ps ts places transitions) where
  good : (j : ℕ) → j < h.arcs → ArcGood h.places h.transitions (arc_at s (h.arcstart + 8 * j))
  good j l = range_at h.places h.transitions s h.arcstart h.arcs j sound.arcs l

  pub arcs_known : Arcs s h.arcstart h.arcs places transitions
  arcs_known = record {
    few = sound.placed.arcs;
    fit = omega (arith, sound.placed.arcs_fit, sound.placed.origins_fit);
    places_known = λ j l. omega (arith, (good j l).place, tables.places_reach);
    transitions_known = λ j l. omega (arith, (good j l).transition, tables.transitions_reach);
  }

  pub arcs_are : kept_arcs places transitions (arcs_from s h.arcstart h.arcs) ≡ restrict ps ts (net_from s h).arcs
  arcs_are = arcs_restricted ps ts places transitions s tables.places_own tables.transitions_own h.arcstart h.arcs arcs_known

  pub arcs_length : length (arcs_bytes (kept_arcs places transitions (arcs_from s h.arcstart h.arcs))) ≡ 8 * length (restrict ps ts (net_from s h).arcs)
  arcs_length = omega (arith, length-arcs (kept_arcs places transitions (arcs_from s h.arcstart h.arcs)), ap length arcs_are)

restrict-length : (ps ts : List ℕ) (l : List Arc) → length (restrict ps ts l) ≤ length l
unfolding restrict
restrict-length ps ts [] = omega arith
restrict-length ps ts (a ∷ l) =
    by_cases (among a.place ps && among a.transition ts)
    (λ e. rw (e, restrict) (omega (arith, restrict-length ps ts l)))
    (λ e. rw (e, restrict) (omega (arith, restrict-length ps ts l)))

pub few_arcs : (s : List ℕ) (h : Header) (ps ts : List ℕ) → length (restrict ps ts (net_from s h).arcs) ≤ h.arcs
few_arcs s h ps ts = omega (arith, restrict-length ps ts (net_from s h).arcs, length-arcs_from s h.arcstart h.arcs)

module _ (e : ℕ) (N : Net) (ps ts : List ℕ) where
  abbrev M : List ℕ
  M = kept_place_bytes e N ps

  abbrev A : List ℕ
  A = arcs_bytes (restrict ps ts N.arcs)

  abbrev n : ℕ
  n = length (restrict ps ts N.arcs)

  -- where the arcs start
  abbrev from : ℕ
  from = places_length e (length ps)

  abbrev body : ℕ → ℕ
  body arcs = from + 8 * arcs + 2 * length ps + 2 * length ts

  length-1 : length M ≡ from
  length-1 = length-places e (λ i. N.marking (get_or ps i 0)) (λ i. N.cap (get_or ps i 0)) 0 (length ps)

  length-2 : length (M ++ A) ≡ from + 8 * n
  length-2 = omega (arith, length-append M A, length-1, length-arcs (restrict ps ts N.arcs))

  length-3 : length (M ++ A ++ origins_bytes ps) ≡ from + 8 * n + 2 * length ps
  length-3 = omega (arith, length-append (M ++ A) (origins_bytes ps), length-2, length-origins ps)

  length-4 : length (M ++ A ++ origins_bytes ps ++ origins_bytes ts) ≡ body n
  length-4 = omega (arith, length-append (M ++ A ++ origins_bytes ps) (origins_bytes ts), length-3, length-origins ts)

  -- the file's parts
  abbrev R : List ℕ
  R = trailer_bytes 1 e (slice_body e (keeping N ps ts)) (keeping N ps ts).net.places (keeping N ps ts).net.transitions (length (keeping N ps ts).net.arcs)

  length_R : length R ≡ 16
  length_R = length-trailer 1 e (slice_body e (keeping N ps ts)) (keeping N ps ts).net.places (keeping N ps ts).net.transitions (length (keeping N ps ts).net.arcs)

  file_parts : slice_bytes e (keeping N ps ts) ≡ M ++ A ++ origins_bytes ps ++ origins_bytes ts ++ R
  unfolding slice_bytes keeping
  file_parts =
      ap (λ (l : List ℕ). l ++ A ++ origins_bytes ps ++ origins_bytes ts ++ R)
      (places_same e (λ i. N.marking (get_or ps i 0)) (on_kept ps N.marking) (λ i. N.cap (get_or ps i 0)) (on_kept ps N.cap) 0 (length ps)
      (λ i l. (below_at (length ps) (λ k. N.marking (get_or ps k 0)) (0 + i) (omega arith), below_at (length ps) (λ k. N.cap (get_or ps k 0)) (0 + i) (omega arith))))

  trailer_is : R ≡ trailer_bytes 1 e (body n) (length ps) (length ts) n
  unfolding slice_body keeping
  trailer_is = refl

  pub file_length : length (slice_bytes e (keeping N ps ts)) ≡ places_length e (length ps) + 2 * length ps + 8 * length (restrict ps ts N.arcs) + 2 * length ts + 16
  file_length =
      let all = length-append (M ++ A ++ origins_bytes ps ++ origins_bytes ts) R in
      omega (arith, ap length (file_parts), all, length-4, length_R)

  pub kept-places : length ps ≡ (keeping N ps ts).net.places
  unfolding keeping
  kept-places = refl

  pub kept-transitions : length ts ≡ (keeping N ps ts).net.transitions
  unfolding keeping
  kept-transitions = refl

  -- the parts stored one after the other are the file
  pub parts_stored : (found : List Arc) (start middle : ℕ) (s b₁ b₂ b₃ b₄ b₅ : List ℕ) → found ≡ restrict ps ts N.arcs
      → start ≡ places_length e (length ps)
      → b₁ ≡ sets s 0 (kept_place_bytes e N ps)
      → ArcsWritten b₁ start (arcs_bytes found) b₂ middle
      → b₃ ≡ sets b₂ middle (origins_bytes ps)
      → b₄ ≡ sets b₃ (middle + 2 * length ps) (origins_bytes ts)
      → b₅ ≡ sets b₄ (middle + 2 * length ps + 2 * length ts) (trailer_bytes 1 e (middle + 2 * length ps + 2 * length ts) (length ps) (length ts) ((middle - start) / 8))
      → b₅ ≡ sets s 0 (slice_bytes e (keeping N ps ts))
  parts_stored found start middle s b₁ b₂ b₃ b₄ b₅ same e₀ e₁ w e₃ e₄ e₅ =
      let P = origins_bytes ps in
      let T = origins_bytes ts in
      let end : ℕ = middle + 2 * length ps + 2 * length ts in
      let at : middle ≡ start + 8 * n = omega (arith, w.count, length-arcs found, ap length same) in
      let count : (middle - start) / 8 ≡ n = omega (arith, at) in
      let whole : end ≡ body n = omega (arith, at, e₀) in
      let here₅ : b₅ ≡ sets b₄ end R = e₅ ∙ (λ i. sets b₄ end (trailer_bytes 1 e (whole i) (length ps) (length ts) (count i))) ∙ ap (sets b₄ end) (sym trailer_is) in
      let to₄ = sets_after P T b₂ middle (middle + 2 * length ps) e₃ e₄ (omega (arith, length-origins ps)) in
      let to₅ = sets_after (P ++ T) R b₂ middle end to₄ here₅ (omega (arith, length-append P T, length-origins ps, length-origins ts)) in
      let rest : b₅ ≡ sets b₁ start (A ++ (P ++ T ++ R)) =
      to₅ ∙ w.same (P ++ T ++ R) (omega (arith, length-append (P ++ T) R, length_R)) ∙ ap (λ (l : List Arc). sets b₁ start (arcs_bytes l ++ (P ++ T ++ R))) same in
      let regroup : M ++ (A ++ (P ++ T ++ R)) ≡ M ++ A ++ P ++ T ++ R = simp append_assoc in
      sets_after M (A ++ (P ++ T ++ R)) s 0 start e₁ rest (omega (arith, length-1, e₀)) ∙ ap (sets s 0) (regroup ∙ sym (file_parts))

-- the answers
module _ (e : ℕ) (S : Slice) (entry : List ℕ) where
  pub no_room : length entry < length (slice_bytes e S) → Answers e S entry entry (Err Buffer)
  no_room h = record { answer = rw (lt-ltb (length entry) (length (slice_bytes e S)) h); buffer = rw (lt-ltb (length entry) (length (slice_bytes e S)) h) }

  pub room : (exit : List ℕ) (k p t : ℕ) → length (slice_bytes e S) ≤ length entry → exit ≡ sets entry 0 (slice_bytes e S) → k ≡ length (slice_bytes e S) → p ≡ S.net.places → t ≡ S.net.transitions
      → Answers e S entry exit (Ok (record { length = k; places = p; transitions = t }))
  room exit k p t h f ke pe te = record {
    answer = rw (le-ltb (length entry) (length (slice_bytes e S)) h) (λ i. record { refused = false; refusal = 0; length = ke i; places = pe i; transitions = te i });
    buffer = rw (le-ltb (length entry) (length (slice_bytes e S)) h) (f ∙ sets_first (slice_bytes e S) entry h);
  }
