-- Tables of positions as they are filled.
use Prim.Native.Nat.{ℕ, suc, ◌+◌, ◌≤◌, ◌<◌}
use mathlib.Core.Path.{◌≡◌, refl, sym, ap, ◌∙◌}
use mathlib.Core.Bool.{Bool, true, false}
use mathlib.Core.List.{List, [], ◌∷◌, ◌++◌, map, append-nil, append_assoc}
use native.Mathlib.Omega.{arith}
use native.Mathlib.Numerals.{add-one}
use lib.ListN.{length, take, set, length-set, length-append, length-map}
use lib.Seq.{take-suc-set}
use Rattle.net.proofs.Numbers.{by_cases}
use Rattle.pnml_text.specs.Rest.{rest_at, outside, spaces}
use Rattle.pnml_page.specs.Meant.{meant, from_id, name_at, Reads}
use Rattle.pnml_page.specs.Profile
use Rattle.pnml_page.specs.Steps
use Rattle.pnml_page.specs.declared.Found.{Found}
use Rattle.pnml_page.specs.declared.Element.{Element}
use Rattle.pnml_page.specs.declared.Element.TheVariants.{Place, Transition, Arc}
use Rattle.pnml_page.proofs.Tags.{content-stop, content-on, content-end}
use Rattle.pnml_names.specs.Names.{entries_of}
use Rattle.pnml_names.specs.Tables.{kept_if, is_wanted, wanted_at, Kept, wanted_read, entries_in}
use Rattle.pnml_names.specs.declared.Which.{Which}
use Rattle.pnml_names.specs.declared.Which.TheVariants.{Places, Transitions, Arcs}
use Rattle.pnml_names.proofs.Ids.{map-append}

-- one more position
pub kept-yes : (table : List ℕ) (k a : ℕ) (b : Bool) → k < length table → b ≡ true → Kept table k a b (set table k a) (k + 1)
kept-yes table k a b h e = record {
  taken = rw (e, add-one, take-suc-set table k a h);
  count = rw e;
  room = length-set table k a;
}

pub kept-no : (table : List ℕ) (k a : ℕ) (b : Bool) → b ≡ false → Kept table k a b table k
kept-no table k a b e = record { taken = rw e (sym (append-nil (take k table))); count = rw e (omega arith); room = refl }

-- an element that is asked for, as the text has it and as the code holds it
wanted-meant : (s : List ℕ) (w : Which) (e : Element) → is_wanted w (meant s e) ≡ wanted_at w e
wanted-meant s Places (Place a n) = refl
wanted-meant s Places (Transition a) = refl
wanted-meant s Places (Arc a b d n) = refl
wanted-meant s Transitions (Place a n) = refl
wanted-meant s Transitions (Transition a) = refl
wanted-meant s Transitions (Arc a b d n) = refl
wanted-meant s Arcs (Place a n) = refl
wanted-meant s Arcs (Transition a) = refl
wanted-meant s Arcs (Arc a b d n) = refl

-- an element is read at its id
read_at : (s : List ℕ) (w : Which) (e : Element) → meant s e ≡ from_id s e → wanted_at w e ≡ true → meant s e ≡ wanted_read w s (name_at e)
read_at s Places (Place a n) h t = h
read_at s Places (Transition a) h t = let z : ◌≡◌ {A = ℕ} 0 1 = cc in absurd (omega arith)
read_at s Places (Arc a b d n) h t = let z : ◌≡◌ {A = ℕ} 0 1 = cc in absurd (omega arith)
read_at s Transitions (Place a n) h t = let z : ◌≡◌ {A = ℕ} 0 1 = cc in absurd (omega arith)
read_at s Transitions (Transition a) h t = h
read_at s Transitions (Arc a b d n) h t = let z : ◌≡◌ {A = ℕ} 0 1 = cc in absurd (omega arith)
read_at s Arcs (Place a n) h t = let z : ◌≡◌ {A = ℕ} 0 1 = cc in absurd (omega arith)
read_at s Arcs (Transition a) h t = let z : ◌≡◌ {A = ℕ} 0 1 = cc in absurd (omega arith)
read_at s Arcs (Arc a b d n) h t = h

kept_at : (s : List ℕ) (w : Which) (e : Element) → meant s e ≡ from_id s e
    → kept_if (is_wanted w (meant s e)) (meant s e) ≡ map (wanted_read w s) (kept_if (wanted_at w e) (name_at e))
kept_at s w e h =
    by_cases (wanted_at w e)
    (λ t. rw (wanted-meant s w e, t) (ap (λ (y : Profile.Element). y ∷ []) (read_at s w e h t)))
    (λ f. rw (wanted-meant s w e, f))

-- the loop that collects: `answer` is all that will be found
pub record Collecting (s : List ℕ) (w : Which) (table₀ : List ℕ) (k : ℕ) (answer : List Profile.Element) (table : List ℕ) (a n left : ℕ) : Type 0 where
  pub found : List ℕ
  pub taken : take n table ≡ take k table₀ ++ found
  pub so : entries_in w s found ++ entries_of w (Steps.content left (rest_at s a)).elements ≡ answer
  pub count : n ≡ k + length found
  pub room : length table ≡ length table₀
  pub fits : k + length answer ≤ length table₀

module _ {s : List ℕ} {w : Which} {table₀ : List ℕ} {k : ℕ} {answer : List Profile.Element} {table : List ℕ} {a n left : ℕ} (inv : Collecting s w table₀ k answer table a n left) where
  done : (Steps.content left (rest_at s a)).elements ≡ [] → entries_in w s inv.found ≡ answer
  unfolding entries_of
  done e = sym (append-nil (entries_in w s inv.found)) ∙ sym (ap (λ (l : List Profile.Element). entries_in w s inv.found ++ entries_of w l) e) ∙ inv.so

  pub collected_stop : (m : ℕ) → left ≡ suc m → (Steps.element (rest_at s a)).rest ≡ outside → entries_in w s inv.found ≡ answer
  collected_stop m h o = done (ap (λ (y : Steps.Content). y.elements) (content-stop s left m a h o))

  pub collected_end : left ≤ 0 → entries_in w s inv.found ≡ answer
  collected_end h = done (ap (λ (y : Steps.Content). y.elements) (content-end left (rest_at s a) h))

  module _ (f : Found) (b fewer : ℕ) (h : left ≡ suc fewer) (g : Reads s f (Steps.element (rest_at s a)) × (f.next ≤ length s)) (e : rest_at s b ≡ spaces (rest_at s f.next)) where
    -- what is left to be found: this element, where it is asked for, and those after it
    next : entries_of w (Steps.content left (rest_at s a)).elements
        ≡ map (wanted_read w s) (kept_if (wanted_at w f.element) (name_at f.element)) ++ entries_of w (Steps.content fewer (rest_at s b)).elements
    unfolding entries_of
    next =
        ap (λ (y : Steps.Content). entries_of w y.elements) (content-on s left fewer a f b h g e)
        ∙ ap (λ (y : List Profile.Element). y ++ entries_of w (Steps.content fewer (rest_at s b)).elements) (kept_at s w f.element g.0.here)

    pub room_for : {x : Bool} → x ≡ wanted_at w f.element → x ≡ true → n < length table
    room_for {x} p t =
        let l = ap length inv.so in
        let m = length-append (entries_in w s inv.found) (entries_of w (Steps.content left (rest_at s a)).elements) in
        let q = length-map inv.found (wanted_read w s) in
        let o : length (entries_of w (Steps.content left (rest_at s a)).elements) ≡ suc (length (entries_of w (Steps.content fewer (rest_at s b)).elements)) = ap length next ∙ rw (sym p ∙ t) in
        omega (arith, inv.count, inv.room, inv.fits)

    pub collected_on : {name : ℕ} {x : Bool} {later : List ℕ} {r : ℕ} → name ≡ name_at f.element → x ≡ wanted_at w f.element → Kept table n name x later r
        → Collecting s w table₀ k answer later b r fewer
    collected_on {name} {x} {later} {r} p q m =
        let more = kept_if x name in
        record {
          found = inv.found ++ more;
          taken = m.taken ∙ ap (λ (y : List ℕ). y ++ more) inv.taken ∙ append_assoc (take k table₀) inv.found more;
          so =
              ap (λ (y : List Profile.Element). y ++ entries_of w (Steps.content fewer (rest_at s b)).elements) (map-append (wanted_read w s) inv.found more)
              ∙ append_assoc (entries_in w s inv.found) (map (wanted_read w s) more) (entries_of w (Steps.content fewer (rest_at s b)).elements)
              ∙ ap (λ (y : List Profile.Element). entries_in w s inv.found ++ y)
              ((λ j. map (wanted_read w s) (kept_if (q j) (p j)) ++ entries_of w (Steps.content fewer (rest_at s b)).elements) ∙ sym next)
              ∙ inv.so;
          count = omega (arith, m.count, inv.count, length-append inv.found more);
          room = m.room ∙ inv.room;
          fits = inv.fits;
        }
