-- The chosen positions, written one after the other.
use Prim.Native.Nat.{ℕ, zero, suc, ◌+◌, ◌-◌, ◌<◌, ◌≤◌}
use mathlib.Core.Bool.{Bool, true, false}
use mathlib.Core.List.{List, [], ◌∷◌, ◌++◌, append-nil}
use mathlib.Core.Path.{◌≡◌, refl, sym, ap, ◌∙◌, subst}
use native.Mathlib.Omega.{arith}
use native.Mathlib.Decide.{dec_lt}
use lib.Dec.{ltb}
use lib.ListN.{length, get_or, set, drop, length-append, length-drop, length-set, get_or-append}
use lib.Seq.{ext_get_or, get_or-append_seam, get_or-append-add, get_or-set_same, get_or-set_other, get_or-drop}
use borrow.Author.Tests.{lt-ltb, le-ltb}
use Rattle.net.specs.Numbers.{selected}
use Rattle.net.proofs.Numbers.{by_cases, length-selected}
use Rattle.net.proofs.Feeding.{upto}
use Rattle.net.proofs.Selections.{selected-split}
use Rattle.arcs_starts.specs.Table.{choose}
use Rattle.run_feed.specs.Back.{end_of}
use Rattle.run_cut.specs.Parts.{chosen_by}

-- one number more
one_more : (f : ℕ → Bool) (i : ℕ) → selected f 0 (i + 1) ≡ selected f 0 i ++ elim (f i) [ true ↦ i ∷ [] | false ↦ [] ]
unfolding selected
one_more f i = let z : 0 + i ≡ i = omega arith in selected-split f 0 i 1 ∙ ap (λ (a : ℕ). selected f 0 i ++ selected f a 1) z

with_it : (f : ℕ → Bool) (i : ℕ) → f i ≡ true → selected f 0 (i + 1) ≡ selected f 0 i ++ (i ∷ [])
with_it f i e = one_more f i ∙ ap (λ (b : Bool). selected f 0 i ++ elim b [ true ↦ i ∷ [] | false ↦ [] ]) e

without_it : (f : ℕ → Bool) (i : ℕ) → f i ≡ false → selected f 0 (i + 1) ≡ selected f 0 i
without_it f i e = one_more f i ∙ ap (λ (b : Bool). selected f 0 i ++ elim b [ true ↦ i ∷ [] | false ↦ [] ]) e ∙ append-nil (selected f 0 i)

pub none_yet : (f : ℕ → Bool) → 0 ≡ length (selected f 0 0)
unfolding selected
none_yet f = refl

pub one_or_none : (b : Bool) → choose b 1 0 < 2
one_or_none true = omega arith
one_or_none false = omega arith

pub counted_next : (f : ℕ → Bool) (n i k : ℕ) → n ≡ length (selected f 0 i) → k ≡ choose (f i) 1 0 → n + k ≡ length (selected f 0 (i + 1))
counted_next f n i k w counts = by_cases (f i)
    (λ e. omega (arith, w, counts ∙ ap (λ (b : Bool). choose b 1 0) e, ap length (with_it f i e), length-append (selected f 0 i) (i ∷ [])))
    (λ e. omega (arith, w, counts ∙ ap (λ (b : Bool). choose b 1 0) e, ap length (without_it f i e)))

-- ---- e is one past the last number below m that passes f, 0 where none does
pub record EndAt (f : ℕ → Bool) (m e : ℕ) : Type 0 where
  pub within : e ≤ m
  pub all : selected f 0 e ≡ selected f 0 m
  pub final : 0 < e → f (e - 1) ≡ true

end_last : (l : List ℕ) (x : ℕ) → end_of (l ++ (x ∷ [])) ≡ suc x
unfolding upto
end_last [] x = refl
end_last (y ∷ l) x =
    let rest = end_last l x in
    let some : ltb 0 (end_of (l ++ (x ∷ []))) ≡ true = ap (ltb 0) rest ∙ lt-ltb 0 (suc x) (omega arith) in
    let later : end_of (y ∷ (l ++ (x ∷ []))) ≡ end_of (l ++ (x ∷ [])) = rw (some, upto) in
    later ∙ rest

end_at : (f : ℕ → Bool) (m : ℕ) → EndAt f m (end_of (selected f 0 m))
unfolding selected upto
end_at f zero = record { within = omega arith; all = refl; final = λ h. absurd (omega arith) }
end_at f (suc m) =
    let z : suc m ≡ m + 1 = omega arith in
    by_cases (f m)
    (λ a. let e : end_of (selected f 0 (suc m)) ≡ suc m = ap (λ (n : ℕ). end_of (selected f 0 n)) z ∙ ap end_of (with_it f m a) ∙ end_last (selected f 0 m) m in
    subst (EndAt f (suc m)) (sym e) (record { within = omega arith; all = refl; final = λ h. ap f (let y : suc m - 1 ≡ m = omega arith in y) ∙ a }))
    (λ a. let same : selected f 0 (suc m) ≡ selected f 0 m = ap (selected f 0) z ∙ without_it f m a in
    let r = end_at f m in
    subst (λ (l : List ℕ). EndAt f (suc m) (end_of l)) (sym same) (record { within = omega (arith, r.within); all = r.all ∙ sym same; final = r.final }))

-- firing k is chosen: it is below the entry of its transition
abbrev pub chosen_in : List ℕ → List ℕ → ℕ → Bool
chosen_in list last k = ltb k (get_or last (get_or list k 0) 0)

pub ended_at : (list last : List ℕ) (end : ℕ) → end ≡ end_of (chosen_by list last) → EndAt (chosen_in list last) (length list) end
unfolding chosen_by
ended_at list last end e = subst (EndAt (chosen_in list last) (length list)) (sym e) (end_at (chosen_in list last) (length list))

pub chosen-ended : (list last : List ℕ) (end : ℕ) → EndAt (chosen_in list last) (length list) end → selected (chosen_in list last) 0 end ≡ chosen_by list last
unfolding chosen_by
chosen-ended list last end x = x.all

-- no more are chosen than there are firings before the end
pub room_for_all : (list last : List ℕ) (end room : ℕ) → end ≡ end_of (chosen_by list last) → end ≤ room → ltb room (length (chosen_by list last)) ≡ false
room_for_all list last end room e l =
    le-ltb room (length (chosen_by list last)) (omega (arith, ap length (chosen-ended list last end (ended_at list last end e)), length-selected (chosen_in list last) 0 end))

-- before the end one is still to come
pub still_one : (f : ℕ → Bool) (m i e : ℕ) → EndAt f m e → i < e → length (selected f 0 i) < length (selected f 0 e)
still_one f m i e x l =
    let last : e ≡ e - 1 + 1 = omega arith in
    let front : e - 1 ≡ i + (e - 1 - i) = omega arith in
    omega (
      arith,
      ap (λ (n : ℕ). length (selected f 0 n)) last,
      ap length (with_it f (e - 1) (x.final (omega arith))),
      length-append (selected f 0 (e - 1)) ((e - 1) ∷ []),
      ap (λ (n : ℕ). length (selected f 0 n)) front,
      ap length (selected-split f 0 i (e - 1 - i)),
      length-append (selected f 0 i) (selected f (0 + i) (e - 1 - i)),
    )

-- of the numbers below m those that pass f are wanted, `count` of them; the first n entries have those below i
pub record Filled (f : ℕ → Bool) (m count : ℕ) (out₀ out : List ℕ) (n i : ℕ) : Type 0 where
  pub written : n ≡ length (selected f 0 i)
  pub total : count ≡ length (selected f 0 m)
  pub room : count ≤ length out₀
  pub long : length out ≡ length out₀
  pub front : (k : ℕ) → k < n → get_or out k 0 ≡ get_or (selected f 0 i) k 0
  pub rest : (k : ℕ) → count ≤ k → get_or out k 0 ≡ get_or out₀ k 0

module _ (f : ℕ → Bool) (m count : ℕ) (out₀ : List ℕ) where
  pub filled_none : count ≡ length (selected f 0 m) → count ≤ length out₀ → Filled f m count out₀ out₀ 0 0
  unfolding selected
  filled_none e l = record { written = refl; total = e; room = l; long = refl; front = λ k h. absurd (omega arith); rest = λ k h. refl }

  module _ (out : List ℕ) (n i : ℕ) (x : Filled f m count out₀ out n i) where
    pub few : n ≤ i
    few = omega (arith, x.written, length-selected f 0 i)

    module _ (l : n < count) where
      module _ (k : ℕ) (counts : k ≡ choose (f i) 1 0) where
        chosen-front : f i ≡ true → (j : ℕ) → j < n + k → get_or (set out n i) j 0 ≡ get_or (selected f 0 (i + 1)) j 0
        chosen-front e j h = go (dec_lt j n)
          where
            k≡ : k ≡ 1
            k≡ = counts ∙ ap (λ (b : Bool). choose b 1 0) e

            go : Dec (j < n) → get_or (set out n i) j 0 ≡ get_or (selected f 0 (i + 1)) j 0
            go (yes q) = get_or-set_other out n j i 0 (λ r. omega arith) ∙ x.front j q ∙ sym (ap (λ (s : List ℕ). get_or s j 0) (with_it f i e) ∙ get_or-append (selected f 0 i) (i ∷ []) 0 j (omega (arith, x.written)))
            go (no q) =
                let same : j ≡ n = omega (arith, k≡, h) in
                ap (λ (a : ℕ). get_or (set out n i) a 0) same ∙ get_or-set_same out n i 0 (omega (arith, x.room, x.long))
                ∙ sym (ap (λ (s : List ℕ). get_or s j 0) (with_it f i e) ∙ ap (λ (a : ℕ). get_or (selected f 0 i ++ (i ∷ [])) a 0) (same ∙ x.written) ∙ get_or-append_seam (selected f 0 i) i [] 0)

        other_front : f i ≡ false → (j : ℕ) → j < n + k → get_or (set out n i) j 0 ≡ get_or (selected f 0 (i + 1)) j 0
        other_front e j h =
            let k≡ : k ≡ 0 = counts ∙ ap (λ (b : Bool). choose b 1 0) e in
            get_or-set_other out n j i 0 (λ r. omega (arith, k≡, h)) ∙ x.front j (omega (arith, k≡, h)) ∙ sym (ap (λ (s : List ℕ). get_or s j 0) (without_it f i e))

        pub filled_next : Filled f m count out₀ (set out n i) (n + k) (i + 1)
        filled_next = record {
          written = counted_next f n i k x.written counts;
          total = x.total;
          room = x.room;
          long = length-set out n i ∙ x.long;
          front = λ j h. by_cases (f i) (λ e. chosen-front e j h) (λ e. other_front e j h);
          rest = λ j h. get_or-set_other out n j i 0 (λ r. omega arith) ∙ x.rest j h;
        }

    module _ (e : i ≡ m) where
      -- all are seen
      all : selected f 0 i ≡ selected f 0 m
      all = ap (selected f 0) e

      pub n_is : n ≡ count
      n_is = omega (arith, x.written, x.total, ap length all)

      pub filled_all : out ≡ selected f 0 m ++ drop count out₀
      filled_all =
          ext_get_or 0 out (selected f 0 m ++ drop count out₀) (omega (arith, x.long, x.room, x.total, length-append (selected f 0 m) (drop count out₀), length-drop count out₀)) (λ k h. go k (dec_lt k n))
        where
          go : (k : ℕ) → Dec (k < n) → get_or out k 0 ≡ get_or (selected f 0 m ++ drop count out₀) k 0
          go k (yes q) = x.front k q ∙ ap (λ (s : List ℕ). get_or s k 0) all ∙ sym (get_or-append (selected f 0 m) (drop count out₀) 0 k (omega (arith, n_is, x.total)))
          go k (no q) =
              let k≡ : k ≡ length (selected f 0 m) + (k - count) = omega (arith, n_is, x.total) in
              let j≡ : k ≡ count + (k - count) = omega (arith, n_is) in
              x.rest k (omega (arith, n_is)) ∙ ap (λ (a : ℕ). get_or out₀ a 0) j≡ ∙ sym (get_or-drop count out₀ (k - count) 0)
              ∙ sym (get_or-append-add (selected f 0 m) (drop count out₀) (k - count) 0) ∙ ap (λ (a : ℕ). get_or (selected f 0 m ++ drop count out₀) a 0) (sym k≡)
