-- One transition in the column: inputs taken, outputs given, and the places put to rest again.
use Prim.Native.Nat.{ℕ, zero, suc, ◌+◌, ◌-◌, ◌*◌, ◌≤◌, ◌<◌}
use mathlib.Core.Bool.{Bool, true, false, not}
use mathlib.Core.Path.{◌≡◌, refl, sym, ap, ◌∙◌, subst}
use mathlib.Core.Logic.{◌⊎◌, inl, inr, ⊎_elim}
use mathlib.Core.List.{List, [], ◌∷◌}
use native.Mathlib.Omega.{arith}
use native.Mathlib.Decide.{dec_lt}
use lib.Dec.{T, eqb, ltb}
use lib.ListN.{length, get_or}
use borrow.Author.Tests.{eq-eqb, ltb-true, ltb-false}
use Rattle.net.specs.Numbers.{selected}
use Rattle.net.specs.Net.{counted, input, output, weight_on}
use Rattle.net.specs.declared.Arc.{Arc}
use Rattle.net.proofs.Numbers.{by_cases, by_or, or_left, or_right, same_test, any-has, any-finds, below-has, below-passes, and_right}
use Rattle.file_words.specs.Word.{byte_at, Bytes}
use Rattle.file_arcs.specs.Layout.{arc_at}
use Rattle.file.specs.Layout.{net_from}
use Rattle.file.specs.Facts.{Sound}
use Rattle.file_header.specs.declared.Header.{Header}
use Rattle.file_words.proofs.Bytes.{le16-lt}
use Rattle.arcs_column.specs.Gain.{sum_to, part, pulls, pulls_at, pulled_in, pulled_to, Run, Takes, Gives, Rested}
use Rattle.arcs_column.proofs.Sums.{part-other}
use Rattle.rules_tables.specs.Matched.{Starts}
use Rattle.rules_tables.proofs.Runs.{entry_most, entries-rise, run-weight, weight_found}
use Rattle.file.proofs.Rows.{good_at}
use Rattle.rules_effects.specs.Movers.{moved, Resting}

-- ---- sums are small

part-most : (p : ℕ) (a : Arc) → part p a ≤ a.weight
part-most p a = go (eqb a.place p)
  where
    go : (b : Bool) → counted b a.weight ≤ a.weight
    go true = omega arith
    go false = omega arith

sum-most : (s : List ℕ) (start p n : ℕ) → ((i : ℕ) → byte_at s i < 256) → sum_to s start p n ≤ 65535 * n
unfolding sum_to Bytes
sum-most s start p zero b = omega arith
sum-most s start p (suc n) b =
    omega (arith, sum-most s start p n b, part-most p (arc_at s (start + 8 * n)), le16-lt s b (start + 8 * n + 6))

-- a place that no arc has
sum-outside : (s : List ℕ) (start p P n : ℕ) → ((i : ℕ) → i < n → (arc_at s (start + 8 * i)).place < P) → P ≤ p → sum_to s start p n ≡ 0
unfolding sum_to
sum-outside s start p P zero h l = refl
sum-outside s start p P (suc n) h l =
    omega (arith, sum-outside s start p P n (λ i u. h i (omega arith)) l, part-other (arc_at s (start + 8 * n)) p (λ e. omega (arith, h n (omega arith))))

-- past the end of a list
get_d_past : (l : List ℕ) (p : ℕ) → length l ≤ p → get_or l p 0 ≡ 0
get_d_past [] p h = refl
get_d_past (x ∷ l) zero h = absurd (omega arith)
get_d_past (x ∷ l) (suc p) h = get_d_past l p (omega arith)

-- ---- the arc of a pulled place

pulled_found : (s : List ℕ) (start : ℕ) (limit column : List ℕ) (from n : ℕ) → T (pulled_in s start limit column from n) → (i : ℕ) × (from ≤ i) × (i < from + n) × T (pulls_at limit column (arc_at s (start + 8 * i)).place)
unfolding pulled_in
pulled_found s start limit column from zero h = absurd h
pulled_found s start limit column from (suc n) h =
    by_or (pulled_in s start limit column from n) (pulls_at limit column (arc_at s (start + 8 * (from + n))).place) h
    (λ k. let r = pulled_found s start limit column from n k in (r.0, r.1, omega arith, r.3))
    (λ k. (from + n, omega arith, omega arith, k))

pulled_has : (s : List ℕ) (start : ℕ) (limit column : List ℕ) (from n i : ℕ) → i < n → T (pulls_at limit column (arc_at s (start + 8 * (from + i))).place) → T (pulled_in s start limit column from n)
unfolding pulled_in
pulled_has s start limit column from zero i l h = absurd (omega arith)
pulled_has s start limit column from (suc n) i l h =
    by_cases (ltb i n)
    (λ e. or_left (pulled_in s start limit column from n) (pulls_at limit column (arc_at s (start + 8 * (from + n))).place) (pulled_has s start limit column from n i (ltb-true i n e) h))
    (λ e. or_right (pulled_in s start limit column from n) (pulls_at limit column (arc_at s (start + 8 * (from + n))).place)
    (subst (λ (k : ℕ). T (pulls_at limit column (arc_at s (start + 8 * (from + k))).place)) (let z : i ≡ n = omega (arith, ltb-false i n e) in z) h))

-- a column at rest pulls nothing
resting_still : (limit g : ℕ) → g ≡ 1073741824 → T (pulls limit g) → ⊥
resting_still limit g e h = go (eqb g 1073741824) (eq-eqb g 1073741824 e) (and_right (ltb limit g) (not (eqb g 1073741824)) h)
  where
    go : (b : Bool) → b ≡ true → T (not b) → ⊥
    go true q k = k
    go false q k = let z : ◌≡◌ {A = ℕ} 0 1 = cc in omega arith

-- what the three passes over t's arcs ask, and what their answer says
pub record Turn (s : List ℕ) (h : Header) (t from middle to : ℕ) (limit column : List ℕ) : Type 0 where
  pub taking : Run s h.arcstart from middle (length column) × ((p : ℕ) → sum_to s h.arcstart p middle ≤ get_or column p 0 + sum_to s h.arcstart p from)
  pub giving : (second : List ℕ) → Takes s h.arcstart from middle column second
      → Run s h.arcstart middle to (length second) × ((p : ℕ) → get_or second p 0 + sum_to s h.arcstart p to < 4294967296 + sum_to s h.arcstart p middle)
  pub pulling : (second : List ℕ) → Takes s h.arcstart from middle column second → (third : List ℕ) → Gives s h.arcstart middle to second third
      → Run s h.arcstart from to (length third) × (length limit ≡ length third)
  pub answer : (second : List ℕ) → Takes s h.arcstart from middle column second → (third : List ℕ) → Gives s h.arcstart middle to second third
      → (r : Bool) (last : List ℕ) → r ≡ pulled_to s h.arcstart limit third from to → Rested s h.arcstart from to third last
      → (r ≡ moved (net_from s h) limit t) × Resting h.places last

-- ---- the file's arcs

module _ (s : List ℕ) (h : Header) (table : List ℕ) (so : Sound s h) (st : Starts s h table) (bytes : (i : ℕ) → byte_at s i < 256) where
  -- weights are small
  pub weight_most : (d p t : ℕ) → d ≤ 1 → t < h.transitions → weight_on d p t (net_from s h).arcs ≤ 268435456
  weight_most d p t dl l =
      omega (
        arith,
        so.placed.arcs,
        run-weight s h table so st d t dl l p,
        sum-most s h.arcstart p (get_or table (2 * t + d + 1) 0) bytes,
        entry_most s h table so st (2 * t + d + 1) (omega arith),
      )

  module _ (t : ℕ) (l : t < h.transitions) (from middle to : ℕ) (ef : from ≡ get_or table (2 * t) 0) (em : middle ≡ get_or table (2 * t + 1) 0) (et : to ≡ get_or table (2 * t + 2) 0) where
    low : get_or table (2 * t + 0) 0 ≡ from
    low = ap (λ (k : ℕ). get_or table k 0) (let e : 2 * t + 0 ≡ 2 * t = omega arith in e) ∙ sym ef

    half : get_or table (2 * t + 0 + 1) 0 ≡ middle
    half = ap (λ (k : ℕ). get_or table k 0) (let e : 2 * t + 0 + 1 ≡ 2 * t + 1 = omega arith in e) ∙ sym em

    high : get_or table (2 * t + 1 + 1) 0 ≡ to
    high = ap (λ (k : ℕ). get_or table k 0) (let e : 2 * t + 1 + 1 ≡ 2 * t + 2 = omega arith in e) ∙ sym et

    rise_in : from ≤ middle
    rise_in = omega (arith, entries-rise s h table so st (2 * t) (2 * t + 1) (omega arith) (omega arith))

    rise_out : middle ≤ to
    rise_out = omega (arith, entries-rise s h table so st (2 * t + 1) (2 * t + 2) (omega arith) (omega arith))

    most : to ≤ h.arcs
    most = omega (arith, entry_most s h table so st (2 * t + 2) (omega arith))

    sum-in : (p : ℕ) → sum_to s h.arcstart p middle ≡ sum_to s h.arcstart p from + input (net_from s h) p t
    unfolding input
    sum-in p = sym (ap (sum_to s h.arcstart p) half) ∙ run-weight s h table so st 0 t (omega arith) l p ∙ ap (λ (k : ℕ). sum_to s h.arcstart p k + weight_on 0 p t (net_from s h).arcs) low

    sum-out : (p : ℕ) → sum_to s h.arcstart p to ≡ sum_to s h.arcstart p middle + output (net_from s h) p t
    unfolding output
    sum-out p = sym (ap (sum_to s h.arcstart p) high) ∙ run-weight s h table so st 1 t (omega arith) l p ∙ ap (λ (k : ℕ). sum_to s h.arcstart p k + weight_on 1 p t (net_from s h).arcs) (sym em)

    input-most : (p : ℕ) → input (net_from s h) p t ≤ 268435456
    unfolding input
    input-most p = weight_most 0 p t (omega arith) l

    -- an arc of t at p, or no weight there
    At : ℕ → Type 0
    At p = (i : ℕ) × (from ≤ i) × (i < to) × ((arc_at s (h.arcstart + 8 * i)).place ≡ p)

    by_input : (p : ℕ) → 0 < input (net_from s h) p t → At p
    unfolding input At
    by_input p w =
        let f = weight_found s h table so st 0 t (omega arith) l p w in
        (f.0, omega (arith, f.1, low), omega (arith, f.2, half, rise_out), f.3)

    by_output : (p : ℕ) → 0 < output (net_from s h) p t → At p
    unfolding output At
    by_output p w =
        let f = weight_found s h table so st 1 t (omega arith) l p w in
        (f.0, omega (arith, f.1, em, rise_in), omega (arith, f.2, high), f.3)

    at_or_none : (p : ℕ) → At p ⊎ ((input (net_from s h) p t ≡ 0) × (output (net_from s h) p t ≡ 0))
    at_or_none p = go (dec_lt 0 (input (net_from s h) p t)) (dec_lt 0 (output (net_from s h) p t))
      where
        go : Dec (0 < input (net_from s h) p t) → Dec (0 < output (net_from s h) p t) → At p ⊎ ((input (net_from s h) p t ≡ 0) × (output (net_from s h) p t ≡ 0))
        go (yes w) d = inl (by_input p w)
        go (no w) (yes v) = inl (by_output p v)
        go (no w) (no v) = inr (omega (arith, w), omega (arith, v))

    -- ---- the column

    module _ (column : List ℕ) (x : Resting h.places column) where
      inside : (i : ℕ) → i < to → (arc_at s (h.arcstart + 8 * i)).place < length column
      inside i u = omega (arith, x.reached, (good_at s h so i (omega (arith, most))).place)

      at_first : (p : ℕ) → p < length column → get_or column p 0 ≡ 1073741824
      at_first p u = x.rest p u

      runs : (a b P : ℕ) → a ≤ b → b ≤ to → P ≡ length column → Run s h.arcstart a b P
      runs a b P u v e = record {
        rising = u;
        fit = omega (arith, most, so.placed.arcs_fit, so.placed.origins_fit);
        short = so.placed.short;
        places = λ i w. omega (arith, inside i (omega arith));
      }

      small : (p k : ℕ) → k ≤ to → sum_to s h.arcstart p k ≤ 268431360
      small p k u = omega (arith, sum-most s h.arcstart p k bytes, most, so.placed.arcs)

      outside : (p k : ℕ) → k ≤ to → length column ≤ p → sum_to s h.arcstart p k ≡ 0
      outside p k u v = sum-outside s h.arcstart p (length column) k (λ i w. inside i (omega arith)) v

      -- inputs can be taken
      take-run : Run s h.arcstart from middle (length column)
      take-run = runs from middle (length column) rise_in rise_out refl

      take-room : (p : ℕ) → sum_to s h.arcstart p middle ≤ get_or column p 0 + sum_to s h.arcstart p from
      take-room p = go (dec_lt p (length column))
        where
          go : Dec (p < length column) → sum_to s h.arcstart p middle ≤ get_or column p 0 + sum_to s h.arcstart p from
          go (yes u) = omega (arith, at_first p u, small p middle rise_out)
          go (no u) = omega (arith, outside p middle rise_out (omega (arith, u)))

      module _ (second : List ℕ) (tk : Takes s h.arcstart from middle column second) where
        -- outputs can be given
        give_run : Run s h.arcstart middle to (length second)
        give_run = runs middle to (length second) rise_out (omega arith) tk.long

        give_room : (p : ℕ) → get_or second p 0 + sum_to s h.arcstart p to < 4294967296 + sum_to s h.arcstart p middle
        give_room p = go (dec_lt p (length column))
          where
            go : Dec (p < length column) → get_or second p 0 + sum_to s h.arcstart p to < 4294967296 + sum_to s h.arcstart p middle
            go (yes u) = omega (arith, tk.at p, at_first p u, small p to (omega arith), small p from (omega (arith, rise_in, rise_out)))
            go (no u) = omega (arith, outside p to (omega arith) (omega (arith, u)), get_d_past second p (omega (arith, tk.long, u)))

        module _ (third : List ℕ) (gv : Gives s h.arcstart middle to second third) where
          same_long : length third ≡ length column
          same_long = gv.long ∙ tk.long

          pulled_run : Run s h.arcstart from to (length third)
          pulled_run = runs from to (length third) (omega (arith, rise_in, rise_out)) (omega arith) same_long

          third_long : (limit : List ℕ) → length limit ≡ length column → length limit ≡ length third
          third_long limit e = e ∙ sym same_long

          -- the column then stands at 2 ^ 30 and the effect
          column_is : (p : ℕ) → p < length column → get_or third p 0 ≡ 1073741824 + output (net_from s h) p t - input (net_from s h) p t
          column_is p u =
              omega (arith, at_first p u, tk.at p, gv.at p (omega (arith, tk.long)), sum-in p, sum-out p, input-most p)

          here : (limit : List ℕ) (p q : ℕ) → q ≡ p → p < length column → pulls_at limit third q ≡ pulls (get_or limit p 0) (1073741824 + output (net_from s h) p t - input (net_from s h) p t)
          here limit p q e u = ap (pulls_at limit third) e ∙ ap (pulls (get_or limit p 0)) (column_is p u)

          there : (limit : List ℕ) → T (pulled_to s h.arcstart limit third from to) → T (moved (net_from s h) limit t)
          unfolding moved
          there limit k =
              let f = pulled_found s h.arcstart limit third from (to - from) k in
              let p = (arc_at s (h.arcstart + 8 * f.0)).place in
              let low-to : f.0 < to = omega (arith, f.2, rise_in, rise_out) in
              let known : p < h.places = (good_at s h so f.0 (omega (arith, most))).place in
              any-has (λ p. pulls (get_or limit p 0) (1073741824 + output (net_from s h) p t - input (net_from s h) p t)) (selected (λ p. true) 0 h.places) p
              (below-has (λ p. true) h.places p known tt)
              (subst T (here limit p p refl (inside f.0 low-to)) f.3)

          back : (limit : List ℕ) → T (moved (net_from s h) limit t) → T (pulled_to s h.arcstart limit third from to)
          unfolding moved At
          back limit k =
              let f = any-finds (λ p. pulls (get_or limit p 0) (1073741824 + output (net_from s h) p t - input (net_from s h) p t)) (selected (λ p. true) 0 h.places) k in
              let p = f.0 in
              let known : p < h.places = (below-passes (λ p. true) h.places p f.1).0 in
              let u : p < length column = omega (arith, x.reached) in
              ⊎_elim
              (λ g. let e : from + (g.0 - from) ≡ g.0 = omega (arith, g.1) in
              pulled_has s h.arcstart limit third from (to - from) (g.0 - from) (omega (arith, g.1, g.2))
              (subst T (sym (here limit p (arc_at s (h.arcstart + 8 * (from + (g.0 - from)))).place (ap (λ (i : ℕ). (arc_at s (h.arcstart + 8 * i)).place) e ∙ g.3) u)) f.2))
              (λ g. absurd (resting_still (get_or limit p 0) _ (omega (arith, g.0, g.1)) f.2))
              (at_or_none p)

          -- the answer
          moved-is : (limit : List ℕ) (r : Bool) → r ≡ pulled_to s h.arcstart limit third from to → r ≡ moved (net_from s h) limit t
          moved-is limit r e = e ∙ same_test (pulled_to s h.arcstart limit third from to) (moved (net_from s h) limit t) (there limit) (back limit)

          -- the column is at rest again
          rests_again : (last : List ℕ) → Rested s h.arcstart from to third last → Resting h.places last
          unfolding At
          rests_again last z = record {
            reached = omega (arith, x.reached, z.long, same_long);
            rest = λ p u. ⊎_elim
                (λ e. ⊎_elim
                (λ g. ap (λ (q : ℕ). get_or last q 0) (sym g.3) ∙ z.here g.0 g.1 g.2)
                (λ g. omega (arith, e, g.0, g.1, column_is p (omega (arith, z.long, same_long))))
                (at_or_none p))
                (λ e. e)
                (z.other p);
          }

      pub turn : (limit : List ℕ) → length limit ≡ length column → Turn s h t from middle to limit column
      turn limit e = record {
        taking = (take-run, take-room);
        giving = λ second tk. (give_run second tk, give_room second tk);
        pulling = λ second tk third gv. (pulled_run second tk third gv, third_long second tk third gv limit e);
        answer = λ second tk third gv r last a z. (moved-is second tk third gv limit r a, rests_again second tk third gv last z);
      }
