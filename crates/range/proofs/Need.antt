-- Laws of going back over a list of firings.
use Prim.Native.Nat.{ℕ, suc, ◌+◌, ◌-◌, ◌*◌, ◌^◌, ◌<◌, ◌≤◌}
use mathlib.Core.Path.{◌≡◌, refl, sym, ap, subst, fun_ext, ◌∙◌}
use mathlib.Core.Bool.{true, false}
use mathlib.Core.List.{List}
use native.Mathlib.Omega.{arith}
use native.Mathlib.Decide.{ℕ_discrete, dec_lt}
use lib.ListN.{length, get_or, set, drop, length-set, length-drop, drop_of_length-le, get_or-eq_default}
use lib.Seq.{get_or-set_same, get_or-set_other, drop-cons}
use Rattle.net.specs.declared.Arc.{Arc}
use Rattle.net.specs.Net.{Net, Marking, input, tokens}
use Rattle.net.specs.Range.{need, covers, every, partly, never, extent}
use Rattle.net.proofs.Markings.{tokens-are}
use Rattle.net.proofs.Range.{need_low}
use Rattle.file_arcs.specs.Layout.{arc_at}
use Rattle.file_arcs.proofs.Rows.{weight_le}
use Rattle.file.specs.Layout.{net_from}
use Rattle.file_header.specs.declared.Header.{Header}
use Rattle.arcs_column.specs.Gain.{part, sum_to, Gives}
use Rattle.arcs_column.proofs.Arcs.{none_past}
use Rattle.arcs_column.proofs.Sums.{sum_next, sum_more, part-here, part-other}
use Rattle.replay_steps.specs.Steps.{held, Ready, Holds}
use Rattle.replay_firing.proofs.Firing.{Runs}
use Rattle.range.specs.Need.{Credits, wanted, Known, extent_for}

-- ---- what a firing gives is taken off, arc by arc

pub credits_more : {s : List ℕ} {start from j : ℕ} {was is : List ℕ} → Credits s start from j was is → from ≤ j → (a : Arc) → a ≡ arc_at s (start + 8 * j) → a.place < length was
    → {v : ℕ} → v ≡ get_or is a.place 0 - a.weight → Credits s start from (j + 1) was (set is a.place v)
credits_more {s} {start} {from} {j} {was} {is} x begun a e inside {v} w = record { long = length-set is a.place _ ∙ x.long; at = λ p. go p (ℕ_discrete p a.place) }
  where
    same_part : (p : ℕ) → part p (arc_at s (start + 8 * j)) ≡ part p a
    same_part p = ap (part p) (sym e)

    go : (p : ℕ) → Dec (p ≡ a.place) → get_or (set is a.place v) p 0 ≡ get_or was p 0 - (sum_to s start p (j + 1) - sum_to s start p from)
    go p (yes q) =
        subst (λ (p : ℕ). get_or (set is a.place v) p 0 ≡ get_or was p 0 - (sum_to s start p (j + 1) - sum_to s start p from)) (sym q)
        (omega (
          arith,
          get_or-set_same is a.place v 0 (omega (arith, x.long)),
          w,
          x.at a.place,
          sum_next s start a.place j,
          sum_more s start a.place from j begun,
          same_part a.place,
          part-here a a.place refl,
        ))
    go p (no q) =
        omega (arith, get_or-set_other is a.place p v 0 q, x.at p, sum_next s start p j, same_part p, part-other a p (λ r. q (sym r)))

-- ---- one firing

module _ {s : List ℕ} {h : Header} {table m : List ℕ} (r : Ready s h table m) where
  abbrev N : Net
  N = net_from s h

  -- past the places there are no arcs
  wanted-off : (t p : ℕ) → h.places ≤ p → wanted N t (held m) p ≡ 0
  unfolding input
  wanted-off t p l = omega (arith, get_or-eq_default m 0 {n = p} (omega (arith, r.places)), none_past s h r.sound 0 p t l)

  -- the outputs are taken off, then the inputs are added
  pub turned_back_lem : {t from middle to : ℕ} {m₁ m₂ : List ℕ} → Runs s h t from middle to → Credits s h.arcstart middle to m m₁ → Gives s h.arcstart from middle m₁ m₂
      → Holds m m₂ (wanted N t (held m))
  turned_back_lem {t} {from} {middle} {to} {m₁} {m₂} x y z = record { long = z.long ∙ y.long; at = λ p. go p (dec_lt p h.places) }
    where
      go : (p : ℕ) → Dec (p < h.places) → get_or m₂ p 0 ≡ wanted N t (held m) p
      go p (yes l) = omega (arith, y.at p, z.at p (omega (arith, l, y.long, r.places)), x.inputs p, x.outputs p)
      go p (no l) = get_or-eq_default m₂ 0 {n = p} (omega (arith, l, z.long, y.long, r.places)) ∙ sym (wanted-off t p (omega (arith, l)))

  -- the entries stay small
  taken_low : (p t : ℕ) → input N p t ≤ 268431360
  unfolding input
  taken_low p t = omega (arith, r.sound.placed.arcs, weight_le 0 p t s r.bytes h.arcstart h.arcs)

  module _ (list : List ℕ) (known : Known h list) where
    pub low : (k : ℕ) (m' : List ℕ) → ((p : ℕ) → get_or m' p 0 ≡ need N (drop k list) p) → (p : ℕ) → get_or m' p 0 < 2 ^ 62
    low k m' at p = omega (arith, at p, need_low N 268431360 taken_low (drop k list) p, length-drop k list, known.short)

-- ---- the list

module _ (N : Net) (list : List ℕ) where
  -- after the last firing nothing is needed
  pub need-end : (k : ℕ) → length list ≤ k → (p : ℕ) → need N (drop k list) p ≡ 0
  unfolding need
  need-end k l p = rw (drop_of_length-le list l)

  -- before firing k what is needed after it, and for it
  need-cons : (k : ℕ) → k < length list → (p : ℕ) → need N (drop k list) p ≡ wanted N (get_or list k 0) (need N (drop (suc k) list)) p
  unfolding need
  need-cons k l p = rw (drop-cons list k 0 l)

  pub need-step : {k k' : ℕ} → k' ≡ k - 1 → 0 < k → k ≤ length list → (m m' : List ℕ) → ((p : ℕ) → get_or m p 0 ≡ need N (drop k list) p)
      → Holds m m' (wanted N (get_or list k' 0) (held m)) → (p : ℕ) → get_or m' p 0 ≡ need N (drop k' list) p
  need-step {k} {k'} e l u m m' at f p =
      let next : k ≡ suc k' = omega arith in
      let same : held m ≡ need N (drop (suc k') list) = fun_ext at ∙ ap (λ (n : ℕ). need N (drop n list)) next in
      f.at p ∙ ap (λ (M : Marking). wanted N (get_or list k' 0) M p) same ∙ sym (need-cons k' (omega arith) p)

-- ---- the answer, and the entries

module _ (N : Net) (upper M : Marking) where
  pub for_every : covers N N.marking M ≡ true → extent_for N upper M ≡ every
  unfolding extent_for
  for_every e = rw (e, extent_for)

  pub for_partly : covers N N.marking M ≡ false → covers N upper M ≡ true → extent_for N upper M ≡ partly
  unfolding extent_for
  for_partly e f = rw (e, f, extent_for)

  pub for_never : covers N N.marking M ≡ false → covers N upper M ≡ false → extent_for N upper M ≡ never
  unfolding extent_for
  for_never e f = rw (e, f, extent_for)

module _ (N : Net) (list : List ℕ) {was is : List ℕ} (f : Holds was is (need N list)) where
  pub is_extent : (upper : Marking) → extent_for N upper (held is) ≡ extent N upper list
  unfolding extent extent_for
  is_extent upper = ap (extent_for N upper) (fun_ext f.at)

  pub is_need : length was ≡ N.places → is ≡ tokens N (need N list)
  is_need long = tokens-are N (need N list) is (f.long ∙ long) (λ p l. f.at p)
