-- One turn of each loop over groups, and the file from its parts.
use Prim.Native.Nat.{ℕ, zero, suc, ◌+◌, ◌-◌, ◌*◌, ◌≤◌, ◌<◌}
use mathlib.Core.Bool.{Bool}
use mathlib.Core.List.{List, ◌∷◌}
use mathlib.Core.Logic.{◌≢◌}
use mathlib.Core.Path.{◌≡◌, sym, ap, ◌∙◌}
use native.Mathlib.Omega.{arith}
use lib.Dec.{ltb}
use lib.ListN.{length}
use lib.Seq.{sets}
use borrow.Author.Tests.{lt-ltb, le-ltb}
use Rattle.std.specs.Prelude.{Result, Ok, Err}
use Rattle.refusals.specs.Numbers.{number}
use Rattle.refusals.specs.declared.Refusal.{Refusal}
use Rattle.refusals.specs.declared.Refusal.TheVariants.{Weight}
use Rattle.net.specs.Normal.{joined, normal_of}
use Rattle.net.specs.declared.Arc.{Arc}
use Rattle.file_words.specs.Refusal.{refuse}
use Rattle.file_arcs.specs.Layout.{arc_at}
use Rattle.file_arcs.proofs.Rows.{length-arcs_from}
use Rattle.file_header.specs.declared.Header.{Header}
use Rattle.file.specs.Facts.{Sound}
use Rattle.file.specs.Layout.{net_from}
use Rattle.file_writing.specs.Writing.{places_bytes, arc_bytes, arcs_bytes, trailer_bytes, plan_bytes}
use Rattle.file_writing.proofs.Bytes.{length-arcs}
use Rattle.file_writing.proofs.PlanTrip.{length-plan}
use Rattle.promise.specs.Normal.{weights_refusal}
use Rattle.promise.proofs.Joined.{joined_length, weights_25}
use Rattle.arcs_groups.specs.Groups.{GroupEnd, run_weight}
use Rattle.tables.proofs.Storing.{Storing, storing_as, storing_none}
use Rattle.slice_put.proofs.Placing.{arc-stored}
use Rattle.plan_put.proofs.Laws.{plan_stored, refused}
use Rattle.plan_put.specs.Told.{Answers}
use Rattle.normal.specs.Counted.{heavy_or, lent_refusal}
use Rattle.normal.proofs.Groups.{group_arc, joined_from, joined-none, group_joined}

module _ (s : List ℕ) (h : Header) where
  -- the arcs from j on, joined
  abbrev pub left : ℕ → List Arc
  left j = joined_from s h.arcstart h.arcs j

  abbrev pub all : List Arc
  all = joined (net_from s h).arcs

  pub few : Sound s h → length all ≤ 4096
  few sound = omega (arith, joined_length (net_from s h).arcs, length-arcs_from s h.arcstart h.arcs, sound.placed.arcs)

  -- ---- counting: `total` arcs are left of those before arc j, and none of them is heavy

  pub record Counting (j total : ℕ) : Type 0 where
    pub reach : j ≤ h.arcs
    pub fewer : total ≤ j
    pub count : total + length (left j) ≡ length all
    pub light : weights_refusal (left j) ≡ weights_refusal all

  module _ {j total e w : ℕ} (c : Counting j total) (g : GroupEnd s h.arcstart j h.arcs e) (f : w ≡ run_weight s h.arcstart j (e - j)) where
    next : left j ≡ group_arc s h.arcstart j e ∷ left e
    next = group_joined s h.arcstart h.arcs j e g

    -- what the weights say, by this group
    by_group : weights_refusal all ≡ refuse (ltb 65535 w) 25 (weights_refusal (left e))
    unfolding weights_refusal
    by_group = sym c.light ∙ ap weights_refusal next ∙ ap (λ (x : ℕ). refuse (ltb 65535 x) 25 (weights_refusal (left e))) (sym f)

    pub heavy : 65535 < w → Err Weight ≡ heavy_or (weights_refusal all) (length all)
    heavy l =
        let r : weights_refusal all ≡ 25 = by_group ∙ ap (λ (b : Bool). refuse b 25 (weights_refusal (left e))) (lt-ltb 65535 w l) in
        ap (λ (n : ℕ). heavy_or n (length all)) (sym r)

    pub counting_next : w ≤ 65535 → Counting e (total + 1)
    counting_next l = record {
      reach = g.within;
      fewer = omega (arith, c.fewer, g.after);
      count = omega (arith, c.count, ap length next);
      light = sym (by_group ∙ ap (λ (b : Bool). refuse b 25 (weights_refusal (left e))) (le-ltb 65535 w l));
    }

  pub counting_all : {j total : ℕ} → Counting j total → h.arcs ≤ j → Ok total ≡ heavy_or (weights_refusal all) (length all)
  unfolding weights_refusal
  counting_all {j} {total} c l =
      let none = joined-none s h.arcstart h.arcs j l in
      let r : weights_refusal all ≡ 0 = sym c.light ∙ ap weights_refusal none in
      let n : total ≡ length all = omega (arith, c.count, ap length none) in
      ap Ok n ∙ ap (λ (k : ℕ). heavy_or k (length all)) (sym r)

  -- ---- writing: what is left of the arcs is to be stored in `buffer` from `at` on

  abbrev pub Writing : List ℕ → ℕ → List ℕ → ℕ → ℕ → Type 0
  Writing buffer₀ start buffer at j = Storing buffer₀ start (arcs_bytes all) buffer at (arcs_bytes (left j))

  module _ {j e : ℕ} (g : GroupEnd s h.arcstart j h.arcs e) {buffer₀ buffer : List ℕ} {start at : ℕ} (w : Writing buffer₀ start buffer at j) where
    following : left j ≡ group_arc s h.arcstart j e ∷ left e
    following = group_joined s h.arcstart h.arcs j e g

    -- there is room for an arc
    pub arc-fits : start + length (arcs_bytes all) ≤ length buffer₀ → at + 8 ≤ length buffer
    arc-fits r = omega (arith, r, w.count, w.long, length-arcs (left j), ap length following)

    pub writing_next : {next : List ℕ} {k : ℕ} (a : Arc) (n : ℕ) → a ≡ arc_at s (h.arcstart + 8 * j) → n ≡ run_weight s h.arcstart j (e - j)
        → next ≡ sets buffer at (arc_bytes (record { transition = a.transition; direction = a.direction; place = a.place; weight = n })) → k ≡ at + 8 → Writing buffer₀ start next k e
    writing_next a n a≡ n≡ f k≡ =
        let same : record { transition = a.transition; direction = a.direction; place = a.place; weight = n } ≡ group_arc s h.arcstart j e =
        λ i. record { transition = (a≡ i).transition; direction = (a≡ i).direction; place = (a≡ i).place; weight = n≡ i } in
        arc-stored (group_arc s h.arcstart j e) (left e) (storing_as w (ap arcs_bytes following)) (f ∙ ap (λ (x : Arc). sets buffer at (arc_bytes x)) same) k≡

  pub writing_all : {buffer₀ buffer : List ℕ} {start at j : ℕ} → Writing buffer₀ start buffer at j → h.arcs ≤ j → buffer ≡ sets buffer₀ start (arcs_bytes all)
  unfolding arcs_bytes
  writing_all {j = j} w l = storing_none (storing_as w (ap arcs_bytes (joined-none s h.arcstart h.arcs j l)))

  -- ---- the file

  pub file_long : length (plan_bytes 2 (normal_of (net_from s h))) ≡ 8 * h.places + 8 * length all + 16
  unfolding normal_of
  file_long = length-plan 2 (normal_of (net_from s h))

  pub arcs_long : length (arcs_bytes all) ≡ 8 * length all
  arcs_long = length-arcs all

  pub file_stored : (buffer : List ℕ) {b₁ b₂ b₃ : List ℕ} {n : ℕ} → n ≡ length all
      → b₁ ≡ sets buffer 0 (places_bytes 2 (net_from s h).marking (net_from s h).cap 0 h.places) → b₂ ≡ sets b₁ (8 * h.places) (arcs_bytes all)
      → b₃ ≡ sets b₂ (8 * h.places + 8 * n) (trailer_bytes 0 2 (8 * h.places + 8 * n) h.places h.transitions n) → b₃ ≡ sets buffer 0 (plan_bytes 2 (normal_of (net_from s h)))
  unfolding normal_of
  file_stored buffer {b₂ = b₂} e f g k =
      plan_stored 2 (normal_of (net_from s h)) buffer f g (k ∙ ap (λ (m : ℕ). sets b₂ (8 * h.places + 8 * m) (trailer_bytes 0 2 (8 * h.places + 8 * m) h.places h.transitions m)) e)

  -- ---- the answers

  abbrev pub file : List ℕ
  file = plan_bytes 2 (normal_of (net_from s h))

  heavy_told : {r : Result ℕ Refusal} {w : Refusal} → r ≡ heavy_or (weights_refusal all) (length all) → r ≡ Err w → (weights_refusal all ≢ 0) × (w ≡ Weight)
  heavy_told e f = go (weights_refusal all) (sym f ∙ e)
    where
      go : {w : Refusal} (k : ℕ) → Err w ≡ heavy_or k (length all) → (k ≢ 0) × (w ≡ Weight)
      go zero g = let z : ◌≡◌ {A = ℕ} 0 1 = cc in absurd (omega arith)
      go (suc k) g = (λ q. omega arith, cc)

  -- 25
  pub heavy_answers : {r : Result ℕ Refusal} {w : Refusal} (entry : List ℕ) → r ≡ heavy_or (weights_refusal all) (length all) → r ≡ Err w → Answers (lent_refusal (net_from s h) (length entry)) file entry entry (Err w)
  heavy_answers {w = w} entry e f = let t = heavy_told e f in rw (weights_25 all t.0) (refused file entry w (ap number t.1))
