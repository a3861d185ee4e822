-- The lowest place above its cap, found among the outputs of a transition in their order.
use Prim.Native.Nat.{ℕ, ◌+◌, ◌*◌, ◌-◌, ◌<◌, ◌≤◌}
use mathlib.Core.Path.{◌≡◌, ap, sym, ◌∙◌, subst}
use mathlib.Core.List.{List}
use Rattle.std.proofs.Common.{None}
use native.Mathlib.Omega.{arith}
use native.Mathlib.Decide.{dec_lt, ℕ_discrete}
use borrow.Author.Tests.{lt-ltb, eq-eqb, ne_eqb}
use lib.Dec.{T, ltb, ltb→lt}
use lib.ListN.{length, get_or}
use Rattle.net.specs.Net.{Net, output, capped}
use Rattle.net.specs.declared.Arc.{Arc}
use Rattle.net.proofs.Numbers.{holds}
use Rattle.file_words.specs.Word.{Bytes}
use Rattle.file_arcs.specs.Layout.{arc_at}
use Rattle.file.specs.Layout.{net_from}
use Rattle.file.specs.Facts.{Sound}
use Rattle.file_header.specs.declared.Header.{Header}
use Rattle.file_arcs.proofs.Rows.{key-le, weight_le}
use Rattle.file.proofs.Rows.{good_at}
use Rattle.arcs_starts.specs.Table.{Split}
use Rattle.arcs_column.proofs.Arcs.{has_arc, joins-in, in_joins}
use Rattle.replay_steps.specs.Steps.{held, Ready}
use Rattle.replay_steps.proofs.Underway.{split_by}
use Rattle.replay_firing.specs.Firing.{Left, excess_over, Overfull, FullFound}

-- the place of arc i of the file
abbrev place_of : List ℕ → Header → ℕ → ℕ
place_of s h i = (arc_at s (h.arcstart + 8 * i)).place

-- the tokens above the cap of that place
abbrev excess_at : List ℕ → Header → List ℕ → ℕ → ℕ
excess_at s h m i = excess_over ((net_from s h).cap (place_of s h i)) (get_or m (place_of s h i) 0)

-- t has fired, its outputs are the arcs from..to, and those before arc j are at places within their caps
pub record Looked (s : List ℕ) (h : Header) (t from to : ℕ) (m : List ℕ) (j : ℕ) : Type 0 where
  pub sound : Sound s h
  pub bytes : Bytes s
  pub left : Left s h t m
  pub places : length m ≡ h.places
  pub first : Split s h.arcstart h.arcs (2 * t + 1) from
  pub second : Split s h.arcstart h.arcs (2 * t + 1 + 1) to
  pub begun : from ≤ j
  pub within : (i : ℕ) → from ≤ i → i < j → excess_at s h m i ≡ 0

-- output arc j is at the place p, which is e above its cap: what is known where e is 0, and where it is not
pub record Found (s : List ℕ) (h : Header) (t from to : ℕ) (m : List ℕ) (j p e : ℕ) : Type 0 where
  pub place : p < length m
  pub small : e < 4294967296
  pub fits : e ≡ 0 → Looked s h t from to m (j + 1)
  pub full : (e ≡ 0 → ⊥) → Overfull (net_from s h) t (held m) p e

-- ---- an excess

pub excess_uncapped : (cap n : ℕ) → cap ≡ 0 → excess_over cap n ≡ 0
excess_uncapped cap n e = rw (eq-eqb cap 0 e)

pub excess_capped : (cap n : ℕ) → (cap ≡ 0 → ⊥) → excess_over cap n ≡ n - cap
excess_capped cap n z = rw (ne_eqb cap 0 z)

excess_none : (cap n : ℕ) → excess_over cap n ≡ 0 → 0 < cap → n ≤ cap
excess_none cap n e l = omega (arith, e, excess_capped cap n (λ z. omega arith))

excess_some : (cap n e : ℕ) → e ≡ excess_over cap n → (e ≡ 0 → ⊥) → (0 < cap) × (n ≡ cap + e)
excess_some cap n e f z = go (ℕ_discrete cap 0)
  where
    go : Dec (cap ≡ 0) → (0 < cap) × (n ≡ cap + e)
    go (yes q) = absurd (z (f ∙ excess_uncapped cap n q))
    go (no q) = (omega (arith, q), omega (arith, f, z, excess_capped cap n q))

-- a cap above 0
cap_above : (N : Net) (p : ℕ) → T (capped N p) → 0 < N.cap p
unfolding capped
cap_above N p c = ltb→lt 0 (N.cap p) c

has_cap : (N : Net) (p : ℕ) → 0 < N.cap p → T (capped N p)
unfolding capped
has_cap N p l = holds (ltb 0 (N.cap p)) (lt-ltb 0 (N.cap p) l)

-- ---- the outputs of t, arc by arc

pub looked_none : {s : List ℕ} {h : Header} {table m : List ℕ} (r : Ready s h table m) {t from to : ℕ} → Left s h t m → from ≡ get_or table (2 * t + 1) 0 → to ≡ get_or table (2 * t + 2) 0 → Looked s h t from to m from
looked_none {s} {h} {table} {m} r {t} {from} {to} left e f =
    let l = left.known in
    let z : 2 * t + 2 ≡ 2 * t + 1 + 1 = omega arith in
    record {
      sound = r.sound;
      bytes = r.bytes;
      left = left;
      places = r.places;
      first = split_by r (2 * t + 1) (omega arith) e;
      second = subst (λ (k : ℕ). Split s h.arcstart h.arcs k to) z (split_by r (2 * t + 2) (omega arith) f);
      begun = omega arith;
      within = λ i a b. absurd (omega arith);
    }

module _ {s : List ℕ} {h : Header} {t from to : ℕ} {m : List ℕ} {j : ℕ} (c : Looked s h t from to m j) where
  -- a place that t adds to has an arc among from..to
  module _ (q : ℕ) (o : 0 < output (net_from s h) q t) (k : T (capped (net_from s h) q)) where
    arc-of : (i : ℕ) × (from ≤ i) × (i < to) × (place_of s h i ≡ q)
    unfolding output
    arc-of =
        let a = has_arc 1 q t s h.arcstart h.arcs o in
        let b = joins-in s h c.sound 1 t from to (omega arith) c.first c.second q a.at a.below a.joins_it in
        (a.at, b.0, b.1, a.joins_it.place)

    -- one before arc j
    fits_before : (i : ℕ) → from ≤ i → i < j → place_of s h i ≡ q → get_or m q 0 ≤ (net_from s h).cap q
    fits_before i a b e =
        excess_none ((net_from s h).cap q) (get_or m q 0)
        (subst (λ (p : ℕ). excess_over ((net_from s h).cap p) (get_or m p 0) ≡ 0) e (c.within i a b))
        (cap_above (net_from s h) q k)

  pub fits_all : to ≤ j → FullFound (net_from s h) t (held m) None
  fits_all l q o k = let a = arc-of q o k in fits_before q o k a.0 a.1 (omega (arith, a.2)) a.3

  module _ (l : j < to) where
    pub known : j < h.arcs
    known = omega (arith, c.second.within)

    inside : place_of s h j < h.places
    inside = (good_at s h c.sound j known).place

    pub arc-inside : {a : Arc} → a ≡ arc_at s (h.arcstart + 8 * j) → a.place < h.places
    arc-inside {a} is = subst (λ (b : Arc). b.place < h.places) (sym is) inside

    -- the outputs from j on are at places not lower
    rising : (i : ℕ) → j ≤ i → i < to → place_of s h j ≤ place_of s h i
    rising i a b =
        let x = in_joins s h c.sound 1 t from to (omega arith) c.first c.second j c.begun l in
        let y = in_joins s h c.sound 1 t from to (omega arith) c.first c.second i (omega (arith, c.begun)) b in
        let u = key-le s h.arcstart 0 h.arcs j i c.sound.order a (omega (arith, c.second.within)) in
        omega (arith, u, x.transition, x.direction, y.transition, y.direction)

    lower : (q : ℕ) → q < place_of s h j → 0 < output (net_from s h) q t → T (capped (net_from s h) q) → get_or m q 0 ≤ (net_from s h).cap q
    lower q u o k = let a = arc-of q o k in go a (dec_lt a.0 j)
      where
        go : (a : (i : ℕ) × (from ≤ i) × (i < to) × (place_of s h i ≡ q)) → Dec (a.0 < j) → get_or m q 0 ≤ (net_from s h).cap q
        go a (yes b) = fits_before q o k a.0 a.1 b a.3
        go a (no b) = absurd (omega (arith, rising a.0 (omega arith) a.2, a.3))

    few : (p : ℕ) → output (net_from s h) p t ≤ 65535 * h.arcs
    unfolding output
    few p = weight_le 1 p t s c.bytes h.arcstart h.arcs

    module _ (e : ℕ) (is : e ≡ excess_at s h m j) where
      over : (e ≡ 0 → ⊥) → (0 < (net_from s h).cap (place_of s h j)) × (get_or m (place_of s h j) 0 ≡ (net_from s h).cap (place_of s h j) + e)
      over z = excess_some ((net_from s h).cap (place_of s h j)) (get_or m (place_of s h j) 0) e is z

      full : (e ≡ 0 → ⊥) → Overfull (net_from s h) t (held m) (place_of s h j) e
      full z = record {
        place = inside;
        has_cap = has_cap (net_from s h) (place_of s h j) (over z).0;
        amount = (over z).1;
        some = omega (arith, z);
        lowest = lower;
      }

      -- a firing adds less than 2 ^ 28 tokens to a place
      small : e < 4294967296
      small = go (ℕ_discrete e 0)
        where
          go : Dec (e ≡ 0) → e < 4294967296
          go (yes z) = omega arith
          go (no z) =
              let p = place_of s h j in
              omega (arith, (over z).1, c.left.near p inside (has_cap (net_from s h) p (over z).0), few p, c.sound.placed.arcs)

      fits : e ≡ 0 → Looked s h t from to m (j + 1)
      fits z = record {
        sound = c.sound;
        bytes = c.bytes;
        left = c.left;
        places = c.places;
        first = c.first;
        second = c.second;
        begun = omega (arith, c.begun);
        within = λ i a b. go i a b (ℕ_discrete i j);
      }
        where
          go : (i : ℕ) → from ≤ i → i < j + 1 → Dec (i ≡ j) → excess_at s h m i ≡ 0
          go i a b (yes q) = ap (excess_at s h m) q ∙ sym is ∙ z
          go i a b (no q) = c.within i a (omega arith)

    -- the arc that was read, the cap of its place, and the excess over it
    pub look : {a : Arc} → a ≡ arc_at s (h.arcstart + 8 * j) → {cap : ℕ} → cap ≡ (net_from s h).cap a.place → {e : ℕ} → e ≡ excess_over cap (get_or m a.place 0) → Found s h t from to m j a.place e
    look {a} is {cap} at {e} f =
        let g : e ≡ excess_over ((net_from s h).cap a.place) (get_or m a.place 0) = f ∙ ap (λ (k : ℕ). excess_over k (get_or m a.place 0)) at in
        subst (λ (b : Arc). e ≡ excess_over ((net_from s h).cap b.place) (get_or m b.place 0) → Found s h t from to m j b.place e) (sym is)
        (λ x. record { place = omega (arith, inside, c.places); small = small e x; fits = fits e x; full = full e x })
        g
