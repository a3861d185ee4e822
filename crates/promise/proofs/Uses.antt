-- What follows from the fields of `Promise`, and of the records that the calls ensure, where one call's answer goes to the next.
use Prim.Native.Nat.{ℕ, zero, suc, ◌+◌, ◌-◌, ◌*◌, ◌≤◌, ◌<◌}
use mathlib.Core.Bool.{true, false}
use mathlib.Core.List.{List, [], ◌∷◌, ◌++◌}
use mathlib.Core.Path.{◌≡◌, refl, sym, ap, subst, subst⁻¹, ◌∙◌}
use native.Mathlib.Omega.{arith}
use native.Mathlib.Nat.{add-mul}
use lib.ListN.{length, take, drop, get_or, length-take, length-drop, length-map, take-append-drop}
use lib.Seq.{take-add, get_or-take, get_or-drop, ext_get_or}
use lib.Dec.{T, ltb, leb}
use borrow.Author.Tests.{le-ltb, lt-leb, eqb-true, not-false, ltb-true, ltb-false}
use Rattle.net.specs.Numbers.{among, any}
use Rattle.net.specs.Net.{Marking, Net, input, fire, Fires, after, Answer, fired, short, full, replay, tokens, Uncapped, ShortAt, FullAt, Supplied}
use Rattle.net.specs.Rakow.{Set, adding, less, Inner, OuterEnds, outer_ends, changing, raising, SliceEnds, SafetySliceEnds}
use Rattle.net.specs.Slice.{project, own, own_place, arcs_of, Accepted}
use Rattle.net.specs.Guarantee.{PlanFires, plan_tokens, SliceFires, slice_tokens, struck, Guarantee}
use Rattle.net.specs.Conclusions.{StuckForGood}
use Rattle.net.specs.Run.{fired_at}
use Rattle.net.specs.Together.{Takable}
use Rattle.net.proofs.Numbers.{by_cases, by_order, position-lt, rising_selected, length-selected}
use Rattle.net.proofs.Markings.{below_at, below-off, length-tokens}
use Rattle.net.proofs.Replay.{leads_fires, fires_leads}
use Rattle.net.proofs.Conclusions.{short_for_good, full_for_good}
use Rattle.file_words.specs.Word.{byte_at}
use Rattle.file_words.proofs.Laws.{refuse-0, or_else_0}
use Rattle.file_arcs.specs.Layout.{arcs_from}
use Rattle.file_header.specs.Layout.{trailer_of, header_of}
use Rattle.file_header.specs.Refusal.{letters_wrong, kind_wrong, trailer_refusal}
use Rattle.file_header.specs.declared.Due.TheVariants as due
use Rattle.file.specs.Layout.{cap_at, net_of, slice_of}
use Rattle.file.specs.Refusal.{length_wrong, file_refusal}
use Rattle.file.proofs.Criterion.{passed}
use Rattle.promise.specs.Calls.{safety_file, branching_file, checked_bytes, written, Accepts}
use Rattle.promise.specs.Firing.{list_refusal, replay_refusal, ReplayAnswer, replay_told, replay_or, replay_answer, replay_marking, named}
use Rattle.promise.specs.Shadow.{FollowedIn}
use Rattle.promise.specs.Together.{standing, TogetherAnswer, TakesLargest}
use Rattle.promise.specs.RunCut.{RunAnswer, Feeds, RunsBack}
use Rattle.promise.specs.Promise.{Promise}
use Rattle.promise.specs.Uses.{LeadsOn, EqualOn, EnoughOn, Endless, Uses}
use Rattle.promise.proofs.Replays.{differ, not_stuck, answered}
use Rattle.promise.proofs.Demands.{slice_well_formed, check_passes}
use Rattle.promise.proofs.Shadow.{written_entry}
use Rattle.promise.proofs.Rooms.{list_short, project-few}

-- ---- when a replay is not refused

-- a slice that can be read can be replayed
pub either : (s : List ℕ) → file_refusal due.Slice s ≡ 0 → file_refusal due.Either s ≡ 0
unfolding file_refusal trailer_refusal
either s e =
    let t = trailer_of s in
    let l = refuse-0 (length_wrong (length s)) 0 _ e in
    let a = or_else_0 _ _ l.1 in
    let letters = refuse-0 (letters_wrong t) 1 _ a.0 in
    let kind = refuse-0 (kind_wrong due.Slice t.kind) 2 _ letters.1 in
    let one : t.kind ≡ 1 = eqb-true _ _ (not-false _ kind.0) in
    rw (l.0, letters.0, le-ltb 1 t.kind (omega (arith, one)), kind.1, a.1)

-- a list that fires has known numbers
fires_known : (N : Net) (M : Marking) (ts : List ℕ) → Fires N M ts → any (λ t. leb N.transitions t) ts ≡ false
unfolding Fires any
fires_known N M [] f = refl
fires_known N M (t ∷ ts) (l, en, f) = rw (lt-leb N.transitions t l) (fires_known N (fire N t M) ts f)

pub passes : (file list : List ℕ) (room : ℕ) → file_refusal due.Either file ≡ 0 → PlanFires (net_of file) list → length list ≤ 65535 → (net_of file).places ≤ room → replay_refusal file list room ≡ 0
unfolding PlanFires replay_refusal list_refusal
passes file list room r f s h = rw (r, le-ltb 65535 (length list) s, fires_known (net_of file) (net_of file).marking list f, le-ltb room (net_of file).places h)

not-refused : (n : ℕ) (a : Answer) → (replay_or n a).refused ≡ false → n ≡ 0
not-refused zero a e = refl
not-refused (suc n) a e = differ (sym e)

-- an answer fired is no refusal
pub fired_passes : (file list : List ℕ) (room : ℕ) → replay_answer file list room ≡ replay_told fired → replay_refusal file list room ≡ 0
unfolding replay_answer
fired_passes file list room e = not-refused (replay_refusal file list room) (replay (net_of file) list).answer (ap (λ (a : ReplayAnswer). a.refused) e)

list_passes : (file list : List ℕ) (room : ℕ) → replay_refusal file list room ≡ 0 → length list ≤ 65535
unfolding replay_refusal
list_passes file list room e = list_short (net_of file).transitions list (or_else_0 _ _ (or_else_0 (file_refusal due.Either file) _ e).1).0

-- ---- where a list sticks

upto : (ts : List ℕ) (i j : ℕ) → i < j → take j ts ≡ take (suc i) ts ++ take (j - suc i) (drop (suc i) ts)
upto ts i j l =
    let e : j ≡ suc i + (j - suc i) = omega arith in
    ap (λ (n : ℕ). take n ts) e ∙ take-add (suc i) (j - suc i) ts

no_sooner : (N : Net) (ts : List ℕ) (i j : ℕ) → StuckForGood N ts i → StuckForGood N ts j → ¬ (i < j)
no_sooner N ts i j s t l = s.never (take (j - suc i) (drop (suc i) ts)) (subst (λ (us : List ℕ). PlanFires N us) (upto ts i j l) t.before)

one_index : (N : Net) (ts : List ℕ) (i j : ℕ) → StuckForGood N ts i → StuckForGood N ts j → i ≡ j
one_index N ts i j s t = by_order i j (λ l. absurd (no_sooner N ts i j s t l)) (λ e. e) (λ l. absurd (no_sooner N ts j i t s l))

one_place : (N : Net) (t : ℕ) (M : Marking) (p n q m : ℕ) → ShortAt N t M p n → ShortAt N t M q m → (p ≡ q) × (n ≡ m)
one_place N t M p n q m x y =
    let e : p ≡ q = by_order p q (λ l. absurd (omega (arith, y.lowest p l, x.amount, x.some))) (λ e. e) (λ l. absurd (omega (arith, x.lowest q l, y.amount, y.some))) in
    (e, (let z = subst (λ (r : ℕ). M r + n ≡ input N r t) e x.amount in omega (arith, z, y.amount)))

-- ---- takings

distributed : (b a n : ℕ) → (b + a) * n ≡ b * n + a * n
distributed b a n = add-mul b a n

-- ---- no endless run

module _ (N : Net) (W : ℕ → Set) {P₀ T₀ done₀ : Set} (r : Endless N W P₀ T₀ done₀) where
  stops : {P' T' done : Set} → OuterEnds N W P' T' done → (i : ℕ) → r.places i ≡ P' → r.transitions i ≡ T' → r.gone i ≡ done → ⊥
  stops {P'} {T'} {done} (outer_ends inner next) i p≡ t≡ d≡ =
      let (p, l, run, same) = r.turn i in
      let l' : T (less P' done p) = subst (λ (X : Set). T (less X done p)) p≡ (subst (λ (X : Set). T (less (r.places i) X p)) d≡ l) in
      let run' : Inner N (W p) P' T' (r.places (suc i)) (r.transitions (suc i)) =
      subst (λ (X : Set). Inner N (W p) X T' (r.places (suc i)) (r.transitions (suc i))) p≡ (subst (λ (X : Set). Inner N (W p) (r.places i) X (r.places (suc i)) (r.transitions (suc i))) t≡ run) in
      stops (next p l' (r.places (suc i)) (r.transitions (suc i)) run') (suc i) refl refl (same ∙ ap (λ (X : Set). adding X p) d≡)

  none_endless : OuterEnds N W P₀ T₀ done₀ → ⊥
  none_endless e = stops e 0 r.starts.0 r.starts.1 r.starts.2

-- ---- edition 1

uncapped_1 : (s : List ℕ) → (header_of s).edition ≡ 1 → Uncapped (net_of s)
unfolding Uncapped
uncapped_1 s e p =
    let h = header_of s in
    by_cases (ltb p h.places)
    (λ l. below_at h.places (cap_at s h) p (ltb-true p h.places l) ∙ rw e)
    (λ l. below-off h.places (cap_at s h) p (ltb-false p h.places l))

-- ---- eight bytes

eight : (s : List ℕ) (i : ℕ) → i + 8 ≤ length s → length (take 8 (drop i s)) ≡ 8
eight s i h = omega (arith, length-take 8 (drop i s), length-drop i s)

byte_of : (s : List ℕ) (i k : ℕ) → k < 8 → get_or (take 8 (drop i s)) k 0 ≡ byte_at s (i + k)
byte_of s i k l = get_or-take 8 (drop i s) k 0 l ∙ get_or-drop i s k 0

-- ---- all of it, from the fields

module _ (P : Promise) where
  -- a list that fires is answered fired, and the marking is the one after it
  fired_on_lem : (file list : List ℕ) (room : ℕ) → replay_refusal file list room ≡ 0 → PlanFires (net_of file) list → replay_answer file list room ≡ replay_told fired
  fired_on_lem file list room e f =
      let told = answered file list room e in
      told ∙ ap replay_told (not_stuck (replay (net_of file) list).answer (sym (ap (λ (a : ReplayAnswer). a.stuck) told) ∙ (P.replays file list room e).fires.1 f))

  ends_on : (file list lent : List ℕ) → replay_refusal file list (length lent) ≡ 0 → PlanFires (net_of file) list → (p : ℕ) → p < (net_of file).places
      → get_or (replay_marking file list lent) p 0 ≡ after (net_of file) (net_of file).marking list p
  unfolding replay_marking
  ends_on file list lent e f p l =
      rw e (written_entry (net_of file) (replay (net_of file) list).marking _ p l)
      ∙ ap (λ (M : Marking). M p) ((P.replays file list (length lent) e).ends f)

  leads : (file list lent : List ℕ) → replay_refusal file list (length lent) ≡ 0 → LeadsOn file list lent
  unfolding PlanFires replay_marking
  leads file list lent e =
      let N = net_of file in
      let r = P.replays file list (length lent) e in
      record {
        fired = (
          λ h. (after N N.marking list, fires_leads N N.marking list (r.fires.0 (ap (λ (a : ReplayAnswer). a.stuck) h))),
          λ (M, l). fired_on_lem file list (length lent) e (leads_fires N N.marking M list l).0,
        );
        written = λ M l.
            let f = leads_fires N N.marking M list l in
            let same : (replay N list).marking ≡ M = r.ends f.0 ∙ sym f.1 in
            ap (λ (n : ℕ). written n (tokens N (replay N list).marking) lent) e
            ∙ ap (λ (m : Marking). tokens N m ++ drop (length (tokens N m)) lent) same
            ∙ ap (λ (n : ℕ). tokens N M ++ drop n lent) (length-tokens N M);
      }

  module _ (plan slice Q : List ℕ) (a : Accepts plan slice Q) where
    rules : Accepted (net_of plan) (slice_of slice) Q
    rules = ((P.judges plan slice Q).accepts.0 a).1

    slice_read : file_refusal due.Slice slice ≡ 0
    slice_read = (check_passes plan slice Q ((P.judges plan slice Q).accepts.0 a).0).0

    known : (q : ℕ) → T (among q Q) → q < (net_of plan).places
    known q h = (passed (net_of plan).places Q (check_passes plan slice Q ((P.judges plan slice Q).accepts.0 a).0).1).known q h

    own-known : (q : ℕ) → T (among q Q) → own_place (slice_of slice) q < (net_of slice).places
    own-known q h = omega (arith, (slice_well_formed slice slice_read).place_count, position-lt q (slice_of slice).place_origins (rules.criterion_kept q h))

    replayed : (list lent : List ℕ) (M : Marking) → Fires (net_of slice) (net_of slice).marking list → length list ≤ 65535 → (net_of slice).places ≤ length lent
        → ((q : ℕ) → T (among q Q) → after (net_of slice) (net_of slice).marking list (own_place (slice_of slice) q) ≡ M q) → EqualOn slice list lent Q M
    unfolding PlanFires
    replayed list lent M f s h same =
        let e = passes slice list (length lent) (either slice slice_read) f s h in
        record { fired = fired_on_lem slice list (length lent) e f; tokens = λ q i. ends_on slice list lent e f (own_place (slice_of slice) q) (own-known q i) ∙ same q i }

    projected_on : (list lent marking : List ℕ) → Guarantee (net_of plan) (slice_of slice) Q → replay_answer plan list (length marking) ≡ replay_told fired
        → (net_of slice).places ≤ length lent → EqualOn slice (project (slice_of slice) list) lent Q (standing (replay_marking plan list marking))
    unfolding project SliceFires slice_tokens plan_tokens struck
    projected_on list lent marking g t h =
        let e = fired_passes plan list (length marking) t in
        let f = (P.replays plan list (length marking) e).fires.0 (ap (λ (x : ReplayAnswer). x.stuck) t) in
        replayed (project (slice_of slice) list) lent (standing (replay_marking plan list marking)) (g.shadow_fires list f).1
        (omega (arith, project-few (slice_of slice) list, list_passes plan list (length marking) e)) h
        (λ q i. g.shadow_tokens list f q i ∙ sym (ends_on plan list marking e f q (known q i)))

  followed_on : (plan slice shadow marking lent Q : List ℕ) → FollowedIn plan slice shadow marking → Accepts plan slice Q → length shadow ≤ 65535
      → (net_of slice).places ≤ length lent → EqualOn slice shadow lent Q (standing marking)
  followed_on plan slice shadow marking lent Q x a s h = replayed plan slice Q a shadow lent (standing marking) (x.fires Q a) s h (x.tokens Q a)

  fed : (plan Q list file positions lent : List ℕ) → Feeds plan Q list file positions → length list ≤ 65535
      → (net_of file).places ≤ length lent → EnoughOn file (own (slice_of file).transition_origins (fired_at list positions)) lent Q (plan_tokens (net_of plan) list)
  unfolding own fired_at SliceFires slice_tokens PlanFires
  fed plan Q list file positions lent x s h =
      let chosen = own (slice_of file).transition_origins (fired_at list positions) in
      let rising = rising_selected positions 0 (length list) x.rise (λ i k. (omega arith, omega (arith, x.inside i k))) in
      let few : length positions ≤ length list = omega (arith, ap length rising, length-selected (λ i. among i positions) 0 (length list)) in
      let long : length chosen ≡ length positions = length-map (fired_at list positions) _ ∙ length-map positions _ in
      let f = x.fires.1 in
      let e = passes file chosen (length lent) (either file x.read) f (omega (arith, long, few)) h in
      let there : (q : ℕ) → T (among q Q) → own_place (slice_of file) q < (net_of file).places =
      λ q i. omega (arith, (slice_well_formed file x.read).place_count, position-lt q (slice_of file).place_origins (x.criterion q i)) in
      record {
        fired = fired_on_lem file chosen (length lent) e f;
        tokens = λ q i. omega (arith, ends_on file chosen lent e f (own_place (slice_of file) q) (there q i), x.enough q i);
      }

  module _ (plan Q list : List ℕ) (a : RunAnswer) (exit positions : List ℕ) (room : ℕ) (x : RunsBack plan Q list a exit positions) (w : a.refusal ≡ 14) (e : replay_refusal plan list room ≡ 0) where
    abbrev N : Net
    N = net_of plan

    abbrev m : Marking
    m = (replay N list).marking

    told-there : ShortAt N (get_or list a.index 0) m a.place a.amount
    told-there = (x.sticks w).1

    for_good : StuckForGood N list a.index
    for_good = short_for_good N list a.index m (x.sticks w).0 a.place a.amount told-there

    by_answer : (r : Answer) → (replay N list).answer ≡ r
        → replay_told r ≡ record { refused = false; refusal = 0; stuck = true; full = false; index = a.index; place = a.place; amount = a.amount }
    unfolding PlanFires Supplied
    by_answer fired same =
        let told = answered plan list room e ∙ ap replay_told same in
        let f = (P.replays plan list room e).fires.0 (ap (λ (y : ReplayAnswer). y.stuck) told) in
        absurd (for_good.never (drop (suc a.index) list) (subst⁻¹ (λ (l : List ℕ). PlanFires N l) (take-append-drop (suc a.index) list) f))
    by_answer (short i p n) same =
        let s = (P.replays plan list room e).sticks i p n (answered plan list room e ∙ ap replay_told same) in
        let i≡ : i ≡ a.index = one_index N list i a.index (short_for_good N list i m s.0 p n s.1) for_good in
        let here : ShortAt N (get_or list a.index 0) m p n = subst (λ (k : ℕ). ShortAt N (get_or list k 0) m p n) i≡ s.1 in
        let (p≡, n≡) = one_place N (get_or list a.index 0) m p n a.place a.amount here told-there in
        λ k. replay_told (short (i≡ k) (p≡ k) (n≡ k))
    by_answer (full i p n) same =
        let s = (P.replays plan list room e).fills i p n (answered plan list room e ∙ ap replay_told same) in
        let i≡ : i ≡ a.index = one_index N list i a.index (full_for_good N list i m s.0 p n s.1) for_good in
        let here : FullAt N (get_or list a.index 0) m p n = subst (λ (k : ℕ). FullAt N (get_or list k 0) m p n) i≡ s.1 in
        absurd (omega (arith, here.supplied a.place told-there.place, told-there.amount, told-there.some))

    stuck : replay_answer plan list room ≡ record { refused = false; refusal = 0; stuck = true; full = false; index = a.index; place = a.place; amount = a.amount }
    stuck = answered plan list room e ∙ by_answer (replay N list).answer refl

  module _ (plan : List ℕ) (t : ℕ) (marking : List ℕ) (a b : TogetherAnswer) (exit again : List ℕ) (x : TakesLargest plan t marking a exit) (ra : a.refused ≡ false) (ua : a.unlimited ≡ false)
      (long : (net_of plan).places ≤ length marking) (y : TakesLargest plan t (take (length marking) exit) b again) (rb : b.refused ≡ false) where
    limited : b.unlimited ≡ false
    limited = by_cases b.unlimited (λ u. differ (sym ua ∙ (x.unlimited ra).1 ((y.unlimited rb).0 u))) (λ u. u)

    none_left : b.times ≡ 0
    unfolding Takable
    none_left =
        let N = net_of plan in
        let first = x.largest ra ua in
        let second = y.largest rb limited in
        let both : Takable N t (standing marking) (b.times + a.times) = λ p l.
        let left = get_or-take (length marking) exit p 0 (omega (arith, long, l)) in
        omega (arith, distributed b.times a.times (input N p t), second.fits p l, left, first.exact p l) in
        omega (arith, first.largest (b.times + a.times) both)

  pub uses : Uses
  unfolding SafetySliceEnds SliceEnds
  uses = record {
    leads_on = leads;
    counted = λ plan Q a exit w z. record { own = w.accepted z; places = λ other ok. w.places z other ok; transitions = λ other ok. w.transitions z other ok };
    two_calls = λ plan q buffer b even w. record {
      own = (P.demand_3_bytes plan [] q buffer b even).own_cut w;
      places = λ other ok. (P.demand_3_bytes plan other q buffer b even).places w ok;
      transitions = λ other ok. (P.demand_3_bytes plan other q buffer b even).transitions w ok;
    };
    projected = λ plan slice Q list lent marking g a. projected_on plan slice Q a list lent marking g;
    followed = followed_on;
    fed_on = fed;
    stuck_alike = stuck;
    taken_again = λ plan t marking a b exit again x ra ua long y rb. (limited plan t marking a b exit again x ra ua long y rb, none_left plan t marking a b exit again x ra ua long y rb);
    nothing_fed = λ plan list buffer positions b r n k f h.
        ap (λ (file : List ℕ). checked_bytes plan file []) (P.run_for_nothing plan list buffer positions b r n k f (omega (arith, h))).same_bytes ∙ (P.cut_for_nothing plan buffer b r h).accepted;
    no_endless = λ plan Q b e none. (
      λ r. none_endless (net_of plan) (raising (net_of plan)) r (P.published plan Q b e none).safety_ends,
      λ r. none_endless (net_of plan) (changing (net_of plan)) r (P.published plan Q b e none).ctl_ends,
    );
    no_caps = λ plan Q b e h. (uncapped_1 (safety_file plan Q) ((P.reads_back plan Q b e).safety_edition ∙ h), uncapped_1 (branching_file plan Q) ((P.reads_back plan Q b e).branching_edition ∙ h));
    read_at = λ plan slice of_slice t p s k.
        ap (λ (l : List ℕ). arcs_from l 0 (length (arcs_of t (net_of (named of_slice plan slice)).arcs))) (P.parts plan slice of_slice t).part ∙ (P.runs plan slice of_slice t p s k).arcs;
    one_record = λ s s' b b' i j h h'. (
      λ e. ext_get_or 0 (take 8 (drop i s)) (take 8 (drop j s')) (eight s i h ∙ sym (eight s' j h')) (λ k l.
          let k8 : k < 8 = omega (arith, eight s i h) in byte_of s i k k8 ∙ (P.one_word s s' b b' i j).equal.0 e k k8 ∙ sym (byte_of s' j k k8)),
      λ e. (P.one_word s s' b b' i j).equal.1 (λ k l. sym (byte_of s i k l) ∙ ap (λ (x : List ℕ). get_or x k 0) e ∙ byte_of s' j k l),
    );
  }
