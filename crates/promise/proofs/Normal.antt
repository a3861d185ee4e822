-- The normal form of a plan reads back as the plan with its parallel arcs joined, is its own normal form, and tells nets apart.
use Prim.Native.Nat.{ℕ, zero, suc, ◌+◌, ◌*◌, ◌≤◌, ◌<◌}
use mathlib.Core.Bool.{Bool, true, false, ◌&&◌, ◌||◌}
use mathlib.Core.List.{List, map}
use mathlib.Core.Path.{◌≡◌, refl, sym, ap, subst⁻¹, ◌∙◌}
use mathlib.Core.Logic.{◌↔◌, ◌≢◌}
use native.Mathlib.Omega.{arith}
use lib.ListN.{length, take, drop}
use lib.Seq.{take_at}
use lib.Dec.{eqb, ltb}
use borrow.Author.Tests.{eqb-true, eq-eqb, le-ltb, not-false, ltb-true, ltb-false}
use Rattle.net.specs.Net.{Marking, Net, Replay, capped, WithinCaps, weight_on, input, output, replay_from, replay, tokens}
use Rattle.net.specs.Normal.{joined, normal_of, SameNet, Light, FaresAlike}
use Rattle.net.proofs.Numbers.{by_cases}
use Rattle.net.proofs.Markings.{below-off}
use Rattle.net.proofs.Normal.{weight_joined, same_net, fares_alike, same_back, same_through, alike_back, alike_through}
use Rattle.file_words.specs.Word.{Bytes}
use Rattle.file_words.specs.Refusal.{refuse, or_else}
use Rattle.file_words.proofs.Laws.{refuse-0, or_else_0, or-false}
use Rattle.file_header.specs.Layout.{trailer_of, header_of, places_length, in_slice}
use Rattle.file_header.specs.Refusal.{letters_wrong, kind_wrong, counts_wrong, trailer_refusal}
use Rattle.file_header.specs.declared.Due.TheVariants as due
use Rattle.file_header.specs.declared.Header.{Header}
use Rattle.file_header.specs.declared.Trailer.{Trailer}
use Rattle.file_arcs.specs.Refusal.{key}
use Rattle.file_arcs.specs.Facts.{InRange}
use Rattle.file_arcs.proofs.Rows.{length-arcs_from}
use Rattle.file.specs.Layout.{marking_at, cap_at, net_of}
use Rattle.file.specs.Refusal.{length_wrong, body_refusal, file_refusal}
use Rattle.file.specs.Facts.{Sound, RisingFrom}
use Rattle.file.proofs.Opening.{sound}
use Rattle.file.proofs.Caps.{marking_lt, cap_lt}
use Rattle.file_writing.specs.Writing.{plan_bytes}
use Rattle.file_writing.proofs.Parts.{NetWritable}
use Rattle.file_writing.proofs.PlanTrip.{plan_header, plan_back, plan_passes, plan_room}
use Rattle.promise.specs.Calls.{written}
use Rattle.promise.specs.Firing.{list_refusal, replay_refusal, replay_or, replay_answer, replay_marking}
use Rattle.promise.specs.Normal.{weights_refusal, normal_refusal, normal_file, normal_write_refusal, FileAnswer, file_answer, normal_answer, normal_buffer, Weighed, NormalForm, OneForm, WritesNormal, OnePlan}
use Rattle.promise.proofs.Joined.{joined-range, joined-rise, joined_same, rising_same, rising_ordered, joined_length, weights_fit, weights_25, light_sums, sums_light}
use Rattle.promise.proofs.Replays.{differ}

-- ---- what reading a plan makes sure of

-- a trailer that passes as a plan's: of kind 0, with a place or a transition, and so it passes where either kind is due
module _ (n : ℕ) (t : Trailer) (e : trailer_refusal due.Plan n t ≡ 0) where
  is_plan : t.kind ≡ 0
  unfolding trailer_refusal
  is_plan =
      let l = refuse-0 (letters_wrong t) 1 _ e in
      eqb-true t.kind 0 (not-false _ (refuse-0 (kind_wrong due.Plan t.kind) 2 _ l.1).0)

  some_in : eqb t.places 0 && eqb t.transitions 0 ≡ false
  unfolding trailer_refusal
  some_in =
      let l = refuse-0 (letters_wrong t) 1 _ e in
      let k = refuse-0 (kind_wrong due.Plan t.kind) 2 _ l.1 in
      let c = refuse-0 (counts_wrong t) 3 _ k.1 in
      let last = (or-false (ltb 1024 t.places || ltb 1024 t.transitions || ltb 4096 t.arcs) (eqb t.places 0 && eqb t.transitions 0 && eqb t.kind 0) c.0).1 in
      alone (eqb t.places 0 && eqb t.transitions 0) (eqb t.kind 0) (eq-eqb t.kind 0 is_plan) last
    where
      alone : (a b : Bool) → b ≡ true → a && b ≡ false → a ≡ false
      alone false b f g = refl
      alone true true f g = g
      alone true false f g = differ f

  either-in : trailer_refusal due.Either n t ≡ 0
  unfolding trailer_refusal
  either-in =
      let l = refuse-0 (letters_wrong t) 1 _ e in
      let k = refuse-0 (kind_wrong due.Plan t.kind) 2 _ l.1 in
      let z = is_plan in
      rw (l.0, le-ltb 1 t.kind (omega (arith, z))) k.1

module _ (plan : List ℕ) (readable : file_refusal due.Plan plan ≡ 0) where
  trailer_passes : trailer_refusal due.Plan (length plan) (trailer_of plan) ≡ 0
  unfolding file_refusal
  trailer_passes = (or_else_0 _ _ (refuse-0 (length_wrong (length plan)) 0 _ readable).1).0

  some_node : eqb (net_of plan).places 0 && eqb (net_of plan).transitions 0 ≡ false
  unfolding header_of
  some_node = some_in (length plan) (trailer_of plan) trailer_passes

  either-passes : file_refusal due.Either plan ≡ 0
  unfolding file_refusal
  either-passes =
      let l = refuse-0 (length_wrong (length plan)) 0 _ readable in
      rw (l.0, either-in (length plan) (trailer_of plan) trailer_passes) (or_else_0 (trailer_refusal due.Plan (length plan) (trailer_of plan)) (body_refusal plan (header_of plan)) l.1).1

  -- ---- 25 goes by the sums

  sound_plan : Sound plan (header_of plan)
  sound_plan = sound due.Plan plan readable

  narrow : (net_of plan).places ≤ 65536
  narrow = omega (arith, sound_plan.placed.places)

  by_weights : normal_refusal plan ≡ weights_refusal (joined (net_of plan).arcs)
  unfolding normal_refusal
  by_weights = rw readable

  rises : RisingFrom 0 (map key (joined (net_of plan).arcs))
  rises = joined-rise (net_of plan).places (net_of plan).transitions narrow 0 (net_of plan).arcs sound_plan.arcs sound_plan.order

  light_all : normal_refusal plan ≡ 0 → (d p t : ℕ) → weight_on d p t (net_of plan).arcs ≤ 65535
  light_all e d p t = omega (arith, light_sums 0 (joined (net_of plan).arcs) rises (sym by_weights ∙ e) d p t, weight_joined d p t (net_of plan).arcs)

  none_heavy : Light (net_of plan) → normal_refusal plan ≡ 0
  unfolding Light input output
  none_heavy h = by_weights ∙ sums_light (net_of plan).places (net_of plan).transitions (joined (net_of plan).arcs)
      (joined-range (net_of plan).places (net_of plan).transitions narrow (net_of plan).arcs sound_plan.arcs) at
    where
      at : (d p t : ℕ) → d ≤ 1 → p < (net_of plan).places → t < (net_of plan).transitions → weight_on d p t (joined (net_of plan).arcs) ≤ 65535
      at zero p t x y z = omega (arith, weight_joined 0 p t (net_of plan).arcs, (h p t y z).0)
      at (suc zero) p t x y z = omega (arith, weight_joined 1 p t (net_of plan).arcs, (h p t y z).1)
      at (suc (suc d)) p t x y z = absurd (omega arith)

  pub weighed : Weighed plan
  unfolding Light input output
  weighed = record {
    light = (λ e p t x y. (light_all e 0 p t, light_all e 1 p t), none_heavy);
    heavy = λ h. by_weights ∙ weights_25 (joined (net_of plan).arcs) (λ z. h (by_weights ∙ z));
  }

-- ---- a plan that has a normal form

module _ (plan : List ℕ) (bytes : Bytes plan) (none : normal_refusal plan ≡ 0) where
  abbrev N : Net
  N = net_of plan

  pub readable : file_refusal due.Plan plan ≡ 0
  unfolding normal_refusal
  readable = (or_else_0 (file_refusal due.Plan plan) _ none).0

  light : weights_refusal (joined N.arcs) ≡ 0
  unfolding normal_refusal
  light = (or_else_0 (file_refusal due.Plan plan) _ none).1

  whole : Sound plan (header_of plan)
  whole = sound due.Plan plan readable

  few : N.places ≤ 65536
  few = omega (arith, whole.placed.places)

  arcs_range : InRange N.places N.transitions (joined N.arcs)
  arcs_range = joined-range N.places N.transitions few N.arcs whole.arcs

  arcs_rise : RisingFrom 0 (map key (joined N.arcs))
  arcs_rise = joined-rise N.places N.transitions few 0 N.arcs whole.arcs whole.order

  pub normal_writable : NetWritable 2 (normal_of N)
  unfolding normal_of WithinCaps capped
  normal_writable = record {
    edition_known = refl;
    edition_small_lem = omega arith;
    places = whole.placed.places;
    transitions = whole.placed.transitions;
    arcs = omega (arith, joined_length N.arcs, length-arcs_from plan (header_of plan).arcstart (header_of plan).arcs, whole.placed.arcs);
    markings = λ p h. marking_lt plan bytes (header_of plan) p;
    no_others = below-off N.places (marking_at plan (header_of plan));
    caps = λ p h. cap_lt plan bytes (header_of plan) p;
    no_other_caps = below-off N.places (cap_at plan (header_of plan));
    no_caps = λ e. differ (sym e);
    within = whole.caps;
    in_range = arcs_range;
    fit = weights_fit N.places N.transitions (joined N.arcs) whole.placed.places whole.placed.transitions arcs_range light;
    order = rising_ordered 0 (map key (joined N.arcs)) arcs_rise;
  }

  pub normal_back : net_of (normal_file plan) ≡ normal_of N
  unfolding normal_file
  normal_back = plan_back 2 (normal_of N) normal_writable

  normal_read : file_refusal due.Plan (normal_file plan) ≡ 0
  unfolding normal_file normal_of
  normal_read = plan_passes 2 (normal_of N) normal_writable (some_node plan readable)

  normal_header : ((header_of (normal_file plan)).markstart ≡ 0) × ((header_of (normal_file plan)).edition ≡ 2)
  unfolding normal_file
  normal_header =
      let h = plan_header 2 (normal_of N) normal_writable in
      (ap (λ (x : Header). x.markstart) h, ap (λ (x : Header). x.edition) h)

  -- joined arcs are joined
  joined-twice : joined (joined N.arcs) ≡ joined N.arcs
  joined-twice = joined_same N.places N.transitions few 0 (joined N.arcs) arcs_range arcs_rise

  normal_twice : normal_of (normal_of N) ≡ normal_of N
  unfolding normal_of
  normal_twice = λ i. record { places = N.places; transitions = N.transitions; marking = N.marking; cap = N.cap; arcs = joined-twice i }

  again : normal_refusal (normal_file plan) ≡ 0
  unfolding normal_refusal normal_of
  again = rw normal_read (ap (λ (K : Net). weights_refusal (joined K.arcs)) normal_back ∙ ap weights_refusal joined-twice ∙ light)

  twice : normal_file (normal_file plan) ≡ normal_file plan
  unfolding normal_file
  twice = ap (λ (K : Net). plan_bytes 2 (normal_of K)) normal_back ∙ ap (plan_bytes 2) normal_twice

  -- replay, refusals too
  same_refusal : (list : List ℕ) (room : ℕ) → replay_refusal plan list room ≡ replay_refusal (normal_file plan) list room
  unfolding replay_refusal normal_of
  same_refusal list room =
      rw (either-passes plan readable, either-passes (normal_file plan) normal_read)
      (ap (λ (K : Net). or_else (list_refusal K.transitions list) (refuse (ltb room K.places) 13 0)) (sym normal_back))

  same_replay : (list : List ℕ) → replay N list ≡ replay (net_of (normal_file plan)) list
  unfolding replay normal_of
  same_replay list = (fares_alike N).replays 0 N.marking list ∙ ap (λ (K : Net). replay_from K 0 K.marking list) (sym normal_back)

  same_tokens : (M : Marking) → tokens N M ≡ tokens (net_of (normal_file plan)) M
  unfolding tokens normal_of
  same_tokens M = ap (λ (K : Net). tokens K M) (sym normal_back)

  pub normal_form : NormalForm plan (normal_file plan)
  unfolding replay_answer replay_marking
  normal_form = record {
    read = normal_read;
    net = normal_back;
    header = normal_header;
    again = again;
    twice = twice;
    fares = subst⁻¹ (FaresAlike N) normal_back (fares_alike N);
    replayed = λ list room i. replay_or (same_refusal list room i) (same_replay list i).answer;
    marked = λ list marking i. written (same_refusal list (length marking) i) ((same_tokens (replay N list).marking ∙ ap (λ (r : Replay). tokens (net_of (normal_file plan)) r.marking) (same_replay list)) i) marking;
  }

  pub normal_room : length (normal_file plan) ≤ 40976
  unfolding normal_file
  normal_room = plan_room 2 (normal_of N) normal_writable

-- ---- two plans

module _ (a b : List ℕ) (bytes-a : Bytes a) (bytes-b : Bytes b) (none-a : normal_refusal a ≡ 0) (none-b : normal_refusal b ≡ 0) where
  abbrev Na : Net
  Na = net_of a

  abbrev Nb : Net
  Nb = net_of b

  -- equal bytes read as one net
  nets_equal : normal_file a ≡ normal_file b → normal_of Na ≡ normal_of Nb
  nets_equal e = sym (normal_back a bytes-a none-a) ∙ ap net_of e ∙ normal_back b bytes-b none-b

  told_same : normal_file a ≡ normal_file b → SameNet Na Nb
  told_same e = same_through (same_net Na) (subst⁻¹ (λ (K : Net). SameNet K Nb) (nets_equal e) (same_back (same_net Nb)))

  module _ (x : SameNet Na Nb) where
    marking_same : (p : ℕ) → Na.marking p ≡ Nb.marking p
    marking_same p = by_cases (ltb p Na.places)
        (λ e. x.markings p (ltb-true p Na.places e))
        (λ e. let l = ltb-false p Na.places e in
        below-off Na.places (marking_at a (header_of a)) p l ∙ sym (below-off Nb.places (marking_at b (header_of b)) p (omega (arith, x.places))))

    cap_same : (p : ℕ) → Na.cap p ≡ Nb.cap p
    cap_same p = by_cases (ltb p Na.places)
        (λ e. x.caps p (ltb-true p Na.places e))
        (λ e. let l = ltb-false p Na.places e in
        below-off Na.places (cap_at a (header_of a)) p l ∙ sym (below-off Nb.places (cap_at b (header_of b)) p (omega (arith, x.places))))

    weight_same : (d p t : ℕ) → d ≤ 1 → p < Na.places → t < Na.transitions → weight_on d p t Na.arcs ≡ weight_on d p t Nb.arcs
    unfolding input output
    weight_same zero p t h l m = x.inputs p t l m
    weight_same (suc zero) p t h l m = x.outputs p t l m
    weight_same (suc (suc d)) p t h l m = absurd (omega arith)

    arcs_same : joined Na.arcs ≡ joined Nb.arcs
    arcs_same =
        rising_same Na.places Na.transitions (few a bytes-a none-a) 0 0 (joined Na.arcs) (joined Nb.arcs)
        (arcs_range a bytes-a none-a)
        (subst⁻¹ (λ (n : ℕ). InRange n Na.transitions (joined Nb.arcs)) x.places (subst⁻¹ (λ (n : ℕ). InRange Nb.places n (joined Nb.arcs)) x.transitions (arcs_range b bytes-b none-b)))
        (arcs_rise a bytes-a none-a) (arcs_rise b bytes-b none-b)
        (λ d p t h l m. weight_joined d p t Na.arcs ∙ weight_same d p t h l m ∙ sym (weight_joined d p t Nb.arcs))

    bytes_same : normal_file a ≡ normal_file b
    unfolding normal_file normal_of
    bytes_same = λ i. plan_bytes 2 (record { places = x.places i; transitions = x.transitions i; marking = λ p. marking_same p i; cap = λ p. cap_same p i; arcs = arcs_same i })

  pub one_form : OneForm a b
  one_form = record { equal = (told_same, bytes_same) }

-- ---- at the call

not-refused : (n k : ℕ) → (file_answer n k).refused ≡ false → n ≡ 0
not-refused zero k e = refl
not-refused (suc n) k e = differ (sym e)

module _ (plan buffer : List ℕ) (passed : (normal_answer plan (length buffer)).refused ≡ false) where
  none_of : normal_write_refusal plan (length buffer) ≡ 0
  unfolding normal_answer
  none_of = not-refused (normal_write_refusal plan (length buffer)) (length (normal_file plan)) passed

  pub has_form : normal_refusal plan ≡ 0
  unfolding normal_write_refusal
  has_form = (or_else_0 (normal_refusal plan) _ none_of).0

  length-told : (normal_answer plan (length buffer)).length ≡ length (normal_file plan)
  unfolding normal_answer
  length-told = ap (λ (n : ℕ). (file_answer n (length (normal_file plan))).length) none_of

  -- the buffer's first bytes, up to the length returned
  pub file_written : take (normal_answer plan (length buffer)).length (normal_buffer plan buffer) ≡ normal_file plan
  unfolding normal_buffer
  file_written =
      ap (λ (n : ℕ). take (normal_answer plan (length buffer)).length (written n (normal_file plan) buffer)) none_of
      ∙ take_at (normal_file plan) (drop (length (normal_file plan)) buffer) (normal_answer plan (length buffer)).length (sym length-told)

module _ (plan buffer : List ℕ) (bytes : Bytes plan) where
  abbrev answered : FileAnswer
  answered = normal_answer plan (length buffer)

  abbrev file : List ℕ
  file = take answered.length (normal_buffer plan buffer)

  module _ (passed : answered.refused ≡ false) where
    form_written : NormalForm plan file
    form_written = subst⁻¹ (NormalForm plan) (file_written plan buffer passed) (normal_form plan bytes (has_form plan buffer passed))

    long_written : length file ≡ answered.length
    long_written = ap length (file_written plan buffer passed) ∙ sym (length-told plan buffer passed)

    -- the second call, on the file, with a buffer that is as long
    module _ (second : List ℕ) (room : answered.length ≤ length second) where
      again_passes : normal_write_refusal file (length second) ≡ 0
      unfolding normal_write_refusal
      again_passes = rw (form_written.again, form_written.twice, le-ltb (length second) (length file) (omega (arith, long_written, room))) refl

      again_answer : normal_answer file (length second) ≡ answered
      unfolding normal_answer
      again_answer =
          (λ i. file_answer (again_passes i) (length (form_written.twice i)))
          ∙ (λ i. file_answer (sym (none_of plan buffer passed) i) (length (file_written plan buffer passed i)))

      again_bytes : take answered.length (normal_buffer file second) ≡ file
      again_bytes =
          sym (ap (λ (a : FileAnswer). take a.length (normal_buffer file second)) again_answer)
          ∙ file_written file second (ap (λ (a : FileAnswer). a.refused) again_answer ∙ passed)
          ∙ form_written.twice

  writes : WritesNormal plan answered (normal_buffer plan buffer)
  writes = record {
    long = long_written;
    form = form_written;
    one = λ e other room low f.
        subst⁻¹ (λ (l : List ℕ). (l ≡ file) ↔ SameNet (net_of other) (net_of plan)) (file_written other room f)
        (subst⁻¹ (λ (l : List ℕ). (normal_file other ≡ l) ↔ SameNet (net_of other) (net_of plan)) (file_written plan buffer e)
        (one_form other plan low bytes (has_form other room f) (has_form plan buffer e)).equal);
    enough = λ e. omega (arith, length-told plan buffer e, normal_room plan bytes (has_form plan buffer e));
    again = λ e second room. (again_answer e second room, again_bytes e second room);
  }

  -- by the call's own answer and buffer
  pub writes_normal : {a : FileAnswer} {exit : List ℕ} → a ≡ normal_answer plan (length buffer) → exit ≡ normal_buffer plan buffer → WritesNormal plan a exit
  writes_normal {a} {exit} e f =
      subst⁻¹ (λ (x : FileAnswer). WritesNormal plan x exit) e (subst⁻¹ (λ (l : List ℕ). WritesNormal plan (normal_answer plan (length buffer)) l) f writes)

-- ---- what people conclude

module _ {N N' : Net} (x : SameNet N N') where
  same_light : Light N → Light N'
  unfolding Light
  same_light h p t l m =
      let u = x.places in
      let v = x.transitions in
      let w = h p t (omega (arith, u)) (omega (arith, v)) in
      (omega (arith, x.inputs p t (omega (arith, u)) (omega (arith, v)), w.0), omega (arith, x.outputs p t (omega (arith, u)) (omega (arith, v)), w.1))

pub weighed_alike : (a b : List ℕ) → Weighed a → Weighed b → SameNet (net_of a) (net_of b) → normal_refusal a ≡ normal_refusal b
weighed_alike a b x y same = by_cases (eqb (normal_refusal a) 0)
    (λ e. let z = eqb-true (normal_refusal a) 0 e in z ∙ sym (y.light.1 (same_light same (x.light.0 z))))
    (λ e.
    let z : normal_refusal a ≢ 0 = λ f. differ (sym e ∙ eq-eqb (normal_refusal a) 0 f) in
    x.heavy z ∙ sym (y.heavy (λ f. z (x.light.1 (same_light (same_back same) (y.light.0 f))))))

-- a plan's file of edition 2 without note
module _ (file : List ℕ) (readable : file_refusal due.Plan file ≡ 0) (no_note : (header_of file).markstart ≡ 0) (edition : (header_of file).edition ≡ 2) where
  plan_kind : (header_of file).kind ≡ 0
  unfolding header_of
  plan_kind = is_plan (length file) (trailer_of file) (trailer_passes file readable)

  plan_size : length file ≡ 8 * (net_of file).places + 8 * length (net_of file).arcs + 16
  plan_size =
      let k = (sound_plan file readable).placed in
      let m : (header_of file).markstart + 8 * (header_of file).places ≡ (header_of file).arcstart = rw (ap (λ (e : ℕ). (header_of file).markstart + places_length e (header_of file).places) edition) at k.markings_fit in
      let o : (header_of file).originstart + 0 + 16 ≡ length file = rw (ap (λ (n : ℕ). (header_of file).originstart + in_slice n (2 * (header_of file).places + 2 * (header_of file).transitions) + 16) plan_kind) at k.origins_fit in
      omega (arith, m, k.arcs_fit, o, no_note, length-arcs_from file (header_of file).arcstart (header_of file).arcs)

-- a plan and its normal form are the same net
same_form : {plan file : List ℕ} → NormalForm plan file → SameNet (net_of plan) (net_of file)
same_form {plan} x = subst⁻¹ (SameNet (net_of plan)) x.net (same_net (net_of plan))

module _ (plan plan' file file' : List ℕ) (x : NormalForm plan file) (y : NormalForm plan' file') where
  size : length file ≡ 8 * (net_of plan).places + 8 * length (joined (net_of plan).arcs) + 16
  unfolding normal_of
  size = plan_size file x.read x.header.0 x.header.1 ∙ ap (λ (N : Net). 8 * N.places + 8 * length N.arcs + 16) x.net

  pub one_plan : OnePlan plan plan' file file'
  unfolding normal_file normal_answer normal_write_refusal
  one_plan = record {
    one_file = λ e. sym x.twice ∙ ap (λ (N : Net). plan_bytes 2 (normal_of N)) (x.net ∙ ap (λ (l : List ℕ). normal_of (net_of l)) e ∙ sym y.net) ∙ y.twice;
    size = size;
    same = λ e. same_through (same_form x) (subst⁻¹ (λ (l : List ℕ). SameNet (net_of l) (net_of plan')) e (same_back (same_form y)));
    alike = λ e. alike_through x.fares (subst⁻¹ (λ (l : List ℕ). FaresAlike (net_of l) (net_of plan')) e (alike_back y.fares));
    replays = λ e list room. x.replayed list room ∙ ap (λ (l : List ℕ). replay_answer l list room) e ∙ sym (y.replayed list room);
    markings = λ e list marking. x.marked list marking ∙ ap (λ (l : List ℕ). replay_marking l list marking) e ∙ sym (y.marked list marking);
    again = λ room l. rw (x.again, x.twice, le-ltb room (length file) l) refl;
  }
