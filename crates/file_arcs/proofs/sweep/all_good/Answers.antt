use Rattle.std.proofs.Common.{◌≡◌, ℕ, ◌+◌, ◌-◌, ◌*◌, ◌^◌, ◌<◌, ◌≤◌, Bool, true, sym, ap, subst, ◌∙◌, arith, ltb-false, leb-true}
use Rattle.file_arcs.specs.Sweep.{room_of, both_fit, FitIn}
use Rattle.file_words.proofs.Laws.{or-false}
use Rattle.file_arcs.proofs.Marks.{Reached, both_fit_lem, narrow, one_on, two_on, all_done}
use Rattle.file_arcs.proofs.sweep.all_good.Goals as goal

-- both of two arcs that passed the test
fits : (P T : ℕ) {w v r : ℕ} {b : Bool} → (P ≤ 1024) × (T ≤ 1024) → w < 2 ^ 64 → v < 2 ^ 64 → r ≡ room_of P T → b ≡ both_fit r w v → b ≡ true → FitIn P T w × FitIn P T v
fits P T {w} {v} q l m e f g = both_fit_lem P T w v q.0 q.1 l m (ap (λ (x : ℕ). both_fit x w v) (sym e) ∙ sym f ∙ g)

pub sweep_key-first-requires : goal.sweep_key-first-requires
sweep_key-first-requires c =
    let q = c.requires.places_bound in
    narrow _ _ _ q.0 q.1 (fits c.args.places c.args.transitions q c.word-w.type_inv c.word-v.type_inv c.room-room.ensures c.fit.ensures c.if-not-fit.false).0

pub sweep_key-second-requires : goal.sweep_key-second-requires
sweep_key-second-requires c =
    let q = c.requires.places_bound in
    narrow _ _ _ q.0 q.1 (fits c.args.places c.args.transitions q c.word-w.type_inv c.word-v.type_inv c.room-room.ensures c.fit.ensures c.if-not-fit.false).1

pub loop-k-preserved : goal.loop-k-preserved
loop-k-preserved c =
    let a = c.args in
    let k = c.loop-k.k in
    let q = c.requires.places_bound in
    let more : 1 < a.count - 2 * k = omega (arith, c.loop-k-test.true) in
    let next : a.start + 16 * (k + 1) ≡ a.start + 16 * k + 16 = omega arith in
    let fewer : a.count - 2 * (k + 1) ≡ a.count - 2 * k - 2 = omega arith in
    let order = or-false _ _ c.if-first-least.false in
    rw (next, fewer) (two_on a.file.now a.places a.transitions a.start a.count (a.start + 16 * k) c.loop-k.least (a.count - 2 * k)
    c.word-w.result c.word-v.result c.sweep_key-first.result c.sweep_key-second.result
    q.0 q.1 c.loop-k.invariant more c.word-w.ensures c.word-v.ensures
    (fits a.places a.transitions q c.word-w.type_inv c.word-v.type_inv c.room-room.ensures c.fit.ensures c.if-not-fit.false)
    c.sweep_key-first.ensures.0 c.sweep_key-second.ensures.0 (ltb-false _ _ order.0) (ltb-false _ _ order.1))

pub returns-then-count-eq0 : goal.returns-then-count-eq0
returns-then-count-eq0 c = λ e. all_done _ _ _ _ _ _ _ _ c.loop-k.invariant (omega (arith, c.loop-k-test.false, c.if-count-eq0.true))

pub sweep_key-requires : goal.sweep_key-requires
sweep_key-requires c =
    let q = c.requires.places_bound in
    narrow _ _ _ q.0 q.1 (fits c.args.places c.args.transitions q c.word-w-2.type_inv c.word-w-2.type_inv c.room-room.ensures c.fit-2.ensures c.if-not-fit-2.false).0

pub returns : goal.returns
returns c = λ e.
    let a = c.args in
    let q = c.requires.places_bound in
    let one : a.count - 2 * c.loop-k.k ≡ 1 = omega (arith, c.loop-k-test.false, c.loop-k.auto.k-end, c.if-count-eq0.false) in
    let last : a.start + 8 * (a.count - 1) ≡ a.start + 16 * c.loop-k.k = omega (arith, one) in
    let reached = subst (λ (x : ℕ). Reached a.file.now a.places a.transitions a.start a.count x c.loop-k.least (a.count - 2 * c.loop-k.k)) (sym last) c.loop-k.invariant in
    all_done _ _ _ _ _ _ _ (a.count - 2 * c.loop-k.k - 1)
    (one_on a.file.now a.places a.transitions a.start a.count (a.start + 8 * (a.count - 1)) c.loop-k.least (a.count - 2 * c.loop-k.k)
    c.word-w-2.result q.0 q.1 reached (omega (arith, one)) c.word-w-2.ensures
    (fits a.places a.transitions q c.word-w-2.type_inv c.word-w-2.type_inv c.room-room.ensures c.fit-2.ensures c.if-not-fit-2.false).0
    (rw (← c.sweep_key.ensures.0) (leb-true _ _ e))) (omega (arith, one))
