use mathlib.Core.Path.{◌≡◌, refl, ◌∙◌}
use native.Mathlib.Omega.{arith}
use Prim.Native.Nat.{ℕ, ◌≤◌}
use Rattle.file.specs.Layout.{net_from}
use Rattle.file.proofs.Rows.{length-words}
use Rattle.rules_origins.proofs.Keeping.{places_known, transitions_known}
use Rattle.check_rules.proofs.Steps.{broken_here, holds_here, range1, range2, range3, all-rules}
use Rattle.checker.proofs.whole_outcome.Goals as goal

least : (a b n : ℕ) → n ≡ b → a ≤ n → a ≤ b
least a b n e h = omega arith

pub returns-then-i-hs : goal.returns-then-i-hs
returns-then-i-hs c = broken_here 1 _ _ _ _ (range1 _ _) (c.unknown_place-i.ensures _ refl) c.if-i-hs.true ∙ all-rules _ _ _

pub returns-then-j-hs : goal.returns-then-j-hs
returns-then-j-hs c =
    broken_here 2 _ _ _ _ (range2 _ _) (c.unknown_transition-j.ensures _ refl) c.if-j-hs.true
    ∙ holds_here 1 _ _ _ _ (range1 _ _) (c.unknown_place-i.ensures _ refl) c.if-i-hs.false
    ∙ all-rules _ _ _

pub other_marking-p-requires-clause-known : goal.other_marking-p-requires-clause-known
other_marking-p-requires-clause-known c =
    let N = net_from c.args.plan.now c.args.hp in
    places_known N _ (length-words _ _ _) (least _ _ _ (c.unknown_place-i.ensures N refl) c.if-i-hs.false)

pub returns-then-p-hp : goal.returns-then-p-hp
returns-then-p-hp c =
    broken_here 3 _ _ _ _ (range3 _ _) c.other_marking-p.ensures c.if-p-hp.true
    ∙ holds_here 2 _ _ _ _ (range2 _ _) (c.unknown_transition-j.ensures _ refl) c.if-j-hs.false
    ∙ holds_here 1 _ _ _ _ (range1 _ _) (c.unknown_place-i.ensures _ refl) c.if-i-hs.false
    ∙ all-rules _ _ _

-- the plan knows what the slice has
pub others_outcome-requires-clause-known_in : goal.others_outcome-requires-clause-known_in
others_outcome-requires-clause-known_in c =
    let N = net_from c.args.plan.now c.args.hp in
    record {
      places = places_known N _ (length-words _ _ _) (least _ _ _ (c.unknown_place-i.ensures N refl) c.if-i-hs.false);
      transitions = transitions_known N _ (length-words _ _ _) (least _ _ _ (c.unknown_transition-j.ensures N refl) c.if-j-hs.false);
    }

pub returns : goal.returns
returns c =
    c.others_outcome.ensures
    ∙ holds_here 3 _ _ _ _ (range3 _ _) c.other_marking-p.ensures c.if-p-hp.false
    ∙ holds_here 2 _ _ _ _ (range2 _ _) (c.unknown_transition-j.ensures _ refl) c.if-j-hs.false
    ∙ holds_here 1 _ _ _ _ (range1 _ _) (c.unknown_place-i.ensures _ refl) c.if-i-hs.false
    ∙ all-rules _ _ _
