use borrow.Author.Rules.{rules}
use Prim.Native.Nat.{ℕ, ◌+◌, ◌*◌, ◌/◌, ◌≤◌, ◌<◌}
use mathlib.Core.Path.{◌≡◌, refl}
use native.Mathlib.Omega.{arith}
use Rattle.cut_index.proofs.link.Goals as goal

-- an entry tells the transition of arc j where it is not below the least one of its
is_own : (e from : ℕ) → e / 65536 ≤ from + 1 → 65536 * (from + 1) ≤ e → e / 65536 ≡ from + 1
is_own e from l m = omega arith

not_own : (e from : ℕ) → e < 65536 * (from + 1) → e / 65536 ≡ from + 1 → ⊥
not_own e from l q = omega arith

pub overflow_cast-own : goal.overflow_cast-own
overflow_cast-own c = omega (arith, c.type_inv.head (2 * c.args.p + c.args.direction))

pub returns-then-least-own : goal.returns-then-least-own
returns-then-least-own c =
    let start = c in
    let e = is_own _ _ (start.requires.0.own_most _ start.requires.1) c.if-least-own.true in
    record { again = λ q. (refl, refl, refl); back = λ n. absurd (n e); new = λ n. absurd (n e) }

pub overflow_cast-begun : goal.overflow_cast-begun
overflow_cast-begun c = omega (arith, c.type_inv.head (2 * c.args.p))

pub link_back-requires : goal.link_back-requires
link_back-requires c =
    let met = c in
    let room = met.requires.0 in
    (room, room.some (is_own _ _ room.begun_most met.if-least-begun.true))

pub returns-then-least-begun : goal.returns-then-least-begun
returns-then-least-begun c =
    let met = c in
    let other = met in
    let room = other.requires.0 in
    record {
      again = λ e. absurd (not_own _ _ other.if-least-own.false e);
      back = λ n e. c.link_back.ensures;
      new = λ n m. absurd (m (is_own _ _ room.begun_most met.if-least-begun.true));
    }

pub link_arc-requires : goal.link_arc-requires
link_arc-requires c =
    let other = c in
    let room = other.requires.0 in
    (omega (arith, room.stands.few, room.stands.some), search rules, search rules, search rules)

pub returns : goal.returns
returns c =
    let none = c in
    let other = none in
    record {
      again = λ e. absurd (not_own _ _ other.if-least-own.false e);
      back = λ n e. absurd (not_own _ _ none.if-least-begun.false e);
      new = λ n m. (c.link_arc.ensures, refl);
    }
