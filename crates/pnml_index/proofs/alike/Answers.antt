use Rattle.std.proofs.Common.{◌≡◌, ℕ, List, Option, ap, ◌∙◌, arith}
use Rattle.std.specs.Option.{unwrap_or}
use Rattle.pnml_page.specs.Meant.{id_at}
use Rattle.pnml_names.specs.Tables.{head_of}
use Rattle.pnml_index.proofs.Bytes as ids
use Rattle.pnml_index.proofs.alike.Goals as goal

-- a character, with 0 for none, is the first of the id
first : (s : List ℕ) (i : ℕ) {v : ℕ} {o : Option ℕ} → v ≡ unwrap_or o 0 → o ≡ head_of (id_at s i) → v ≡ ids.first_of (id_at s i)
first s i e f = e ∙ ap (λ (p : Option ℕ). unwrap_or p 0) f

pub returns-then-x-y : goal.returns-then-x-y
returns-then-x-y c = ids.unlike c.loop-a.invariant (first _ _ c.unwrap_or-x.ensures c.character.ensures) (first _ _ c.unwrap_or-y.ensures c.character-in-loop-a.ensures) c.if-x-y.true

pub returns-then-x-eq0 : goal.returns-then-x-eq0
returns-then-x-eq0 c =
    ids.over c.loop-a.invariant (first _ _ c.unwrap_or-x.ensures c.character.ensures) (first _ _ c.unwrap_or-y.ensures c.character-in-loop-a.ensures) c.if-x-y.false c.if-x-eq0.true

pub overflow_add-i : goal.overflow_add-i
overflow_add-i c = omega (arith, ids.within c.args.text.now c.loop-a.i (first _ _ c.unwrap_or-x.ensures c.character.ensures) c.if-x-eq0.false)

pub overflow_add-j : goal.overflow_add-j
overflow_add-j c =
    omega (arith, ids.within c.args.text.now c.loop-a.j (first _ _ c.unwrap_or-y.ensures c.character-in-loop-a.ensures) (λ z. c.if-x-eq0.false (c.if-x-y.false ∙ z)))

pub loop-a-smaller : goal.loop-a-smaller
loop-a-smaller c = omega (arith, ids.within c.args.text.now c.loop-a.i (first _ _ c.unwrap_or-x.ensures c.character.ensures) c.if-x-eq0.false)

pub loop-a-preserved : goal.loop-a-preserved
loop-a-preserved c =
    ids.on c.loop-a.invariant (first _ _ c.unwrap_or-x.ensures c.character.ensures) (first _ _ c.unwrap_or-y.ensures c.character-in-loop-a.ensures) c.if-x-y.false c.if-x-eq0.false
