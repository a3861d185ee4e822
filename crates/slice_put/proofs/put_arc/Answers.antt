use Prim.Native.Nat.{ℕ, ◌+◌, ◌/◌, ◌%◌}
use native.Mathlib.Omega.{arith}
use mathlib.Core.Path.{◌≡◌, ap, ◌∙◌}
use mathlib.Core.List.{List, [], ◌∷◌, ◌++◌}
use lib.Seq.{sets}
use Rattle.file_words.specs.Word.{bytes16}
use Rattle.file_writing.specs.Writing.{arc_bytes}
use Rattle.tables.proofs.Sets.{sets_after}
use Rattle.slice_put.proofs.put_arc.Goals as goal

pub returns : goal.returns
unfolding arc_bytes bytes16
returns c =
    let weight = c in
    let place = weight in
    let direction = place in
    let transition = direction in
    let start = transition in
    let s = start.args.s.now in
    let at = start.args.at in
    let a = start.args.a in
    let low : a.direction % 256 ≡ a.direction = omega (arith, start.requires.direction_bound) in
    let high : a.direction / 256 % 256 ≡ 0 = omega (arith, start.requires.direction_bound) in
    let same : bytes16 a.direction ≡ a.direction ∷ 0 ∷ [] = λ i. low i ∷ high i ∷ [] in
    let second = direction.put16-2.ensures ∙ ap (λ (l : List ℕ). sets transition.put16.new.s (at + 2) l) same in
    let T = bytes16 a.transition in
    let D : List ℕ = a.direction ∷ 0 ∷ [] in
    let P = bytes16 a.place in
    sets_after (T ++ D ++ P) (bytes16 a.weight) s at (at + 6)
    (sets_after (T ++ D) P s at (at + 4) (sets_after T D s at (at + 2) transition.put16.ensures second (omega arith)) place.put16-3.ensures (omega arith))
    weight.put16-4.ensures (omega arith)
