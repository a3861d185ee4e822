use Prim.Native.Nat.{ℕ, ◌+◌, ◌*◌}
use mathlib.Core.List.{List, ◌++◌}
use mathlib.Core.Path.{ap, ◌∙◌}
use native.Mathlib.Omega.{arith}
use lib.Seq.{sets}
use Rattle.file_words.specs.Word.{bytes16, bytes32}
use Rattle.file_writing.specs.Writing.{trailer_bytes}
use Rattle.tables.proofs.Sets.{sets_after}
use Rattle.slice_put.proofs.Trailers.{kind_edition}
use Rattle.slice_put.proofs.put_trailer.Goals as goal

pub returns : goal.returns
unfolding trailer_bytes bytes32 bytes16
returns c =
    let letters = c in
    let kind = letters in
    let arcs = kind in
    let transitions = arcs in
    let places = transitions in
    let body = places in
    let start = body in
    let s = start.args.s.now in
    let b = start.args.body in
    let k = start.args.kind in
    let e = start.args.edition in
    let B = bytes32 b in
    let P = bytes16 start.args.places in
    let T = bytes16 start.args.transitions in
    let A = bytes16 start.args.arcs in
    let K = bytes16 (k + 256 * e) in
    let L = bytes32 0x4C4C4542 in
    sets_after (B ++ P ++ T ++ A ++ K) L s b (b + 12)
    (sets_after (B ++ P ++ T ++ A) K s b (b + 10)
    (sets_after (B ++ P ++ T) A s b (b + 8)
    (sets_after (B ++ P) T s b (b + 6)
    (sets_after B P s b (b + 4) body.put32.ensures places.put16.ensures (omega arith))
    transitions.put16-2.ensures (omega arith))
    arcs.put16-3.ensures (omega arith))
    kind.put16-4.ensures (omega arith))
    letters.put32-2.ensures (omega arith)
    ∙ ap (λ (l : List ℕ). sets s b (B ++ P ++ T ++ A ++ l ++ L)) (kind_edition k e start.requires.kind_bound.0 start.requires.kind_bound.1)
