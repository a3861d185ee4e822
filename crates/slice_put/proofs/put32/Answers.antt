use Prim.Native.Nat.{◌+◌, ◌/◌}
use native.Mathlib.Omega.{arith}
use Rattle.file_words.specs.Word.{bytes16, bytes32}
use Rattle.tables.proofs.Sets.{sets_after}
use Rattle.slice_put.proofs.put32.Goals as goal

pub returns : goal.returns
unfolding bytes32 bytes16
returns c =
    let high = c in
    let low = high in
    let args = low.args in
    sets_after (bytes16 args.n) (bytes16 (args.n / 65536)) args.s.now args.at (args.at + 2) low.put16.ensures high.put16-2.ensures (omega arith)
