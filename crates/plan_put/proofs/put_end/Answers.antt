use native.Mathlib.Omega.{arith}
use Prim.Native.Nat.{ℕ, ◌+◌, ◌*◌}
use mathlib.Core.Path.{ap, ◌∙◌}
use lib.Seq.{sets}
use Rattle.file_writing.specs.Writing.{trailer_bytes}
use Rattle.plan_put.proofs.put_end.Goals as goal

pub returns : goal.returns
returns c =
    let put = c in
    let long = put in
    let s = long in
    let b≡ = ap (λ (n : ℕ). n + 8 * s.args.arcs) long.places_length.ensures.0 in
    record { value = omega (arith, b≡); s_after = put.put_trailer.ensures ∙ (λ i. sets s.args.s.now (b≡ i) (trailer_bytes 0 s.args.edition (b≡ i) s.args.places s.args.transitions s.args.arcs)) }
