-- A number that is no place has no cap.
use Prim.Native.Nat.{ℕ, ◌<◌}
use mathlib.Core.List.{List}
use native.Mathlib.Omega.{arith}
use lib.Dec.{T, ltb, ltb→lt}
use borrow.Author.Tests.{ltb-true, ltb-false}
use Rattle.net.specs.Net.{capped}
use Rattle.net.proofs.Numbers.{by_cases}
use Rattle.net.proofs.Markings.{below-off}
use Rattle.file.specs.Layout.{cap_at, net_from}
use Rattle.file_header.specs.declared.Header.{Header}

pub capped-known : (plan : List ℕ) (hp : Header) (p : ℕ) → T (capped (net_from plan hp) p) → p < hp.places
unfolding capped
capped-known plan hp p c =
    by_cases (ltb p hp.places)
    (ltb-true p hp.places)
    (λ e. absurd (omega (arith, ltb→lt 0 ((net_from plan hp).cap p) c, below-off hp.places (cap_at plan hp) p (ltb-false p hp.places e))))
