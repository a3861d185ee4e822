use mathlib.Core.Bool.{Bool, ◌||◌}
use mathlib.Core.Path.{◌≡◌, ap, ap₂}
use lib.Dec.{ltb}
use Rattle.net.specs.Net.{capped}
use Rattle.file.specs.Layout.{net_from}
use Rattle.cut_search.proofs.draws_both.Goals as goal

pub returns : goal.returns
unfolding capped
returns c =
    let s = c in
    let has_cap : ltb 0 c.cap.result ≡ capped (net_from s.args.file.now s.args.h) s.args.p = ap (ltb 0) c.cap.ensures.0 in
    ap₂ (λ (b k : Bool). (s.args.all || b) || k) c.contains.ensures has_cap
