-- "Effect then spans -268,431,360 to 268,431,360": a file has at most 4,096 arcs, of weights up to 65,535; and so "a replayed marking stays below 2 to the power 45".
use Prim.Native.Nat.{ℕ, zero, suc, ◌+◌, ◌-◌, ◌*◌, ◌≤◌}
use mathlib.Core.Path.{◌≡◌}
use mathlib.Core.List.{List, [], ◌∷◌}
use native.Mathlib.Omega.{arith}
use lib.Dec.{ltb, leb, le→leb}
use lib.IntN.{pos, negsuc, ◌-ℤ◌}
use lib.Signed.{◌≤ℤ◌, le_z_yes}
use lib.ListN.{length}
use borrow.Author.Tests.{ltb-false}
use Rattle.net.specs.Numbers.{any}
use Rattle.net.specs.Net.{Net, Marking, weight_on, input, output, effect, fire, test_firing, replay_from, replay}
use Rattle.net.proofs.Numbers.{by_cases}
use Rattle.net.proofs.Replay.{by_test}
use Rattle.file_words.specs.Word.{Bytes}
use Rattle.file_header.specs.Layout.{header_of}
use Rattle.file.specs.Layout.{net_of}
use Rattle.file_words.specs.Refusal.{refuse}
use Rattle.file.specs.Refusal.{file_refusal}
use Rattle.file_header.specs.declared.Due.{Due}
use Rattle.file_header.specs.declared.Due.TheVariants as due
use Rattle.file.proofs.Caps.{marking_lt}
use Rattle.file_arcs.proofs.Rows.{weight_le}
use Rattle.file_words.proofs.Laws.{refuse-0}
use Rattle.file.proofs.Opening.{sound}
use Rattle.promise.specs.Firing.{list_refusal}
use Rattle.promise.specs.Promise.{EffectRange, Bounded}

-- of a file that can be read, in(p,t) and out(p,t) are sums of at most 4,096 weights
pub sum-small : (kind : Due) (file : List ℕ) → Bytes file → file_refusal kind file ≡ 0 → (d p t : ℕ) → weight_on d p t (net_of file).arcs ≤ 268431360
sum-small kind file b e d p t = omega (arith, (sound kind file e).placed.arcs, weight_le d p t file b (header_of file).arcstart (header_of file).arcs)

-- a difference is not below minus what is taken away
difference_low : (n a b : ℕ) → b ≤ suc n → negsuc n ≤ℤ (pos a -ℤ pos b)
difference_low n a zero h = le_z_yes tt
difference_low n a (suc b) h = by_cases (ltb a (suc b)) (λ e. rw e (le_z_yes (le→leb (suc b - suc a) n (omega arith)))) (λ e. rw e (le_z_yes tt))

-- and not above what it is taken from
difference_high : (n a b : ℕ) → a ≤ n → (pos a -ℤ pos b) ≤ℤ pos n
difference_high n a zero h = le_z_yes (le→leb (a + 0) n (omega arith))
difference_high n a (suc b) h = by_cases (ltb a (suc b)) (λ e. rw e (le_z_yes tt)) (λ e. rw e (le_z_yes (le→leb (a - suc b) n (omega arith))))

pub effect-range : (file : List ℕ) → Bytes file → file_refusal due.Either file ≡ 0 → EffectRange file
unfolding input output effect
effect-range file b e = record {
  lowest = λ p t. difference_low _ (output (net_of file) p t) (input (net_of file) p t) (omega (arith, sum-small due.Either file b e 0 p t));
  highest = λ p t. difference_high _ (output (net_of file) p t) (input (net_of file) p t) (omega (arith, sum-small due.Either file b e 1 p t));
}

-- each firing adds an output at most
replay-low : (N : Net) → ((p t : ℕ) → output N p t ≤ 268431360) → (i : ℕ) (M : Marking) (ts : List ℕ) (p : ℕ) → (replay_from N i M ts).marking p ≤ M p + 268431360 * length ts
unfolding replay_from fire
replay-low N small i M [] p = omega arith
replay-low N small i M (t ∷ ts) p =
    by_test (test_firing N t M)
    (λ e. rw (e, replay_from) (omega (arith, small p t, replay-low N small (suc i) (fire N t M) ts p)))
    (λ q n e. rw (e, replay_from) (omega arith))
    (λ q n e. rw (e, replay_from) (omega arith))

pub bounded : (file list : List ℕ) → Bytes file → file_refusal due.Either file ≡ 0 → list_refusal (net_of file).transitions list ≡ 0 → Bounded file list
unfolding replay output list_refusal
bounded file list b e l =
    let short = ltb-false 65535 (length list) (refuse-0 (ltb 65535 (length list)) 10 (refuse (any (λ t. leb (net_of file).transitions t) list) 12 0) l).0 in
    record { tokens_low = λ p. omega (arith, short, marking_lt file b (header_of file) p, replay-low (net_of file) (sum-small due.Either file b e 1) 0 (net_of file).marking list p) }
