use Prim.Native.Nat.{ℕ}
use mathlib.Core.Path.{◌≡◌}
use mathlib.Core.List.{List}
use borrow.Author.Tests.{ne_eqb}
use Rattle.net.specs.Net.{Uncapped}
use Rattle.file.specs.Layout.{net_from}
use Rattle.file_header.specs.declared.Header.{Header}
use Rattle.file.proofs.Caps.{no_cap_by}
use Rattle.rules_origins.proofs.other_marking.Goals as goal

-- a file of another edition than that of the caps has none
uncapped_by : (s : List ℕ) (h : Header) → (h.edition ≡ 2 → ⊥) → Uncapped (net_from s h)
unfolding Uncapped
uncapped_by s h other = no_cap_by s h (ne_eqb _ _ other)

pub other_tokens-requires : goal.other_tokens-requires
other_tokens-requires c =
    let other = c in
    let s = other in
    let pre = s.requires in
    record { sound = pre.sound; sound_2 = pre.sound_2; kind_value = pre.kind_value; known = pre.known; uncapped = uncapped_by _ s.args.hp other.if-hp-eq-CAPS.false; uncapped_2 = uncapped_by _ s.args.hs c.if-hs-eq-CAPS.false }
