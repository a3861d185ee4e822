use mathlib.Core.Path.{sym, ap, ◌∙◌}
use Prim.Native.Nat.{ℕ, ◌+◌}
use Rattle.net.proofs.Markings.{below_at}
use Rattle.file_words.specs.Word.{le32}
use Rattle.file.specs.Layout.{marking_at}
use Rattle.file.proofs.marking.Goals as goal

pub returns : goal.returns
returns c =
    let call = c in
    let s = call.args.file.now in
    let h = call.args.h in (
      c.get32.ensures.0
          ∙ ap (λ (x : ℕ). le32 s (h.markstart + x)) c.places_length.ensures.0
          ∙ sym (below_at h.places (marking_at s h) call.args.place call.requires.place_lt_places),
      c.get32.ensures.1,
    )
