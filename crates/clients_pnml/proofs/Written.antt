-- What was written is read as the plan of the text.
use Prim.Native.Nat.{ℕ, ◌≤◌}
use mathlib.Core.List.{List}
use mathlib.Core.Path.{◌≡◌, refl, ap, ◌∙◌}
use lib.ListN.{length, take}
use Rattle.file_header.specs.declared.Header.{Header}
use Rattle.file_header.specs.declared.Due.TheVariants as due
use Rattle.file.specs.Facts.{Opened}
use Rattle.file.specs.Refusal.{file_refusal}
use Rattle.plan_put.specs.Told.{file_numbers}
use Rattle.std.specs.Prelude.{Ok}
use Rattle.promise.specs.Pnml.{WritesNamed}
use Rattle.clients_pnml.specs.Drawn.{Tells}
use Rattle.clients_pnml.specs.declared.Drawn.TheVariants.{Net}

module _ (s : List ℕ) {exit : List ℕ} {n : ℕ} (written : WritesNamed s (file_numbers (Ok n)) exit) where
  pub room : n ≤ length exit
  room = written.long refl

  pub whole : file_refusal due.Plan (take n exit) ≡ 0
  whole = written.read refl

  pub tells : (rest : ℕ) (h : Header) → Opened due.Plan (take n exit) h → Tells s rest (Ok (Net h.places h.transitions h.edition h.markstart))
  tells rest h o =
      let q = o.same in (
        ap (λ (g : Header). g.places) q ∙ (written.named refl).places,
        (
          ap (λ (g : Header). g.transitions) q ∙ (written.named refl).transitions,
          (ap (λ (g : Header). g.edition) q ∙ written.edition refl, ap (λ (g : Header). g.markstart) q ∙ written.no_note refl),
        ),
      )
