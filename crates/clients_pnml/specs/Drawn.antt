-- What the client of a converted text answers.
use Rattle.std.specs.Prelude.{ℕ, List, ◌≡◌, Result, Ok, Err, length}
use Rattle.pnml_page.specs.Profile.{drawing}
use Rattle.pnml_names.specs.declared.Which.TheVariants.{Places, Transitions}
use Rattle.pnml_net.specs.Named.{entries}
use Rattle.promise.specs.Pnml.{pnml_answer}
use Rattle.clients_pnml.specs.declared.Drawn.{Drawn}
use Rattle.clients_pnml.specs.declared.Drawn.TheVariants.{Net, Lost}
use Rattle.refusals.specs.Numbers.{number}
use Rattle.refusals.specs.declared.Refusal.{Refusal}

-- Net: as many as the text draws, edition 1, no note; Err: the call's number; what was written is always a plan
abbrev pub Tells : List ℕ → ℕ → Result Drawn Refusal → Type 0
Tells s room (Ok (Net P T edition note)) = (P ≡ length (entries Places (drawing s))) × ((T ≡ length (entries Transitions (drawing s))) × ((edition ≡ 1) × (note ≡ 0)))
Tells s room (Ok Lost) = ⊥
Tells s room (Err e) = (pnml_answer s room).refusal ≡ number e
