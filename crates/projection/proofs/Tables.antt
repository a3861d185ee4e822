-- The table of a slice that was read.
use Rattle.std.proofs.Common.{◌≡◌, ℕ, ◌+◌, ◌*◌, List, length, arith}
use Rattle.net.specs.Slice.{project}
use Rattle.file.specs.Layout.{words_from, slice_from}
use Rattle.file.specs.Facts.{Sound}
use Rattle.file_header.specs.declared.Header.{Header}
use Rattle.file_header.proofs.Laws.{slice_part}
use Rattle.numbering.specs.Own.{Own, Origins}
use Rattle.projection.specs.Choice.{Projects}
use Rattle.projection.proofs.Choices.{chosen-own}

module _ (s : List ℕ) (h : Header) where
  -- its transition origins
  pub origins_of : Sound s h → h.kind ≡ 1 → Origins s (h.originstart + 2 * h.places) h.transitions
  origins_of w k = record {
    fit = omega (arith, w.placed.origins_fit, slice_part h.kind (2 * h.places + 2 * h.transitions) (λ z. omega arith));
    few = w.placed.transitions;
    rise = w.transition_origins k;
  }

  -- the numbers by a table of own numbers are the projection
  pub projects : {long : ℕ} {table : List ℕ} → length table ≡ long → Own (words_from s (h.originstart + 2 * h.places) h.transitions) table → Projects (slice_from s h) long table
  unfolding project
  projects {long} {table} e o = record {
    length = e;
    list = λ list r. chosen-own (words_from s (h.originstart + 2 * h.places) h.transitions) table o list r.known;
  }
