use Rattle.file_header.specs.Layout.{trailer_of}
use Rattle.file_header.proofs.tail.fields.Goals as goal

pub returns : goal.returns
unfolding trailer_of
returns c =
    λ i.
    record {
      body = c.get32-body.ensures.0 i;
      places = c.get16-places.ensures.0 i;
      transitions = c.get16-transitions.ensures.0 i;
      arcs = c.get16-arcs.ensures.0 i;
      kind = c.get8-kind.ensures.0 i;
      edition = c.get8-edition.ensures.0 i;
      letters = c.get32-letters.ensures.0 i;
    }
