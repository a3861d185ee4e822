use Rattle.tables.proofs.Zeros.{zeros_at}
use Rattle.shadow.proofs.Casting.{numbered, fireable, cast_by_lem}
use Rattle.shadow.proofs.project_by.Goals as goal

pub numbers-requires : goal.numbers-requires
numbers-requires g c = record { sound = (c.requires.0.sound, c.requires.0.kind); by_index = zeros_at g.row.N }

pub write_fired-requires : goal.write_fired-requires
write_fired-requires g c = fireable c.requires.0 (numbered g.row.N c.numbers.ensures)

pub returns : goal.returns
returns g c = cast_by_lem c.requires.0 (numbered g.row.N c.numbers.ensures) c.write_fired.ensures
