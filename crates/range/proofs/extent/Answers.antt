use lib.ListN.{length}
use lib.Seq.{length-take-le}
use Rattle.refusals.proofs.Numbers.{number_some, passed_on}
use Rattle.inputs_lists.proofs.Passing.{kept-refused}
use Rattle.range.proofs.Passing.{list_passes, as_many, room_enough, told-refused}
use Rattle.range.proofs.extent.Goals as goal

pub extent_all-requires : goal.extent_all-requires
extent_all-requires c =
    let back = c.in_ok-check.ensures in
    record {
      sound = c.requires;
      listed = list_passes c.args.file.now c.args.h c.args.list.now c.args.upper.now (length c.args.need.now) back;
      entries = as_many c.args.file.now c.args.h c.args.list.now c.args.upper.now (length c.args.need.now) back;
      room = length-take-le c.args.h.places c.args.need.now (room_enough c.args.file.now c.args.h c.args.list.now c.args.upper.now (length c.args.need.now) back);
    }

pub returns-in_err-check : goal.returns-in_err-check
returns-in_err-check c = record {
  answer = rw (passed_on _ c.from_residual.ensures.1) (told-refused _ _ c.in_err-check.ensures (number_some _));
  need = kept-refused _ _ _ c.in_err-check.ensures (number_some _);
}
