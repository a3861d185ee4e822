use Rattle.slice.proofs.Laws.{members_fit, members_listed}
use Rattle.slice.proofs.list_members.Goals as goal

pub members-requires-clause-count_in_bounds : goal.members-requires-clause-count_in_bounds
members-requires-clause-count_in_bounds c = members_fit c.requires

pub returns : goal.returns
returns c = members_listed c.requires _ _ c.count-count.ensures c.members.ensures
