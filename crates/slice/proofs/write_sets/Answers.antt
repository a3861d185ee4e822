use Rattle.slice.proofs.Laws.{lists_kept, slice_kept}
use Rattle.slice.proofs.write_sets.Goals as goal

pub write_lists-requires-clause-lists : goal.write_lists-requires-clause-lists
write_lists-requires-clause-lists c = lists_kept _ _ _ c.list_members-np.ensures c.list_members-nt.ensures c.requires.within c.requires.sound

pub returns : goal.returns
returns c = slice_kept _ _ _ c.list_members-np.ensures c.list_members-nt.ensures c.write_lists.ensures
