use Rattle.replay_firing.proofs.Trying.{ready_after, left, filled_none, filled_some}
use Rattle.replay_firing.proofs.fire_capped.Goals as goal

pub lowest_full-requires : goal.lowest_full-requires
lowest_full-requires c = record { ready = ready_after c.requires.ready c.requires.firable c.fire.ensures; left = left c.requires.ready c.requires.firable c.fire.ensures }

pub unfire-requires : goal.unfire-requires
unfire-requires c = record { ready = ready_after c.requires.ready c.requires.firable c.fire.ensures; left = left c.requires.ready c.requires.firable c.fire.ensures }

pub returns-in_err-full : goal.returns-in_err-full
returns-in_err-full c = rw c.from_residual.ensures (filled_none c.requires.ready c.requires.firable c.fire.ensures c.in_err-full.ensures)

pub returns : goal.returns
returns c = filled_some c.requires.ready c.requires.firable c.fire.ensures c.in_ok-full.full c.in_ok-full.ensures c.unfire.ensures
