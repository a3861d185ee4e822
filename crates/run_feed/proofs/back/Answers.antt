use Rattle.run_feed.proofs.Stepping.{met_next}
use Rattle.run_feed.proofs.back.Goals as goal

-- the firings from the one reached on are gone back over but for that one, which waits

pub loop-reached-init : goal.loop-reached-init
loop-reached-init c = (met_next _ c.args.h c.requires.sound.0 _ c.requires.sound.2 _ _ _ _ _ _ _ _ c.met-reached.ensures c.requires.back, c.met-reached.ensures.waiting)

pub loop-reached-preserved : goal.loop-reached-preserved
loop-reached-preserved c =
    (met_next _ c.args.h c.requires.sound.0 _ c.requires.sound.2 _ _ _ _ _ _ _ _ c.met-reached-in-Some.ensures c.take_up-end.ensures, c.met-reached-in-Some.ensures.waiting)
