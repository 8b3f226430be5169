use Rattle.cache_turns.proofs.Standing.{pushed_places}
use Rattle.cache_turns.proofs.cache_loop.make_place.Goals as goal

pub loop-places-preserved : goal.loop-places-preserved
loop-places-preserved g c = pushed_places _ _ _ _ c.push.ensures.items c.loop-places.invariant

pub returns-in-Err-clause-same : goal.returns-in-Err-clause-same
returns-in-Err-clause-same g c = pushed_places _ _ _ _ c.push.ensures.items c.loop-places.invariant
