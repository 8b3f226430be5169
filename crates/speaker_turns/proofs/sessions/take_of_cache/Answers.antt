use Rattle.speaker_turns.proofs.Stepping.{cache_asks, cache_takes}
use Rattle.speaker_turns.proofs.sessions.take_of_cache.Goals as goal

pub returns-clause-bound : goal.returns-clause-bound
returns-clause-bound g c =
    (cache_takes c.take_cache.result c.args.buf.now c.take_cache.new.buf c.args.speaker.now c.take_cache.ensures.none c.take_cache.ensures.handed).within

pub returns-clause-octets : goal.returns-clause-octets
returns-clause-octets g c =
    (cache_takes c.take_cache.result c.args.buf.now c.take_cache.new.buf c.args.speaker.now c.take_cache.ensures.none c.take_cache.ensures.handed).octets

pub returns-clause-asks : goal.returns-clause-asks
returns-clause-asks g c = cache_asks _ _ _ c.take_cache.ensures.agrees
