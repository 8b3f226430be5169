use Rattle.std.proofs.Common.{rules}
use Rattle.rtr_session.proofs.Agreeing.{agrees_tick}
use Rattle.rtr_session.proofs.session.CacheSession.tick.Goals as goal

pub returns-clause-exact : goal.returns-clause-exact
returns-clause-exact g c = search rules

pub returns-clause-agrees : goal.returns-clause-agrees
returns-clause-agrees g c = λ retry h a. rw (returns-clause-exact g c) (agrees_tick retry h _ _ a)
