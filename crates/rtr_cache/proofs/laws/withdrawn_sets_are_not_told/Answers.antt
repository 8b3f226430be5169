use Rattle.rtr_cache.proofs.Withdrawals.{none_notified, reset_answered, serial_answered}
use Rattle.rtr_cache.proofs.laws.withdrawn_sets_are_not_told.Goals as goal

pub returns-clause-serial : goal.returns-clause-serial
returns-clause-serial c = serial_answered

pub returns-clause-reset : goal.returns-clause-reset
returns-clause-reset c = reset_answered

pub returns-clause-notify : goal.returns-clause-notify
returns-clause-notify c = none_notified
