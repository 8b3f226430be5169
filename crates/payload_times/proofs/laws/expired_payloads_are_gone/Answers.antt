use Rattle.payload_times.proofs.Times.{expired_are_gone}
use Rattle.payload_times.proofs.laws.expired_payloads_are_gone.Goals as goal

pub returns : goal.returns
returns c = expired_are_gone
