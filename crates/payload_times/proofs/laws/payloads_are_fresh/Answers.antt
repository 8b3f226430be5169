use Rattle.payload_times.proofs.Arrivals.{payloads_are_fresh}
use Rattle.payload_times.proofs.laws.payloads_are_fresh.Goals as goal

pub returns : goal.returns
returns c = payloads_are_fresh
