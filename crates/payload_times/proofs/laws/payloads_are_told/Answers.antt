use Rattle.payload_times.proofs.Told.{payloads_are_told}
use Rattle.payload_times.proofs.laws.payloads_are_told.Goals as goal

pub returns : goal.returns
returns c = payloads_are_told
