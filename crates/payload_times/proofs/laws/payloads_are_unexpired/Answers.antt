use Rattle.payload_times.proofs.Times.{payloads_are_unexpired, unexpired_are_in_force}
use Rattle.payload_times.proofs.laws.payloads_are_unexpired.Goals as goal

pub returns-clause-unexpired : goal.returns-clause-unexpired
returns-clause-unexpired c = payloads_are_unexpired

pub returns-clause-in_force : goal.returns-clause-in_force
returns-clause-in_force c = unexpired_are_in_force
