use Rattle.std.proofs.Common.{◌∙◌}
use Rattle.routing.specs.Tables.{payloads_under}
use Rattle.speaker.proofs.step.Speaker.payloads.Goals as goal

pub returns-clause-agrees : goal.returns-clause-agrees
returns-clause-agrees g c = λ config r a. c.payload_rows.ensures.all ∙ (λ i. payloads_under (a.holds.conf i) (a.holds.payloads i))
