use Rattle.bgp_msg.proofs.Updates.{said_from_spelled, spelled_from_said}
use Rattle.bgp_msg.proofs.update.only_update.Goals as goal

pub returns-clause-read : goal.returns-clause-read
returns-clause-read c kind body update h =
    said_from_spelled
    (λ of octets attrs spelled. (c.attributes_are_spelled.ensures.faultless of octets attrs spelled, c.attributes_are_spelled.ensures.read of octets attrs spelled))
    kind body update h

pub returns-clause-spelled : goal.returns-clause-spelled
returns-clause-spelled c kind body octets none =
    spelled_from_said (λ of octets small faultless. c.attributes_are_spelled.ensures.spelled of octets small faultless) kind body octets none
