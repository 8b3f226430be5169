use Rattle.rtr_codec.proofs.ReadResponses.{response-gives, response-faultless}
use Rattle.rtr_codec.proofs.responses.response_gives_the_version.Goals as goal

pub returns-clause-set : goal.returns-clause-set
returns-clause-set c session intervals version old h k = response-gives session intervals version old h k

pub returns-clause-faultless : goal.returns-clause-faultless
returns-clause-faultless c session intervals version old h k = response-faultless session intervals version old h k
