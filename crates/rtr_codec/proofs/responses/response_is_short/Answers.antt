use Rattle.rtr_codec.proofs.ReadResponses.{short-response}
use Rattle.rtr_codec.proofs.responses.response_is_short.Goals as goal

pub returns : goal.returns
returns c session intervals version old = short-response session intervals version old
