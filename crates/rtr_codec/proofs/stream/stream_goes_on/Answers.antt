use Rattle.rtr_codec.proofs.Streams.{goes_on}
use Rattle.rtr_codec.proofs.stream.stream_goes_on.Goals as goal

pub returns : goal.returns
returns c place part piece more h some fits = goes_on place part piece more h some fits
