use Rattle.octet_streams.proofs.Streams.{goes_on}
use Rattle.octet_streams.proofs.stream_goes_on.Goals as goal

pub returns : goal.returns
returns g c grammar place part piece more ok wants some fits = goes_on grammar ok place part piece more wants some fits
