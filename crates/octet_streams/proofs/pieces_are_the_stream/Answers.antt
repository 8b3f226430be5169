use Rattle.std.proofs.Common.{[]}
use Rattle.octet_streams.proofs.Splits.{pieces}
use Rattle.octet_streams.proofs.pieces_are_the_stream.Goals as goal

pub returns : goal.returns
returns g c grammar place all ok = pieces grammar ok place [] all
