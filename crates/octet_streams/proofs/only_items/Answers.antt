use Rattle.octet_streams.proofs.Splits.{split, splits}
use Rattle.octet_streams.proofs.only_items.Goals as goal

pub returns-clause-some : goal.returns-clause-some
returns-clause-some g c grammar place stream ok = splits grammar ok place stream

pub returns-clause-one : goal.returns-clause-one
returns-clause-one g c grammar place stream rest items ok h = split grammar ok place stream items rest h
