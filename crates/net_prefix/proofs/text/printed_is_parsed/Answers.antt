use Rattle.net_prefix.proofs.Unique.{parses_again}
use Rattle.net_prefix.proofs.text.printed_is_parsed.Goals as goal

pub returns : goal.returns
returns c = parses_again
