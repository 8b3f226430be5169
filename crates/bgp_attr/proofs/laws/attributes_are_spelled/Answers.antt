use Rattle.bgp_attr.proofs.AttributeSpellings.{faultless_spelled, spelled_faultless, spelled_read}
use Rattle.bgp_attr.proofs.laws.attributes_are_spelled.Goals as goal

pub returns-clause-faultless : goal.returns-clause-faultless
returns-clause-faultless c = spelled_faultless

pub returns-clause-read : goal.returns-clause-read
returns-clause-read c = spelled_read

pub returns-clause-spelled : goal.returns-clause-spelled
returns-clause-spelled c = faultless_spelled
