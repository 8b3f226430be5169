use Rattle.bgp_attr.specs.AttributeSpelling.{attributes_spelling}
use Rattle.bgp_attr.proofs.AttributeSpellings.{spelled_faultless, spelled_read}
use Rattle.bgp_attr.proofs.WrittenSpellings.{written_spells}
use Rattle.bgp_attr.proofs.laws.written_is_read.Goals as goal

pub returns-clause-faultless : goal.returns-clause-faultless
returns-clause-faultless c kind attrs can = spelled_faultless kind (attributes_spelling attrs) attrs (written_spells kind attrs can)

pub returns-clause-read : goal.returns-clause-read
returns-clause-read c kind attrs can = spelled_read kind (attributes_spelling attrs) attrs (written_spells kind attrs can)
