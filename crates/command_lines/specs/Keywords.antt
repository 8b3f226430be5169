-- The first words of commands (own).
use Rattle.std.specs.Prelude.{ℕ, List, codes}
use Rattle.command_lines.specs.declared.keywords.Keyword.{Keyword}
use Rattle.command_lines.specs.declared.keywords.Keyword.TheVariants.{Peer, Drop, Enable, Disable, Policy, NoPolicy, Use, Network, NoNetwork, Reach, NoReach, Filter, NoFilter, Assert, NoAssert}

-- how a first word is spelled
abbrev pub text_of : Keyword → List ℕ
text_of Peer = codes "peer"
text_of Drop = codes "drop"
text_of Enable = codes "enable"
text_of Disable = codes "disable"
text_of Policy = codes "policy"
text_of NoPolicy = codes "nopolicy"
text_of Use = codes "use"
text_of Network = codes "network"
text_of NoNetwork = codes "nonetwork"
text_of Reach = codes "reach"
text_of NoReach = codes "noreach"
text_of Filter = codes "filter"
text_of NoFilter = codes "nofilter"
text_of Assert = codes "assert"
text_of NoAssert = codes "noassert"
