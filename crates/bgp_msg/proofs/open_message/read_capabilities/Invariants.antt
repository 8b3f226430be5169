use Rattle.std.proofs.Common.{◌≡◌, length}
use Rattle.std.specs.Option.{option_map}
use Rattle.bgp_msg.specs.MessageSpelling.{parts_of}
use Rattle.bgp_msg.specs.OpenParts.{number, asn_behind}
use Rattle.bgp_msg.proofs.open_message.read_capabilities.Given as goal

-- what was found so far and what the rest tells are what all tell
abbrev pub invariant-loop-rest : goal.invariant-loop-rest
invariant-loop-rest l =
    asn_behind (option_map number l.found) (parts_of l.rest) ≡ asn_behind (option_map number l.fn.known) (parts_of l.fn.octets)

abbrev pub decreases-loop-rest : goal.decreases-loop-rest
decreases-loop-rest l = length l.rest
