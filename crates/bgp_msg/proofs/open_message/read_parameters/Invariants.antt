use Rattle.std.proofs.Common.{◌≡◌, length}
use Rattle.std.specs.Option.{option_and_then}
use Rattle.bgp_msg.specs.MessageSpelling.{parts_of}
use Rattle.bgp_msg.specs.OpenParts.{seen, parameters_behind, parameters_of}
use Rattle.bgp_msg.proofs.open_message.read_parameters.Given as goal

-- what was told so far and what the rest tells are what all tell
abbrev pub invariant-loop-rest : goal.invariant-loop-rest
invariant-loop-rest l =
    option_and_then (parameters_behind (seen l.told)) (parts_of l.rest) ≡ parameters_of l.fn.octets

abbrev pub decreases-loop-rest : goal.decreases-loop-rest
decreases-loop-rest l = length l.rest
