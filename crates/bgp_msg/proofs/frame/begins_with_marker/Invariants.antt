use Rattle.std.proofs.Common.{◌≡◌, ◌==◌, true, take}
use Rattle.std.specs.List.{list_all}
use Rattle.bgp_msg.proofs.frame.begins_with_marker.Given as goal

-- the octets so far are of the marker
abbrev pub invariant-loop-octet : goal.invariant-loop-octet
invariant-loop-octet l = list_all (λ octet. octet == 255) (take l.octet-index l.octet-items) ≡ true
