-- The front of a turn's buffer.
use Rattle.std.proofs.Common.{◌≡◌, ℕ, List, length, take, arith}
use Rattle.std.proofs.lemmas.List.{length-take-le}
use Rattle.wires.specs.TurnOctets.{outgoing_octets}

-- a buffer for what waits has room for what a turn reads
pub front_room : (buf : List ℕ) → length buf ≡ outgoing_octets → length (take 4096 buf) ≡ 4096
unfolding outgoing_octets
front_room buf room = length-take-le 4096 buf (omega (arith, room))
