-- What a ROUTE-REFRESH asks for (RFC 2918 section 3).
use Rattle.std.specs.Prelude.{ℕ, ◌+◌, ◌*◌, ◌==◌, ◌&&◌, Bool, List, slice_index}

-- the address family of a body, and its subsequent one; the octet between them is reserved
abbrev pub afi_at : List ℕ → ℕ
afi_at body = slice_index body 0 * 256 + slice_index body 1

abbrev pub safi_at : List ℕ → ℕ
safi_at body = slice_index body 3

-- the routes of IPv4 unicast are asked for
abbrev pub is_ipv4_unicast : List ℕ → Bool
is_ipv4_unicast body = (afi_at body == 1) && (safi_at body == 1)
