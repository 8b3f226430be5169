-- What kind of peer its AS makes of a peer (RFC 4271 section 1.1).
use Rattle.std.specs.Prelude.{Bool, true, false, if◌then◌else◌, ◌==◌}
use Rattle.bgp_attr.specs.declared.peer.PeerKind.{PeerKind}
use Rattle.bgp_attr.specs.declared.peer.PeerKind.TheVariants.{External, Internal}
use Rattle.net_prefix.specs.declared.asn.Asn.{Asn}

-- the kind of a peer in the second AS, to a speaker in the first
abbrev pub kind_between : Asn → Asn → PeerKind
kind_between own peer = if own.0 == peer.0 then Internal else External peer

-- the peer is in an AS of its own
abbrev pub is_external : PeerKind → Bool
is_external (External peer) = true
is_external Internal = false
