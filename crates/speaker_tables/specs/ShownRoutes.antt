-- Why a route is no candidate (RFC 4271 section 9.1.2).
use Rattle.std.specs.Prelude.{◌≡◌, ℕ, List, None, Some, true}
use Rattle.std.specs.Option.{IfSome}
use Rattle.bgp_attr.specs.AsPath.{has_as}
use Rattle.bgp_attr.specs.PathAttributes.{PathAttributes}
use Rattle.bgp_conf.specs.Configuration.{Configuration, peer_at}
use Rattle.bgp_conf.specs.Reach.{IsCost}
use Rattle.bgp_conf.specs.declared.conf.ConfiguredPeer.{ConfiguredPeer}
use Rattle.bgp_attr.specs.AsPath.{PathSegment}
use Rattle.speaker_tables.specs.declared.why.WhyNone.{WhyNone}
use Rattle.speaker_tables.specs.declared.why.WhyNone.TheVariants.{NoPeer, OwnAddress, OwnAs, Unreachable, Rejected}

-- its next hop is this speaker's own address on the session
abbrev pub HasOwnAddress : Configuration → ℕ → PathAttributes → Type 0
HasOwnAddress conf slot attrs = (peer : ConfiguredPeer) × (peer_at conf slot ≡ Some peer) × (attrs.next_hop ≡ Some peer.local)

-- its path holds this speaker's AS
abbrev pub HoldsOwnAs : Configuration → PathAttributes → Type 0
HoldsOwnAs conf attrs = (path : List PathSegment) × (attrs.as_path ≡ Some path) × (has_as path conf.own ≡ true)

-- its next hop doesn't resolve
abbrev pub IsUnreachable : Configuration → PathAttributes → Type 0
IsUnreachable conf attrs = IfSome attrs.next_hop (λ hop. IsCost conf.reach hop None)

-- what is told of the route of a slot is so; that a policy rejects it, where neither of the others is
abbrev pub IsWhy : Configuration → ℕ → PathAttributes → WhyNone → Type 0
IsWhy conf slot attrs NoPeer = peer_at conf slot ≡ None
IsWhy conf slot attrs OwnAddress = HasOwnAddress conf slot attrs
IsWhy conf slot attrs OwnAs = HoldsOwnAs conf attrs
IsWhy conf slot attrs Unreachable = IsUnreachable conf attrs
IsWhy conf slot attrs Rejected = ¬ (HasOwnAddress conf slot attrs) × ¬ (HoldsOwnAs conf attrs) × ¬ (IsUnreachable conf attrs)
