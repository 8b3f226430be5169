-- The attributes of an UPDATE (RFC 4271 section 5.1).
use Rattle.std.specs.Prelude.{ℕ, ◌==◌, ◌&&◌, Bool, false, not, List, [], Option, Some, None, is_none, if◌then◌else◌}
use Rattle.std.specs.Option.{option_map}
use Rattle.bgp_attr.specs.AsPath.{PathSegment}
use Rattle.bgp_attr.specs.PeerKinds.{is_external}
use Rattle.bgp_attr.specs.UnknownAttributes.{Unknown}
use Rattle.bgp_attr.specs.declared.aggregator.AggregatingSpeaker.{AggregatingSpeaker}
use Rattle.bgp_attr.specs.declared.aggregator.Aggregator.{Aggregator}
use Rattle.bgp_attr.specs.declared.attrs.Origin.{Origin}
use Rattle.bgp_attr.specs.declared.attrs.Origin.TheVariants.{Igp, Egp, Incomplete}
use Rattle.bgp_attr.specs.declared.attribute_type.AttributeType.{AttributeType}
use Rattle.bgp_attr.specs.declared.attribute_type.AttributeType.TheVariants as type
use Rattle.bgp_attr.specs.declared.peer.PeerKind.{PeerKind}

-- the attributes that came and were taken; those that this speaker does not know where they are passed on
pub record PathAttributes : Type 0 where
  pub origin : Option Origin
  pub as_path : Option (List PathSegment)
  pub next_hop : Option ℕ
  pub multi_exit_disc : Option ℕ
  pub local_pref : Option ℕ
  pub atomic_aggregate : Bool
  pub aggregator : Option Aggregator
  pub unknown : Unknown

-- an aggregator, of the speaker and whether it is partial
abbrev pub aggregator_of : Option AggregatingSpeaker → Bool → Option Aggregator
aggregator_of speaker partial = option_map (λ s. record { asn = s.asn; address = s.address; is_partial = partial }) speaker

-- the attributes of a route that this speaker originates (RFC 4271 sections 5.1.1 and 5.1.2)
abbrev pub originated : PathAttributes
originated =
    record {
      origin = Some Igp;
      as_path = Some [];
      next_hop = None;
      multi_exit_disc = None;
      local_pref = None;
      atomic_aggregate = false;
      aggregator = None;
      unknown = [];
    }

-- the octet of an origin (RFC 4271 section 5.1.1)
abbrev pub origin_octet : Origin → ℕ
origin_octet Igp = 0
origin_octet Egp = 1
origin_octet Incomplete = 2

-- the origin that has an octet
abbrev pub origin_at : ℕ → Option Origin
origin_at octet = if octet == 0 then Some Igp else (if octet == 1 then Some Egp else (if octet == 2 then Some Incomplete else None))

-- the least code of the attributes that routes from such a peer need and that did not come (RFC 4271 section 6.3): LOCAL_PREF is one of them from an internal peer (section 5.1.5)
abbrev pub missing_of : PeerKind → PathAttributes → Option AttributeType
missing_of kind attrs =
    if is_none attrs.origin then Some type.Origin
    else (if is_none attrs.as_path then Some type.AsPath
    else (if is_none attrs.next_hop then Some type.NextHop
    else (if not (is_external kind) && is_none attrs.local_pref then Some type.LocalPref else None)))
