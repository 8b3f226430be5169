-- What holds of the attributes of every route that was taken (RFC 4271 section 6.3).
use Rattle.std.specs.Prelude.{◌≡◌, ◌<◌, ◌^◌, MatchOption, ⊤, true}
use Rattle.std.specs.List.{AllByRecursion}
use Rattle.bgp_attr.specs.AttributeFaults.{is_host}
use Rattle.bgp_attr.specs.AttributeSpelling.{IsSegment}
use Rattle.bgp_attr.specs.PathAttributes.{PathAttributes}
use Rattle.bgp_attr.specs.UnknownAttributes.{ArePassedOn}

-- a path of segments of 1 to 255 ASes, the next hop of a host, numbers of four octets, unknown attributes that may be passed on
pub record IsSoundRoute (a : PathAttributes) : Type 0 where
  pub segments : MatchOption a.as_path ⊤ (AllByRecursion IsSegment)
  pub next_hop : MatchOption a.next_hop ⊤ (λ n. n < 2 ^ 32)
  pub host : MatchOption a.next_hop ⊤ (λ n. is_host n ≡ true)
  pub med : MatchOption a.multi_exit_disc ⊤ (λ n. n < 2 ^ 32)
  pub aggregator : MatchOption a.aggregator ⊤ (λ g. (g.asn.0 < 2 ^ 32) × (g.address < 2 ^ 32))
  pub unknown : ArePassedOn a.unknown
