-- The order of payloads (our own).
use Rattle.std.specs.Ordering.{nat_cmp, ordering_then}
use Rattle.std.specs.declared.cmp.Ordering.{Ordering}
use Rattle.net_prefix.specs.declared.payload.Vrp.{Vrp}
use Rattle.net_prefix.specs.PrefixOrder.{prefix_cmp}

-- the order of payloads: by prefix, then by maximum length, then by AS
abbrev pub payload_cmp : Vrp → Vrp → Ordering
payload_cmp a b =
    ordering_then (prefix_cmp a.prefix b.prefix)
    (ordering_then (nat_cmp a.max_len b.max_len) (nat_cmp a.asn.0 b.asn.0))
