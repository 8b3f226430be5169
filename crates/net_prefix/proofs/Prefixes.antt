use std.HLevel.{prop→path_p}
use Rattle.std.proofs.Common.{◌≡◌, ◌≤◌}
use Rattle.std.proofs.Props.{props}
use Rattle.net_prefix.specs.declared.prefix.Prefix.{Prefix}
use Rattle.net_prefix.specs.Cover.{HasNoHostBits}

-- Prefixes are their address and their length.

-- prefixes of one address and one length are one
pub same_prefix : (p q : Prefix) → p.bits ≡ q.bits → p.len ≡ q.len → p ≡ q
same_prefix p q bits len = λ i. record {
  bits = bits i;
  len = len i;
  short = prop→path_p (λ j. len j ≤ 32) (hlevel props) p.short q.short i;
  no_host_bits = prop→path_p (λ j. HasNoHostBits (bits j) (len j)) (hlevel props) p.no_host_bits q.no_host_bits i;
}
