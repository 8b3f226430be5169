-- The tables that commands fill.
use Rattle.std.specs.Prelude.{◌≡◌, ℕ, ◌||◌, Bool, List, Option, Some}
use Rattle.std.specs.List.{list_any}
use Rattle.std.specs.Map.{lookup, values_of}
use Rattle.std.specs.Ordering.{nat_cmp, ordering_then}
use Rattle.std.specs.declared.cmp.Ordering.{Ordering}
use Rattle.std.specs.BTreeMap.{is_at}
use Rattle.net_prefix.specs.PrefixOrder.{prefix_cmp}
use Rattle.net_prefix.specs.declared.asn.Asn.{Asn}
use Rattle.net_prefix.specs.declared.prefix.Prefix.{Prefix}
use Rattle.local_exceptions.specs.ExceptionSets.{ExceptionSets}
use Rattle.policy.specs.declared.name.PolicyName.{PolicyName}
use Rattle.policy.specs.PolicyNames.{is_same}
use Rattle.policy.specs.PolicyTable.{PolicyTable}
use Rattle.bgp_conf.specs.declared.conf.ConfiguredPeer.{ConfiguredPeer}

-- the own AS, the peers by their slots, the policies by their names, the local networks, the costs of the `reach` entries
-- and the local exceptions; each table rises, but the policies stand as their names came
pub record Configuration : Type 0 where
  pub own : Asn
  pub peers : List (ℕ × ConfiguredPeer)
  pub policies : PolicyTable
  pub networks : List Prefix
  pub reach : List (Prefix × ℕ)
  pub exceptions : ExceptionSets

-- the peer of a slot
abbrev pub peer_at : Configuration → ℕ → Option ConfiguredPeer
peer_at configuration slot = lookup (is_at (nat_cmp slot)) configuration.peers

-- how an address and a length stand to a prefix: by address, then by length
abbrev pub address_cmp : ℕ → ℕ → Prefix → Ordering
address_cmp bits len prefix = ordering_then (nat_cmp bits prefix.bits) (nat_cmp len prefix.len)

-- the cost of a prefix's entry
abbrev pub entry_at : List (Prefix × ℕ) → Prefix → Option ℕ
entry_at reach prefix = lookup (is_at (address_cmp prefix.bits prefix.len)) reach

-- whether the prefix is a local network
abbrev pub is_network : Configuration → Prefix → Bool
is_network configuration prefix = list_any (is_at (prefix_cmp prefix)) configuration.networks

-- some peer's routes are taken or announced by the policy
abbrev pub uses_policy : Configuration → PolicyName → Bool
uses_policy configuration name =
    list_any (λ peer. is_same peer.import name || is_same peer.export name) (values_of configuration.peers)

-- the peers of two slots have different addresses
abbrev pub AddressesDiffer : List (ℕ × ConfiguredPeer) → Type 0
AddressesDiffer peers =
    (s t : ℕ) (p q : ConfiguredPeer) → lookup (is_at (nat_cmp s)) peers ≡ Some p → lookup (is_at (nat_cmp t)) peers ≡ Some q
    → p.address ≡ q.address → s ≡ t
