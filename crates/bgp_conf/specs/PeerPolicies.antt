-- What becomes of routes (own): what the import policy of the peer that announced them and the export policy of the peer
-- that is to be told of them make of them.
use Rattle.std.specs.Prelude.{ℕ, Bool, false, Option, Some, None}
use Rattle.policy.specs.declared.name.PolicyName.{PolicyName}
use Rattle.policy.specs.declared.rule.Action.{Action}
use Rattle.policy.specs.declared.rule.Action.TheVariants.{Reject}
use Rattle.policy.specs.PolicyMeaning.{Route}
use Rattle.policy.specs.PolicyNames.{is_same}
use Rattle.policy.specs.PolicyTable.{PolicyTable, policy_action}
use Rattle.bgp_conf.specs.declared.conf.ConfiguredPeer.{ConfiguredPeer}
use Rattle.bgp_conf.specs.Configuration.{Configuration, peer_at}

-- what one of a peer's two policies makes of a route; where there is no peer, it is rejected
abbrev pub action_by : (ConfiguredPeer → PolicyName) → PolicyTable → Option ConfiguredPeer → Route → Action
action_by policy policies None route = Reject
action_by policy policies (Some peer) route = policy_action policies (policy peer) route

-- what the import policy of the slot's peer makes of a route
abbrev pub import_action : Configuration → ℕ → Route → Action
import_action configuration slot route = action_by (λ peer. peer.import) configuration.policies (peer_at configuration slot) route

-- what the export policy of the slot's peer makes of a route
abbrev pub export_action : Configuration → ℕ → Route → Action
export_action configuration slot route = action_by (λ peer. peer.export) configuration.policies (peer_at configuration slot) route

-- the peer, if there is one, has an export policy of this name
abbrev pub has_export : PolicyName → Option ConfiguredPeer → Bool
has_export name None = false
has_export name (Some peer) = is_same peer.export name

-- the routes that the slot's peer is told go by the policy
abbrev pub exports_by : Configuration → ℕ → PolicyName → Bool
exports_by configuration slot name = has_export name (peer_at configuration slot)
