-- The prefixes that wait: a peer doesn't hold of them just what is exported to it, or has asked for them again (RFC 4271
-- sections 3.2 and 9.2, RFC 2918 section 4).
use Rattle.std.specs.Prelude.{◌≡◌, ◌≢◌, ◌⊎◌, ℕ, List, Option, Some, true}
use Rattle.std.specs.Option.{option_map}
use Rattle.bgp_conf.specs.Configuration.{peer_at}
use Rattle.bgp_conf.specs.declared.conf.ConfiguredPeer.{ConfiguredPeer}
use Rattle.bgp_fsm.specs.declared.state.State.TheVariants.{Established}
use Rattle.bgp_peer.specs.SessionInputs.{session}
use Rattle.net_prefix.specs.declared.prefix.Prefix.{Prefix}
use Rattle.runs.specs.Agreement.{tables_after}
use Rattle.routing.specs.Export.{IsExport, export_peer_of}
use Rattle.runs.specs.Held.{held}
use Rattle.runs.specs.Refreshes.{asked}
use Rattle.runs.specs.Runs.{Run, configuration_of, history}
use Rattle.runs.specs.SpeakerState.{SpeakerState}
use Rattle.routing.specs.Tables.{link_at}
use Rattle.runs.specs.declared.config.Config.{Config}
use Rattle.routing.specs.Waiting.{waiting_at}

-- after a run, the slot's session is Established, and its peer doesn't hold of the prefix just what is exported to it, or has asked
-- for it again
pub record IsWaitingIn (config : Config) (r : Run) (slot : ℕ) (prefix : Prefix) : Type 0 where
  pub peer : ConfiguredPeer
  pub export : Option (List ℕ)
  pub configured : peer_at (configuration_of config r) slot ≡ Some peer
  pub established : (session (history config slot r)).state ≡ Established
  pub is_export : IsExport (tables_after config r) (export_peer_of (configuration_of config r) slot peer) prefix export
  pub waits : (held (history config slot r) prefix ≢ export) ⊎ (asked (history config slot r) prefix ≡ true)

-- the known prefixes that wait of a slot
abbrev pub waiting_of : SpeakerState → ℕ → List Prefix
waiting_of s slot = waiting_at s.conf s.loc_rib s.adj_in (option_map (export_peer_of s.conf slot) (peer_at s.conf slot)) (link_at s.links slot)
