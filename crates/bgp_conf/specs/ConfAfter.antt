-- The tables after a command.
use Rattle.std.specs.Prelude.{◌≡◌, refl, ⊤, ℕ, ◌==◌, ◌&&◌, Bool, true, false, List, Option, Some, None, if◌then◌else◌, nat_le}
use Rattle.std.specs.Ordering.{nat_cmp}
use Rattle.std.specs.BTreeMap.{insert_entry, is_at}
use Rattle.std.specs.BTreeSet.{insert_key}
use Rattle.std.specs.Map.{lookup, remove_entry}
use Rattle.std.specs.Option.{option_map}
use Rattle.std.proofs.lemmas.Bool.{leb-true}
use Rattle.std.specs.Set.{remove_key}
use Rattle.local_exceptions.specs.ExceptionSets.{ExceptionSets, with_assertion, with_filter, without_assertion, without_filter}
use Rattle.local_exceptions.specs.Filters.{filter_of, has_filter}
use Rattle.local_exceptions.specs.declared.filter.Filter.{Filter as TheFilter}
use Rattle.net_prefix.specs.PayloadSets.{has}
use Rattle.net_prefix.specs.declared.asn.Asn.{Asn}
use Rattle.net_prefix.specs.declared.payload.Vrp.{Vrp}
use Rattle.net_prefix.specs.declared.prefix.Prefix.{Prefix}
use Rattle.policy.specs.declared.name.PolicyName.{PolicyName}
use Rattle.policy.specs.PolicyNames.{name_of}
use Rattle.policy.specs.PolicyTable.{with_policy, without_policy}
use Rattle.bgp_conf.specs.declared.conf.ConfiguredPeer.{ConfiguredPeer}
use Rattle.bgp_conf.specs.declared.command.PeerConf.{PeerConf}
use Rattle.bgp_conf.specs.declared.command.Command.{Command}
use Rattle.bgp_conf.specs.declared.command.Command.TheVariants.{AddPeer, RemovePeer, Enable, Disable, SetPolicy, DropPolicy, UseIn, UseOut, Network, NoNetwork, Reach, NoReach, Filter, NoFilter, Assert, NoAssert}
use Rattle.net_prefix.specs.PrefixOrder.{prefix_cmp}
use Rattle.bgp_conf.specs.Configuration.{Configuration, peer_at, entry_at, is_network}

-- what is kept of a peer's settings
abbrev pub configured_of : PeerConf → ConfiguredPeer
configured_of peer =
    record {
      asn = peer.asn;
      address = peer.address;
      local = peer.local;
      mode = peer.mode;
      hold = peer.hold;
      import = name_of peer.import.now;
      export = name_of peer.export.now;
    }

-- the peer with this import policy
abbrev pub importing : PolicyName → ConfiguredPeer → ConfiguredPeer
importing name peer = record peer { import = name }

-- the peer with this export policy
abbrev pub exporting : PolicyName → ConfiguredPeer → ConfiguredPeer
exporting name peer = record peer { export = name }

-- the peers with this one in the slot, if it is given
abbrev pub with_peer : List (ℕ × ConfiguredPeer) → ℕ → Option ConfiguredPeer → List (ℕ × ConfiguredPeer)
with_peer peers slot None = peers
with_peer peers slot (Some peer) = insert_entry nat_cmp peers slot peer

-- the peers, where that of the slot, if there is one, is changed so
abbrev pub with_changed : List (ℕ × ConfiguredPeer) → ℕ → (ConfiguredPeer → ConfiguredPeer) → List (ℕ × ConfiguredPeer)
with_changed peers slot change = with_peer peers slot (option_map change (lookup (is_at (nat_cmp slot)) peers))

-- the payload that an assertion puts in; none where the maximum length is no such of the prefix
abbrev pub asserted_if : (prefix : Prefix) (max_len : ℕ) (asn : Asn) (reaches short : Bool) → nat_le prefix.len max_len ≡ reaches → nat_le max_len 32 ≡ short → Option Vrp
asserted_if prefix max_len asn true true reaches short =
    Some (record { prefix = prefix; max_len = max_len; asn = asn; reaches = leb-true prefix.len max_len reaches; short = leb-true max_len 32 short })
asserted_if prefix max_len asn true false reaches short = None
asserted_if prefix max_len asn false within reaches short = None

unfoldable pub asserted_of : Prefix → ℕ → Asn → Option Vrp
asserted_of prefix max_len asn = asserted_if prefix max_len asn (nat_le prefix.len max_len) (nat_le max_len 32) refl refl

-- the exceptions that a filter or a payload, if it is given, makes of these
abbrev pub with_given : {X : Type 0} → (X → ExceptionSets → ExceptionSets) → Option X → ExceptionSets → ExceptionSets
with_given change None exceptions = exceptions
with_given change (Some given) exceptions = change given exceptions

-- AddPeer sets the peer of its slot, SetPolicy the rules of its policy, UseIn and UseOut the import and the export policy
-- of a peer that is there, and Reach the cost of its prefix, each in place of what was there, Network makes its prefix a
-- local network, Filter adds its filter and Assert its payload; RemovePeer, DropPolicy, NoReach, NoNetwork, NoFilter and
-- NoAssert take these away
abbrev pub conf_after : Configuration → Command → Configuration
conf_after configuration (AddPeer slot peer) =
    record configuration { peers = insert_entry nat_cmp configuration.peers slot (configured_of peer) }
conf_after configuration (RemovePeer slot) =
    record configuration { peers = remove_entry (is_at (nat_cmp slot)) configuration.peers }
conf_after configuration (Enable slot) = configuration
conf_after configuration (Disable slot) = configuration
conf_after configuration (SetPolicy name rules) =
    record configuration { policies = with_policy configuration.policies (name_of name.now) rules.now }
conf_after configuration (DropPolicy name) =
    record configuration { policies = without_policy configuration.policies (name_of name.now) }
conf_after configuration (UseIn slot name) =
    record configuration { peers = with_changed configuration.peers slot (importing (name_of name.now)) }
conf_after configuration (UseOut slot name) =
    record configuration { peers = with_changed configuration.peers slot (exporting (name_of name.now)) }
conf_after configuration (Network prefix) =
    record configuration { networks = insert_key prefix_cmp configuration.networks prefix }
conf_after configuration (NoNetwork prefix) =
    record configuration { networks = remove_key (is_at (prefix_cmp prefix)) configuration.networks }
conf_after configuration (Reach prefix cost) =
    record configuration { reach = insert_entry prefix_cmp configuration.reach prefix cost }
conf_after configuration (NoReach prefix) =
    record configuration { reach = remove_entry (is_at (prefix_cmp prefix)) configuration.reach }
conf_after configuration (Filter prefix asn) =
    record configuration { exceptions = with_given with_filter (filter_of prefix asn) configuration.exceptions }
conf_after configuration (NoFilter prefix asn) =
    record configuration { exceptions = with_given without_filter (filter_of prefix asn) configuration.exceptions }
conf_after configuration (Assert prefix max_len asn) =
    record configuration { exceptions = with_given with_assertion (asserted_of prefix max_len asn) configuration.exceptions }
conf_after configuration (NoAssert prefix max_len asn) =
    record configuration { exceptions = with_given without_assertion (asserted_of prefix max_len asn) configuration.exceptions }

-- a slot's peer after a command: its own AddPeer sets it, its own RemovePeer takes it away, its own UseIn and UseOut give
-- it the import and the export policy, and every other command leaves it
abbrev pub peer_after : Configuration → Command → ℕ → Option ConfiguredPeer
peer_after configuration (AddPeer slot peer) other =
    if other == slot then Some (configured_of peer) else peer_at configuration other
peer_after configuration (RemovePeer slot) other =
    if other == slot then None else peer_at configuration other
peer_after configuration (Enable slot) other = peer_at configuration other
peer_after configuration (Disable slot) other = peer_at configuration other
peer_after configuration (SetPolicy name rules) other = peer_at configuration other
peer_after configuration (DropPolicy name) other = peer_at configuration other
peer_after configuration (UseIn slot name) other =
    if other == slot then option_map (importing (name_of name.now)) (peer_at configuration slot) else peer_at configuration other
peer_after configuration (UseOut slot name) other =
    if other == slot then option_map (exporting (name_of name.now)) (peer_at configuration slot) else peer_at configuration other
peer_after configuration (Network prefix) other = peer_at configuration other
peer_after configuration (NoNetwork prefix) other = peer_at configuration other
peer_after configuration (Reach prefix cost) other = peer_at configuration other
peer_after configuration (NoReach prefix) other = peer_at configuration other
peer_after configuration (Filter prefix asn) other = peer_at configuration other
peer_after configuration (NoFilter prefix asn) other = peer_at configuration other
peer_after configuration (Assert prefix max_len asn) other = peer_at configuration other
peer_after configuration (NoAssert prefix max_len asn) other = peer_at configuration other

-- whether both are one prefix
abbrev pub is_prefix : Prefix → Prefix → Bool
is_prefix prefix other = other.bits == prefix.bits && other.len == prefix.len

-- whether a prefix is a local network after a command: its own Network makes it one, its own NoNetwork makes it none, and
-- every other command leaves it
abbrev pub is_network_after : Configuration → Command → Prefix → Bool
is_network_after configuration (AddPeer slot peer) other = is_network configuration other
is_network_after configuration (RemovePeer slot) other = is_network configuration other
is_network_after configuration (Enable slot) other = is_network configuration other
is_network_after configuration (Disable slot) other = is_network configuration other
is_network_after configuration (SetPolicy name rules) other = is_network configuration other
is_network_after configuration (DropPolicy name) other = is_network configuration other
is_network_after configuration (UseIn slot name) other = is_network configuration other
is_network_after configuration (UseOut slot name) other = is_network configuration other
is_network_after configuration (Network prefix) other =
    if is_prefix prefix other then true else is_network configuration other
is_network_after configuration (NoNetwork prefix) other =
    if is_prefix prefix other then false else is_network configuration other
is_network_after configuration (Reach prefix cost) other = is_network configuration other
is_network_after configuration (NoReach prefix) other = is_network configuration other
is_network_after configuration (Filter prefix asn) other = is_network configuration other
is_network_after configuration (NoFilter prefix asn) other = is_network configuration other
is_network_after configuration (Assert prefix max_len asn) other = is_network configuration other
is_network_after configuration (NoAssert prefix max_len asn) other = is_network configuration other

-- a prefix's entry after a command: its own Reach sets it, its own NoReach takes it away, and every other command leaves it
abbrev pub entry_after : Configuration → Command → Prefix → Option ℕ
entry_after configuration (AddPeer slot peer) other = entry_at configuration.reach other
entry_after configuration (RemovePeer slot) other = entry_at configuration.reach other
entry_after configuration (Enable slot) other = entry_at configuration.reach other
entry_after configuration (Disable slot) other = entry_at configuration.reach other
entry_after configuration (SetPolicy name rules) other = entry_at configuration.reach other
entry_after configuration (DropPolicy name) other = entry_at configuration.reach other
entry_after configuration (UseIn slot name) other = entry_at configuration.reach other
entry_after configuration (UseOut slot name) other = entry_at configuration.reach other
entry_after configuration (Network prefix) other = entry_at configuration.reach other
entry_after configuration (NoNetwork prefix) other = entry_at configuration.reach other
entry_after configuration (Reach prefix cost) other =
    if is_prefix prefix other then Some cost else entry_at configuration.reach other
entry_after configuration (NoReach prefix) other =
    if is_prefix prefix other then None else entry_at configuration.reach other
entry_after configuration (Filter prefix asn) other = entry_at configuration.reach other
entry_after configuration (NoFilter prefix asn) other = entry_at configuration.reach other
entry_after configuration (Assert prefix max_len asn) other = entry_at configuration.reach other
entry_after configuration (NoAssert prefix max_len asn) other = entry_at configuration.reach other

-- whether the filter, if it is given, is one of the exceptions
abbrev pub is_filter_of : ExceptionSets → Option TheFilter → Bool
is_filter_of exceptions None = false
is_filter_of exceptions (Some given) = has_filter exceptions.filters given

-- whether the payload, if it is given, is asserted by them
abbrev pub is_asserted_by : ExceptionSets → Option Vrp → Bool
is_asserted_by exceptions None = false
is_asserted_by exceptions (Some given) = has exceptions.asserted given

-- the command takes memory: it sets the rules of a policy, or adds a slot, a local network, an entry of `reach`, a filter
-- or an assertion that was not there
abbrev pub TakesMemory : Configuration → Command → Type 0
TakesMemory configuration (AddPeer slot peer) = peer_at configuration slot ≡ None
TakesMemory configuration (RemovePeer slot) = ⊥
TakesMemory configuration (Enable slot) = ⊥
TakesMemory configuration (Disable slot) = ⊥
TakesMemory configuration (SetPolicy name rules) = ⊤
TakesMemory configuration (DropPolicy name) = ⊥
TakesMemory configuration (UseIn slot name) = ⊥
TakesMemory configuration (UseOut slot name) = ⊥
TakesMemory configuration (Network prefix) = is_network configuration prefix ≡ false
TakesMemory configuration (NoNetwork prefix) = ⊥
TakesMemory configuration (Reach prefix cost) = entry_at configuration.reach prefix ≡ None
TakesMemory configuration (NoReach prefix) = ⊥
TakesMemory configuration (Filter prefix asn) = is_filter_of configuration.exceptions (filter_of prefix asn) ≡ false
TakesMemory configuration (NoFilter prefix asn) = ⊥
TakesMemory configuration (Assert prefix max_len asn) = is_asserted_by configuration.exceptions (asserted_of prefix max_len asn) ≡ false
TakesMemory configuration (NoAssert prefix max_len asn) = ⊥
