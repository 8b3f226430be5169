-- When a command is refused (own choice: the order and the numbers).
use Rattle.std.specs.Prelude.{◌≡◌, ℕ, ◌==◌, ◌/◌, ◌%◌, ◌^◌, ◌||◌, ◌&&◌, not, Bool, List, [], ◌∷◌, Option, Some, None, is_some, is_none, nat_le, length, if◌then◌else◌}
use Rattle.std.specs.List.{list_any}
use Rattle.std.specs.Map.{values_of}
use Rattle.std.specs.Option.{option_map}
use Rattle.bgp_attr.specs.AttributeFaults.{is_host}
use Rattle.policy.specs.PolicyNames.{is_policy_name, name_of}
use Rattle.policy.specs.PolicyRefusals.{drop_refusal, set_refusal}
use Rattle.policy.specs.PolicyTable.{is_known}
use Rattle.bgp_conf.specs.declared.conf.ConfiguredPeer.{ConfiguredPeer}
use Rattle.bgp_conf.specs.declared.command.PeerConf.{PeerConf}
use Rattle.bgp_conf.specs.declared.command.Command.{Command}
use Rattle.bgp_conf.specs.declared.command.Command.TheVariants.{AddPeer, RemovePeer, Enable, Disable, SetPolicy, DropPolicy, UseIn, UseOut, Network, NoNetwork, Reach, NoReach, Filter, NoFilter, Assert, NoAssert}
use Rattle.bgp_conf.specs.declared.refusal.Refusal.{Refusal}
use Rattle.bgp_conf.specs.declared.refusal.Refusal.TheVariants.{UnknownName, UnknownException, TooMany, Range, BadSlot, SlotTaken, AddressTaken}
use Rattle.bgp_conf.specs.RefusalNumbers.{refusal_of}
use Rattle.bgp_conf.specs.ConfAfter.{asserted_of, is_asserted_by, is_filter_of}
use Rattle.local_exceptions.specs.Filters.{filter_of}
use Rattle.bgp_conf.specs.Configuration.{Configuration, peer_at, entry_at, is_network, uses_policy}

-- the first test that holds gives the refusal
abbrev pub first : List (Bool × Refusal) → Option Refusal
first [] = None
first (test ∷ tests) = if test.0 then Some test.1 else first tests

-- an AS, an address, one of our own that it can have as next hop, so not its own (RFC 4271 sections
-- 5.1.3 and 6.3), a hold time that RFC 4271 section 4.2 allows, and names of policies
abbrev pub is_in_range : PeerConf → Bool
is_in_range peer =
    not (peer.asn.0 == 0)
    && not (peer.address == 0)
    && is_host peer.local
    && not (peer.local == peer.address)
    && not (peer.hold == 1)
    && not (peer.hold == 2)
    && is_policy_name peer.import.now
    && is_policy_name peer.export.now

-- the import policy is there, and the export policy too
abbrev pub has_known_policies : Configuration → PeerConf → Bool
has_known_policies configuration peer =
    is_known configuration.policies (name_of peer.import.now) && is_known configuration.policies (name_of peer.export.now)

-- some peer has the address
abbrev pub has_address : List (ℕ × ConfiguredPeer) → ℕ → Bool
has_address peers address = list_any (λ peer. peer.address == address) (values_of peers)

-- the bit of a slot in a set of slots
abbrev pub has_bit : ℕ → ℕ → Bool
has_bit slots slot = (slots / 2 ^ slot) % 2 == 1

-- the first refusal of a command, where `closing` has a bit for each slot whose last connection is still closing
abbrev pub first_refusal : Configuration → ℕ → Command → Option Refusal
first_refusal configuration closing (AddPeer slot peer) =
    first
    ((nat_le 64 slot, BadSlot)
    ∷ (is_some (peer_at configuration slot) || has_bit closing slot, SlotTaken)
    ∷ (has_address configuration.peers peer.address, AddressTaken)
    ∷ (not (is_in_range peer), Range)
    ∷ (not (has_known_policies configuration peer), UnknownName)
    ∷ [])
first_refusal configuration closing (RemovePeer slot) =
    first ((nat_le 64 slot || is_none (peer_at configuration slot), BadSlot) ∷ [])
first_refusal configuration closing (Enable slot) =
    first ((nat_le 64 slot || is_none (peer_at configuration slot), BadSlot) ∷ [])
first_refusal configuration closing (Disable slot) =
    first ((nat_le 64 slot || is_none (peer_at configuration slot), BadSlot) ∷ [])
first_refusal configuration closing (SetPolicy name rules) =
    option_map refusal_of (set_refusal configuration.policies name.now rules.now)
first_refusal configuration closing (DropPolicy name) =
    option_map refusal_of (drop_refusal configuration.policies name.now (uses_policy configuration (name_of name.now)))
first_refusal configuration closing (UseIn slot name) =
    first
    ((nat_le 64 slot || is_none (peer_at configuration slot), BadSlot)
    ∷ (not (is_policy_name name.now), Range)
    ∷ (not (is_known configuration.policies (name_of name.now)), UnknownName)
    ∷ [])
first_refusal configuration closing (UseOut slot name) =
    first
    ((nat_le 64 slot || is_none (peer_at configuration slot), BadSlot)
    ∷ (not (is_policy_name name.now), Range)
    ∷ (not (is_known configuration.policies (name_of name.now)), UnknownName)
    ∷ [])
first_refusal configuration closing (Network prefix) =
    first ((not (is_network configuration prefix) && nat_le 4096 (length configuration.networks), TooMany) ∷ [])
first_refusal configuration closing (NoNetwork prefix) =
    first ((not (is_network configuration prefix), UnknownName) ∷ [])
first_refusal configuration closing (Reach prefix cost) =
    first ((is_none (entry_at configuration.reach prefix) && nat_le 4096 (length configuration.reach), TooMany) ∷ [])
first_refusal configuration closing (NoReach prefix) =
    first ((is_none (entry_at configuration.reach prefix), UnknownName) ∷ [])
first_refusal configuration closing (Filter prefix asn) =
    first
    ((is_none (filter_of prefix asn), Range)
    ∷ (not (is_filter_of configuration.exceptions (filter_of prefix asn)) && nat_le 4096 (length configuration.exceptions.filters), TooMany)
    ∷ [])
first_refusal configuration closing (NoFilter prefix asn) =
    first
    ((is_none (filter_of prefix asn), Range)
    ∷ (not (is_filter_of configuration.exceptions (filter_of prefix asn)), UnknownException)
    ∷ [])
first_refusal configuration closing (Assert prefix max_len asn) =
    first
    ((is_none (asserted_of prefix max_len asn), Range)
    ∷ (not (is_asserted_by configuration.exceptions (asserted_of prefix max_len asn)) && nat_le 4096 (length configuration.exceptions.asserted), TooMany)
    ∷ [])
first_refusal configuration closing (NoAssert prefix max_len asn) =
    first
    ((is_none (asserted_of prefix max_len asn), Range)
    ∷ (not (is_asserted_by configuration.exceptions (asserted_of prefix max_len asn)), UnknownException)
    ∷ [])

-- for some slots whose last connection is still closing, nothing refuses the command
abbrev pub IsAccepted : Configuration → Command → Type 0
IsAccepted configuration command = (closing : ℕ) × (first_refusal configuration closing command ≡ None)
