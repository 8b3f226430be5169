-- Commands that change tables, by what they name (RFC 4271 section 9.1).
use Rattle.std.specs.Borrow.{Bor}
use Rattle.std.specs.Prelude.{◌≡◌, ◌⊎◌, ℕ, Bool, true, false, List, Option, Some}
use Rattle.bgp_conf.specs.ConfAfter.{asserted_of}
use Rattle.bgp_conf.specs.declared.command.Command.{Command}
use Rattle.bgp_conf.specs.declared.command.Command.TheVariants.{AddPeer, RemovePeer, Enable, Disable, SetPolicy, DropPolicy, UseIn, UseOut, Network, NoNetwork, Reach, NoReach, Filter, NoFilter, Assert, NoAssert}
use Rattle.local_exceptions.specs.Filters.{filter_of}
use Rattle.local_exceptions.specs.declared.filter.Filter.{Filter as TheFilter}
use Rattle.net_prefix.specs.declared.asn.Asn.{Asn}
use Rattle.net_prefix.specs.declared.payload.Vrp.{Vrp}
use Rattle.net_prefix.specs.declared.prefix.Prefix.{Prefix}
use Rattle.policy.specs.declared.rule.Rule.{Rule}

-- whether the command changes how next hops resolve
abbrev pub resolves : Command → Bool
resolves (AddPeer slot peer) = false
resolves (RemovePeer slot) = false
resolves (Enable slot) = false
resolves (Disable slot) = false
resolves (SetPolicy name rules) = false
resolves (DropPolicy name) = false
resolves (UseIn slot name) = false
resolves (UseOut slot name) = false
resolves (Network prefix) = false
resolves (NoNetwork prefix) = false
resolves (Reach prefix cost) = true
resolves (NoReach prefix) = true
resolves (Filter prefix asn) = false
resolves (NoFilter prefix asn) = false
resolves (Assert prefix max_len asn) = false
resolves (NoAssert prefix max_len asn) = false

-- the command adds the filter or takes it away
abbrev pub TurnsFilter : TheFilter → Command → Type 0
TurnsFilter filter command =
    (prefix : Option Prefix) × ((asn : Option Asn) × ((filter_of prefix asn ≡ Some filter) × ((command ≡ Filter prefix asn) ⊎ (command ≡ NoFilter prefix asn))))

-- the command asserts the payload, or does so no more
abbrev pub TurnsAssertion : Vrp → Command → Type 0
TurnsAssertion payload command =
    (prefix : Prefix) × ((max_len : ℕ) × ((asn : Asn) × ((asserted_of prefix max_len asn ≡ Some payload) × ((command ≡ Assert prefix max_len asn) ⊎ (command ≡ NoAssert prefix max_len asn)))))

-- the command sets the rules of the policy of this name
abbrev pub SetsPolicy : List ℕ → Command → Type 0
SetsPolicy text command = (name : Bor (List ℕ)) × (rules : Bor (List Rule)) × (name.now ≡ text) × (command ≡ SetPolicy name rules)

-- the command drops a policy
abbrev pub DropsPolicy : Command → Type 0
DropsPolicy command = (name : Bor (List ℕ)) × (command ≡ DropPolicy name)

-- the command gives the slot's peer another import policy
abbrev pub UsesIn : ℕ → Command → Type 0
UsesIn slot command = (name : Bor (List ℕ)) × (command ≡ UseIn slot name)

-- the command gives the slot's peer another export policy
abbrev pub UsesOut : ℕ → Command → Type 0
UsesOut slot command = (name : Bor (List ℕ)) × (command ≡ UseOut slot name)
