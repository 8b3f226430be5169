use Rattle.std.proofs.Common.{◌≡◌, ◌∙◌, false, subst, sym, refl}
use Rattle.std.proofs.lemmas.Result.{err_from_is_err_and}
use Rattle.bgp_conf.specs.Configuration.{Configuration, AddressesDiffer}
use Rattle.bgp_conf.specs.FirstRefusal.{has_address}
use Rattle.bgp_conf.specs.declared.conf.ConfiguredPeer.{ConfiguredPeer}
use Rattle.prefix_trie.proofs.MapLaws.{found-with_entry, found-without}
use Rattle.bgp_conf.proofs.ReachEntries.{without-remove_entry}
use Rattle.bgp_conf.proofs.PrefixOrder.{is_at-prefix_cmp, is_eq-nat_cmp}
use Rattle.bgp_conf.proofs.Accepted.{has_address-from_accepted}
use Rattle.bgp_conf.proofs.Addresses.{AddressesDiffer-set, AddressesDiffer-without}
use Rattle.bgp_conf.proofs.conf.Conf.apply.Goals as goal

pub returns-in_ok-insert-in-AddPeer-clause-addresses :
    goal.returns-in_ok-insert-in-AddPeer-clause-addresses
returns-in_ok-insert-in-AddPeer-clause-addresses g c =
    λ closing accepted differ.
    let told = rw c.in-AddPeer.is at accepted in
    let free = has_address-from_accepted c.args.self.now closing c.in-AddPeer.slot c.in-AddPeer.peer told in
    let free_address : has_address c.args.self.now.peers c.configured.result.address ≡ false =
    subst (λ (peer : ConfiguredPeer). has_address c.args.self.now.peers peer.address ≡ false) (sym c.configured.ensures) free in
    AddressesDiffer-set c.args.self.now.peers c.insert.new.self.entries c.in-AddPeer.slot c.configured.result
    (λ s. rw (← is_eq-nat_cmp c.in-AddPeer.slot s, ← c.self.view_is) (c.in_ok-insert-in-AddPeer.ensures.updates.0 s))
    free_address
    differ

pub returns-in_err-insert-in-AddPeer-clause-addresses :
    goal.returns-in_err-insert-in-AddPeer-clause-addresses
returns-in_err-insert-in-AddPeer-clause-addresses g c =
    λ closing accepted differ.
    let before = rw (← c.self.view_is) at differ in
    rw c.in_err-insert-in-AddPeer.ensures.err before

pub returns-in_err-insert-in-Reach-clause-addresses :
    goal.returns-in_err-insert-in-Reach-clause-addresses
returns-in_err-insert-in-Reach-clause-addresses g c =
    λ closing accepted differ.
    subst (λ (conf : Configuration). AddressesDiffer conf.peers) (sym c.self-in-Reach.view_is) differ

pub returns-in_err-insert-in-Reach-clause-memory :
    goal.returns-in_err-insert-in-Reach-clause-memory
returns-in_err-insert-in-Reach-clause-memory g c =
    let failed =
    err_from_is_err_and c.from_residual-in_err-insert-in-Reach.result c.from_residual-in_err-insert-in-Reach.ensures.1 in
    rw (failed.1, c.in-Reach.is, ← c.self-in-Reach.view_is) c.in_err-insert-in-Reach.ensures.absent

pub returns-in_ok-insert-in-Reach-clause-addresses :
    goal.returns-in_ok-insert-in-Reach-clause-addresses
returns-in_ok-insert-in-Reach-clause-addresses g c =
    λ closing accepted differ.
    subst (λ (conf : Configuration). AddressesDiffer conf.peers) (sym c.self-in-Reach.view_is) differ

pub returns-in_ok-insert-in-Reach-clause-reach : goal.returns-in_ok-insert-in-Reach-clause-reach
returns-in_ok-insert-in-Reach-clause-reach g c =
    λ other.
    let same = is_at-prefix_cmp c.in-Reach.prefix other in
    rw (c.in-Reach.is, ← c.self-in-Reach.view_is, ← same, c.in_ok-insert-in-Reach.ensures.entries)
    (found-with_entry c.self-in-Reach.inside.reach c.in-Reach.prefix other c.in-Reach.cost)

pub returns-in-RemovePeer-clause-addresses : goal.returns-in-RemovePeer-clause-addresses
returns-in-RemovePeer-clause-addresses g c =
    λ closing accepted differ.
    AddressesDiffer-without c.args.self.now.peers c.remove.new.self.entries c.in-RemovePeer.slot
    (λ s. rw (← is_eq-nat_cmp c.in-RemovePeer.slot s, ← c.self-in-RemovePeer.view_is) (c.remove.ensures.updates.0 s))
    differ

pub returns-in_err-insert-in-Network-clause-addresses : goal.returns-in_err-insert-in-Network-clause-addresses
returns-in_err-insert-in-Network-clause-addresses g c =
    λ closing accepted differ.
    subst (λ (conf : Configuration). AddressesDiffer conf.peers) (sym c.self-in-Network.view_is) differ

pub returns-in_ok-insert-in-Network-clause-addresses : goal.returns-in_ok-insert-in-Network-clause-addresses
returns-in_ok-insert-in-Network-clause-addresses g c =
    λ closing accepted differ.
    subst (λ (conf : Configuration). AddressesDiffer conf.peers) (sym c.self-in-Network.view_is) differ

pub returns-in-NoNetwork-clause-addresses : goal.returns-in-NoNetwork-clause-addresses
returns-in-NoNetwork-clause-addresses g c =
    λ closing accepted differ.
    subst (λ (conf : Configuration). AddressesDiffer conf.peers) (sym c.self-in-NoNetwork.view_is) differ

pub returns-in-NoReach-clause-addresses : goal.returns-in-NoReach-clause-addresses
returns-in-NoReach-clause-addresses g c =
    λ closing accepted differ.
    subst (λ (conf : Configuration). AddressesDiffer conf.peers) (sym c.self-in-NoReach.view_is) differ

pub returns-in_err-insert-in-Network-clause-memory :
    goal.returns-in_err-insert-in-Network-clause-memory
returns-in_err-insert-in-Network-clause-memory g c =
    let failed =
    err_from_is_err_and c.from_residual-in_err-insert-in-Network.result c.from_residual-in_err-insert-in-Network.ensures.1 in
    rw (failed.1, c.in-Network.is, ← c.self-in-Network.view_is) c.in_err-insert-in-Network.ensures.absent

pub returns-in_ok-insert-in-Network-clause-networks :
    goal.returns-in_ok-insert-in-Network-clause-networks
returns-in_ok-insert-in-Network-clause-networks g c =
    λ other.
    let same = is_at-prefix_cmp c.in-Network.prefix other in
    rw (c.in-Network.is, ← c.self-in-Network.view_is, ← same) (c.in_ok-insert-in-Network.ensures.updates.0 other)

pub returns-in-NoNetwork-clause-networks : goal.returns-in-NoNetwork-clause-networks
returns-in-NoNetwork-clause-networks g c =
    λ other.
    let same = is_at-prefix_cmp c.in-NoNetwork.prefix other in
    rw (c.in-NoNetwork.is, ← c.self-in-NoNetwork.view_is, ← same) (c.remove-in-NoNetwork.ensures.updates.0 other)

pub returns-in-NoNetwork-clause-ok : goal.returns-in-NoNetwork-clause-ok
returns-in-NoNetwork-clause-ok g c =
    rw (c.in-NoNetwork.is, ← c.self-in-NoNetwork.view_is, c.remove-in-NoNetwork.ensures.keys) refl

pub returns-in-NoReach-clause-ok : goal.returns-in-NoReach-clause-ok
returns-in-NoReach-clause-ok g c =
    let rising = rw (← c.self-in-NoReach.view_is) at c.reach_rises.ensures in
    let kept = c.remove-in-NoReach.ensures.entries ∙ without-remove_entry c.in-NoReach.prefix c.self-in-NoReach.inside.reach rising in
    rw (c.in-NoReach.is, ← c.self-in-NoReach.view_is, kept) refl

pub returns-in-NoReach-clause-reach : goal.returns-in-NoReach-clause-reach
returns-in-NoReach-clause-reach g c =
    λ other.
    let same = is_at-prefix_cmp c.in-NoReach.prefix other in
    rw (c.in-NoReach.is, ← c.self-in-NoReach.view_is, ← same, c.remove-in-NoReach.ensures.entries)
    (found-without c.self-in-NoReach.inside.reach c.in-NoReach.prefix other)

pub returns-then-is_err-clause-addresses : goal.returns-then-is_err-clause-addresses
returns-then-is_err-clause-addresses g c =
    λ closing accepted differ.
    subst (λ (conf : Configuration). AddressesDiffer conf.peers) (sym c.self-in-SetPolicy.view_is) differ

pub returns-else-is_err-clause-addresses : goal.returns-else-is_err-clause-addresses
returns-else-is_err-clause-addresses g c =
    λ closing accepted differ.
    subst (λ (conf : Configuration). AddressesDiffer conf.peers) (sym c.self-in-SetPolicy.view_is) differ
