use Rattle.std.proofs.Common.{◌≡◌, ℕ, List, Vec, Global, get_or, take, take_all, subst, sym, ◌∙◌, arith}
use Rattle.std.proofs.lemmas.Grind.{common_steps}
use Rattle.std.proofs.lemmas.List.{take_more}
use Rattle.std.specs.declared.net.socket_addr.SocketAddr.{SocketAddr as Address}
use Rattle.toml.specs.View.{items_view, view}
use Rattle.toml.specs.declared.value.Value.{Value}
use Rattle.settings_keys.proofs.Faults.{passes_on_in_memory}
use Rattle.speaker_settings.specs.PeerSlots.{AreSlots}
use Rattle.speaker_settings.specs.ToldSettings.{ArePeers, IsPeer}
use Rattle.speaker_settings.proofs.TakenSlots.{are_slots-push}
use Rattle.speaker_settings.proofs.Told.{are_peers-push, bad_in_memory, no_peers, slot_within, twice}
use Rattle.speaker_settings.proofs.settings.each_peer.Goals as goal

pub loop-entry-preserved : goal.loop-entry-preserved
loop-entry-preserved c =
    let vs = c.args.entries.now in
    let i = c.loop-entry.entry-index in
    let v = c.entry-item.result in
    let at : get_or vs i v ≡ v = grind (arith, common_steps) in
    rw (rw c.if-is_err.ensures.negation at c.push.ensures.items) (
      rw (take_more vs i v c.loop-entry-test.true, at) (are_peers-push (take i vs) _ v c.in_ok-peer.peer c.loop-entry.invariant.0 c.in_ok-peer.ensures),
      are_slots-push _ c.in_ok-peer.peer c.loop-entry.invariant.1 (slot_within _ _ c.in_ok-peer.ensures) (rw c.as_slice.ensures.value at (sym c.has_slot.ensures ∙ c.if-has_slot.false)),
    )

pub returns-in_err-peer-clause-told : goal.returns-in_err-peer-clause-told
returns-in_err-peer-clause-told c =
    let vs = c.args.entries.now in
    let i = c.loop-entry.entry-index in
    let v = c.entry-item.result in
    let at : get_or vs i v ≡ v = grind (arith, common_steps) in
    let needs = λ (peers : Vec (ℕ × Address) Global). ArePeers (items_view vs) peers.items × AreSlots peers.items in
    passes_on_in_memory _ needs c.from_residual.result _ c.from_residual.ensures.1 c.in_err-peer.ensures (λ none peers told.
    no_peers vs i v c.loop-entry-test.true (λ peer is. none peer (subst (λ (x : Value). IsPeer (view x) peer) at is)) peers.items told.0)

pub returns-then-has_slot-clause-told : goal.returns-then-has_slot-clause-told
returns-then-has_slot-clause-told c =
    let vs = c.args.entries.now in
    let i = c.loop-entry.entry-index in
    let v = c.entry-item.result in
    let at : v ≡ get_or vs i v = grind (arith, common_steps) in
    let is = subst (λ (x : Value). IsPeer (view x) c.in_ok-peer.peer) at c.in_ok-peer.ensures in
    let has = rw c.as_slice.ensures.value at (sym c.has_slot.ensures ∙ c.if-has_slot.true) in
    bad_in_memory _ _ c.slot_again.ensures (λ peers told. twice vs i v c.loop-entry.peers.items c.in_ok-peer.peer c.loop-entry-test.true c.loop-entry.invariant.0 is has peers.items told.0 told.1)

pub returns-clause-told : goal.returns-clause-told
returns-clause-told c =
    let vs = c.args.entries.now in
    let ps = c.loop-entry.peers.items in
    let all : take c.loop-entry.entry-index vs ≡ vs = take_all c.loop-entry.entry-index vs (omega (arith, c.loop-entry.auto.entry-index-end, c.loop-entry-test.false)) in
    subst (λ (xs : List Value). ArePeers (items_view xs) ps × AreSlots ps) all c.loop-entry.invariant

pub returns-clause-slots : goal.returns-clause-slots
returns-clause-slots c = c.loop-entry.invariant.1
