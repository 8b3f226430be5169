use Rattle.std.proofs.Common.{◌≡◌, Some, sym, ap, subst, ◌∙◌}
use Rattle.bgp_conf.specs.Configuration.{peer_at}
use Rattle.rib_out.specs.Alike.{IsListed}
use Rattle.routing.specs.Marks.{Mark, mark_of}
use Rattle.routing.specs.Sent.{linked}
use Rattle.routing.specs.Tables.{link_at}
use Rattle.routing.proofs.LinkedPeers.{linked_none, linked_some}
use Rattle.routing.proofs.Marking.{mark_unlinked_of}
use Rattle.routing.proofs.routing.list.Goals as goal

pub returns-in_err-peer-clause-owed : goal.returns-in_err-peer-clause-owed
returns-in_err-peer-clause-owed g c = λ adj_in book is.
    let peer = peer_at c.args.conf.now c.args.slot in
    let none = linked_none c.args.links.now.entries c.args.ribs.now.sent c.args.slot (sym c.in_err-peer.ensures.value) in
    c.from_residual.ensures
    ∙ sym
    (ap (λ f. (mark_of c.args.conf.now adj_in book c.args.slot c.args.prefix peer f).owed) none
    ∙ ap (λ (m : Mark). m.owed) (mark_unlinked_of c.args.conf.now adj_in book c.args.slot c.args.prefix peer))

pub returns-then-eq-clause-owed : goal.returns-then-eq-clause-owed
returns-then-eq-clause-owed g c = λ adj_in book is.
    let there : Some (record { peer = c.in_ok-peer.peer.now; adj_out = c.adj_out-adj_out.result }) ≡ link_at (linked c.args.links.now.entries c.args.ribs.now.sent) c.args.slot =
    ap (λ a. Some (record { peer = c.in_ok-peer.peer.now; adj_out = a })) c.adj_out-adj_out.ensures ∙ sym (linked_some c.args.links.now.entries c.args.ribs.now.sent c.args.slot c.in_ok-peer.peer.now (sym c.in_ok-peer.ensures.value)) in
    c.owed-owed.ensures.owed adj_in book is ∙ ap (λ f. (mark_of c.args.conf.now adj_in book c.args.slot c.args.prefix (peer_at c.args.conf.now c.args.slot) f).owed) there

pub returns-then-eq-clause-here : goal.returns-then-eq-clause-here
returns-then-eq-clause-here g c = λ adj_in book is announced.
    let there : Some (record { peer = c.in_ok-peer.peer.now; adj_out = c.adj_out-adj_out.result }) ≡ link_at (linked c.args.links.now.entries c.args.ribs.now.sent) c.args.slot =
    ap (λ a. Some (record { peer = c.in_ok-peer.peer.now; adj_out = a })) c.adj_out-adj_out.ensures ∙ sym (linked_some c.args.links.now.entries c.args.ribs.now.sent c.args.slot c.in_ok-peer.peer.now (sym c.in_ok-peer.ensures.value)) in
    subst (λ o. IsListed c.list.new.self c.args.slot o c.args.prefix)
    (c.as_slice.ensures.value ∙ c.owed-owed.ensures.octets adj_in book is announced ∙ ap (λ f. (mark_of c.args.conf.now adj_in book c.args.slot c.args.prefix (peer_at c.args.conf.now c.args.slot) f).octets) there)
    c.list.ensures.listed

pub returns-else-eq-clause-owed : goal.returns-else-eq-clause-owed
returns-else-eq-clause-owed g c = λ adj_in book is.
    let there : Some (record { peer = c.in_ok-peer.peer.now; adj_out = c.adj_out-adj_out.result }) ≡ link_at (linked c.args.links.now.entries c.args.ribs.now.sent) c.args.slot =
    ap (λ a. Some (record { peer = c.in_ok-peer.peer.now; adj_out = a })) c.adj_out-adj_out.ensures ∙ sym (linked_some c.args.links.now.entries c.args.ribs.now.sent c.args.slot c.in_ok-peer.peer.now (sym c.in_ok-peer.ensures.value)) in
    c.owed-owed.ensures.owed adj_in book is ∙ ap (λ f. (mark_of c.args.conf.now adj_in book c.args.slot c.args.prefix (peer_at c.args.conf.now c.args.slot) f).owed) there
