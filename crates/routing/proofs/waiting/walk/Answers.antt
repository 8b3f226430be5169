use Rattle.std.proofs.Common.{◌≡◌, rules, ap, sym, ◌∙◌}
use Rattle.std.specs.Option.{option_map}
use Rattle.bgp_fsm.specs.declared.state.State.TheVariants.{Established}
use Rattle.decision.specs.BookContents.{rows_of}
use Rattle.routing.specs.Export.{export_in}
use Rattle.routing.specs.Sent.{linked_as}
use Rattle.routing.specs.Tables.{best_at}
use Rattle.routing.specs.Waiting.{differing, known_prefixes}
use Rattle.routing.proofs.WaitingLists.{nothing_rises, waiting_of}
use Rattle.routing.proofs.waiting.walk.Goals as goal

pub returns-in_err-export_peer-clause-rising : goal.returns-in_err-export_peer-clause-rising
returns-in_err-export_peer-clause-rising g c = let rises = nothing_rises in search rules

pub returns-in_err-peer-clause-rising : goal.returns-in_err-peer-clause-rising
returns-in_err-peer-clause-rising g c = let rises = nothing_rises in search rules

pub returns-then-ne-clause-rising : goal.returns-then-ne-clause-rising
returns-then-ne-clause-rising g c = nothing_rises

pub returns-clause-all : goal.returns-clause-all
returns-clause-all g c =
    let up : c.in_ok-peer.peer.now.session.state ≡ Established = search rules in
    let law = waiting_of c.args.conf.now (rows_of c.args.routing.now.book) c.args.routing.now.adj_in _ c.in_ok-export_peer.export_peer _ (linked_as c.args.routing.now.sent c.args.slot c.in_ok-peer.peer.now) c.in_ok-export_peer.was (ap (option_map (λ p. linked_as c.args.routing.now.sent c.args.slot p.now)) c.in_ok-peer.was) up in
    let e : c.new.result ≡ differing c.held.result (export_in c.args.conf.now (best_at (rows_of c.args.routing.now.book)) c.args.routing.now.adj_in c.in_ok-export_peer.export_peer) (known_prefixes (rows_of c.args.routing.now.book) c.held.result) =
    rw (← c.routing.view_is) c.new.ensures.waiting in
    (rw c.held.ensures at e) ∙ sym law
