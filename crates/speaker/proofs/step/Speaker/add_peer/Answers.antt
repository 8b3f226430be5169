use Rattle.std.proofs.Common.{refl, ap, arith}
use Rattle.std.proofs.lemmas.Result.{err_from_is_err_and}
use Rattle.routing.specs.RoutesState.{RoutesState}
use Rattle.speaker.proofs.Commands.{holds_added, added_same}
use Rattle.speaker.proofs.RoutesSeen.{as_before}
use Rattle.speaker.proofs.step.Speaker.add_peer.Goals as goal

pub returns-clause-ok : goal.returns-clause-ok
returns-clause-ok g c = λ config r holds.
    let may = rw (← c.self.view_is, c.requires.adds) at c.requires.accepted in
    let did = c.in_ok-add_peer.ensures in
    let here = rw (← c.self.view_is) at holds in
    let own = added_same c.self.inside.config config c.args.slot c.args.conf.now here.config_is in
    let put = rw c.of-times.ensures at did.puts in
    rw (c.begin_count.ensures, c.requires.adds) (holds_added _ config r c.args.slot c.args.conf.now _ _ here may did.conf did.peers (rw own at put) refl refl refl c.add_peer.ensures.payloads (ap (λ (s : RoutesState). s.adj_in) did.rest) (ap (λ (s : RoutesState). s.book) did.rest) (omega arith), refl)

pub returns-in_err-add_peer-clause-err : goal.returns-in_err-add_peer-clause-err
returns-in_err-add_peer-clause-err g c =
    let failed = err_from_is_err_and c.from_residual.result c.from_residual.ensures.1 in
    rw (failed.1, ← c.self.view_is) (as_before c.self.inside.config c.self.inside.moment c.self.inside.cache c.self.inside.chosen_before c.self.inside.routes c.add_peer.new.self c.in_err-add_peer.ensures.err)
