use Rattle.std.proofs.Common.{subst}
use Rattle.std.specs.Bool.{OnTrue}
use Rattle.decision.specs.BookContents.{rows_of}
use Rattle.export_rules.specs.Export.{Tells}
use Rattle.loc_rib.specs.RibTables.{RibTables}
use Rattle.routing.specs.Export.{IsAccepted, export_in}
use Rattle.routing.specs.Tables.{best_at}
use Rattle.routes.proofs.routes.Routes.export.Goals as goal

pub returns-clause-tells : goal.returns-clause-tells
returns-clause-tells g c =
    rw (← c.self.view_is) (subst (λ (t : RibTables). Tells c.export.result c.export.new.octets.items (export_in c.self.inside.conf (best_at (rows_of t.book)) t.adj_in c.args.peer.now c.args.prefix)) c.ribs.ensures c.export.ensures.tells)

pub returns-clause-accepted : goal.returns-clause-accepted
returns-clause-accepted g c =
    rw (← c.self.view_is) (subst (λ (t : RibTables). OnTrue c.export.result (IsAccepted (rows_of t.book) t.adj_in c.args.peer.now c.args.prefix c.export.new.octets.items)) c.ribs.ensures c.export.ensures.accepted)
