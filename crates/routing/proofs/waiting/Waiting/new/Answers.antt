use Rattle.decision.specs.BookContents.{rows_of}
use Rattle.routing.specs.Export.{export_in}
use Rattle.routing.specs.Tables.{best_at}
use Rattle.routing.proofs.WaitingLists.{differing_rises}
use Rattle.routing.proofs.waiting.Waiting.new.Goals as goal

pub returns-clause-rising : goal.returns-clause-rising
returns-clause-rising g c =
    differing_rises c.args.adj_out (export_in c.args.conf.now (best_at (rows_of c.args.ribs.now.book)) c.args.ribs.now.adj_in c.args.peer) c.new-known.result c.new-known.ensures.rising
