use Rattle.std.specs.Option.{IsSome}
use Rattle.decision.specs.BookContents.{rows_of}
use Rattle.rib_out.specs.Held.{held_at}
use Rattle.routing.specs.Tables.{best_at}
use Rattle.routing.proofs.MarkedNexts.{next_lesser, next_some}
use Rattle.routing.proofs.routing.Routing.possible.Goals as goal

pub returns : goal.returns
returns g c =
    let best = c.prefix_after.ensures in
    let held = c.prefix_after-2.ensures in
    rw (c.lesser.ensures, ← c.self.view_is)
    (next_lesser (λ q. IsSome (best_at (rows_of c.self.inside.ribs.book) q)) (λ q. IsSome (held_at c.args.adj_out.now q)) c.args.after c.prefix_after.result c.prefix_after-2.result
    (next_some (λ q. best_at (rows_of c.self.inside.ribs.book) q) c.args.after c.prefix_after.result best.has best.above best.least best.none)
    (next_some (λ q. held_at c.args.adj_out.now q) c.args.after c.prefix_after-2.result held.held held.above held.least held.none))
