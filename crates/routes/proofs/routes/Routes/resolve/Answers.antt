use Rattle.routes.proofs.AddedMarks.{marked_resolved}
use Rattle.routing.specs.Sent.{linked}
use Rattle.routes.proofs.routes.Routes.resolve.Goals as goal

pub choose_again-requires-clause-marked : goal.choose_again-requires-clause-marked
choose_again-requires-clause-marked g c =
    marked_resolved c.self.inside.conf c.apply.new.self (linked c.self.inside.links.entries c.self.inside.routing.sent) c.self.inside.routing c.args.command.now c.in_ok-apply.ensures.ok c.requires.resolves c.self.invariant.1
