use Rattle.std.proofs.Common.{length}
use Rattle.rtr_tests.proofs.router.Router.hear.Given as goal

abbrev pub decreases-loop-self : goal.decreases-loop-self
decreases-loop-self g l = length l.rest
