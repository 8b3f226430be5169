use Rattle.std.proofs.Common.{Some, arith}
use Rattle.routing.specs.Packing.{IsDue}
use Rattle.routing.specs.RoutesState.{export_of}
use Rattle.routing.proofs.Due.{passed_over}
use Rattle.routes.proofs.routes.Routes.alike_after.Goals as goal

pub returns-then-is_alike-clause-behind : goal.returns-then-is_alike-clause-behind
returns-then-is_alike-clause-behind g c = λ m is established q due above. c.in-Some.ensures.behind m is established q due (c.loop-prefix.invariant.1 m is established q due above)

pub loop-prefix-preserved : goal.loop-prefix-preserved
loop-prefix-preserved g c =
    let low = c.loop-prefix.invariant.0 in
    let found = c.in-Some.ensures.above in (
      omega (arith, low, found),
      λ m is established q due above.
          passed_over c.in-Some.prefix q (IsDue (export_of c.args.self.now c.args.slot) (Some c.args.octets.now.items) m) (c.if-is_alike.ensures.other m is established) due
          (c.in-Some.ensures.behind m is established q due (c.loop-prefix.invariant.1 m is established q due above)),
    )

pub returns-clause-behind : goal.returns-clause-behind
returns-clause-behind g c = λ m is established q due above. c.in_default.ensures.behind m is established q due (c.loop-prefix.invariant.1 m is established q due above)
