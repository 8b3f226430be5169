use Rattle.std.proofs.Common.{not}
use Rattle.bgp_conf.specs.PeerPolicies.{exports_by}
use Rattle.policy.specs.PolicyNames.{name_of}
use Rattle.routing.specs.Sent.{linked}
use Rattle.routing.proofs.Marking.{ExportersBelow}
use Rattle.routing.proofs.routing.Routing.mark_exporters.Given as goal

abbrev pub invariant-loop-slot : goal.invariant-loop-slot
invariant-loop-slot g l = ExportersBelow l.fn.conf (linked l.fn.links.entries l.fn.self.sent) (λ s. not (exports_by l.fn.conf s (name_of l.fn.name))) l.fn.self l.slot l.self
