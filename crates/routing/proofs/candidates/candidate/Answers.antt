use Rattle.std.proofs.Common.{sym}
use Rattle.routing.proofs.Feasible.{makes_none}
use Rattle.routing.proofs.candidates.candidate.Goals as goal

pub returns-in_err-mandatory-clause-made : goal.returns-in_err-mandatory-clause-made
returns-in_err-mandatory-clause-made g c = rw c.from_residual-in_err-mandatory.ensures (makes_none c.args.conf.now c.args.slot c.args.identifier c.args.attrs.now c.in_ok-peer.peer (sym c.in_ok-peer.ensures) c.in_err-mandatory.ensures)
