use Rattle.std.proofs.Common.{sym, ◌∙◌}
use Rattle.routing.proofs.Marking.{marked_this}
use Rattle.routing.proofs.routing.Routing.mark_exporter.Goals as goal

pub returns-then-exports_by-clause-marked : goal.returns-then-exports_by-clause-marked
returns-then-exports_by-clause-marked g c = λ done unless before. c.mark_slot.ensures.marked done before

pub returns-else-exports_by-clause-marked : goal.returns-else-exports_by-clause-marked
returns-else-exports_by-clause-marked g c = λ done unless before. marked_this done _ _ _ c.args.slot (unless (sym c.exports_by.ensures ∙ c.if-exports_by.false)) before
