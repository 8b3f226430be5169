use Rattle.std.proofs.Common.{sym, ◌∙◌}
use Rattle.local_exceptions.proofs.Filters.{has_another, has_same}
use Rattle.local_exceptions.proofs.exceptions.Exceptions.has_filter_but.Goals as goal

pub returns-then-is_other : goal.returns-then-is_other
returns-then-is_other g c = c.has_filter.ensures ∙ has_another c.args.self.now.filters c.args.but c.args.filter.now (sym c.is_other.ensures ∙ c.if-is_other.true)

pub returns-else-is_other : goal.returns-else-is_other
returns-else-is_other g c = c.if-is_other.false ∙ has_same c.args.self.now.filters c.args.but c.args.filter.now (sym c.is_other.ensures ∙ c.if-is_other.false)
