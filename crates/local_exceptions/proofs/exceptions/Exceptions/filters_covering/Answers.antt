use Rattle.std.proofs.Common.{sym, ◌∙◌}
use Rattle.local_exceptions.specs.FilterLengths.{but_for}
use Rattle.local_exceptions.specs.declared.filter.Filter.TheVariants.{Prefix}
use Rattle.local_exceptions.proofs.Matching.{has_both, has_matching, none_covering}
use Rattle.local_exceptions.proofs.exceptions.Exceptions.filters_covering.Goals as goal

pub returns-then-has_filter_but-clause-yes : goal.returns-then-has_filter_but-clause-yes
returns-then-has_filter_but-clause-yes g c = λ h.
    has_matching (but_for c.args.but c.args.self.now.filters) (Prefix c.args.prefix) c.args.payload.now (sym c.has_filter_but.ensures ∙ h) c.requires

pub returns-else-has_filter_but-clause-yes : goal.returns-else-has_filter_but-clause-yes
returns-else-has_filter_but-clause-yes g c = λ h.
    has_both (but_for c.args.but c.args.self.now.filters) c.args.prefix c.args.payload.now (sym c.has_filter_but-else-has_filter_but.ensures ∙ h) c.requires

pub returns-else-has_filter_but-clause-no : goal.returns-else-has_filter_but-clause-no
returns-else-has_filter_but-clause-no g c = λ h.
    none_covering (but_for c.args.but c.args.self.now.filters) c.args.payload.now c.args.prefix c.requires (sym c.has_filter_but.ensures ∙ c.if-has_filter_but.false) (sym c.has_filter_but-else-has_filter_but.ensures ∙ h)
