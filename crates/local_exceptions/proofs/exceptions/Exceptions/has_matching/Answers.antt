use Rattle.std.proofs.Common.{sym, ◌∙◌}
use Rattle.local_exceptions.specs.FilterLengths.{but_for}
use Rattle.local_exceptions.proofs.Matching.{has_own, none_of_all, same_answer}
use Rattle.local_exceptions.proofs.exceptions.Exceptions.has_matching.Goals as goal

pub returns-then-has_filter_but : goal.returns-then-has_filter_but
returns-then-has_filter_but g c = c.if-has_filter_but.true ∙ sym (has_own (but_for c.args.but c.args.self.now.filters) c.args.payload.now (sym c.has_filter_but.ensures ∙ c.if-has_filter_but.true))

pub returns-else-has_filter_but : goal.returns-else-has_filter_but
returns-else-has_filter_but g c =
    same_answer c.filters_prefix_of.result _ c.filters_prefix_of.ensures.yes
    (λ h. none_of_all (but_for c.args.but c.args.self.now.filters) c.args.payload.now (sym c.has_filter_but.ensures ∙ c.if-has_filter_but.false) (c.filters_prefix_of.ensures.no h))
