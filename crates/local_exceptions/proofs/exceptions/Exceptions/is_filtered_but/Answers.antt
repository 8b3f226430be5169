use Rattle.std.proofs.Common.{ap, ◌∙◌}
use Rattle.local_exceptions.specs.ExceptionSets.{ExceptionSets}
use Rattle.local_exceptions.specs.FilterLengths.{but_for}
use Rattle.local_exceptions.specs.Filters.{is_filtered}
use Rattle.local_exceptions.proofs.Matching.{any_other}
use Rattle.local_exceptions.proofs.exceptions.Exceptions.is_filtered_but.Goals as goal

pub returns-then-len-le-FEW_FILTERS : goal.returns-then-len-le-FEW_FILTERS
returns-then-len-le-FEW_FILTERS g c =
    c.any_matches.ensures ∙ any_other c.self.inside.filters.keys c.args.but c.args.payload.now
    ∙ ap (λ (e : ExceptionSets). is_filtered (but_for c.args.but e.filters) c.args.payload.now) c.self.view_is
