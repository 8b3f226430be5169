use Rattle.std.proofs.Common.{count_by, is_some, ap, ◌∙◌}
use Rattle.cache_turns.specs.Turns.{Turns}
use Rattle.cache_turns.proofs.HoldingCounts.{all_are_held, total}
use Rattle.cache_turns.proofs.cache_loop.CacheLoop.holding.Goals as goal

pub returns-clause-all : goal.returns-clause-all
returns-clause-all g c =
    ap total c.holding_of.ensures ∙ all_are_held c.args.serial c.self.inside.cache c.as_slice.result.now ∙ rw c.as_slice.ensures.value (ap (λ (turns : Turns). count_by is_some turns.links) c.self.view_is)
