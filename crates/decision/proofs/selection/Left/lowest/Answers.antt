use Rattle.std.proofs.Common.{◌≡◌, ◌++◌, [], ◌∷◌, sym, ◌∙◌, rules}
use Rattle.decision.specs.Steps.{left_of}
use Rattle.decision.proofs.Best.{left_more, step_keeps, step_keeps_none}
use Rattle.decision.proofs.selection.Left.lowest.Goals as goal

pub returns-in-Some-clause-left : goal.returns-in-Some-clause-left
returns-in-Some-clause-left c =
    let before = c.args.self in
    let pushed : c.push.new.self.items ≡ before.bounds.items ++ record { step = c.args.step; most = c.in-Some.most } ∷ [] = search rules in
    rw pushed
    (left_more before.candidates.now before.degree before.bounds.items before.tied c.args.step c.in-Some.most
    ∙ step_keeps c.args.step (left_of before) c.in-Some.most (sym c.lowest_key.ensures ∙ c.in-Some.is))

pub returns-in-None-clause-left : goal.returns-in-None-clause-left
returns-in-None-clause-left c = step_keeps_none c.args.step (left_of c.args.self) (sym c.lowest_key.ensures ∙ c.in-None.is)
