use Rattle.std.proofs.Common.{◌≡◌, ◌∙◌, ap, take, arith, take_all}
use Rattle.selection_reasons.specs.Reasons.{kept_of}
use Rattle.selection_reasons.proofs.Falling.{kept_all}
use Rattle.selection_reasons.proofs.reason.unbeaten.Goals as goal

pub returns : goal.returns
returns c =
    let over = c.loop-candidate-test.false in
    let all : take c.loop-candidate.candidate-index c.args.left.now ≡ c.args.left.now = take_all c.loop-candidate.candidate-index c.args.left.now (omega arith) in
    c.loop-candidate.invariant.items ∙ (ap (kept_of c.args.step c.args.left.now) all ∙ kept_all c.args.step c.args.left.now)
