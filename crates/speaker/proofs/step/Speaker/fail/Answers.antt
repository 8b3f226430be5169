use Rattle.speaker.proofs.Removals.{holds_failed}
use Rattle.speaker.proofs.step.Speaker.fail.Goals as goal

pub returns-clause-fails : goal.returns-clause-fails
returns-clause-fails g c = λ config r l holds linked so_far.
    holds_failed config r c.args.slot l c.args.self.now c.input.new.self c.let_go.new.self holds linked (c.input.ensures.moves l linked) (c.input.ensures.chosen l linked) c.let_go.ensures.kept c.let_go.ensures.closing c.let_go.ensures.gone so_far
