use Rattle.std.proofs.Common.{List, ℕ, subst, sym}
use Rattle.speaker_desk.specs.Answering.{AnswersLine}
use Rattle.speaker_desk.specs.Standing.{DeskState}
use Rattle.speaker_desk.proofs.desk.Desk.answer.Goals as goal

pub returns-clause-answers : goal.returns-clause-answers
returns-clause-answers g c =
    subst (λ (d : DeskState). AnswersLine (g.O.Operators.line c.args.operators.now c.args.key) c.args.now (record { served = c.args.served.now; desk = c.args.self.now }) (record { served = c.say-said.new.served; desk = d })) (sym c.put.ensures.same)
    (subst (λ (d : DeskState). AnswersLine (g.O.Operators.line c.args.operators.now c.args.key) c.args.now (record { served = c.args.served.now; desk = d }) (record { served = c.say-said.new.served; desk = c.say-said.new.self })) c.turn_page.ensures
    (subst (λ (line : List ℕ). AnswersLine line c.args.now (record { served = c.args.served.now; desk = c.turn_page.new.self }) (record { served = c.say-said.new.served; desk = c.say-said.new.self })) c.line.ensures c.say-said.ensures))
