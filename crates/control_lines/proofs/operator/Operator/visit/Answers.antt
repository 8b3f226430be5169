use Rattle.control_lines.proofs.Resting.{gone}
use Rattle.control_lines.proofs.operator.Operator.visit.Goals as goal

-- src/operator.rt:79:25
pub returns-in_err-has_moved : goal.returns-in_err-has_moved
returns-in_err-has_moved g c =
    gone
    c.from_residual.result
    c.exchange.result
    c.args.now
    c.args.self.now.moved
    c.exchange.new.self.moved
    c.args.self.now.talk
    c.exchange.new.self.talk
    (g.S.Stream.remaining c.args.self.now.stream)
    (g.S.Stream.remaining c.exchange.new.self.stream)
    (g.S.Stream.contents c.args.self.now.stream)
    (g.S.Stream.contents c.exchange.new.self.stream)
    c.in_err-has_moved.was
    c.from_residual.ensures
    c.exchange.ensures.exchanges
