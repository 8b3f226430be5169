use Rattle.std.proofs.Common.{length}
use Rattle.control_lines.proofs.Gathering.{too_long_before}
use Rattle.control_lines.proofs.line_buffer.LineBuffer.hear.Goals as goal

pub returns-in-false-clause-gathers : goal.returns-in-false-clause-gathers
returns-in-false-clause-gathers c = too_long_before c.args.self.now c.args.octets.now c.put.new.self (length c.args.octets.now) c.in-Some.end c.in-Some.ensures.first c.in-false.ensures.many c.in-false.ensures.same
