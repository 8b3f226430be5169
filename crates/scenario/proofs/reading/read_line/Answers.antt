use Rattle.std.proofs.Common.{arith}
use Rattle.scenario.proofs.FileLines.{line_read}
use Rattle.scenario.proofs.reading.read_line.Goals as goal

pub returns : goal.returns
returns g c = line_read _ _ _ _ (omega (arith, c.in_ok-count.ensures.ok, c.clear.ensures.len)) (rw c.clear.ensures.items at c.in_ok-count.ensures.bytes) c.in_ok-count.ensures.rest
