use Rattle.line_causes.proofs.AsciiLines.{not_ascii, text_read}
use Rattle.line_causes.proofs.cause.text_of.Goals as goal

pub returns-then-not-is_ascii : goal.returns-then-not-is_ascii
returns-then-not-is_ascii c = not_ascii c.args.octets.now (rw c.if-not-is_ascii.true at c.is_ascii.ensures.cases)

pub returns : goal.returns
returns c = rw c.ok.ensures.value (text_read _ c.args.octets.now c.from_utf8.result (rw c.if-not-is_ascii.false at c.is_ascii.ensures.cases) c.from_utf8.ensures.cases)
