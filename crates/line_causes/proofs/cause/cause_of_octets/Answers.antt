use Rattle.std.proofs.Common.{sym}
use Rattle.line_causes.proofs.cause.cause_of_octets.Goals as goal

pub returns-in-Some : goal.returns-in-Some
returns-in-Some c = λ ascii.
    let same = rw c.in-Some.is at c.text_of.ensures in
    rw (sym same) c.cause_of.ensures
