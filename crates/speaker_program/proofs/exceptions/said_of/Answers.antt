use Rattle.std.proofs.Common.{Ok, Err}
use Rattle.std.specs.Fn.{FnReturnsAt}
use Rattle.speaker_program.specs.Commanded.{TextAt}
use Rattle.speaker_program.proofs.Saying.{unsaid_of}
use Rattle.speaker_program.proofs.ServedWords.{if_err_so}
use Rattle.speaker_program.proofs.exceptions.said_of.Goals as goal

pub returns-clause-unsaid : goal.returns-clause-unsaid
returns-clause-unsaid g c =
    if_err_so c.said_at.result c.said_at.ensures.unsaid
    (λ ends unsaid. unsaid_of (TextAt (λ path lines. FnReturnsAt g.M.Fn c.args.texts.now path (Ok lines)) g.L.Read.remaining) (λ path error. FnReturnsAt g.M.Fn c.args.texts.now path (Err error)) _ _ _ ends c.in-Some.is c.as_str.ensures.value unsaid)
