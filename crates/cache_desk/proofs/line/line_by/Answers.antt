use Rattle.cache_desk.proofs.Lines.{no_word}
use Rattle.cache_desk.proofs.line.line_by.Goals as goal

pub returns-in-Err : goal.returns-in-Err
returns-in-Err c = no_word c.args.octets.now c.in-Err.ensures.cases.0
