use Rattle.vrp_csv.proofs.RecordLists.{takes_next}
use Rattle.vrp_csv.proofs.list.next_record.Goals as goal

pub returns-in-Ok-clause-next : goal.returns-in-Ok-clause-next
returns-in-Ok-clause-next g c = λ rows left.
    takes_next g.R.Read.remaining c.args.reader.now c.read_byte_record.new.self c.in-Ok.found _ rows c.requires.3 (c.in-Ok.ensures.reads c.requires.0 c.requires.1) left
