use Rattle.json.specs.Value.{value_view}
use Rattle.vrp_json.proofs.WrittenTold.{told}
use Rattle.vrp_json.proofs.written.written_of.Goals as goal

pub returns-in-Ok : goal.returns-in-Ok
returns-in-Ok c = λ ms at.
    told ms c.find_member.new.reader c.read.new.reader (value_view c.in-Ok.metadata) c.told_by.result (c.if-not-find_member.ensures ms at) c.in-Ok.ensures.ok c.told_by.ensures
