use Rattle.speaker_desk.proofs.Attended.{told_some}
use Rattle.speaker_desk.proofs.desk.Desk.tell_remote.Goals as goal

pub returns-in-Some : goal.returns-in-Some
returns-in-Some g c =
    rw (← c.self.view_is) (told_some c.self.inside.remotes.now c.args.command (c.in-Some.slot, c.in-Some.address) c.remote_of-remote.result c.args.served.now c.set_remote.new.self c.in-Some.ensures c.remote_of-remote.ensures c.set_remote.ensures)
