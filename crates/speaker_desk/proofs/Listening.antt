-- Whatever turns are taken and operators ask for, the wire listens where it did.
use Rattle.std.proofs.Common.{◌≡◌, ◌∙◌, List, [], ◌∷◌, Result, Ok, Err, ap, length}
use Rattle.bgp_conf.specs.declared.command.Command.{Command}
use Rattle.bgp_conf.specs.declared.command.Command.TheVariants.{Enable}
use Rattle.bgp_conf.specs.declared.refusal.Refusal.{Refusal}
use Rattle.runs.specs.declared.event.Report.{Report}
use Rattle.wires.specs.Counts.{Counts}
use Rattle.wires.specs.declared.fault.LoopFault.TheVariants.{Accept}
use Rattle.speaker_turns.specs.Obeying.{Obeys}
use Rattle.speaker_turns.specs.Turns.{GivesWay, Turns}
use Rattle.speaker_turns.proofs.Listening.{listens_at_places, listens_given_way, listens_turned}
use Rattle.speaker_desk.specs.Moves.{Move, Moves, MovesAll}
use Rattle.speaker_desk.specs.Moves.Move.{Turned, Stopped, Obeyed, Let, Placed}
use Rattle.speaker_desk.proofs.Moving.{placed_resembles}

obeyed_listens : (command : Command) (old new : Turns) (result : Result Report Refusal) → Obeys command old result new → new.counts.wire.listens ≡ old.counts.wire.listens
obeyed_listens command old new (Ok report) takes =
    listens_at_places (GivesWay report) (listens_given_way report) (length (takes.told).places) takes.told new takes.gives_way ∙ ap (λ (t : Turns). t.counts.wire.listens) takes.same
obeyed_listens command old new (Err why) refuses = ap (λ (t : Turns). t.counts.wire.listens) refuses.same

move_listens : (move : Move) (old new : Turns) → Moves move old new → new.counts.wire.listens ≡ old.counts.wire.listens
move_listens (Turned now) old new takes = listens_turned now old new (Ok tt) takes
move_listens (Stopped now) old new takes = listens_turned now old new (Err Accept) takes
move_listens (Obeyed line command) old new obeys = obeyed_listens command old new obeys.1 obeys.2
move_listens (Let slot) old new obeys = obeyed_listens (Enable slot) old new obeys.0 obeys.1
move_listens (Placed end remote) old new placed = ap (λ (c : Counts). c.wire.listens) (placed_resembles end remote old new placed).counts

pub moves_listen : (moves : List Move) (old new : Turns) → MovesAll moves old new → new.counts.wire.listens ≡ old.counts.wire.listens
moves_listen [] old new same = ap (λ (t : Turns). t.counts.wire.listens) same
moves_listen (move ∷ moves) old new made = moves_listen moves made.0 new made.2 ∙ move_listens move old made.0 made.1
