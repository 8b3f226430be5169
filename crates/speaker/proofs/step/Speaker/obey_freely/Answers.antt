use Rattle.std.proofs.Common.{refl, subst, sym}
use Rattle.std.specs.Option.{IsSome}
use Rattle.speaker.proofs.Commands.{enable_opens, holds_disable, holds_enable, none_free, slot_low, some_from_not}
use Rattle.speaker.proofs.step.Speaker.obey_freely.Goals as goal

pub returns-in-Enable-clause-ok : goal.returns-in-Enable-clause-ok
returns-in-Enable-clause-ok g c = λ config r holds few.
    let may = rw c.in-Enable.is at c.requires.accepted in
    rw c.in-Enable.is (
      holds_enable config r c.in-Enable.slot c.args.self.now c.start.new.self holds may c.start.ensures.moves c.start.ensures.chosen few,
      enable_opens config r c.in-Enable.slot c.start.result c.args.self.now holds may c.start.ensures.opened,
    )

pub start-requires : goal.start-requires
start-requires g c = slot_low c.args.self.now.conf c.in-Enable.slot (rw c.in-Enable.is at c.requires.accepted)

pub returns-in-Disable-clause-ok : goal.returns-in-Disable-clause-ok
returns-in-Disable-clause-ok g c = λ config r holds few.
    let may = rw c.in-Disable.is at c.requires.accepted in
    rw c.in-Disable.is (holds_disable config r c.in-Disable.slot c.args.self.now c.input.new.self holds may c.input.ensures.moves c.input.ensures.chosen few, refl)

pub remove_peer-requires-clause-configured : goal.remove_peer-requires-clause-configured
remove_peer-requires-clause-configured g c =
    let found = some_from_not _ _ _ (rw c.in-RemovePeer.is at c.requires.accepted) in
    subst (λ o. IsSome o) (sym found.1) refl

pub returns-in-RemovePeer-clause-ok : goal.returns-in-RemovePeer-clause-ok
returns-in-RemovePeer-clause-ok g c = λ config r holds few.
    rw c.in-RemovePeer.is (c.remove_peer.ensures.removed config r holds few, refl)

pub returns-in-NoNetwork-clause-ok : goal.returns-in-NoNetwork-clause-ok
returns-in-NoNetwork-clause-ok g c = λ config r holds few. (c.retract.ensures.ok config r holds few, rw c.in-NoNetwork.is refl)

pub returns-in-DropPolicy-clause-ok : goal.returns-in-DropPolicy-clause-ok
returns-in-DropPolicy-clause-ok g c = λ config r holds few. (c.drop_policy.ensures.ok config r holds few, rw c.in-DropPolicy.is refl)

pub returns-in-UseIn-clause-ok : goal.returns-in-UseIn-clause-ok
returns-in-UseIn-clause-ok g c = λ config r holds few. (c.use_in.ensures.ok config r holds few, rw c.in-UseIn.is refl)

pub returns-in-UseOut-clause-ok : goal.returns-in-UseOut-clause-ok
returns-in-UseOut-clause-ok g c = λ config r holds few. (c.use_out.ensures.ok config r holds few, rw c.in-UseOut.is refl)

pub unreachable-requires : goal.unreachable-requires
unreachable-requires g c =
    none_free c.args.command.now c.requires.free c.in_default.not-RemovePeer c.in_default.not-Enable c.in_default.not-Disable c.in_default.not-DropPolicy c.in_default.not-UseIn c.in_default.not-UseOut c.in_default.not-NoNetwork
