use Rattle.speaker.proofs.Events.{slot_of}
use Rattle.speaker.proofs.Removals.{down_after, forgotten, holds_removed, is_left, some_is}
use Rattle.speaker.proofs.step.Speaker.remove_peer.Goals as goal

pub forget-requires-clause-down : goal.forget-requires-clause-down
forget-requires-clause-down g c = down_after c.args.slot c.args.self.now c.input.new.self c.input.ensures.moves c.input.ensures.none

pub returns-clause-removed : goal.returns-clause-removed
returns-clause-removed g c = λ config r holds so_far.
    let peer = some_is _ c.requires.configured in
    let found = slot_of config r c.args.slot peer.0 c.args.self.now holds peer.1 in
    holds_removed config r c.args.slot found.0 c.args.self.now c.input.new.self c.forget.new.self c.let_go.new.self holds found.1 (c.input.ensures.moves found.0 found.1) (c.input.ensures.chosen found.0 found.1) c.forget.ensures.forgets
    (is_left c.args.slot c.forget.new.self c.let_go.new.self c.let_go.ensures.closing (c.let_go.ensures.gone (forgotten c.args.slot c.input.new.self c.forget.new.self c.forget.ensures.forgets))) so_far
