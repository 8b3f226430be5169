use Rattle.std.proofs.Common.{◌≡◌, ◌∙◌, sym}
use Rattle.routing.proofs.message.take_front.Goals as goal

pub returns-in_ok-input-in-Message-clause-kept : goal.returns-in_ok-input-in-Message-clause-kept
returns-in_ok-input-in-Message-clause-kept g c = λ session state identifier.
    let told : c.args.peer.now.session.state ≡ c.state-state.result = sym c.state-state.ensures in
    c.in_ok-input-in-Message.ensures.kept session (state ∙ told) identifier
