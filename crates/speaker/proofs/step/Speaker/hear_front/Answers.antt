use Rattle.std.proofs.Common.{◌∙◌, [], ◌∷◌, ◌++◌, take, drop, ap, sym, subst}
use Rattle.std.proofs.lemmas.List.{take-append-drop}
use Rattle.bgp_conf.specs.Configuration.{peer_at}
use Rattle.bgp_msg.specs.MessageStream.{meaning}
use Rattle.bgp_peer.specs.Slot.{pushed}
use Rattle.runs.specs.Agreement.{HearsUntil}
use Rattle.bgp_peer.specs.SessionInputs.{kind_of}
use Rattle.routing.specs.Heard.{TakesMemoryAt}
use Rattle.speaker.specs.Moves.{TakesItem}
use Rattle.runs.proofs.SlotEvents.{with_peer}
use Rattle.runs.specs.Runs.{terms_in, turn, Bytes_call}
use Rattle.runs.specs.declared.config.Config.{Config}
use Rattle.speaker.proofs.Events.{slot_of, holds_heard, holds_shut, taken_shut, taken_open, taken_wanted, put_here, some_taken, starves_heard}
use Rattle.routing.proofs.Results.{OnErr-is}
use Rattle.speaker.proofs.step.Speaker.hear_front.Goals as goal

pub returns-then-taken-eq0-clause-shut : goal.returns-then-taken-eq0-clause-shut
returns-then-taken-eq0-clause-shut g c = λ none some config r done peer configured holds.
    let found = slot_of config (turn (Bytes_call c.args.slot done) [] ∷ r) c.args.slot peer c.args.self.now holds configured in
    let shut = taken_shut config (turn (Bytes_call c.args.slot done) [] ∷ r) c.args.slot peer found.0 c.args.octets.now c.args.self.now holds configured found.1 (sym (c.push-taken.ensures.count found.0 found.1) ∙ c.if-taken-eq0.true) some in
    let pushes = rw c.if-taken-eq0.true at (c.push-taken.ensures.pushes found.0 found.1) in
    holds_shut config r done c.args.slot peer found.0 c.args.octets.now c.args.self.now c.push-taken.new.self holds configured found.1 shut pushes

pub returns-clause-heard : goal.returns-clause-heard
returns-clause-heard g c = λ taken config r done peer configured holds.
    let found = slot_of config (turn (Bytes_call c.args.slot done) [] ∷ r) c.args.slot peer c.args.self.now holds configured in
    let pushes = c.push-taken.ensures.pushes found.0 found.1 in
    let open_ = taken_open found.0 c.args.octets.now c.push-taken.result (c.push-taken.ensures.count found.0 found.1) c.if-taken-eq0.false in
    let few = taken_wanted found.0 c.args.octets.now c.push-taken.result (c.push-taken.ensures.count found.0 found.1) in
    let some = some_taken c.push-taken.result c.args.octets.now c.push-taken.ensures.within c.if-taken-eq0.false in
    let octets = take c.push-taken.result c.args.octets.now in
    let l = with_peer found.0 (pushed found.0.peer (take c.push-taken.result c.args.octets.now)) in
    let takes = c.in_ok-take_message.ensures.taken (with_peer found.0 (pushed found.0.peer (take c.push-taken.result c.args.octets.now))) peer
    (put_here c.args.slot (with_peer found.0 (pushed found.0.peer (take c.push-taken.result c.args.octets.now))) c.args.self.now c.push-taken.new.self pushes.links)
    (ap (λ x. peer_at x c.args.slot) pushes.rest.conf ∙ configured) in
    let T : Config → Type 0 = λ x. TakesItem c.args.slot (terms_in x peer) (with_peer found.0 (pushed found.0.peer (take c.push-taken.result c.args.octets.now))) (meaning (found.0.peer.rest ++ take c.push-taken.result c.args.octets.now)) c.push-taken.new.self c.take_message.new.self in
    let here = subst T (pushes.rest.config ∙ holds.config_is) takes in
    holds_heard config r done c.args.slot peer found.0 (take c.push-taken.result c.args.octets.now) c.args.self.now c.push-taken.new.self c.take_message.new.self holds configured found.1 open_ some few pushes here

pub returns-in_err-take_message-clause-starved : goal.returns-in_err-take_message-clause-starved
returns-in_err-take_message-clause-starved g c =
    let all : HearsUntil c.args.slot c.args.octets.now c.args.self.now c.take_message.new.self = λ config r done peer configured holds.
    let found = slot_of config (turn (Bytes_call c.args.slot done) [] ∷ r) c.args.slot peer c.args.self.now holds configured in
    let pushes = c.push-taken.ensures.pushes found.0 found.1 in
    let open_ = taken_open found.0 c.args.octets.now c.push-taken.result (c.push-taken.ensures.count found.0 found.1) c.if-taken-eq0.false in
    let few = taken_wanted found.0 c.args.octets.now c.push-taken.result (c.push-taken.ensures.count found.0 found.1) in
    let some = some_taken c.push-taken.result c.args.octets.now c.push-taken.ensures.within c.if-taken-eq0.false in
    let octets = take c.push-taken.result c.args.octets.now in
    let starved = c.in_err-take_message.ensures.starved (with_peer found.0 (pushed found.0.peer (take c.push-taken.result c.args.octets.now))) peer
    (put_here c.args.slot (with_peer found.0 (pushed found.0.peer (take c.push-taken.result c.args.octets.now))) c.args.self.now c.push-taken.new.self pushes.links)
    (ap (λ x. peer_at x c.args.slot) pushes.rest.conf ∙ configured) in
    let needs = subst (λ (x : Config). TakesMemoryAt (kind_of (terms_in x peer)) (with_peer found.0 (pushed found.0.peer (take c.push-taken.result c.args.octets.now)))) (pushes.rest.config ∙ holds.config_is) starved.0 in
    let until = starves_heard config r done c.args.slot peer found.0 (take c.push-taken.result c.args.octets.now) (drop c.push-taken.result c.args.octets.now) c.args.self.now c.push-taken.new.self c.take_message.new.self
    holds configured found.1 open_ some few pushes needs starved.1 starved.2 in
    (until.0, until.1, until.2, ap (λ x. done ++ x) (sym (take-append-drop c.push-taken.result c.args.octets.now)) ∙ until.3, until.4, until.5) in
    OnErr-is _ _ all

pub returns-in_err-take_message-clause-slot : goal.returns-in_err-take_message-clause-slot
returns-in_err-take_message-clause-slot g c = OnErr-is _ _ c.in_err-take_message.ensures.within
