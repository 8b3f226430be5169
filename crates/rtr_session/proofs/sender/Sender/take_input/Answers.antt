use Rattle.std.proofs.Common.{ap, ◌∙◌}
use Rattle.rtr_client.specs.Following.{input_of, served}
use Rattle.rtr_session.specs.Sending.{Sending}
use Rattle.rtr_session.proofs.Saying.{in_order_row, keeps_payloads, sayable, taken_is}
use Rattle.rtr_session.proofs.sender.Sender.take_input.Goals as goal

pub invariant_of-self : goal.invariant_of-self
invariant_of-self g c =
    in_order_row c.args.now c.self.inside.client.client c.step-acts.new.self.client c.step-acts.result.starved (input_of c.args.input) c.self.inside.ring.items c.self.inside.ring.capacity
    (λ up. ap (λ (s : Sending). s.ring) c.self.view_is ∙ c.requires.standing up) c.step-acts.ensures.client c.self.invariant

pub say-requires : goal.say-requires
say-requires g c =
    sayable c.args.now c.self.inside.client.client c.step-acts.new.self.client (served c.step-acts.result.starved (input_of c.args.input)) c.self.inside.ring.items c.self.inside.ring.capacity _
    c.step-acts.ensures.client c.step-acts.ensures.said c.self.invariant

pub returns-clause-exact : goal.returns-clause-exact
returns-clause-exact g c =
    rw (← c.self.view_is)
    (taken_is c.args.now (served c.step-acts.result.starved (input_of c.args.input)) record { client = c.self.inside.client.client; ring = c.self.inside.ring.items; changed = c.self.inside.client.changed } c.say.new.self c.step-acts.new.self.client _
    c.step-acts.ensures.client c.step-acts.ensures.said c.say.ensures.client c.say.ensures.ring (c.say.ensures.changed ∙ c.step-acts.ensures.changed))

pub returns-clause-kept : goal.returns-clause-kept
returns-clause-kept g c =
    keeps_payloads c.args.now _ record { client = c.step-acts.new.self.client; ring = c.self.inside.ring.items; changed = c.step-acts.new.self.changed } c.say.new.self c.step-acts.new.self.client _ c.step-acts.ensures.follows c.say.ensures.client
