use Rattle.std.proofs.Common.{refl, sym, subst}
use Rattle.cache_turns.specs.Serving.{GoesOn, Sides}
use Rattle.cache_turns.proofs.Answering.{answered, served}
use Rattle.wires.specs.declared.wire.Received.{Received}
use Rattle.cache_turns.proofs.link.Link.serve.Goals as goal

pub returns-in-Octets-clause-stands : goal.returns-in-Octets-clause-stands
returns-in-Octets-clause-stands g c =
    let between : Sides = record { wire = g.W.Wire.state c.receive.new.wire; cache = c.receive.new.cache } in
    let behind : Sides = record { wire = g.W.Wire.state c.answer.new.wire; cache = c.answer.new.cache } in
    served c.args.now c.args.client c.args.self.now c.receive.new.self c.answer.new.self _ between behind c.receive.result c.answer.result c.receive.ensures.reads c.receive.ensures.same
    (answered c.receive.result c.args.client c.receive.new.self between behind c.answer.result c.answer.new.self.waiting c.in-Octets.is c.answer.ensures.answers)
    c.answer.ensures.same

pub returns-in-End-clause-stands : goal.returns-in-End-clause-stands
returns-in-End-clause-stands g c =
    let between : Sides = record { wire = g.W.Wire.state c.receive.new.wire; cache = c.receive.new.cache } in
    let behind : Sides = record { wire = g.W.Wire.state c.answer-in-End.new.wire; cache = c.answer-in-End.new.cache } in
    served c.args.now c.args.client c.args.self.now c.receive.new.self c.answer-in-End.new.self _ between behind c.receive.result c.answer-in-End.result c.receive.ensures.reads c.receive.ensures.same
    (subst (λ (r : Received). GoesOn r c.args.client c.receive.new.self between c.answer-in-End.result c.answer-in-End.new.self.waiting behind) (sym c.in-End.is) c.answer-in-End.ensures.answers)
    c.answer-in-End.ensures.same

pub returns-in-Fault-clause-stands : goal.returns-in-Fault-clause-stands
returns-in-Fault-clause-stands g c =
    let between : Sides = record { wire = g.W.Wire.state c.receive.new.wire; cache = c.receive.new.cache } in
    served c.args.now c.args.client c.args.self.now c.receive.new.self c.receive.new.self _ between between c.receive.result _ c.receive.ensures.reads c.receive.ensures.same
    (subst (λ (r : Received). GoesOn r c.args.client c.receive.new.self between _ c.receive.new.self.waiting between) (sym c.in-Fault.is) (refl, refl))
    refl
