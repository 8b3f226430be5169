use Rattle.std.proofs.Common.{refl, sym, ap, subst, ◌∙◌}
use Rattle.cache_turns.specs.Serving.{Connection, Takes, Writes, found_at_rest}
use Rattle.cache_turns.proofs.Answering.{open_stays, rests, writes}
use Rattle.cache_turns.proofs.link.Link.answer.Goals.{in-Closing, in_default}
use Rattle.cache_turns.proofs.link.Link.answer.Goals as goal

pub returns-then-is_empty-clause-answers : goal.returns-then-is_empty-clause-answers
returns-then-is_empty-clause-answers g c =
    rests c.args.resting c.args.client c.args.self.now _ _ c.match-transport.result c.refill.new.outgoing
    (subst (λ (l : Connection). Takes c.args.client l.waiting c.args.cache.now c.refill.new.outgoing c.refill.new.cache) c.self.view_is c.refill.ensures.takes)
    (c.is_empty.ensures.0 c.if-is_empty.true)
    refl
    (elim c.match-transport.branch [ in-Closing w ↦ w.result-is ∙ ap (found_at_rest c.args.resting) (sym (sym c.transport.ensures ∙ w.in-Closing.is)) | in_default w ↦ w.result-is ∙ sym (open_stays c.args.resting _ (λ same. w.in_default.not-Closing (c.transport.ensures ∙ same))) ])

pub returns-clause-answers : goal.returns-clause-answers
returns-clause-answers g c =
    writes c.args.resting c.args.client c.args.self.now _ _ c.write.result c.refill.new.outgoing c.write.new.self.waiting
    (subst (λ (l : Connection). Takes c.args.client l.waiting c.args.cache.now c.refill.new.outgoing c.refill.new.cache) c.self.view_is c.refill.ensures.takes)
    (λ none. let yes = c.is_empty.ensures.1 none in let no = c.if-is_empty.false in cc)
    (subst (λ (l : Connection). Writes l.number c.refill.new.outgoing (g.W.Wire.state c.args.wire.now) c.write.result c.write.new.self.waiting (g.W.Wire.state c.write.new.wire)) c.self.view_is c.write.ensures.writes)
