use Rattle.std.proofs.Common.{rules, subst, sym}
use Rattle.rtr_codec.specs.PduStream.{Wants}
use Rattle.rtr_session.specs.SessionState.{Changes, Session, with_octets}
use Rattle.rtr_session.proofs.Pieces.{agrees_heard, heard_changes, starves_heard, wants_behind}
use Rattle.rtr_session.proofs.session.CacheSession.hear_next.Goals as goal

pub invariant_of-self : goal.invariant_of-self
invariant_of-self g c = rw (c.pass.ensures, c.push-count.ensures.exact) (wants_behind c.self.inside.receiver c.args.octets.now c.push-count.result c.self.invariant c.push-count.ensures.count)

pub returns-clause-exact : goal.returns-clause-exact
returns-clause-exact g c = search rules

pub returns-clause-count : goal.returns-clause-count
returns-clause-count g c = search rules

pub returns-clause-changes : goal.returns-clause-changes
returns-clause-changes g c =
    subst (λ (s : Session). Changes c.args.self.now s) (sym (returns-clause-exact g c).exact)
    (heard_changes c.args.now c.hear_front-starved.result _ (with_octets c.args.self.now _))

pub returns-clause-agrees : goal.returns-clause-agrees
returns-clause-agrees g c = λ retry h a now_is fed.
    let wants : Wants c.args.self.now.reading.place c.args.self.now.reading.part = subst (λ (s : Session). Wants s.reading.place s.reading.part) c.self.view_is c.self.invariant in
    agrees_heard retry h _ _ _ _ _ _ c.requires.open wants (returns-clause-count g c) (returns-clause-exact g c) now_is fed a

pub returns-clause-starves : goal.returns-clause-starves
returns-clause-starves g c = λ retry h a now_is refused.
    let wants : Wants c.args.self.now.reading.place c.args.self.now.reading.part = subst (λ (s : Session). Wants s.reading.place s.reading.part) c.self.view_is c.self.invariant in
    starves_heard retry h _ _ _ _ _ _ c.requires.open wants (returns-clause-count g c) (returns-clause-exact g c) now_is refused a
