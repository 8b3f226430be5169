use Rattle.std.proofs.Common.{IsSome, Option, refl, ap, subst, sym, ◌∙◌}
use Rattle.rtr_codec.specs.PduStream.{Item}
use Rattle.rtr_cache.specs.HandedOut.{Handed, handing, is_fault, serial_behind, unless_faulty}
use Rattle.rtr_cache.proofs.HandingOut.{next_is_read}
use Rattle.rtr_cache.proofs.handed_out.HandedOut.read_part.Goals as goal

pub returns-clause-goes_on : goal.returns-clause-goes_on
returns-clause-goes_on c =
    let part = c.push-count.new.self.part in
    let sound : IsSome (unless_faulty c.self.inside.is_faulty c.self.inside.receiver) = subst (λ (h : Handed). IsSome h.reading) (sym c.self.view_is) c.requires.sound in
    ap (handing c.args.octets.now) (sym c.self.view_is)
    ∙ rw (c.pass.ensures, c.push-count.ensures.exact)
    (next_is_read c.self.inside.is_faulty _ c.self.inside.receiver c.self.inside.serial _ c.args.octets.now c.push-count.result _ c.self.invariant sound
    (λ wants. c.push-count.ensures.goes_on wants c.requires.some) c.push-count.ensures.count refl
    (rw c.push-count.ensures.exact at (c.is_fault-self-inside.ensures part ∙ ap is_fault (sym c.front-front.ensures.item))) (rw c.push-count.ensures.exact at (c.serial_behind-self-inside.ensures part ∙ ap (λ (found : Option Item). serial_behind found c.self.inside.serial) (sym c.front-front.ensures.item))))
