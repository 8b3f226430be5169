use Rattle.std.proofs.Common.{◌≡◌, ◌-◌, IsSome, [], inl, subst, sym, ap, take, drop, length, ◌∙◌, arith, length-take, length-drop}
use Rattle.std.proofs.lemmas.Grind.{common_steps}
use Rattle.rtr_cache.specs.HandedOut.{Handed, handing, unless_faulty}
use Rattle.rtr_cache.proofs.HandingOut.{whole_is_read}
use Rattle.rtr_cache.proofs.handed_out.HandedOut.read_whole.Goals as goal

pub invariant_of-self : goal.invariant_of-self
invariant_of-self c = rw (c.pass_whole.ensures []) (λ sound. inl (omega arith))

pub returns : goal.returns
returns c =
    let octets = c.args.octets.now in
    let used = c.in-Whole.used in
    let sound : IsSome (unless_faulty c.self.inside.is_faulty c.self.inside.receiver) = subst (λ (h : Handed). IsSome h.reading) (sym c.self.view_is) c.requires in
    let none : c.self.inside.receiver.part ≡ [] = grind (arith, common_steps) in
    let tells = c.in-Whole.ensures.tells in (
      omega (arith, length-take (length octets - used) (drop used octets), length-drop used octets, tells.0, tells.2),
      ap (handing octets) (sym c.self.view_is)
          ∙ whole_is_read c.self.inside.is_faulty c.self.inside.receiver c.pass_whole.new.self c.self.inside.serial _ octets c.in-Whole.pdu used sound none (rw c.place.ensures at tells) (c.pass_whole.ensures (take used octets)) c.serial_by-self-inside.ensures,
    )
