use Rattle.std.proofs.Common.{◌≡◌, ◌≤◌, ◌++◌, List, ℕ, take, ap, sym, ◌∙◌, subst, arith, rules}
use Rattle.rtr_codec.specs.PduStream.{needed_of}
use Rattle.rtr_codec.specs.Receiving.{IsOneAtMost}
use Rattle.rtr_codec.proofs.ReaderAnswers.{one_at_most_push}
use Rattle.rtr_codec.proofs.receiving.Receiver.push.Goals as goal

pub invariant_of-self : goal.invariant_of-self
invariant_of-self c =
    let part = c.self.inside.part.items in
    let place = c.self.inside.place in
    let taken : c.try_extend_from_slice-fits.new.self.items ≡ c.self.inside.part.items ++ take c.min-count.result c.args.octets.now = search rules in
    let needed : c.needed.result ≡ needed_of c.self.inside.place c.self.inside.part.items = c.needed.ensures.value ∙ ap (needed_of place) c.as_slice.ensures.value in
    let fits : c.min-count.result ≤ needed_of c.self.inside.place c.self.inside.part.items = omega (arith, needed, c.min-count.ensures) in
    subst (λ (octets : List ℕ). IsOneAtMost (record { place = place; part = octets })) (sym taken)
    (one_at_most_push place part c.args.octets.now c.min-count.result c.self.invariant fits)
