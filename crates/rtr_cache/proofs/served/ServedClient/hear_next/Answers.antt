use Rattle.std.proofs.Common.{◌≡◌, true, refl, ap, ◌∙◌, arith}
use Rattle.rtr_cache.specs.CacheTable.{Conn}
use Rattle.rtr_cache.proofs.Hearing.{front_goes_on, front_receives}
use Rattle.rtr_cache.proofs.served.ServedClient.hear_next.Goals as goal

pub invariant_of-self : goal.invariant_of-self
invariant_of-self g c =
    let is_open : c.self.inside.sender.is_open ≡ true = ap (λ (conn : Conn). conn.is_open) c.self.view_is ∙ c.requires.open in
    rw (c.pass.ensures, c.push-count.ensures.exact)
    (front_receives c.args.publisher.now c.self.inside.receiver c.self.inside.sender c.hear_front.new.self c.args.octets.now c.push-count.result _ c.self.invariant is_open (omega (arith, c.push-count.ensures.count)) refl
    (rw c.push-count.ensures.exact at c.hear_front.ensures.heard))

pub returns-clause-goes_on : goal.returns-clause-goes_on
returns-clause-goes_on g c =
    let is_open : c.self.inside.sender.is_open ≡ true = ap (λ (conn : Conn). conn.is_open) c.self.view_is ∙ c.requires.open in
    rw (c.pass.ensures, c.push-count.ensures.exact, ← c.self.view_is)
    (front_goes_on c.args.publisher.now c.self.inside.receiver c.self.inside.sender c.hear_front.new.self c.args.octets.now c.push-count.result _ c.self.invariant is_open (c.push-count.ensures.goes_on (c.self.invariant.wants is_open) c.requires.some) c.push-count.ensures.count refl
    (rw c.push-count.ensures.exact at c.hear_front.ensures.heard))
