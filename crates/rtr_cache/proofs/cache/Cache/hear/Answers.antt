use Rattle.std.proofs.Common.{◌≡◌, Some, sym, ap, ◌∙◌}
use Rattle.std.specs.Option.{option_copied_mut}
use Rattle.rtr_cache.specs.CacheState.{client_at}
use Rattle.rtr_cache.specs.CacheTable.{hears_octets}
use Rattle.rtr_cache.proofs.Resting.{hears-put, rests-pumped}
use Rattle.rtr_cache.proofs.cache.Cache.hear.Goals as goal

pub invariant_of-self : goal.invariant_of-self
invariant_of-self g c =
    rests-pumped c.self.inside.clients.slots c.args.key c.receive.new.self (hears_octets c.self.inside.publisher c.receive.ensures.heard.0 c.in-Some.client.now c.args.octets.now) c.receive.ensures.heard.1 c.self.invariant

pub returns-in-Some-clause-does : goal.returns-in-Some-clause-does
returns-in-Some-clause-does g c =
    let there : client_at (record { shared = c.self.inside.publisher; clients = c.self.inside.clients.slots }) c.args.key ≡ Some c.in-Some.client.now =
    sym c.get_mut.follows ∙ ap option_copied_mut c.in-Some.is in
    rw (← c.self.view_is)
    (hears-put (record { shared = c.self.inside.publisher; clients = c.self.inside.clients.slots }) c.receive.new.publisher c.args.key c.args.octets.now c.in-Some.client.now c.receive.new.self c.receive.ensures.shared there c.receive.ensures.heard)
