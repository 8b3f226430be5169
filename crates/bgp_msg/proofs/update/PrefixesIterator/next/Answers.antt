use Rattle.std.proofs.Common.{rules, arith, ◌<◌, length, ap}
use Rattle.bgp_msg.specs.MessageSpelling.{front_prefixes}
use Rattle.bgp_msg.proofs.PrefixLists.{prefixes-next, prefixes-end}
use Rattle.bgp_msg.proofs.update.PrefixesIterator.next.Goals as goal

pub returns-in_err-prefix-clause-steps : goal.returns-in_err-prefix-clause-steps
returns-in_err-prefix-clause-steps c =
    let none = prefixes-end _ c.in_err-prefix.ensures.prefix in
    rw c.from_residual.ensures (none, none)

pub returns-clause-steps : goal.returns-clause-steps
returns-clause-steps c = prefixes-next _ _ _ c.in_ok-prefix.ensures.prefix

pub returns-clause-goes : goal.returns-clause-goes
returns-clause-goes c =
    let more = prefixes-next _ _ _ c.in_ok-prefix.ensures.prefix in
    let fewer : length (front_prefixes c.in_ok-prefix.behind.now).0 < length (front_prefixes c.args.self.now.octets.now).0 =
    omega (arith, ap length more) in
    search (rules, fewer)
