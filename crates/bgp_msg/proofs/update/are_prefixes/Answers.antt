use Rattle.std.proofs.Common.{sym}
use Rattle.bgp_msg.proofs.PrefixLists.{prefixes-goes_on, prefixes-cut, prefixes-done}
use Rattle.bgp_msg.proofs.update.are_prefixes.Goals as goal

pub returns-in_default : goal.returns-in_default
returns-in_default c =
    sym (prefixes-cut _ _ c.loop-rest-test.ensures c.in_default.ensures.prefix c.loop-rest.invariant)

pub loop-rest-preserved : goal.loop-rest-preserved
loop-rest-preserved c = prefixes-goes_on _ _ _ _ c.in-Some.ensures.prefix c.loop-rest.invariant

pub returns : goal.returns
returns c = sym (prefixes-done _ _ c.loop-rest-test.ensures c.loop-rest.invariant)
