use Rattle.net_prefix.proofs.fault.PrefixFault.number.Goals as goal

pub returns-in-Cut : goal.returns-in-Cut
returns-in-Cut c = rw c.in-Cut.is
