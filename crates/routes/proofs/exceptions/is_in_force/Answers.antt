use Rattle.std.proofs.Common.{◌∙◌, sym}
use Rattle.local_exceptions.proofs.Sets.{under_is}
use Rattle.routes.proofs.exceptions.is_in_force.Goals as goal

pub returns : goal.returns
returns g c = rw (c.exceptions.ensures, c.contains.ensures) at c.is_in_force.ensures ∙ sym (under_is c.args.conf.now.exceptions c.args.payloads.now c.args.payload.now)
