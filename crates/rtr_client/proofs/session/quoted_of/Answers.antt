use Rattle.std.proofs.Common.{sym, arith}
use Rattle.std.proofs.lemmas.List.{length-take-le, take_all}
use Rattle.rtr_client.proofs.session.quoted_of.Goals as goal

pub slice_bounds-result-end : goal.slice_bounds-result-end
slice_bounds-result-end c = sym (length-take-le 32 c.args.octets.now (omega arith))

pub returns-else-octets-gt-QUOTED_OCTETS : goal.returns-else-octets-gt-QUOTED_OCTETS
returns-else-octets-gt-QUOTED_OCTETS c = sym (take_all 32 c.args.octets.now (omega arith))
