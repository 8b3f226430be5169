use Rattle.std.proofs.Common.{arith, sym}
use Rattle.watched_wires.proofs.Fronts.{few_in_take, length_of_take, take_all_of}
use Rattle.watched_wires.proofs.kept_data.front_of.Goals as goal

pub returns-then-octets-le-KEPT_OCTETS-clause-front : goal.returns-then-octets-le-KEPT_OCTETS-clause-front
returns-then-octets-le-KEPT_OCTETS-clause-front c = take_all_of 256 c.args.octets.now (omega (arith, c.if-octets-le-KEPT_OCTETS.true))

pub slice_bounds-result-end : goal.slice_bounds-result-end
slice_bounds-result-end c = sym (length_of_take 256 c.args.octets.now (omega (arith, c.if-octets-le-KEPT_OCTETS.false)))

pub returns-clause-few : goal.returns-clause-few
returns-clause-few c = few_in_take 256 c.args.octets.now (omega (arith, c.if-octets-le-KEPT_OCTETS.false))
