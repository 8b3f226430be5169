use Rattle.std.proofs.Common.{◌≡◌, length, arith, ap}
use Rattle.bgp_attr.specs.PathReading.{asns_in}
use Rattle.bgp_attr.proofs.Paths.{asns_in_some, length-asns_in}
use Rattle.bgp_attr.proofs.path_reading.read_segment.Goals as goal

pub new-requires : goal.new-requires
new-requires g c =
    let same : length c.in_ok-asns.asns.items ≡ length (asns_in c.args.segment.asns.now) = ap length c.in_ok-asns.ensures in
    (omega (arith, same, asns_in_some c.args.segment.asns.now c.requires.some), omega (arith, same, c.requires.few, length-asns_in c.args.segment.asns.now))
