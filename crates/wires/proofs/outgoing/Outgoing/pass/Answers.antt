use Rattle.std.proofs.Common.{◌≤◌, ◌-◌, length, drop, slice_range, ap, ◌∙◌, arith}
use Rattle.wires.proofs.Waiting.{length-slice_range, slice_range-further}
use Rattle.wires.proofs.outgoing.Outgoing.pass.Goals as goal

pub returns : goal.returns
returns g c =
    let o = c.self.inside in
    let count = c.args.count in
    let within : count ≤ length (slice_range o.octets.items o.from o.to) = rw c.self.view_is c.requires in
    let apart : count ≤ o.to - o.from = omega (arith, within, length-slice_range o.octets.items o.from o.to) in
    slice_range-further o.octets.items o.from o.to count apart ∙ ap (λ octets. drop count octets) c.self.view_is
