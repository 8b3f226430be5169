use Rattle.std.proofs.Common.{◌&&◌, not, ap, sym, ◌∙◌}
use Rattle.net_prefix.specs.PayloadSets.{has}
use Rattle.vrp_delta.proofs.Changing.{taken_out}
use Rattle.vrp_delta.proofs.change.take_out_all.Goals as goal

pub loop-payload-preserved : goal.loop-payload-preserved
loop-payload-preserved g c =
    let set = c.loop-payload.set.keys in (
      tt,
      tt,
      λ q. taken_out c.in-Some.payload.now q c.remove.new.self.keys set c.next.new.self
          (has c.args.set.now.keys q && not (has c.args.payloads.now.keys q)) (c.remove.ensures.updates.0 q)
          (ap (λ it. has set q && not (has it q)) (sym c.in-Some.ensures.steps) ∙ c.loop-payload.invariant.2 q),
    )
