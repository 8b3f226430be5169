use Rattle.std.proofs.Common.{◌||◌, ap, sym, ◌∙◌}
use Rattle.net_prefix.specs.PayloadSets.{has}
use Rattle.vrp_delta.proofs.Changing.{put_in}
use Rattle.local_exceptions.proofs.exceptions.put_all.Goals as goal

pub loop-payload-preserved : goal.loop-payload-preserved
loop-payload-preserved g c =
    let set = c.loop-payload.set.keys in (
      tt,
      tt,
      λ q. put_in c.in-Some.payload.now q c.insert.new.self.keys set c.next.new.self
          (has c.args.set.now.keys q || has c.args.payloads.now.keys q) (c.in_ok-insert.ensures.updates.0 q)
          (ap (λ it. has set q || has it q) (sym c.in-Some.ensures.steps) ∙ c.loop-payload.invariant.2 q),
    )
