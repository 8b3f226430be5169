use Rattle.std.proofs.Common.{◌&&◌, ◌||◌, not, ap, sym, ◌∙◌}
use Rattle.net_prefix.specs.PayloadSets.{has}
use Rattle.vrp_delta.proofs.Changing.{put_in, put_keeps, taken_back}
use Rattle.vrp_delta.proofs.change.put_all.Goals as goal

pub returns-in-Err-clause-err : goal.returns-in-Err-clause-err
returns-in-Err-clause-err g c =
    let payloads = c.args.payloads.now.keys in
    taken_back c.args.set.now.keys c.loop-payload.set.keys c.take_out_all.new.set.keys payloads c.loop-payload.payload-iterator
    c.len.ensures.ordered c.take_out_all.ensures.rises c.loop-payload.invariant.2 c.loop-payload.invariant.3 c.requires
    (λ q. c.take_out_all.ensures.left q ∙ ap (λ keys. has keys q && not (has payloads q)) c.in-Err.ensures.err)

pub loop-payload-preserved : goal.loop-payload-preserved
loop-payload-preserved g c =
    let set = c.loop-payload.set.keys in
    let payload = c.in-Some.payload.now in (
      tt,
      tt,
      λ q. put_in payload q c.insert.new.self.keys set c.next.new.self
          (has c.args.set.now.keys q || has c.args.payloads.now.keys q) (c.in-Ok.ensures.updates.0 q)
          (ap (λ it. has set q || has it q) (sym c.in-Some.ensures.steps) ∙ c.loop-payload.invariant.2 q),
      λ q h. put_keeps payload q c.insert.new.self.keys set (c.in-Ok.ensures.updates.0 q) (c.loop-payload.invariant.3 q h),
    )
