use Rattle.std.proofs.Common.{[], ◌∷◌, filter, ap}
use Rattle.origin_valid.specs.StatesUnder.{is_kept}
use Rattle.origin_valid.specs.Validity.{validity}
use Rattle.origin_valid.proofs.StatesUnder.{judged_all, judged_more}
use Rattle.origin_valid.proofs.states_under.kept_state.Goals as goal

pub loop-payload-preserved : goal.loop-payload-preserved
loop-payload-preserved g c =
    let test = is_kept c.args.exceptions.now in
    judged_more c.args.prefix.now c.args.origin test (validity (filter test c.args.payloads.now.keys) c.args.prefix.now c.args.origin) c.loop-payload.state c.kept_by.result c.both-state.result
    c.loop-payload.payload-iterator (c.in-Some.payload.now ∷ []) c.next.new.self c.in-Some.ensures.steps c.loop-payload.invariant c.kept_by.ensures c.both-state.ensures

pub returns : goal.returns
returns g c =
    let test = is_kept c.args.exceptions.now in
    judged_all c.args.prefix.now c.args.origin test (validity (filter test c.args.payloads.now.keys) c.args.prefix.now c.args.origin) c.loop-payload.state
    c.loop-payload.payload-iterator (ap (filter test) c.in-None.ensures.steps.0) c.loop-payload.invariant
