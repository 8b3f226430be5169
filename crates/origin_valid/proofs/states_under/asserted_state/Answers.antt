use Rattle.std.proofs.Common.{◌≡◌, ◌+◌, ℕ, filter, ap, ◌∙◌, arith}
use Rattle.origin_valid.specs.Validity.{validity}
use Rattle.origin_valid.proofs.StatesUnder.{is_shorter, shorter-all, shorter-next, shorter-none}
use Rattle.origin_valid.proofs.states_under.asserted_state.Goals as goal

pub loop-len-init : goal.loop-len-init
loop-len-init g c = shorter-none c.args.prefix.now c.args.origin c.args.asserted.now.keys

pub loop-len-preserved : goal.loop-len-preserved
loop-len-preserved g c =
    shorter-next c.args.prefix.now c.args.origin c.args.asserted.now.keys c.loop-len.len c.loop-len.state c.asserted_at.result c.both-state.result c.loop-len.invariant c.asserted_at.ensures
    c.both-state.ensures

pub returns : goal.returns
returns g c =
    let end : c.loop-len.len ≡ c.args.prefix.now.len + 1 = omega (arith, c.loop-len-test.false, c.loop-len.auto.len-end) in
    c.loop-len.invariant ∙ ap (λ (n : ℕ). validity (filter (is_shorter n) c.args.asserted.now.keys) c.args.prefix.now c.args.origin) end
    ∙ shorter-all c.args.prefix.now c.args.origin c.args.asserted.now.keys
