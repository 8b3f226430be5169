use Rattle.std.proofs.Common.{filter, length, ap, sym, ◌∙◌, arith}
use Rattle.origin_valid.specs.KeptPayloads.{payloads_of}
use Rattle.origin_valid.specs.StatesUnder.{is_kept}
use Rattle.origin_valid.specs.Validity.{validity}
use Rattle.origin_valid.proofs.StatesUnder.{judged_all, judged_more, validity-covering}
use Rattle.origin_valid.proofs.payload_trie.PayloadTrie.kept_state.Goals as goal

pub loop-payloads-init : goal.loop-payloads-init
loop-payloads-init g c =
    let test = is_kept c.args.exceptions.now in
    rw (← c.self.view_is)
    (validity-covering c.args.prefix.now c.args.origin test c.self.inside.prefixes c.self.invariant
    ∙ ap (λ l. validity (filter test (payloads_of l)) c.args.prefix.now c.args.origin) (sym c.covering-covering.ensures.left))

pub loop-payloads-preserved : goal.loop-payloads-preserved
loop-payloads-preserved g c =
    let test = is_kept c.args.exceptions.now in
    judged_more c.args.prefix.now c.args.origin test (validity (filter test c.args.self.now) c.args.prefix.now c.args.origin) c.loop-payloads.state c.kept_state.result c.both-state.result
    (payloads_of c.loop-payloads.covering.left) c.in-Some.payloads.now (payloads_of c.next_payloads.new.covering.left) (ap payloads_of c.in-Some.ensures.1) c.loop-payloads.invariant
    c.kept_state.ensures c.both-state.ensures

pub loop-payloads-smaller : goal.loop-payloads-smaller
loop-payloads-smaller g c = omega (arith, ap length c.in-Some.ensures.1)

pub returns : goal.returns
returns g c =
    let test = is_kept c.args.exceptions.now in
    judged_all c.args.prefix.now c.args.origin test (validity (filter test c.args.self.now) c.args.prefix.now c.args.origin) c.loop-payloads.state (payloads_of c.loop-payloads.covering.left)
    (ap (λ l. filter test (payloads_of l)) c.in_default.ensures) c.loop-payloads.invariant
