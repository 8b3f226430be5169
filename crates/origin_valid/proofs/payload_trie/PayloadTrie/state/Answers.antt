use Rattle.std.proofs.Common.{length, ap, sym, ◌∙◌, arith}
use Rattle.origin_valid.proofs.States.{judged, judged-invalid, judged-none, judged-valid, validity-judged}
use Rattle.origin_valid.specs.declared.validity.Validity.TheVariants.{NotFound}
use Rattle.origin_valid.proofs.payload_trie.PayloadTrie.state.Goals as goal

pub loop-payloads-init : goal.loop-payloads-init
loop-payloads-init g c =
    rw (← c.self.view_is)
    (validity-judged c.args.prefix.now c.args.origin c.self.inside.prefixes c.self.invariant
    ∙ ap (judged c.args.prefix.now c.args.origin NotFound) (sym c.covering-covering.ensures.left))

pub returns-then-has_match : goal.returns-then-has_match
returns-then-has_match g c =
    sym (c.loop-payloads.invariant ∙ judged-valid c.args.prefix.now c.args.origin _ _ _ _ c.in-Some.ensures.1 (sym c.has_match.ensures ∙ c.if-has_match.true))

pub loop-payloads-preserved : goal.loop-payloads-preserved
loop-payloads-preserved g c =
    c.loop-payloads.invariant ∙ judged-invalid c.args.prefix.now c.args.origin _ _ _ _ c.in-Some.ensures.1 (sym c.has_match.ensures ∙ c.if-has_match.false)

pub loop-payloads-smaller : goal.loop-payloads-smaller
loop-payloads-smaller g c = omega (arith, ap length c.in-Some.ensures.1)

pub returns : goal.returns
returns g c = sym (c.loop-payloads.invariant ∙ judged-none c.args.prefix.now c.args.origin _ _ c.in_default.ensures)
