use Rattle.std.proofs.Common.{◌≡◌, true, [], ◌∷◌, filter, refl, sym, ap, subst, ◌∙◌, arith}
use Rattle.net_prefix.specs.declared.payload.Vrp.{Vrp}
use Rattle.origin_valid.specs.Stretches.{prefixes_of}
use Rattle.origin_valid.specs.Validity.{validity}
use Rattle.origin_valid.proofs.Outsides.{IsLow, Rise}
use Rattle.origin_valid.proofs.Ranges.{IsLeast, is_from, low_range, none_behind, other_prefix, own_prefix, own_state, rise_range, state_range}
use Rattle.origin_valid.proofs.StatesUnder.{is_of, judged_all, judged_more, validity-long}
use Rattle.origin_valid.proofs.states_under.asserted_of.Goals as goal

pub loop-payload-init : goal.loop-payload-init
loop-payload-init g c =
    let outer = c.args.outer in
    let keys = c.args.asserted.now.keys in
    let least : Vrp = record { prefix = outer; max_len = outer.len; asn = record { 0 = 0 }; reaches = omega arith; short = outer.short } in
    let is : IsLeast outer least = record { prefix = refl; max_len = refl; asn = refl } in
    let from : c.into_iter-payload-iterator.result ≡ filter (is_from least) keys = c.into_iter-payload-iterator.ensures.into_iter_gives ∙ c.range-payload-items.ensures.between tt in (
      tt,
      tt,
      subst (λ l. IsLow outer (prefixes_of l)) (sym from) (low_range outer least keys is),
      subst (λ l. Rise (prefixes_of l)) (sym from) (rise_range least keys c.range-payload-items.ensures.ordered),
      state_range c.args.prefix.now c.args.origin outer least keys is ∙ ap (λ l. validity (filter (is_of outer) l) c.args.prefix.now c.args.origin) (sym from),
    )

pub loop-payload-preserved : goal.loop-payload-preserved
loop-payload-preserved g c =
    let outer = c.args.outer in
    let v = c.in-Some.payload.now in
    let whole = validity (filter (is_of outer) c.args.asserted.now.keys) c.args.prefix.now c.args.origin in
    let at : is_of outer v ≡ true = own_prefix v.prefix outer c.ne.result c.ne.ensures c.if-ne.false in (
      tt,
      tt,
      (subst (λ l. IsLow outer (prefixes_of l)) c.in-Some.ensures.steps c.loop-payload.invariant.2).1,
      (subst (λ l. Rise (prefixes_of l)) c.in-Some.ensures.steps c.loop-payload.invariant.3).1,
      judged_more c.args.prefix.now c.args.origin (is_of outer) whole c.loop-payload.state c.state_by.result c.both-state.result c.loop-payload.payload-iterator (v ∷ []) c.next.new.self
          c.in-Some.ensures.steps c.loop-payload.invariant.4 (c.state_by.ensures ∙ own_state c.args.prefix.now c.args.origin outer v at) c.both-state.ensures,
    )

pub returns-then-ne : goal.returns-then-ne
returns-then-ne g c =
    let outer = c.args.outer in
    let v = c.in-Some.payload.now in
    let keys = c.args.asserted.now.keys in
    let none = none_behind outer v c.loop-payload.payload-iterator c.next.new.self c.in-Some.ensures.steps c.loop-payload.invariant.2 c.loop-payload.invariant.3
    (other_prefix v.prefix outer c.ne.result c.ne.ensures c.if-ne.true) in
    judged_all c.args.prefix.now c.args.origin (is_of outer) (validity (filter (is_of outer) keys) c.args.prefix.now c.args.origin) c.loop-payload.state c.loop-payload.payload-iterator none
    c.loop-payload.invariant.4 ∙ sym (validity-long c.args.prefix.now c.args.origin outer keys c.requires)

pub returns : goal.returns
returns g c =
    let outer = c.args.outer in
    let keys = c.args.asserted.now.keys in
    judged_all c.args.prefix.now c.args.origin (is_of outer) (validity (filter (is_of outer) keys) c.args.prefix.now c.args.origin) c.loop-payload.state c.loop-payload.payload-iterator
    (ap (filter (is_of outer)) c.in-None.ensures.steps.0) c.loop-payload.invariant.4 ∙ sym (validity-long c.args.prefix.now c.args.origin outer keys c.requires)
