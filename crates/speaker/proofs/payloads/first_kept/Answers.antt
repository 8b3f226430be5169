use Rattle.std.proofs.Common.{Bool, filter, not, ap, sym, ◌∙◌}
use Rattle.local_exceptions.specs.Filters.{is_filtered}
use Rattle.net_prefix.specs.declared.payload.Vrp.{Vrp}
use Rattle.speaker.specs.Shown.{first_of}
use Rattle.speaker.proofs.PayloadRows.{filter_behind, first_kept, passed}
use Rattle.speaker.proofs.payloads.first_kept.Goals as goal

pub loop-payload-init : goal.loop-payload-init
loop-payload-init g c =
    let keep : Vrp → Bool = λ payload. not (is_filtered c.args.exceptions.now.filters payload) in
    (tt, tt, rw (c.into_iter-payload-iterator.ensures.into_iter_gives, c.members_after-payload-items.ensures.all) (ap first_of (sym (filter_behind keep c.args.after c.args.loaded.now.keys))))

pub returns-then-not-is_filtered-clause-first : goal.returns-then-not-is_filtered-clause-first
returns-then-not-is_filtered-clause-first g c =
    let keep : Vrp → Bool = λ payload. not (is_filtered c.args.exceptions.now.filters payload) in
    sym (c.loop-payload.invariant.2 ∙ ap (λ it. first_of (filter keep it)) c.in-Some.ensures.steps
    ∙ first_kept keep c.in-Some.payload.now c.next.new.self (ap not (sym c.is_filtered.ensures ∙ c.if-not-is_filtered.true)))

pub loop-payload-preserved : goal.loop-payload-preserved
loop-payload-preserved g c =
    let keep : Vrp → Bool = λ payload. not (is_filtered c.args.exceptions.now.filters payload) in (
      tt,
      tt,
      c.loop-payload.invariant.2 ∙ ap (λ it. first_of (filter keep it)) c.in-Some.ensures.steps
          ∙ ap first_of (passed keep c.in-Some.payload.now c.next.new.self (ap not (sym c.is_filtered.ensures ∙ c.if-not-is_filtered.false))),
    )

pub returns-clause-first : goal.returns-clause-first
returns-clause-first g c =
    let keep : Vrp → Bool = λ payload. not (is_filtered c.args.exceptions.now.filters payload) in
    sym (c.loop-payload.invariant.2 ∙ ap (λ it. first_of (filter keep it)) c.in-None.ensures.steps.0)
