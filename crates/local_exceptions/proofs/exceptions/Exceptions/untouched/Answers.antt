use Rattle.std.proofs.Common.{◌&&◌, ◌||◌, ap, sym, ◌∙◌}
use Rattle.net_prefix.specs.PayloadSets.{has}
use Rattle.local_exceptions.specs.ExceptionSets.{is_untouched}
use Rattle.local_exceptions.proofs.Kept.{all_taken, passed_by, taken_in}
use Rattle.local_exceptions.proofs.exceptions.Exceptions.untouched.Goals as goal

pub loop-payload-preserved-then-not-is_untouched : goal.loop-payload-preserved-then-not-is_untouched
loop-payload-preserved-then-not-is_untouched g c =
    let found = c.loop-payload.found.keys in
    let test = is_untouched c.args.self.now in (
      tt,
      tt,
      c.loop-payload.invariant.2,
      λ q. passed_by test c.in-Some.payload.now q found c.next.new.self (has c.args.set.now.keys q && test q)
          (sym c.is_untouched.ensures ∙ c.if-not-is_untouched.true)
          (ap (λ it. has found q || (has it q && test q)) (sym c.in-Some.ensures.steps) ∙ c.loop-payload.invariant.3 q),
    )

pub loop-payload-preserved : goal.loop-payload-preserved
loop-payload-preserved g c =
    let found = c.loop-payload.found.keys in
    let test = is_untouched c.args.self.now in (
      tt,
      tt,
      c.in_ok-insert.ensures.ordered,
      λ q. taken_in test c.in-Some.payload.now q c.insert.new.self.keys found c.next.new.self (has c.args.set.now.keys q && test q)
          (sym c.is_untouched.ensures ∙ c.if-not-is_untouched.false) (c.in_ok-insert.ensures.updates.0 q)
          (ap (λ it. has found q || (has it q && test q)) (sym c.in-Some.ensures.steps) ∙ c.loop-payload.invariant.3 q),
    )

pub returns : goal.returns
returns g c =
    let test = is_untouched c.args.self.now in
    all_taken test c.args.set.now.keys c.loop-payload.found.keys c.len.ensures.ordered c.loop-payload.invariant.2
    (λ q. ap (λ it. has c.loop-payload.found.keys q || (has it q && test q)) (sym c.in-None.ensures.steps.0) ∙ c.loop-payload.invariant.3 q)
