use Rattle.std.proofs.Common.{◌≡◌, false, [], List, ℕ, refl, sym, ap, ◌∙◌, arith}
use Rattle.std.proofs.lemmas.Grind.{common_steps}
use Rattle.rtr_cache.specs.CacheTable.{hears_octets}
use Rattle.rtr_cache.proofs.CacheSteps.{hears_octets-closed, hears_octets-nil}
use Rattle.rtr_cache.proofs.served.ServedClient.hear.Goals as goal

pub loop-rest-init : goal.loop-rest-init
loop-rest-init g c = (refl, λ later. (later, refl))

pub loop-rest-preserved : goal.loop-rest-preserved
loop-rest-preserved g c =
    let same = c.hear_next-rest.ensures.shared ∙ c.loop-rest.invariant.0 in (
      same,
      λ later.
          let next = c.hear_next-rest.ensures.goes_on later in
          let before = c.loop-rest.invariant.1 next.0 in
          (before.0, before.1 ∙ rw c.loop-rest.invariant.0 at next.1),
    )

pub returns-else-not-is_empty-clause-heard : goal.returns-else-not-is_empty-clause-heard
returns-else-not-is_empty-clause-heard g c =
    let before = c.loop-rest.invariant.1 [] in
    let nothing : c.loop-rest.rest.now ≡ [] = grind (arith, common_steps) in
    (before.0, sym (before.1 ∙ ap (λ (rest : List ℕ). hears_octets c.args.publisher.now [] c.loop-rest.self rest) nothing ∙ hears_octets-nil c.args.publisher.now [] c.loop-rest.self))

pub returns-after-loop-rest-clause-heard : goal.returns-after-loop-rest-clause-heard
returns-after-loop-rest-clause-heard g c =
    let before = c.loop-rest.invariant.1 [] in
    let is_closed : c.loop-rest.self.is_open ≡ false = sym c.is_open.ensures ∙ c.loop-rest-test.false in
    (before.0, sym (before.1 ∙ hears_octets-closed c.args.publisher.now [] c.loop-rest.self c.loop-rest.rest.now is_closed))
