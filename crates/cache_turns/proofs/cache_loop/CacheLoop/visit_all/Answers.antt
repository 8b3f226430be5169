use Rattle.std.proofs.Common.{◌≡◌, ◌∙◌, ap, refl, subst, length, arith, ℕ}
use Rattle.cache_turns.specs.Turns.{Turns, VisitsBelow}
use Rattle.cache_turns.proofs.Standing.{visited_next}
use Rattle.cache_turns.proofs.cache_loop.CacheLoop.visit_all.Goals as goal

pub loop-client-init : goal.loop-client-init
loop-client-init g c =
    (refl, refl, omega (arith, c.len-client-end.ensures, ap (λ (t : Turns). length t.links) c.self.view_is))

pub visit-requires-clause-place : goal.visit-requires-clause-place
visit-requires-clause-place g c = omega (arith, c.loop-client.invariant.1, c.loop-client.invariant.2, c.loop-client-test.true)

pub loop-client-preserved : goal.loop-client-preserved
loop-client-preserved g c =
    let so_far = c.loop-client.invariant in
    (visited_next _ _ _ _ _ so_far.0 c.visit.ensures.visits, c.visit.ensures.places ∙ so_far.1, so_far.2)

pub returns : goal.returns
returns g c =
    let so_far = c.loop-client.invariant in
    let all : c.loop-client.client ≡ length c.args.self.now.links = omega (arith, so_far.2, c.loop-client.auto.client-end, c.loop-client-test.false) in
    subst (λ (n : ℕ). VisitsBelow c.args.now n c.args.self.now c.loop-client.self) all so_far.0
