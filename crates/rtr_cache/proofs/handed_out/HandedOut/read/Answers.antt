use Rattle.std.proofs.Common.{◌≡◌, [], List, ℕ, false, is_some, refl, sym, ap, ◌∙◌, arith}
use Rattle.std.proofs.lemmas.Grind.{common_steps}
use Rattle.rtr_cache.specs.HandedOut.{handing}
use Rattle.rtr_cache.proofs.HandingOut.{handing-faulty, handing-nil, no_reading}
use Rattle.rtr_cache.proofs.handed_out.HandedOut.read.Goals as goal

pub loop-rest-init : goal.loop-rest-init
loop-rest-init c = refl

pub loop-rest-preserved : goal.loop-rest-preserved
loop-rest-preserved c = c.loop-rest.invariant ∙ c.read_next-rest.ensures.goes_on

pub returns-else-not-is_empty : goal.returns-else-not-is_empty
returns-else-not-is_empty c =
    let nothing : c.loop-rest.rest.now ≡ [] = grind (arith, common_steps) in
    sym (c.loop-rest.invariant ∙ ap (λ (rest : List ℕ). handing rest c.loop-rest.self) nothing ∙ handing-nil c.loop-rest.self)

pub returns-after-loop-rest : goal.returns-after-loop-rest
returns-after-loop-rest c =
    let is_faulty : is_some c.loop-rest.self.reading ≡ false = sym c.is_sound.ensures ∙ c.loop-rest-test.false in
    sym (c.loop-rest.invariant ∙ handing-faulty c.loop-rest.rest.now c.loop-rest.self (no_reading c.loop-rest.self.reading is_faulty))
