use Rattle.std.proofs.Common.{rules, tests, Bor, option_map, sym, ap, ◌∙◌}
use Rattle.std.proofs.lemmas.Iterator.{YieldsList-from_slice}
use Rattle.std.proofs.lemmas.Iterator.Search.{find_from_yields_List}
use Rattle.policy.specs.declared.rule.Rule.{Rule}
use Rattle.policy.specs.PolicyMeaning.{action_or_reject, matches}
use Rattle.policy.proofs.rule.action_by.Goals as goal

pub returns-in-Some : goal.returns-in-Some
returns-in-Some g c =
    let found = find_from_yields_List (λ (rule : Rule). matches rule.condition c.args.route.now) _ _ c.find.result c.find.ensures.ran (YieldsList-from_slice c.args.rules.now cc) (λ x b q k. search (rules, tests)) in
    ap (λ o. action_or_reject (option_map (λ (rule : Bor Rule). rule.now) o)) (sym c.in-Some.is) ∙ ap action_or_reject found

pub returns-in-None : goal.returns-in-None
returns-in-None g c =
    let found = find_from_yields_List (λ (rule : Rule). matches rule.condition c.args.route.now) _ _ c.find.result c.find.ensures.ran (YieldsList-from_slice c.args.rules.now cc) (λ x b q k. search (rules, tests)) in
    ap (λ o. action_or_reject (option_map (λ (rule : Bor Rule). rule.now) o)) (sym c.in-None.is) ∙ ap action_or_reject found
