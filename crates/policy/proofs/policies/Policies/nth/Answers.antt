use Rattle.std.proofs.Common.{◌≡◌, ◌∙◌, List, Some, ap, slice_get}
use Rattle.policy.specs.PolicyTable.{PolicyTable}
use Rattle.policy.specs.declared.rule.Rule.{Rule}
use Rattle.policy.proofs.ListedPolicies.{nth_shown}
use Rattle.policy.proofs.policies.Policies.nth.Goals as goal

pub returns : goal.returns
returns g c =
    let entry : Some (c.in_ok-name.name.now, c.in_ok-name.rules.now) ≡ slice_get c.self.inside.policies.entries c.args.index = c.in_ok-name.ensures.entry in
    ap (λ (rules : List Rule). Some (c.in_ok-name.name.now, rules)) c.as_slice.ensures.value
    ∙ (nth_shown c.self.inside.policies.entries c.args.index c.in_ok-name.name.now c.in_ok-name.rules.now entry
    ∙ ap (λ (table : PolicyTable). slice_get table c.args.index) c.self.view_is)
