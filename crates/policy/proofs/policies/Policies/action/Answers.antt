use Rattle.std.proofs.Common.{sym, ap, ◌∙◌}
use Rattle.std.specs.Option.{option_copied}
use Rattle.policy.proofs.Tables.{action_nowhere, action_there}
use Rattle.policy.proofs.policies.Policies.action.Goals as goal

pub returns-in-Some : goal.returns-in-Some
returns-in-Some g c =
    let found = sym c.get.ensures.value ∙ ap option_copied c.in-Some.is in
    let is = action_there c.self.inside.policies.entries c.args.self.now c.self.view_is c.args.name.now (sym c.is_all.ensures ∙ c.if-is_all.false) (sym c.is_none.ensures ∙ c.if-is_none.false) c.args.route.now c.in-Some.rules.now found in
    rw (c.action_by.ensures, c.as_slice.ensures.value) (sym is)

pub returns-in-None : goal.returns-in-None
returns-in-None g c =
    let found = sym c.get.ensures.value ∙ ap option_copied c.in-None.is in
    sym (action_nowhere c.self.inside.policies.entries c.args.self.now c.self.view_is c.args.name.now (sym c.is_all.ensures ∙ c.if-is_all.false) (sym c.is_none.ensures ∙ c.if-is_none.false) c.args.route.now found)
