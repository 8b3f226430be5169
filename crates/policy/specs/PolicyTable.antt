-- The policies by their names (own).
use Rattle.std.specs.Prelude.{not, Bool, List, [], ◌∷◌, map, filter, Option, Some, None, is_some, unwrap_or, if◌then◌else◌, Vec}
use Rattle.std.specs.List.{IsDistinct}
use Rattle.std.specs.Map.{keys_of, lookup}
use Rattle.policy.specs.declared.name.PolicyName.{PolicyName}
use Rattle.policy.specs.declared.rule.Action.{Action}
use Rattle.policy.specs.declared.rule.Action.TheVariants.{Accept}
use Rattle.policy.specs.declared.rule.Rule.{Rule}
use Rattle.policy.specs.PolicyMeaning.{Route, action_by}
use Rattle.policy.specs.PolicyNames.{is_same, all_name, none_name}

-- the policies that operators have set, in the order in which their names came
abbrev pub PolicyTable : Type 0
PolicyTable = List (PolicyName × List Rule)

-- no two of them have one name
abbrev pub NamesDiffer : PolicyTable → Type 0
NamesDiffer table = IsDistinct is_same (keys_of table)

-- a rule that matches each route, accepts it and sets nothing
abbrev pub accept_all : Rule
accept_all =
    record {
      condition = record { prefix = None; state = None; origin = None; path = None; from = None };
      action = Accept None None None;
    }

-- the rules of a policy: `all` accepts each route, `none` has no rules, and the others are in the table
unfoldable pub rules_of : PolicyTable → PolicyName → Option (List Rule)
rules_of table name =
    if is_same name all_name then Some (accept_all ∷ [])
    else if is_same name none_name then Some []
    else lookup (is_same name) table

-- there is a policy of the name
abbrev pub is_known : PolicyTable → PolicyName → Bool
is_known table name = is_some (rules_of table name)

-- the table with these rules for the name: in their place where the name is there, else last
abbrev pub with_policy : PolicyTable → PolicyName → List Rule → PolicyTable
with_policy [] name rules = (name, rules) ∷ []
with_policy (policy ∷ more) name rules =
    if is_same name policy.0 then (name, rules) ∷ more else policy ∷ with_policy more name rules

-- the policies of other names
abbrev pub without_policy : PolicyTable → PolicyName → PolicyTable
without_policy table name = filter (λ policy. not (is_same name policy.0)) table

-- what the policy of the name makes of a route; an unknown one has no rules
unfoldable pub policy_action : PolicyTable → PolicyName → Route → Action
policy_action table name route = action_by (unwrap_or (rules_of table name) []) route

-- the table that a map of lists of rules shows
abbrev pub table_of : {A : Type 0} → List (PolicyName × Vec Rule A) → PolicyTable
table_of entries = map (λ e. (e.0, e.1.items)) entries
