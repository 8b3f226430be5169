-- What setting and dropping a policy does to the policies by their names.
use Rattle.std.proofs.Common.{◌≡◌, ◌≢◌, ◌||◌, not, Bool, true, false, cond, List, [], ◌∷◌, Option, Some, None, is_some, refl, sym, ap, subst, ◌∙◌}
use Rattle.std.proofs.lemmas.Bool.{false≢true}
use Rattle.std.specs.Cmp.Lexicographic.{nat_list_eq_equiv, bytes_decides}
use Rattle.std.specs.Map.{lookup}
use Rattle.policy.specs.declared.name.PolicyName.{PolicyName}
use Rattle.policy.specs.declared.rule.Rule.{Rule}
use Rattle.policy.specs.declared.rule.Action.TheVariants.{Accept, Reject}
use Rattle.policy.specs.PolicyMeaning.{Route}
use Rattle.policy.specs.PolicyNames.{all_name, is_built_in, is_same, name_of, none_name}
use Rattle.policy.specs.PolicyTable.{PolicyTable, is_known, policy_action, rules_of, with_policy, without_policy}

-- ---- names
pub is_same-itself : (name : PolicyName) → is_same name name ≡ true
is_same-itself name = nat_list_eq_equiv.refl name.octets

pub is_same-equal : (name other : PolicyName) → is_same name other ≡ true → name ≡ other
is_same-equal name other h = ap (λ (octets : List _). let n : PolicyName = record { octets = octets } in n) ((bytes_decides name.octets other.octets).0 h)

not_true : (b : Bool) → (b ≡ true → ⊥) → b ≡ false
not_true true f = absurd (f refl)
not_true false f = refl

pub is_same-apart : (name other : PolicyName) → name ≢ other → is_same name other ≡ false
is_same-apart name other apart = not_true (is_same name other) (λ h. apart (is_same-equal name other h))

-- ---- what a table has at a name
module _ (name : PolicyName) (rules : List Rule) where
  put_here : (e : PolicyName × List Rule) (es : PolicyTable) (b : Bool) → is_same name e.0 ≡ b → lookup (is_same name) (with_policy es name rules) ≡ Some rules
      → lookup (is_same name) (cond b ((name, rules) ∷ es) (e ∷ with_policy es name rules)) ≡ Some rules
  put_here e es true is more = rw (is_same-itself name) refl
  put_here e es false is more = rw is more

  pub lookup-with_policy : (table : PolicyTable) → lookup (is_same name) (with_policy table name rules) ≡ Some rules
  lookup-with_policy [] = rw (is_same-itself name) refl
  lookup-with_policy (e ∷ es) = put_here e es (is_same name e.0) refl (lookup-with_policy es)

  module _ (other : PolicyName) (apart : name ≢ other) where
    turned : is_same other name ≡ false
    turned = is_same-apart other name (λ same. apart (sym same))

    put_there : (e : PolicyName × List Rule) (es : PolicyTable) (b : Bool) → is_same name e.0 ≡ b → lookup (is_same other) (with_policy es name rules) ≡ lookup (is_same other) es
        → lookup (is_same other) (cond b ((name, rules) ∷ es) (e ∷ with_policy es name rules)) ≡ lookup (is_same other) (e ∷ es)
    put_there e es true is more =
        let here : is_same other e.0 ≡ false = subst (λ (n : PolicyName). is_same other n ≡ false) (is_same-equal name e.0 is) turned in
        rw (turned, here) refl
    put_there e es false is more = ap (cond (is_same other e.0) (Some e.1)) more

    pub lookup-with_other : (table : PolicyTable) → lookup (is_same other) (with_policy table name rules) ≡ lookup (is_same other) table
    lookup-with_other [] = rw turned refl
    lookup-with_other (e ∷ es) = put_there e es (is_same name e.0) refl (lookup-with_other es)

module _ (name : PolicyName) where
  out_here : (e : PolicyName × List Rule) (es : PolicyTable) (b : Bool) → is_same name e.0 ≡ b → lookup (is_same name) (without_policy es name) ≡ None
      → lookup (is_same name) (cond (not b) (e ∷ without_policy es name) (without_policy es name)) ≡ None
  out_here e es true is more = more
  out_here e es false is more = rw is more

  pub lookup-without_policy : (table : PolicyTable) → lookup (is_same name) (without_policy table name) ≡ None
  lookup-without_policy [] = refl
  lookup-without_policy (e ∷ es) = out_here e es (is_same name e.0) refl (lookup-without_policy es)

  module _ (other : PolicyName) (apart : name ≢ other) where
    out_there : (e : PolicyName × List Rule) (es : PolicyTable) (b : Bool) → is_same name e.0 ≡ b → lookup (is_same other) (without_policy es name) ≡ lookup (is_same other) es
        → lookup (is_same other) (cond (not b) (e ∷ without_policy es name) (without_policy es name)) ≡ lookup (is_same other) (e ∷ es)
    out_there e es true is more =
        let here : is_same other e.0 ≡ false = subst (λ (n : PolicyName). is_same other n ≡ false) (is_same-equal name e.0 is) (is_same-apart other name (λ same. apart (sym same))) in
        rw here more
    out_there e es false is more = ap (cond (is_same other e.0) (Some e.1)) more

    pub lookup-without_other : (table : PolicyTable) → lookup (is_same other) (without_policy table name) ≡ lookup (is_same other) table
    lookup-without_other [] = refl
    lookup-without_other (e ∷ es) = out_there e es (is_same name e.0) refl (lookup-without_other es)

-- ---- the rules of the policies
neither : (a b : Bool) → (a || b) ≡ false → (a ≡ false) × (b ≡ false)
neither true b h = absurd (false≢true (sym h))
neither false b h = (refl, h)

pub in_table : (table : PolicyTable) (name : PolicyName) → is_built_in name ≡ false → rules_of table name ≡ lookup (is_same name) table
unfolding rules_of
in_table table name h = let apart = neither (is_same name all_name) (is_same name none_name) h in rw (apart.0, apart.1) refl

pub rules_of-with_policy : (table : PolicyTable) (name : PolicyName) (rules : List Rule) → is_built_in name ≡ false → rules_of (with_policy table name rules) name ≡ Some rules
rules_of-with_policy table name rules h = in_table (with_policy table name rules) name h ∙ lookup-with_policy name rules table

pub rules_of-with_other : (table : PolicyTable) (name other : PolicyName) (rules : List Rule) → name ≢ other → rules_of (with_policy table name rules) other ≡ rules_of table other
unfolding rules_of
rules_of-with_other table name other rules apart = rw (lookup-with_other name rules other apart table) refl

pub rules_of-without_policy : (table : PolicyTable) (name : PolicyName) → is_built_in name ≡ false → rules_of (without_policy table name) name ≡ None
rules_of-without_policy table name h = in_table (without_policy table name) name h ∙ lookup-without_policy name table

pub rules_of-without_other : (table : PolicyTable) (name other : PolicyName) → name ≢ other → rules_of (without_policy table name) other ≡ rules_of table other
unfolding rules_of
rules_of-without_other table name other apart = rw (lookup-without_other name other apart table) refl

-- ---- the built-in policies, and unknown ones
none_is_not_all : is_same none_name all_name ≡ false
unfolding all_name none_name name_of
none_is_not_all = refl

pub policy_action-all : (table : PolicyTable) (route : Route) → policy_action table all_name route ≡ Accept None None None
unfolding policy_action rules_of
policy_action-all table route = rw (is_same-itself all_name) refl

pub policy_action-none : (table : PolicyTable) (route : Route) → policy_action table none_name route ≡ Reject
unfolding policy_action rules_of
policy_action-none table route = rw (none_is_not_all, is_same-itself none_name) refl

none_there : {X : Type 0} (o : Option X) → is_some o ≡ false → o ≡ None
none_there None h = refl
none_there (Some x) h = absurd cc

pub policy_action-unknown : (table : PolicyTable) (name : PolicyName) (route : Route) → is_known table name ≡ false → policy_action table name route ≡ Reject
unfolding policy_action
policy_action-unknown table name route unknown = rw (none_there (rules_of table name) unknown) refl
