-- What a map of lists of rules shows, and what becomes of it.
use Rattle.std.proofs.Common.{◌≡◌, not, Bool, true, false, cond, List, [], ◌∷◌, Option, Some, None, Vec, refl, sym, ap, subst, ◌∙◌}
use Rattle.std.proofs.lemmas.Map.Keys.{IsDistinct-head, IsDistinct-tail}
use Rattle.std.proofs.lemmas.Map.Made.{keys_of-map_values, lookup-map_values}
use Rattle.std.specs.List.{AllByRecursion, IsDistinct}
use Rattle.std.specs.Map.{keys_of, lookup, remove_entry}
use Rattle.std.specs.Option.{is_some, option_map}
use Rattle.indexmap.specs.IndexMap.{insert_entry}
use Rattle.policy.specs.declared.name.PolicyName.{PolicyName}
use Rattle.policy.specs.declared.rule.Action.TheVariants.{Reject}
use Rattle.policy.specs.declared.rule.Rule.{Rule}
use Rattle.policy.specs.PolicyMeaning.{Route, action_by}
use Rattle.policy.specs.PolicyNames.{all_name, is_built_in, is_same, none_name}
use Rattle.policy.specs.PolicyTable.{NamesDiffer, PolicyTable, is_known, policy_action, rules_of, table_of, with_policy, without_policy}
use Rattle.policy.proofs.TableLaws.{in_table, is_same-equal}

some_mapped : {X Y : Type 0} (f : X → Y) (o : Option X) → is_some (option_map f o) ≡ is_some o
some_mapped f None = refl
some_mapped f (Some x) = refl

module _ {A : Type 0} (entries : List (PolicyName × Vec Rule A)) (table : PolicyTable) (shows : table_of entries ≡ table) (name : PolicyName) where
  -- ---- what is found
  at_name : lookup (is_same name) table ≡ option_map (λ (v : Vec Rule A). v.items) (lookup (is_same name) entries)
  at_name = ap (lookup (is_same name)) (sym shows) ∙ lookup-map_values (λ (v : Vec Rule A). v.items) (is_same name) entries

  pub known_there : is_built_in name ≡ false → is_some (lookup (is_same name) entries) ≡ is_known table name
  known_there apart = sym (ap is_some (in_table table name apart ∙ at_name) ∙ some_mapped (λ (v : Vec Rule A). v.items) (lookup (is_same name) entries))

  module _ (not_all : is_same name all_name ≡ false) (not_none : is_same name none_name ≡ false) (route : Route) where
    there : rules_of table name ≡ lookup (is_same name) table
    unfolding rules_of
    there = rw (not_all, not_none) refl

    pub action_there : (rules : Vec Rule A) → lookup (is_same name) entries ≡ Some rules → policy_action table name route ≡ action_by rules.items route
    unfolding policy_action
    action_there rules found = rw (there, at_name, found) refl

    pub action_nowhere : lookup (is_same name) entries ≡ None → policy_action table name route ≡ Reject
    unfolding policy_action
    action_nowhere found = rw (there, at_name, found) refl

-- ---- the names
pub names_shown : {A : Type 0} (entries : List (PolicyName × Vec Rule A)) → IsDistinct is_same (keys_of entries) → NamesDiffer (table_of entries)
names_shown {A} entries h = subst (IsDistinct is_same) (sym (keys_of-map_values (λ (v : Vec Rule A). v.items) entries)) h

-- ---- a policy that is set
put_case : {A : Type 0} (name : PolicyName) (rules : Vec Rule A) (e : PolicyName × Vec Rule A) (es : List (PolicyName × Vec Rule A)) (b : Bool) → is_same name e.0 ≡ b
    → table_of (insert_entry is_same es name rules) ≡ with_policy (table_of es) name rules.items
    → table_of (cond b ((e.0, rules) ∷ es) (e ∷ insert_entry is_same es name rules))
    ≡ cond b ((name, rules.items) ∷ table_of es) ((e.0, e.1.items) ∷ with_policy (table_of es) name rules.items)
put_case name rules e es true is more = ap (λ (n : PolicyName). let p : PolicyName × List Rule = (n, rules.items) in p ∷ table_of es) (sym (is_same-equal name e.0 is))
put_case name rules e es false is more = ap (λ (t : PolicyTable). (e.0, e.1.items) ∷ t) more

pub table_of-insert_entry : {A : Type 0} (name : PolicyName) (rules : Vec Rule A) (entries : List (PolicyName × Vec Rule A)) → table_of (insert_entry is_same entries name rules) ≡ with_policy (table_of entries) name rules.items
table_of-insert_entry name rules [] = refl
table_of-insert_entry name rules (e ∷ es) = put_case name rules e es (is_same name e.0) refl (table_of-insert_entry name rules es)

-- ---- a policy that is dropped
cut_case : {A : Type 0} (name : PolicyName) (e : PolicyName × Vec Rule A) (es : List (PolicyName × Vec Rule A)) (b : Bool)
    → table_of (remove_entry (is_same name) es) ≡ remove_entry (is_same name) (table_of es)
    → table_of (cond b es (e ∷ remove_entry (is_same name) es)) ≡ cond b (table_of es) ((e.0, e.1.items) ∷ remove_entry (is_same name) (table_of es))
cut_case name e es true more = refl
cut_case name e es false more = ap (λ (t : PolicyTable). (e.0, e.1.items) ∷ t) more

table_of-remove_entry : {A : Type 0} (name : PolicyName) (entries : List (PolicyName × Vec Rule A)) → table_of (remove_entry (is_same name) entries) ≡ remove_entry (is_same name) (table_of entries)
table_of-remove_entry name [] = refl
table_of-remove_entry name (e ∷ es) = cut_case name e es (is_same name e.0) (table_of-remove_entry name es)

no_other : (name : PolicyName) (table : PolicyTable) → AllByRecursion (λ other. is_same name other ≡ false) (keys_of table) → without_policy table name ≡ table
no_other name [] h = refl
no_other name (e ∷ es) h = rw h.0 (ap (λ (t : PolicyTable). e ∷ t) (no_other name es h.1))

out_case : (name : PolicyName) (e : PolicyName × List Rule) (es : PolicyTable) (b : Bool) → is_same name e.0 ≡ b → NamesDiffer (e ∷ es)
    → remove_entry (is_same name) es ≡ without_policy es name
    → cond b es (e ∷ remove_entry (is_same name) es) ≡ cond (not b) (e ∷ without_policy es name) (without_policy es name)
out_case name e es true is differ more =
    let apart = IsDistinct-head is_same e.0 (keys_of es) differ in
    sym (no_other name es (subst (λ (n : PolicyName). AllByRecursion (λ other. is_same n other ≡ false) (keys_of es)) (sym (is_same-equal name e.0 is)) apart))
out_case name e es false is differ more = ap (λ (t : PolicyTable). e ∷ t) more

out_of : (name : PolicyName) (table : PolicyTable) → NamesDiffer table → remove_entry (is_same name) table ≡ without_policy table name
out_of name [] differ = refl
out_of name (e ∷ es) differ = out_case name e es (is_same name e.0) refl differ (out_of name es (IsDistinct-tail is_same e.0 (keys_of es) differ))

pub table_of-dropped : {A : Type 0} (name : PolicyName) (entries : List (PolicyName × Vec Rule A)) → NamesDiffer (table_of entries) → table_of (remove_entry (is_same name) entries) ≡ without_policy (table_of entries) name
table_of-dropped name entries differ = table_of-remove_entry name entries ∙ out_of name (table_of entries) differ
