-- The policies in the order in which they came.
use Rattle.std.proofs.Common.{◌≡◌, ◌∙◌, ℕ, List, Option, Some, ap, slice_get, sym}
use Rattle.std.specs.Prelude.{Vec}
use Rattle.std.specs.Option.{option_map}
use Rattle.std.proofs.lemmas.Option.{slice_get-map}
use Rattle.policy.specs.PolicyTable.{table_of}
use Rattle.policy.specs.declared.name.PolicyName.{PolicyName}
use Rattle.policy.specs.declared.rule.Rule.{Rule}

pub nth_shown : {A : Type 0} (entries : List (PolicyName × Vec Rule A)) (n : ℕ) (name : PolicyName) (rules : Vec Rule A) → Some (name, rules) ≡ slice_get entries n → Some (name, rules.items) ≡ slice_get (table_of entries) n
nth_shown {A} entries n name rules is =
    ap (option_map (λ (e : PolicyName × Vec Rule A). (e.0, e.1.items))) is ∙ sym (slice_get-map (λ (e : PolicyName × Vec Rule A). (e.0, e.1.items)) entries n)
