-- Why changes of the policies are refused (own: the order and the numbers).
use Rattle.std.specs.Prelude.{◌≡◌, ℕ, ◌+◌, ◌&&◌, ◌||◌, ◌⊎◌, not, nat_le, nat_lt, Bool, true, List, [], ◌∷◌, length, Option, Some, None, if◌then◌else◌}
use Rattle.std.specs.List.{list_all}
use Rattle.policy.specs.declared.refusal.PolicyRefusal.{PolicyRefusal}
use Rattle.policy.specs.declared.refusal.PolicyRefusal.TheVariants.{UnknownName, TooMany, InUse, Range, NoMemory}
use Rattle.policy.specs.declared.rule.Action.{Action}
use Rattle.policy.specs.declared.rule.Action.TheVariants.{Reject, Accept}
use Rattle.policy.specs.declared.rule.PrefixRange.{PrefixRange}
use Rattle.policy.specs.declared.rule.Rule.{Rule}
use Rattle.policy.specs.PolicyMeaning.{holds}
use Rattle.policy.specs.PolicyNames.{is_built_in, is_policy_name, name_of}
use Rattle.policy.specs.PolicyTable.{PolicyTable, is_known}

-- the numbers by which operators know the refusals
abbrev pub number_of : PolicyRefusal → ℕ
number_of UnknownName = 30
number_of TooMany = 31
number_of InUse = 32
number_of Range = 33
number_of NoMemory = 44

-- the least length is no more than the greatest, which is at most 32
abbrev pub is_range : PrefixRange → Bool
is_range range = nat_le range.from range.to && nat_le range.to 32

-- the own AS is put in front at most 8 times more
abbrev pub is_action : Action → Bool
is_action Reject = true
is_action (Accept degree med prepend) = holds prepend (λ times. nat_le times 8)

-- the numbers of a rule are such as it may have
abbrev pub is_in_range : Rule → Bool
is_in_range rule =
    holds rule.condition.prefix is_range && holds rule.condition.from (λ slot. nat_le slot 63) && is_action rule.action

-- the first test that holds gives the refusal
abbrev pub first : List (Bool × PolicyRefusal) → Option PolicyRefusal
first [] = None
first (test ∷ tests) = if test.0 then Some test.1 else first tests

-- a further policy is one too many: there are 64, the two built-in ones among them
abbrev pub is_full : PolicyTable → Bool
is_full table = nat_le 64 (length table + 2)

-- why a policy can't be set
unfoldable pub set_refusal : PolicyTable → List ℕ → List Rule → Option PolicyRefusal
set_refusal table text rules =
    first
    ((not (is_policy_name text) || not (list_all is_in_range rules), Range)
    ∷ (nat_lt 256 (length rules) || not (is_known table (name_of text)) && is_full table, TooMany)
    ∷ (is_built_in (name_of text), InUse)
    ∷ [])

-- why a policy can't be dropped
unfoldable pub drop_refusal : PolicyTable → List ℕ → Bool → Option PolicyRefusal
drop_refusal table text in_use =
    first
    ((not (is_policy_name text), Range)
    ∷ (not (is_known table (name_of text)), UnknownName)
    ∷ (is_built_in (name_of text) || in_use, InUse)
    ∷ [])

-- why a call that takes memory was refused: for the refusal that there is, or else for want of memory
abbrev pub IsRefusedFor : Option PolicyRefusal → PolicyRefusal → Type 0
IsRefusedFor refusal why = (refusal ≡ Some why) ⊎ ((refusal ≡ None) × (why ≡ NoMemory))
