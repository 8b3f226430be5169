-- The rule that decides what becomes of a route (own): the one with the least index among those that match.
use Rattle.std.specs.Prelude.{◌≡◌, ℕ, ◌<◌, ◌⊎◌, true, false, List, slice_get, Some}
use Rattle.policy.specs.declared.rule.Action.{Action}
use Rattle.policy.specs.declared.rule.Action.TheVariants.{Reject}
use Rattle.policy.specs.declared.rule.Rule.{Rule}
use Rattle.policy.specs.PolicyMeaning.{Route, matches}

-- no rule matches the route
abbrev pub MatchesNone : List Rule → Route → Type 0
MatchesNone rules route =
    (index : ℕ) (rule : Rule) → slice_get rules index ≡ Some rule → matches rule.condition route ≡ false

-- the rule at the index matches the route, and none with a lesser index does
abbrev pub IsFirstMatch : List Rule → Route → ℕ → Rule → Type 0
IsFirstMatch rules route index rule =
    (slice_get rules index ≡ Some rule)
    × (matches rule.condition route ≡ true)
    × ((lesser : ℕ) (other : Rule) → lesser < index → slice_get rules lesser ≡ Some other → matches other.condition route ≡ false)

-- the action is that of the first rule that matches the route; where none does, the route is rejected
abbrev pub IsDecided : List Rule → Route → Action → Type 0
IsDecided rules route action =
    (MatchesNone rules route × (action ≡ Reject))
    ⊎ ((index : ℕ) × (rule : Rule) × IsFirstMatch rules route index rule × (action ≡ rule.action))
