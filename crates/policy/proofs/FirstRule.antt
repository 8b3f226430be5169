-- The rule that decides what becomes of a route.
use Rattle.std.proofs.Common.{◌≡◌, ℕ, zero, suc, ◌<◌, Bool, true, false, List, [], ◌∷◌, Option, Some, inl, inr, slice_get, cond, refl, subst, arith}
use Rattle.policy.specs.declared.rule.Action.{Action}
use Rattle.policy.specs.declared.rule.Rule.{Rule}
use Rattle.policy.specs.PolicyMeaning.{Route, action_by, action_or_reject, matches}
use Rattle.policy.specs.FirstRule.{IsDecided, MatchesNone}

module _ (rule : Rule) (more : List Rule) (route : Route) where
  none_more : matches rule.condition route ≡ false → MatchesNone more route → MatchesNone (rule ∷ more) route
  none_more not_so none zero other at = let same : rule ≡ other = cc in subst (λ (r : Rule). matches r.condition route ≡ false) same not_so
  none_more not_so none (suc index) other at = none index other at

  lesser_more : (index : ℕ) → matches rule.condition route ≡ false → ((lesser : ℕ) (other : Rule) → lesser < index → slice_get more lesser ≡ Some other → matches other.condition route ≡ false)
      → (lesser : ℕ) (other : Rule) → lesser < suc index → slice_get (rule ∷ more) lesser ≡ Some other → matches other.condition route ≡ false
  lesser_more index not_so none zero other less at = let same : rule ≡ other = cc in subst (λ (r : Rule). matches r.condition route ≡ false) same not_so
  lesser_more index not_so none (suc lesser) other less at = none lesser other (omega arith) at

  later : (action : Action) → matches rule.condition route ≡ false → IsDecided more route action → IsDecided (rule ∷ more) route action
  later action not_so (inl none) = inl (none_more not_so none.0, none.1)
  later action not_so (inr first) = inr (suc first.0, first.1, (first.2.0, first.2.1, lesser_more first.0 not_so first.2.2), first.3)

  here : matches rule.condition route ≡ true → IsDecided (rule ∷ more) route rule.action
  here so = inr (0, rule, (refl, so, λ lesser other less at. absurd (omega arith)), refl)

  by_case : (b : Bool) (o : Option Rule) → matches rule.condition route ≡ b → IsDecided more route (action_or_reject o) → IsDecided (rule ∷ more) route (action_or_reject (cond b (Some rule) o))
  by_case true o is rest = here is
  by_case false o is rest = later (action_or_reject o) is rest

pub decided : (rules : List Rule) (route : Route) → IsDecided rules route (action_by rules route)
decided [] route = inl (λ index rule at. absurd cc, refl)
decided (rule ∷ more) route = by_case rule more route (matches rule.condition route) _ refl (decided more route)
