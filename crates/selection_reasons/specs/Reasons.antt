-- Why a candidate isn't the best of its prefix (RFC 4271 sections 9.1.1 and 9.1.2.2).
use Rattle.std.specs.Prelude.{◌≡◌, ◌++◌, ◌∷◌, Bool, true, Contains, List, [], None, Option, Some, filter, fold, not, if◌then◌else◌}
use Rattle.std.specs.List.{list_any}
use Rattle.decision.specs.Selection.{has_fewer_ases, has_greater_degree, has_lower_address, has_lower_cost, has_lower_identifier, has_lower_med, has_lower_origin, is_external_alone, unbeaten}
use Rattle.decision.specs.declared.candidate.Candidate.{Candidate}
use Rattle.selection_reasons.specs.declared.step.Step.{Step}
use Rattle.selection_reasons.specs.declared.step.Step.TheVariants.{Degree, PathLength, Origin, MultiExitDisc, External, InteriorCost, Identifier, Address}

-- the comparison that a step makes
abbrev pub beats_at : Step → Candidate → Candidate → Bool
beats_at Degree = has_greater_degree
beats_at PathLength = has_fewer_ases
beats_at Origin = has_lower_origin
beats_at MultiExitDisc = has_lower_med
beats_at External = is_external_alone
beats_at InteriorCost = has_lower_cost
beats_at Identifier = has_lower_identifier
beats_at Address = has_lower_address

-- the steps in the order of the selection
abbrev pub all_steps : List Step
all_steps = Degree ∷ PathLength ∷ Origin ∷ MultiExitDisc ∷ External ∷ InteriorCost ∷ Identifier ∷ Address ∷ []

-- what these steps leave of the candidates, one after another
abbrev pub left_by : List Step → List Candidate → List Candidate
left_by steps cs = fold (λ left step. unbeaten (beats_at step) left) cs steps

-- one of those left beats the candidate at the step
abbrev pub is_beaten : Step → List Candidate → Candidate → Bool
is_beaten step left c = list_any (λ d. beats_at step d c) left

-- those of some candidates that none of those left beats at the step
abbrev pub kept_of : Step → List Candidate → List Candidate → List Candidate
kept_of step left cs = filter (λ c. not (is_beaten step left c)) cs

-- the first of these steps at which the candidate is beaten, of those that are left
abbrev pub fell_by : List Step → List Candidate → Candidate → Option Step
fell_by [] left c = None
fell_by (step ∷ steps) left c = if is_beaten step left c then Some step else fell_by steps (unbeaten (beats_at step) left) c

-- the steps before this one leave the candidate, and one of those left beats it there
pub record FellAt (cs : List Candidate) (c : Candidate) (step : Step) : Type 0 where
  pub before : List Step
  pub behind : List Step
  pub order : all_steps ≡ before ++ step ∷ behind
  pub left : Contains (left_by before cs) c
  pub beaten : is_beaten step (left_by before cs) c ≡ true
