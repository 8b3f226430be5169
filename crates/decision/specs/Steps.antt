-- The steps of the selection as the code names them.
use Rattle.std.specs.Prelude.{ℕ, Bool, Option, None, Some, List, fold, filter, max, min, nat_le, not, ◌&&◌, true, if◌then◌else◌}
use Rattle.arrayvec.specs.ArrayVec.{ArrayVec}
use Rattle.bgp_attr.specs.PathAttributes.{origin_octet}
use Rattle.decision.specs.declared.candidate.Candidate.{Candidate}
use Rattle.std.specs.List.{list_all, list_any}
use Rattle.decision.specs.declared.selection.Bound.{Bound}
use Rattle.decision.specs.declared.selection.Left.{Left}
use Rattle.decision.specs.declared.selection.Step.{Step}
use Rattle.decision.specs.declared.selection.Step.TheVariants.{FewestAses, LowestOrigin, ExternalFirst, LowestCost, LowestIdentifier, LowestAddress}
use Rattle.decision.specs.Selection.{has_fewer_ases, has_lower_origin, has_lower_med, is_external_alone, has_lower_cost, has_lower_identifier, has_lower_address}

-- the comparison that a step makes
abbrev pub beats : Step → Candidate → Candidate → Bool
beats FewestAses = has_fewer_ases
beats LowestOrigin = has_lower_origin
beats ExternalFirst = is_external_alone
beats LowestCost = has_lower_cost
beats LowestIdentifier = has_lower_identifier
beats LowestAddress = has_lower_address

-- the number by which a step goes
abbrev pub key_of : Step → Candidate → ℕ
key_of FewestAses c = c.path_length
key_of LowestOrigin c = origin_octet c.origin
key_of ExternalFirst c = if c.external then 0 else 1
key_of LowestCost c = c.cost
key_of LowestIdentifier c = c.identifier
key_of LowestAddress c = c.address

-- the lower one of two numbers, of which the first may be none
abbrev pub lower : Option ℕ → ℕ → ℕ
lower None key = key
lower (Some lowest) key = min key lowest

-- the lowest of the numbers
abbrev pub lowest_of : (Candidate → ℕ) → List Candidate → Option ℕ
lowest_of key cs = fold (λ lowest c. Some (lower lowest (key c))) None cs

-- the greatest degree of preference
abbrev pub greatest_of : List Candidate → ℕ
greatest_of cs = fold (λ greatest c. max c.degree greatest) 0 cs

-- no number of the candidate is above the bound of its step
abbrev pub is_bounded_by : List Bound → Candidate → Bool
is_bounded_by bounds c = list_all (λ bound. nat_le (key_of bound.step c) bound.most) bounds

-- nor is its degree below this one
abbrev pub is_within : ℕ → List Bound → Candidate → Bool
is_within degree bounds c = is_bounded_by bounds c && nat_le degree c.degree

-- a candidate within the bounds has a lower MULTI_EXIT_DISC
abbrev pub has_rival : List Candidate → ℕ → List Bound → Candidate → Bool
has_rival cs degree bounds c = list_any (λ d. has_lower_med d c && is_within degree bounds d) cs

-- the candidate is within the bounds that stood before (c), and has no rival there; until (c) each one passes
abbrev pub passes_med : List Candidate → ℕ → Option (ArrayVec Bound) → Candidate → Bool
passes_med cs degree None c = true
passes_med cs degree (Some bounds) c = is_within degree bounds.items c && not (has_rival cs degree bounds.items c)

-- the candidate is left
abbrev pub is_left : Left → Candidate → Bool
is_left left c = is_within left.degree left.bounds.items c && passes_med left.candidates.now left.degree left.tied c

-- the candidates that are left
abbrev pub left_of : Left → List Candidate
left_of left = filter (is_left left) left.candidates.now
