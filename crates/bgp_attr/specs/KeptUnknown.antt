-- How the unknown attributes of a route are kept: one alone with a short value takes no block.
use Rattle.std.specs.Prelude.{ℕ, List, [], ◌∷◌, Option, Some, None}
use Rattle.bgp_attr.specs.UnknownAttributes.{Unknown}
use Rattle.bgp_attr.specs.declared.unknown.UnknownList.{UnknownList}
use Rattle.bgp_attr.specs.declared.unknown.UnknownList.TheVariants.{Nothing, Short, Several}

-- the attributes that are kept
abbrev pub list_kept : {A : Type 0} → UnknownList A → Unknown
list_kept Nothing = []
list_kept (Short attribute) = attribute ∷ []
list_kept (Several attributes) = attributes.items

-- a first attribute, where there is one, and the rest
abbrev pub still_to_come : Option (ℕ × List ℕ) → Unknown → Unknown
still_to_come None rest = rest
still_to_come (Some first) rest = first ∷ rest
