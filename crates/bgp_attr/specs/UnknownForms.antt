-- How an unknown attribute is kept: a short value stands in the attribute itself.
use Rattle.std.specs.Prelude.{ℕ, List}
use Rattle.bgp_attr.specs.declared.unknown_attribute.UnknownForm.{UnknownForm}
use Rattle.bgp_attr.specs.declared.unknown_attribute.UnknownForm.TheVariants.{Short, Long}

-- the code and the value that are kept
abbrev pub unknown_kept : {A : Type 0} → UnknownForm A → ℕ × List ℕ
unknown_kept (Short attribute) = attribute
unknown_kept (Long code value) = (code, value.items)
