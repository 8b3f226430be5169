-- What is read of each entry of a table by prefix.
use Rattle.std.specs.Prelude.{List, Option, filter_map, option_map}
use Rattle.net_prefix.specs.declared.prefix.Prefix.{Prefix}

-- what is read of each entry, where it has it
abbrev pub picked : {R X : Type 0} → (R → Option X) → List (Prefix × R) → List (Prefix × X)
picked read table = filter_map (λ entry. option_map (λ x. (entry.0, x)) (read entry.1)) table
