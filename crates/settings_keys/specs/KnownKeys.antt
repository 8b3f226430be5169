-- The keys that a table may have (own).
use Rattle.std.specs.Prelude.{◌≡◌, ℕ, Bool, List, Option, Some, None, if◌then◌else◌}
use Rattle.std.specs.List.{list_any}
use Rattle.std.specs.Str.{bytes_eq}
use Rattle.toml.specs.Data.{Members, no_members, member}

-- the key is one of these
abbrev pub is_one_of : List ℕ → List (List ℕ) → Bool
is_one_of key known = list_any (λ name. bytes_eq name key) known

-- the first key of the table that is none of these
abbrev pub first_unknown : List (List ℕ) → Members → Option (List ℕ)
first_unknown known no_members = None
first_unknown known (member key found rest) = if is_one_of key known then first_unknown known rest else Some key

-- the table has no key but these
abbrev pub HasNoKeyBut : List (List ℕ) → Members → Type 0
HasNoKeyBut known table = first_unknown known table ≡ None
