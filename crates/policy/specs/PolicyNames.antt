-- The names of policies (own).
use Rattle.std.specs.Prelude.{ℕ, ◌==◌, ◌-◌, ◌&&◌, ◌||◌, ◌++◌, not, nat_le, Bool, List, length, replicate, codes, bytes_eq}
use Rattle.std.specs.List.{list_all}
use Rattle.policy.specs.declared.name.PolicyName.{PolicyName}

-- an octet that names of policies may have: `a` to `z`, `0` to `9` and `-`
abbrev pub is_name_octet : ℕ → Bool
is_name_octet octet = nat_le 97 octet && nat_le octet 122 || nat_le 48 octet && nat_le octet 57 || octet == 45

-- a text that can name a policy: 1 to 32 such octets
abbrev pub is_policy_name : List ℕ → Bool
is_policy_name text = not (length text == 0) && nat_le (length text) 32 && list_all is_name_octet text

-- the name that a text is: its octets, and zeros behind them up to 32
unfoldable pub name_of : List ℕ → PolicyName
name_of text = record { octets = text ++ replicate (32 - length text) 0 }

-- both are one name
abbrev pub is_same : PolicyName → PolicyName → Bool
is_same name other = bytes_eq name.octets other.octets

-- the policy that accepts each route
unfoldable pub all_name : PolicyName
all_name = name_of (codes "all")

-- the policy that rejects each route
unfoldable pub none_name : PolicyName
none_name = name_of (codes "none")

-- the built-in policies
abbrev pub is_built_in : PolicyName → Bool
is_built_in name = is_same name all_name || is_same name none_name
