-- A map from prefixes to values, seen as its entries in the order of prefixes.
use Rattle.std.specs.Prelude.{Bool, ◌≡◌, ◌^◌, ◌<◌, ℕ, List, Option, None, Some, true, false, length, not, filter}
use Rattle.std.specs.List.{AllByRecursion}
use Rattle.std.specs.BTreeMap.{is_at, insert_entry}
use Rattle.std.specs.Map.{lookup, keys_of}
use Rattle.std.specs.List.Sorted.{IsStrictlySortedBy}
use Rattle.net_prefix.specs.PrefixOrder.{prefix_cmp}
use Rattle.net_prefix.specs.declared.prefix.Prefix.{Prefix}

-- the value at the prefix
abbrev pub found : {V : Type 0} → List (Prefix × V) → Prefix → Option V
found entries prefix = lookup (is_at (prefix_cmp prefix)) entries

-- the entries with the value at the prefix, in its place in the order
abbrev pub with_entry : {V : Type 0} → List (Prefix × V) → Prefix → V → List (Prefix × V)
with_entry entries prefix value = insert_entry prefix_cmp entries prefix value

-- the entries without that of the prefix
abbrev pub without : {V : Type 0} → List (Prefix × V) → Prefix → List (Prefix × V)
without entries prefix = filter (λ e. not (is_at (prefix_cmp prefix) e.0)) entries

-- the entries stand in the order of prefixes
abbrev pub IsRising : {V : Type 0} → List (Prefix × V) → Type 0
IsRising entries = IsStrictlySortedBy prefix_cmp (keys_of entries)

-- what holds of a map and the count of its entries: they rise, and their addresses have 32 bits
pub record IsCounted {V : Type 0} (count : ℕ) (entries : List (Prefix × V)) : Type 0 where
  pub count_is : count ≡ length entries
  pub rising : IsRising entries
  pub addresses : AllByRecursion (λ e. e.0.bits < 2 ^ 32) entries

-- the value that was found at a prefix was changed by a step; or there was none, and nothing changed
abbrev pub Updates : {V : Type 0} → (V → V → Type 0) → Bool → Option V → List (Prefix × V) → List (Prefix × V) → Prefix → Type 0
Updates {V} step changed None old new prefix = (changed ≡ false) × (new ≡ old)
Updates {V} step changed (Some v) old new prefix = (changed ≡ true) × ((w : V) × step v w × (new ≡ with_entry old prefix w))
