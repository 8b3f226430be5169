-- A table of values by prefix.
use Rattle.std.specs.Prelude.{◌≡◌, List, Option, if◌then◌else◌}
use Rattle.std.specs.Ordering.{is_eq}
use Rattle.net_prefix.specs.PrefixOrder.{prefix_cmp}
use Rattle.net_prefix.specs.declared.prefix.Prefix.{Prefix}
use Rattle.prefix_trie.specs.TrieMap.{IsRising, found}

-- the values, each with its prefix, in the order of prefixes
pub record TableState (V : Type 0) : Type 0 where
  pub entries : List (Prefix × V)

-- the prefix has this value now, or none, and each other prefix what it had
pub record IsPut {V : Type 0} (old new : List (Prefix × V)) (prefix : Prefix) (now : Option V) : Type 0 where
  pub was_rising : IsRising old
  pub rising : IsRising new
  pub puts : (q : Prefix) → found new q ≡ (if is_eq (prefix_cmp prefix q) then now else found old q)
