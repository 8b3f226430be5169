-- The prefixes whose states may differ from one set of payloads to another (own).
use Rattle.std.specs.Prelude.{Bool, List, ◌++◌}
use Rattle.std.specs.List.{list_any}
use Rattle.net_prefix.specs.declared.payload.Vrp.{Vrp}
use Rattle.net_prefix.specs.declared.prefix.Prefix.{Prefix}
use Rattle.prefix_trie.specs.CoverWalks.{covers}
use Rattle.vrp_delta.specs.Delta.{lacked}

-- whether a payload that comes or goes from one set to another covers the prefix
abbrev pub is_touched : List Vrp → List Vrp → Prefix → Bool
is_touched before after prefix = list_any (λ payload. covers payload.prefix prefix) (lacked before after ++ lacked after before)
