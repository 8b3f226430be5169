-- The stretches of prefixes whose states a change of the payloads may change (own).
use Rattle.std.specs.Prelude.{◌&&◌, ◌++◌, Bool, List, [], ◌∷◌, filter, map, not}
use Rattle.std.specs.BTreeMap.{is_at}
use Rattle.std.specs.BTreeSet.{insert_key}
use Rattle.std.specs.List.{list_any}
use Rattle.net_prefix.specs.PrefixOrder.{prefix_cmp}
use Rattle.net_prefix.specs.declared.payload.Vrp.{Vrp}
use Rattle.net_prefix.specs.declared.prefix.Prefix.{Prefix}
use Rattle.prefix_trie.specs.CoverWalks.{covers}
use Rattle.vrp_delta.specs.Delta.{Change}

-- the prefixes of payloads
abbrev pub prefixes_of : List Vrp → List Prefix
prefixes_of payloads = map (λ payload. payload.prefix) payloads

-- the prefixes of the payloads that come or go
abbrev pub changed_prefixes : Change → List Prefix
changed_prefixes change = prefixes_of (change.withdrawn ++ change.announced)

-- prefixes in rising order, each once
abbrev pub in_order : List Prefix → List Prefix
in_order [] = []
in_order (p ∷ ps) = insert_key prefix_cmp (in_order ps) p

-- whether the first prefix covers the second, which is another one
abbrev pub covers_other : Prefix → Prefix → Bool
covers_other p q = covers p q && not (is_at (prefix_cmp p) q)

-- the prefixes that no other one of them covers, in rising order, each once
abbrev pub stretches : List Prefix → List Prefix
stretches prefixes = filter (λ p. not (list_any (λ q. covers_other q p) prefixes)) (in_order prefixes)
