-- A walk along prefixes in rising order, past those that the last one covers (own).
use Rattle.std.specs.Prelude.{Bool, false, List, [], ◌∷◌, Option, None, Some, if◌then◌else◌}
use Rattle.local_exceptions.specs.ExceptionSets.{ExceptionSets, is_turned, is_untouched}
use Rattle.local_exceptions.specs.declared.filter.Filter.{Filter}
use Rattle.net_prefix.specs.declared.payload.Vrp.{Vrp}
use Rattle.net_prefix.specs.declared.prefix.Prefix.{Prefix}
use Rattle.prefix_trie.specs.CoverWalks.{covers}

-- whether the last prefix, if there is one, covers the prefix
abbrev pub is_inside : Option Prefix → Prefix → Bool
is_inside None p = false
is_inside (Some last) p = covers last p

-- the prefixes that the last one before them doesn't cover
abbrev pub outside : Option Prefix → List Prefix → List Prefix
outside last [] = []
outside last (p ∷ ps) = if is_inside last p then outside last ps else p ∷ outside (Some p) ps

-- whether a walk stops at the payload: where the filter, if there is one, alone decides on it, and else where no exception says
-- anything of it
abbrev pub is_sought : ExceptionSets → Option Filter → Vrp → Bool
is_sought e None payload = is_untouched e payload
is_sought e (Some f) payload = is_turned e f payload
