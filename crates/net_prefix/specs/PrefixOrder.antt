-- The order of prefixes (our own).
use Rattle.std.specs.Prelude.{◌≡◌, Option, Some, None}
use Rattle.std.specs.Ordering.{nat_cmp, ordering_then}
use Rattle.std.specs.declared.cmp.Ordering.{Ordering}
use Rattle.std.specs.declared.cmp.Ordering.TheVariants.{Less}
use Rattle.net_prefix.specs.declared.prefix.Prefix.{Prefix}

-- the order of prefixes: by address, then by length
abbrev pub prefix_cmp : Prefix → Prefix → Ordering
prefix_cmp p q = ordering_then (nat_cmp p.bits q.bits) (nat_cmp p.len q.len)

-- a prefix stands above the given one, where one is given
abbrev pub IsAbove : Option Prefix → Prefix → Type 0
IsAbove None p = Unit {0}
IsAbove (Some after) p = prefix_cmp after p ≡ Less
