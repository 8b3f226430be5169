-- The order of filters (our own).
use Rattle.std.specs.Ordering.{nat_cmp, ordering_then}
use Rattle.std.specs.declared.cmp.Ordering.{Ordering}
use Rattle.std.specs.declared.cmp.Ordering.TheVariants.{Less, Greater}
use Rattle.net_prefix.specs.PrefixOrder.{prefix_cmp}
use Rattle.local_exceptions.specs.declared.filter.Filter.{Filter}
use Rattle.local_exceptions.specs.declared.filter.Filter.TheVariants.{Prefix, As, Both}

-- the order of filters: those of a prefix alone, those of an AS alone, those of both
abbrev pub filter_cmp : Filter → Filter → Ordering
filter_cmp (Prefix p) (Prefix q) = prefix_cmp p q
filter_cmp (Prefix p) (As a) = Less
filter_cmp (Prefix p) (Both q a) = Less
filter_cmp (As a) (Prefix p) = Greater
filter_cmp (As a) (As b) = nat_cmp a.0 b.0
filter_cmp (As a) (Both p b) = Less
filter_cmp (Both p a) (Prefix q) = Greater
filter_cmp (Both p a) (As b) = Greater
filter_cmp (Both p a) (Both q b) = ordering_then (prefix_cmp p q) (nat_cmp a.0 b.0)
