-- Prefixes behind a prefix, in the order of prefixes.
use Rattle.std.specs.Prelude.{List, Option, None, Some, filter}
use Rattle.std.specs.Ordering.{is_lt}
use Rattle.net_prefix.specs.PrefixOrder.{prefix_cmp}
use Rattle.net_prefix.specs.declared.prefix.Prefix.{Prefix}

-- of these prefixes, those above one
abbrev pub prefixes_above : Prefix → List Prefix → List Prefix
prefixes_above p prefixes = filter (λ q. is_lt (prefix_cmp p q)) prefixes

-- those above one, or all
abbrev pub prefixes_after : Option Prefix → List Prefix → List Prefix
prefixes_after None prefixes = prefixes
prefixes_after (Some p) prefixes = prefixes_above p prefixes
