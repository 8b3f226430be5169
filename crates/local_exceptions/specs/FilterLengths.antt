-- Which filters match a payload, by the length of their prefix (our own).
use Rattle.std.specs.Prelude.{◌≡◌, ◌&&◌, ℕ, Bool, true, false, not, List, Option, None, Some}
use Rattle.std.specs.BTreeMap.{is_at}
use Rattle.net_prefix.specs.declared.payload.Vrp.{Vrp}
use Rattle.local_exceptions.specs.FilterOrder.{filter_cmp}
use Rattle.local_exceptions.specs.Filters.{has_filter, matches, out_filter}
use Rattle.local_exceptions.specs.declared.filter.Filter.{Filter}
use Rattle.local_exceptions.specs.declared.filter.Filter.TheVariants.{Prefix, As, Both}

-- the length of the filter's prefix, if it has one
abbrev pub length_of : Filter → Option ℕ
length_of (Prefix prefix) = Some prefix.len
length_of (As asn) = None
length_of (Both prefix asn) = Some prefix.len

-- no filter whose prefix has this length matches the payload
abbrev pub NoneMatches : List Filter → Vrp → ℕ → Type 0
NoneMatches filters payload len = (f : Filter) → length_of f ≡ Some len → matches f payload ≡ true → has_filter filters f ≡ false

-- whether a filter is another one than this, if one is given
abbrev pub is_other : Option Filter → Filter → Bool
is_other None member = true
is_other (Some f) member = not (is_at (filter_cmp f) member)

-- the filters but for this one, if one is given
abbrev pub but_for : Option Filter → List Filter → List Filter
but_for None filters = filters
but_for (Some f) filters = out_filter f filters

-- whether a filter is another one than this, if one is given, and matches the payload
abbrev pub matches_but : Option Filter → Vrp → Filter → Bool
matches_but but payload member = is_other but member && matches member payload
