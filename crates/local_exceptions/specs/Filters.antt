-- Which payloads filters match (RFC 8416 section 3.3.1). Filters are the list of them, the least first.
use Rattle.std.specs.Prelude.{◌==◌, ◌&&◌, ◌/◌, Bool, List, Option, None, Some, filter, nat_le, not}
use Rattle.std.specs.BTreeMap.{is_at}
use Rattle.std.specs.BTreeSet.{insert_key}
use Rattle.std.specs.List.{list_any}
use Rattle.net_prefix.specs.Cover.{block_size}
use Rattle.net_prefix.specs.declared.asn.Asn.{Asn}
use Rattle.net_prefix.specs.declared.payload.Vrp.{Vrp}
use Rattle.net_prefix.specs.declared.prefix.Prefix as declared
use Rattle.local_exceptions.specs.FilterOrder.{filter_cmp}
use Rattle.local_exceptions.specs.declared.filter.Filter.{Filter}
use Rattle.local_exceptions.specs.declared.filter.Filter.TheVariants.{Prefix, As, Both}

-- whether the first prefix covers the second
abbrev pub covers : declared.Prefix → declared.Prefix → Bool
covers p q = nat_le p.len q.len && (p.bits / block_size p.len == q.bits / block_size p.len)

-- the filter of these parts, of which there is one at least
abbrev pub filter_of : Option declared.Prefix → Option Asn → Option Filter
filter_of None None = None
filter_of (Some prefix) None = Some (Prefix prefix)
filter_of None (Some asn) = Some (As asn)
filter_of (Some prefix) (Some asn) = Some (Both prefix asn)

-- whether the filter matches the payload: by its prefix, which covers the payload's, and by its AS, where it has them
abbrev pub matches : Filter → Vrp → Bool
matches (Prefix prefix) payload = covers prefix payload.prefix
matches (As asn) payload = asn.0 == payload.asn.0
matches (Both prefix asn) payload = covers prefix payload.prefix && asn.0 == payload.asn.0

-- whether one of the filters matches the payload
abbrev pub is_filtered : List Filter → Vrp → Bool
is_filtered filters payload = list_any (λ f. matches f payload) filters

-- whether the filter is among the filters
abbrev pub has_filter : List Filter → Filter → Bool
has_filter filters f = list_any (is_at (filter_cmp f)) filters

-- the filters with this one
abbrev pub put_filter : Filter → List Filter → List Filter
put_filter f filters = insert_key filter_cmp filters f

-- the filters without this one
abbrev pub out_filter : Filter → List Filter → List Filter
out_filter f filters = filter (λ member. not (is_at (filter_cmp f) member)) filters
