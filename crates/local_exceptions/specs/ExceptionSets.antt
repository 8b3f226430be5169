-- The exceptions, and what they make of a set of payloads and of its changes (RFC 8416 section 3).
use Rattle.std.specs.Prelude.{◌≡◌, ◌&&◌, ◌||◌, Bool, List, [], filter, not}
use Rattle.net_prefix.specs.PayloadSets.{has, out, put}
use Rattle.net_prefix.specs.declared.payload.Vrp.{Vrp}
use Rattle.vrp_delta.specs.Delta.{Change}
use Rattle.vrp_delta.specs.Staged.{with_all}
use Rattle.local_exceptions.specs.Filters.{is_filtered, matches, out_filter, put_filter}
use Rattle.local_exceptions.specs.declared.filter.Filter.{Filter}

-- the filters and the asserted payloads, the least first
pub record ExceptionSets : Type 0 where
  pub filters : List Filter
  pub asserted : List Vrp

-- no exceptions
abbrev pub no_exceptions : ExceptionSets
no_exceptions = record { filters = []; asserted = [] }

-- with or without a filter or an assertion
abbrev pub with_filter : Filter → ExceptionSets → ExceptionSets
with_filter f e = record e { filters = put_filter f e.filters }

abbrev pub without_filter : Filter → ExceptionSets → ExceptionSets
without_filter f e = record e { filters = out_filter f e.filters }

abbrev pub with_assertion : Vrp → ExceptionSets → ExceptionSets
with_assertion payload e = record e { asserted = put payload e.asserted }

abbrev pub without_assertion : Vrp → ExceptionSets → ExceptionSets
without_assertion payload e = record e { asserted = out payload e.asserted }

-- what the exceptions make of a set: the set less what a filter matches, with the asserted payloads
abbrev pub IsUnder : ExceptionSets → List Vrp → List Vrp → Type 0
IsUnder e set after =
    (payload : Vrp) → has after payload ≡ ((has set payload && not (is_filtered e.filters payload)) || has e.asserted payload)

-- a set with each of these payloads
abbrev pub put_each : List Vrp → List Vrp → List Vrp
put_each payloads set = with_all payloads set

-- what the exceptions make of a set, as a set
abbrev pub under : ExceptionSets → List Vrp → List Vrp
under e set = put_each e.asserted (filter (λ payload. not (is_filtered e.filters payload)) set)

-- whether the exceptions say nothing of the payload
abbrev pub is_untouched : ExceptionSets → Vrp → Bool
is_untouched e payload = not (is_filtered e.filters payload) && not (has e.asserted payload)

-- what they make of a change: of a payload of which they say something nothing is changed
abbrev pub behind : ExceptionSets → Change → Change
behind e change = record { withdrawn = filter (is_untouched e) change.withdrawn; announced = filter (is_untouched e) change.announced }

-- whether the filter alone decides on the payload: it matches it, and the other exceptions say nothing of it
abbrev pub is_turned : ExceptionSets → Filter → Vrp → Bool
is_turned e f payload = matches f payload && is_untouched (without_filter f e) payload
