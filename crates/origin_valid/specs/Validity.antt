-- The state of a route's origin (RFC 6811 section 2).
use Rattle.std.specs.Prelude.{◌≡◌, ◌≢◌, ◌≤◌, ◌==◌, ◌&&◌, Bool, false, List, Option, Some, None, nat_le, not, if◌then◌else◌, ℕ}
use Rattle.std.specs.List.{list_any}
use Rattle.net_prefix.specs.Cover.{Covers}
use Rattle.net_prefix.specs.declared.asn.Asn.{Asn}
use Rattle.net_prefix.specs.declared.payload.Vrp.{Vrp}
use Rattle.net_prefix.specs.declared.prefix.Prefix.{Prefix}
use Rattle.prefix_trie.specs.CoverWalks.{covers}
use Rattle.origin_valid.specs.declared.validity.Validity.{Validity}
use Rattle.origin_valid.specs.declared.validity.Validity.TheVariants.{Valid, Invalid, NotFound}

-- the payload covers the route's prefix
abbrev pub CoversRoute : Vrp → Prefix → Type 0
CoversRoute payload prefix = Covers payload.prefix.bits payload.prefix.len prefix.bits prefix.len

-- the payload covers the route's prefix, which is no longer than its maximum length, and its AS, which isn't 0, is the
-- route's origin
abbrev pub Matches : Vrp → Prefix → Option Asn → Type 0
Matches payload prefix origin =
    CoversRoute payload prefix × (prefix.len ≤ payload.max_len) × (payload.asn.0 ≢ 0) × (origin ≡ Some payload.asn)

-- whether the payload covers the route's prefix
abbrev pub covers_route : Prefix → Vrp → Bool
covers_route prefix payload = covers payload.prefix prefix

-- whether the origin is this AS, which isn't 0; the origin NONE is no AS
abbrev pub is_origin : Option Asn → ℕ → Bool
is_origin None asn = false
is_origin (Some origin) asn = not (asn == 0) && (origin.0 == asn)

-- whether the payload matches the route
abbrev pub matches : Prefix → Option Asn → Vrp → Bool
matches prefix origin payload = covers_route prefix payload && (nat_le prefix.len payload.max_len && is_origin origin payload.asn.0)

-- the state of a route's origin, by all payloads: Valid where some matches, Invalid where some covers and none
-- matches, NotFound where none covers
abbrev pub validity : List Vrp → Prefix → Option Asn → Validity
validity set prefix origin =
    if list_any (matches prefix origin) set then Valid else if list_any (covers_route prefix) set then Invalid else NotFound
