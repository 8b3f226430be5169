-- What waits of each prefix for each peer, where what the peers hold stands with the routes (our own, for RFC 4271 section 9.2).
use Rattle.std.specs.Prelude.{ℕ, Bool, List, Option}
use Rattle.bgp_conf.specs.Configuration.{Configuration}
use Rattle.bgp_fsm.specs.declared.session.Effects.{Effects}
use Rattle.bgp_peer.specs.Slot.{Slot}
use Rattle.net_prefix.specs.declared.prefix.Prefix.{Prefix}
use Rattle.rib_out.specs.declared.marks.Owed.{Owed}
use Rattle.routing.specs.Marks.{AreFew, AreMarked, AreMarkedBut, AreMarkedFor, IsFollowed, IsNextMarked, IsNextOwed, IsUnmarked, Mark, mark_at}
use Rattle.routing.specs.RoutingState.{RoutingState}
use Rattle.routing.specs.Sent.{linked}

-- there are 64 slots at most
abbrev pub AreFewIn : List (ℕ × Slot) → RoutingState → Type 0
AreFewIn peers t = AreFew (linked peers t.sent)

-- the mark of a prefix for the peer of a slot
abbrev pub mark_in : Configuration → List (ℕ × Slot) → RoutingState → ℕ → Prefix → Mark
mark_in conf peers t slot prefix = mark_at conf (linked peers t.sent) t slot prefix

-- of each prefix there waits for each slot just what its peer is owed, listed by the octets that are written
abbrev pub AreMarkedIn : Configuration → List (ℕ × Slot) → RoutingState → Type 0
AreMarkedIn conf peers t = AreMarked conf (linked peers t.sent) t

-- so it is of all prefixes but this one
abbrev pub AreMarkedButIn : Prefix → Configuration → List (ℕ × Slot) → RoutingState → Type 0
AreMarkedButIn prefix conf peers t = AreMarkedBut prefix conf (linked peers t.sent) t

-- so it is of the slots of which this holds
abbrev pub AreMarkedForIn : (ℕ → Bool) → Configuration → List (ℕ × Slot) → RoutingState → Type 0
AreMarkedForIn done conf peers t = AreMarkedFor done conf (linked peers t.sent) t

-- so it is of all slots but this one, for which nothing waits
abbrev pub IsUnmarkedIn : Configuration → List (ℕ × Slot) → ℕ → RoutingState → Type 0
IsUnmarkedIn conf peers slot t = IsUnmarked conf (linked peers t.sent) slot t

-- the slot's session has taken an input with these effects, and this tells whether its peer asks for a route for which it
-- hadn't asked
abbrev pub IsFollowedIn : Configuration → List (ℕ × Slot) → ℕ → Effects → Bool → RoutingState → Type 0
IsFollowedIn conf peers slot effects asks t = IsFollowed conf (linked peers t.sent) slot effects asks t

-- the least prefix above the given one, or of all, of which this is owed to the slot's peer
abbrev pub IsNextOwedIn : Configuration → List (ℕ × Slot) → RoutingState → ℕ → Owed → Option Prefix → Option Prefix → Type 0
IsNextOwedIn conf peers t slot owed after found = IsNextOwed conf (linked peers t.sent) t slot owed after found

-- the least of which anything is
abbrev pub IsNextMarkedIn : Configuration → List (ℕ × Slot) → RoutingState → ℕ → Option Prefix → Option Prefix → Type 0
IsNextMarkedIn conf peers t slot after found = IsNextMarked conf (linked peers t.sent) t slot after found
