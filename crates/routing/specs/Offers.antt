-- The candidates that are kept of each slot and prefix (RFC 4271 section 9.1.2).
use Rattle.std.specs.Prelude.{◌≡◌, ◌≢◌, ◌<◌, ◌⊎◌, ℕ, Bool, List, true, false, All, Option, Some, None, MatchOption}
use Rattle.std.specs.List.{list_any}
use Rattle.std.specs.Option.{IfSome, IsSome}
use Rattle.std.specs.Ordering.{is_gt}
use Rattle.bgp_conf.specs.Configuration.{AddressesDiffer, Configuration, peer_at}
use Rattle.bgp_conf.specs.declared.conf.ConfiguredPeer.{ConfiguredPeer}
use Rattle.bgp_fsm.specs.StateTests.{is_established}
use Rattle.bgp_fsm.specs.declared.session.Session.{Session}
use Rattle.bgp_fsm.specs.declared.state.State.{State}
use Rattle.decision.specs.BookContents.{changed, is_prefix, offer_at}
use Rattle.decision.specs.declared.book.Change.{Change}
use Rattle.decision.specs.declared.candidate.Candidate.{Candidate}
use Rattle.decision.specs.declared.candidate.TheConstants.{LOCAL_SLOT}
use Rattle.net_prefix.specs.PrefixOrder.{IsAbove, prefix_cmp}
use Rattle.net_prefix.specs.declared.payload.Vrp.{Vrp}
use Rattle.net_prefix.specs.declared.prefix.Prefix.{Prefix}
use Rattle.prefix_trie.specs.CoverWalks.{covers}
use Rattle.rib_in.specs.LatestRoutes.{HasRoute, RouteTable, route_at}
use Rattle.routing.specs.Candidates.{HasNoneAt, IsOnlyCandidateAt}
use Rattle.routing.specs.RoutingState.{RoutingState}
use Rattle.routing.specs.Tables.{Tables}
use Rattle.routing.specs.declared.updates.Sender.{Sender}

-- a candidate of each slot and prefix, or that there is none
abbrev pub Offers : Type 0
Offers = ℕ → Prefix → Option Candidate

-- what is kept of the slot is the candidate that its route to the prefix makes
abbrev pub IsOffer : Tables → ℕ → Prefix → Option Candidate → Type 0
IsOffer t slot prefix found = MatchOption found (HasNoneAt t prefix slot) (IsOnlyCandidateAt t prefix slot)

-- the slot's session is Established
abbrev pub IsUp : Tables → ℕ → Type 0
IsUp t slot = (session : Session) × (t.sessions slot ≡ Some session) × (is_established session.state ≡ true)

-- the slot has a session, or what stands under it are the local networks
abbrev pub IsSource : Tables → ℕ → Type 0
IsSource t slot = ((slot < 64) × ((session : Session) × (t.sessions slot ≡ Some session))) ⊎ (slot ≡ LOCAL_SLOT)

-- what is kept are the candidates of these tables, and routes are kept of Established sessions and of local networks alone
pub record AreKept (t : Tables) (offers : Offers) : Type 0 where
  pub made : (slot : ℕ) (prefix : Prefix) → IsOffer t slot prefix (offers slot prefix)
  pub routed : (slot : ℕ) (prefix : Prefix) → IsSome (t.routes slot prefix) → IsUp t slot ⊎ (slot ≡ LOCAL_SLOT)
  pub below : (slot : ℕ) (session : Session) → t.sessions slot ≡ Some session → slot < 64

-- the candidate has the address of the slot's peer
pub record IsOfPeer (conf : Configuration) (slot : ℕ) (c : Candidate) : Type 0 where
  pub peer : ConfiguredPeer
  pub configured : peer_at conf slot ≡ Some peer
  pub address : c.address ≡ peer.address

-- a candidate of the slot is one of its peer, or a local network, which has no address
abbrev pub IsOwn : Configuration → ℕ → Option Candidate → Type 0
IsOwn conf slot found = IfSome found (λ c. (c.slot ≡ slot) × (IsOfPeer conf slot c ⊎ ((slot ≡ LOCAL_SLOT) × (c.address ≡ 0))))

-- no two peers have one address, each has one, and each candidate that is kept has that of its own peer, or is a local
-- network
pub record IsSound (conf : Configuration) (offers : Offers) : Type 0 where
  pub addresses : AddressesDiffer conf.peers
  pub addressed : (slot : ℕ) (peer : ConfiguredPeer) → peer_at conf slot ≡ Some peer → peer.address ≢ 0
  pub own : (slot : ℕ) (prefix : Prefix) → IsOwn conf slot (offers slot prefix)

-- what the selection reads of these payloads, sessions and routes
abbrev pub read_in : Configuration → List Vrp → (ℕ → Option Session) → RouteTable → Tables
read_in conf payloads sessions adj_in = record { conf = conf; payloads = payloads; sessions = sessions; routes = λ slot prefix. route_at adj_in slot prefix }

-- whatever the other slots' sessions are: where the candidates of all routes were kept, they are
abbrev pub KeepsOffers : Configuration → List Vrp → ℕ → Session → RoutingState → RoutingState → Type 0
KeepsOffers conf payloads slot session old new =
    (sessions : ℕ → Option Session) → sessions slot ≡ Some session
    → AreKept (read_in conf payloads sessions old.adj_in) (offer_at old.book) → AreKept (read_in conf payloads sessions new.adj_in) (offer_at new.book)

-- so it is where the sender's session is in this state
abbrev pub KeepsHeard : Configuration → List Vrp → Sender → State → RoutingState → RoutingState → Type 0
KeepsHeard conf payloads sender state old new =
    (session : Session) → session.state ≡ state → session.identifier ≡ sender.identifier → KeepsOffers conf payloads sender.slot session old new

-- the slot has no route to the prefix, or is that of a peer without a session
abbrev pub LacksRoute : Tables → ℕ → Prefix → Type 0
LacksRoute t slot prefix = (t.routes slot prefix ≡ None) ⊎ ((slot < 64) × (t.sessions slot ≡ None))

-- the change gives the slot the candidate that its route to the prefix makes
pub record IsRemade (t : Tables) (slot : ℕ) (prefix : Prefix) (change : Change) : Type 0 where
  pub slot_is : change.slot ≡ slot
  pub routed : IsSome (t.routes slot prefix)
  pub offer : IsOffer t slot prefix change.candidate

-- the changes give each slot with a session and a route to the prefix, and a local network, the candidate that the route
-- makes, and leave those of slots without one
pub record AreRemade (t : Tables) (prefix : Prefix) (changes : List Change) : Type 0 where
  pub routed : All (λ c. IsSome (t.routes c.slot prefix)) changes
  pub named : All (λ c. IfSome c.candidate (λ route. route.slot ≡ c.slot)) changes
  pub made : (slot : ℕ) (before : Option Candidate) → IsSource t slot → IsSome (t.routes slot prefix) → IsOffer t slot prefix (changed changes slot before)
  pub still : (slot : ℕ) (before : Option Candidate) → t.routes slot prefix ≡ None → changed changes slot before ≡ before
  pub own : (slot : ℕ) (before : Option Candidate) → IsOwn t.conf slot before → IsOwn t.conf slot (changed changes slot before)

-- the candidates of the routes to a prefix are made again, and no other one changes
pub record AreMadeAt (t : Tables) (prefix : Prefix) (had has : Offers) : Type 0 where
  pub made : (slot : ℕ) → IsSource t slot → IsSome (t.routes slot prefix) → IsOffer t slot prefix (has slot prefix)
  pub still : (slot : ℕ) (q : Prefix) → (is_prefix prefix q ≡ false) ⊎ (t.routes slot q ≡ None) → has slot q ≡ had slot q

-- the same of the routes to all prefixes of which this holds
pub record AreMadeWhere (t : Tables) (holds : Prefix → Bool) (had has : Offers) : Type 0 where
  pub made : (slot : ℕ) (q : Prefix) → holds q ≡ true → IsSource t slot → IsSome (t.routes slot q) → IsOffer t slot q (has slot q)
  pub still : (slot : ℕ) (q : Prefix) → (holds q ≡ false) ⊎ (t.routes slot q ≡ None) → has slot q ≡ had slot q

-- the candidates of all routes are made again, and no other one changes
abbrev pub AreMadeAgain : Tables → Offers → Offers → Type 0
AreMadeAgain t had has = AreMadeWhere t (λ q. true) had has

-- one of these prefixes covers it
abbrev pub is_within : List Prefix → Prefix → Bool
is_within stretches prefix = list_any (λ stretch. covers stretch prefix) stretches

-- the next prefix with a route that this one covers: behind the given one, or the first
abbrev pub IsNextWithin : RouteTable → Prefix → Option Prefix → Option Prefix → Type 0
IsNextWithin adj_in stretch after found =
    MatchOption found ((slot : ℕ) (q : Prefix) → covers stretch q ≡ true → IsAbove after q → route_at adj_in slot q ≡ None)
    (λ p. HasRoute adj_in p × (covers stretch p ≡ true) × IsAbove after p
    × ((slot : ℕ) (q : Prefix) → covers stretch q ≡ true → IsAbove after q → IsSome (route_at adj_in slot q) → is_gt (prefix_cmp p q) ≡ false))
