-- A cache and a router's client of it, the connection between them, and all that the cache published: what the agreement of both ends speaks of (our own).
use Rattle.std.specs.Prelude.{◌==◌, ◌+◌, ℕ, Bool, true, false, List, [], ◌∷◌, if◌then◌else◌}
use Rattle.net_prefix.specs.declared.payload.Vrp.{Vrp}
use Rattle.rtr_cache.specs.CacheState.{CacheState, empty_cache}
use Rattle.rtr_cache.specs.CacheTable.{Shared}
use Rattle.rtr_cache.specs.declared.other_session.OtherSession.{OtherSession}
use Rattle.rtr_client.specs.FirstClient.{first_client}
use Rattle.rtr_codec.specs.ClientTable.{Client}
use Rattle.rtr_codec.specs.Receiving.{beginning}
use Rattle.rtr_codec.specs.declared.intervals.Intervals.{Intervals}
use Rattle.rtr_codec.specs.declared.place.End.TheVariants.{Client as RouterEnd}
use Rattle.rtr_codec.specs.declared.place.Place.{Place}
use Rattle.vrp_delta.specs.Versions.{is_newest_set, next_version}

-- a version that was published, with the session in which it was
pub record Publication : Type 0 where
  pub session : ℕ
  pub serial : ℕ
  pub set : List Vrp

-- the connection between the two ends, as the cache has it
pub data Link : Type 0 where
  Awaited : Link  -- not yet: the client has begun to open it
  Under : (key : ℕ) → Link  -- under this key
  Gone : Link  -- no more

-- one cache with all its clients, and one router's client, with what is on the way between them: what was handed out for the client and is not yet read, and what the client said and the cache has not yet been given
pub record TwoEnds : Type 0 where
  pub cache : CacheState
  pub client : Client
  pub link : Link
  pub up : List ℕ  -- octets on the way to the cache
  pub down : List ℕ  -- octets on the way to the client
  pub place : Place  -- where on the connection the client reads next
  pub published : List Publication  -- by all sessions of the cache, the newest first

-- where a connection begins for the client
abbrev pub first_place : Place
first_place = (beginning RouterEnd).place

-- a cache that has published nothing and has no clients, a client without payloads that has begun to open its connection, with this Retry Interval, and nothing on the way
abbrev pub start : ℕ → ℕ → Intervals → OtherSession → TwoEnds
start retry session intervals other_session = record {
  cache = empty_cache session intervals other_session;
  client = first_client retry;
  link = Awaited;
  up = [];
  down = [];
  place = first_place;
  published = [];
}

-- what loading a set publishes: one version more, and none where it is the set of the newest one
abbrev pub publication : Shared → List Vrp → Publication
publication shared set = record { session = shared.session; serial = (next_version shared.kept set).serial; set = set }

abbrev pub published_after : Shared → List Vrp → List Publication → List Publication
published_after shared set published = if is_newest_set shared.kept set then published else publication shared set ∷ published

-- how many versions a session published
abbrev pub published_in : ℕ → List Publication → ℕ
published_in session [] = 0
published_in session (one ∷ more) = if one.session == session then published_in session more + 1 else published_in session more

-- no version was published in the session
abbrev pub is_new_session : ℕ → List Publication → Bool
is_new_session session [] = true
is_new_session session (one ∷ more) = if one.session == session then false else is_new_session session more
