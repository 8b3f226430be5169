-- Each call of a cache, and each step of a client, is an event of any two ends that have them, and this is what it makes of them (our own).
use Rattle.std.specs.Prelude.{◌≡◌, ◌≢◌, ◌⊎◌, ◌++◌, ◌<◌, ◌^◌, ℕ, Bool, true, false, List, [], ◌∷◌, Option, Some, None, Ok, take, if◌then◌else◌}
use Rattle.std.specs.List.{AllByRecursion, Contains}
use Rattle.net_prefix.specs.PayloadSets.{IsPayloadSet}
use Rattle.net_prefix.specs.declared.payload.Vrp.{Vrp}
use Rattle.rtr_cache.specs.CacheState.{CacheState, IsNew, tells_client}
use Rattle.rtr_cache.specs.ClientHistory.{Call, Makes}
use Rattle.rtr_cache.specs.ClientHistory as calls
use Rattle.rtr_cache.specs.declared.event.CacheReport.{CacheReport}
use Rattle.rtr_cache.specs.declared.other_session.OtherSession.{OtherSession}
use Rattle.rtr_cache.specs.declared.other_session.OtherSession.TheVariants.{Report}
use Rattle.rtr_client.specs.FirstClient.{first_client}
use Rattle.rtr_client.specs.Following.{served}
use Rattle.rtr_codec.specs.ClientTable.{Client, Fail, Input, No_room, Off, Tick, Up, row}
use Rattle.rtr_codec.specs.Intervals.{usual}
use Rattle.rtr_codec.specs.PduSpelling.{Content, spelling}
use Rattle.rtr_codec.specs.PduStream.{Item, meaning, place_after}
use Rattle.rtr_codec.specs.Receiving.{beginning}
use Rattle.rtr_codec.specs.declared.place.End.TheVariants.{Client as Router}
use Rattle.rtr_codec.specs.declared.intervals.Intervals.{Intervals}
use Rattle.rtr_codec.specs.declared.place.Place.{Place}
use Rattle.rtr_session.specs.SessionState.{Session, after_input, input_of}
use Rattle.vrp_delta.specs.Versions.{is_newest_set, newest_serial}
use Rattle.rtr_channels.specs.ChannelEvents.{Accepts, Calls, Event, Fails, Happens, IsAfter, Reads, Restarts, Steps, brought, client_after, handed, up_after}
use Rattle.rtr_channels.specs.Channels.{Awaited, Gone, Link, Publication, TwoEnds, Under}
use Rattle.rtr_channels.specs.VersionsAgree.{AreFew}

-- the event leads to two ends with these parts
abbrev pub LeadsToParts : TwoEnds → Event → CacheState → Client → Link → List ℕ → List ℕ → Place → List Publication → Type 0
LeadsToParts w event cache client link up down place published =
    Happens w event (record { cache = cache; client = client; link = link; up = up; down = down; place = place; published = published })

-- A call of the cache.

-- a set that a PDU can tell, payload by payload
abbrev pub CanBeTold : List Vrp → Type 0
CanBeTold set = IsPayloadSet set × AllByRecursion (λ (payload : Vrp). (payload.prefix.bits < 2 ^ 32) × (payload.asn.0 < 2 ^ 32)) set

-- whatever it is: the octets that it brings from the client are the front of those on the way, and what it hands out goes behind those on the way to it; the cache has the connection still, unless it hears of its loss; and nothing is published, unless a set is loaded
abbrev pub CallsAreEvents : Type 0
CallsAreEvents =
    (w : TwoEnds) (call : Call) (cache : CacheState) (rest : List ℕ) → Makes w.cache call cache → ((set : List Vrp) (report : CacheReport) → call ≡ calls.Loaded set (Ok report) → CanBeTold set) → w.up ≡ brought w.link call ++ rest
    → (new : TwoEnds) × Happens w (Calls call) new × (new.cache ≡ cache) × (new.client ≡ w.client) × (new.up ≡ rest) × (new.down ≡ w.down ++ handed w.link call) × (new.place ≡ w.place)
    × (((key : ℕ) (report : CacheReport) → w.link ≡ Under key → call ≢ calls.WentDown key (Ok report)) → new.link ≡ w.link)
    × (((set : List Vrp) (report : CacheReport) → call ≢ calls.Loaded set (Ok report)) → new.published ≡ w.published)

-- any other call than a load: of another client, or of none
abbrev pub OthersAreEvents : Type 0
OthersAreEvents =
    (w : TwoEnds) (call : Call) (cache : CacheState) → Makes w.cache call cache
    → ((set : List Vrp) (report : CacheReport) → call ≢ calls.Loaded set (Ok report))
    → ((key : ℕ) (octets : List ℕ) (report : CacheReport) → w.link ≡ Under key → call ≢ calls.Heard key octets (Ok report))
    → ((key : ℕ) (buf out : List ℕ) (count : ℕ) → w.link ≡ Under key → call ≢ calls.Took key buf (Ok count) out)
    → ((key : ℕ) (report : CacheReport) → w.link ≡ Under key → call ≢ calls.WentDown key (Ok report))
    → LeadsToParts w (Calls call) cache w.client w.link w.up w.down w.place w.published

-- octets that come from the client
abbrev pub HearingsAreEvents : Type 0
HearingsAreEvents =
    (w : TwoEnds) (key : ℕ) (octets rest : List ℕ) (report : CacheReport) (cache : CacheState) → w.link ≡ Under key → Makes w.cache (calls.Heard key octets (Ok report)) cache → w.up ≡ octets ++ rest
    → LeadsToParts w (Calls (calls.Heard key octets (Ok report))) cache w.client w.link rest w.down w.place w.published

-- octets that are handed out for it
abbrev pub TakesAreEvents : Type 0
TakesAreEvents =
    (w : TwoEnds) (key : ℕ) (buf out : List ℕ) (count : ℕ) (cache : CacheState) → w.link ≡ Under key → Makes w.cache (calls.Took key buf (Ok count) out) cache
    → LeadsToParts w (Calls (calls.Took key buf (Ok count) out)) cache w.client w.link w.up (w.down ++ take count out) w.place w.published

-- that its connection is lost
abbrev pub LossesAreEvents : Type 0
LossesAreEvents =
    (w : TwoEnds) (key : ℕ) (report : CacheReport) (cache : CacheState) → w.link ≡ Under key → Makes w.cache (calls.WentDown key (Ok report)) cache
    → LeadsToParts w (Calls (calls.WentDown key (Ok report))) cache w.client Gone w.up w.down w.place w.published

-- a set that is loaded: unless it is that of the newest version it is published, in the cache's session and under the serial that the cache then has
abbrev pub LoadsAreEvents : Type 0
LoadsAreEvents =
    (w : TwoEnds) (set : List Vrp) (report : CacheReport) (cache : CacheState) → CanBeTold set → Makes w.cache (calls.Loaded set (Ok report)) cache
    → LeadsToParts w (Calls (calls.Loaded set (Ok report))) cache w.client w.link w.up w.down w.place
    (if is_newest_set w.cache.shared.kept set then w.published else record { session = cache.shared.session; serial = newest_serial cache.shared.kept; set = set } ∷ w.published)

-- the client's connection comes up at the cache
abbrev pub AcceptancesAreEvents : Type 0
AcceptancesAreEvents =
    (w : TwoEnds) (key : ℕ) (cache : CacheState) → w.link ≡ Awaited → w.client.stage ≢ Off → Makes w.cache (calls.CameUp (Ok (tells_client key))) cache
    → LeadsToParts w (Accepts key) cache w.client (Under key) w.up w.down w.place w.published

-- A step of the client.

-- what a PDU that is said puts on the way
abbrev pub spelled : Option Content → List ℕ
spelled None = []
spelled (Some content) = spelling content

-- it takes what is the front of the octets on the way, a whole PDU or a fault, with or without want of memory, and what its row says goes behind what is on the way to the cache
abbrev pub ReadingsAreEvents : Type 0
ReadingsAreEvents =
    (w : TwoEnds) (now : ℕ) (starved : Bool) (octets rest : List ℕ) (item : Item) → w.down ≡ octets ++ rest → meaning w.place octets ≡ Some item
    → let reply = row now w.client (served starved (input_of item)) in
    LeadsToParts w (Reads now starved true) w.cache reply.client w.link (w.up ++ spelled reply.said) rest (place_after w.place (Some item)) w.published

-- the same, where the query that its row says finds no room: it isn't said, and the session closes
abbrev pub ReadingsWithoutRoomAreEvents : Type 0
ReadingsWithoutRoomAreEvents =
    (w : TwoEnds) (now : ℕ) (starved : Bool) (octets rest : List ℕ) (item : Item) (query : Content) → w.down ≡ octets ++ rest → meaning w.place octets ≡ Some item
    → (row now w.client (served starved (input_of item))).said ≡ Some query
    → LeadsToParts w (Reads now starved false) w.cache (row now (row now w.client (served starved (input_of item))).client No_room).client w.link (w.up ++ []) rest (place_after w.place (Some item)) w.published

-- its connection stands, a moment comes, or a query has found no room
abbrev pub IsStep : Input → Type 0
IsStep input = (input ≡ Up) ⊎ ((input ≡ Tick) ⊎ (input ≡ No_room))

abbrev pub StepsAreEvents : Type 0
StepsAreEvents =
    (w : TwoEnds) (now : ℕ) (input : Input) → IsStep input
    → LeadsToParts w (Steps now input true) w.cache (row now w.client input).client w.link (w.up ++ spelled (row now w.client input).said) w.down w.place w.published

abbrev pub StepsWithoutRoomAreEvents : Type 0
StepsWithoutRoomAreEvents =
    (w : TwoEnds) (now : ℕ) (input : Input) (query : Content) → IsStep input → (row now w.client input).said ≡ Some query
    → LeadsToParts w (Steps now input false) w.cache (row now (row now w.client input).client No_room).client w.link (w.up ++ []) w.down w.place w.published

-- its connection, or its attempt to open one, has failed
abbrev pub FailuresAreEvents : Type 0
FailuresAreEvents = (w : TwoEnds) (now : ℕ) → LeadsToParts w (Fails now) w.cache (row now w.client Fail).client Awaited [] [] (beginning Router).place w.published

-- Beginnings.

-- a new cache, and a new client
abbrev pub BeginningsAreNew : Type 0
BeginningsAreNew =
    (retry session : ℕ) (intervals : Intervals) (other_session : OtherSession) (cache : CacheState) → session < 2 ^ 16 → IsNew session intervals other_session (Ok cache)
    → IsAfter retry session intervals other_session [] (record { cache = cache; client = first_client retry; link = Awaited; up = []; down = []; place = (beginning Router).place; published = [] })

-- a new cache in the place of the old one, in a session in which nothing was published. It hasn't a connection that the old one had, and may get one that waits
abbrev pub RestartsAreEvents : Type 0
RestartsAreEvents =
    (w : TwoEnds) (session : ℕ) (intervals : Intervals) (other_session : OtherSession) (cache : CacheState) → session < 2 ^ 16 → IsNew session intervals other_session (Ok cache)
    → ((one : Publication) → Contains w.published one → one.session ≢ session)
    → (link : Link) × LeadsToParts w (Restarts session intervals other_session) cache w.client link w.up w.down w.place w.published
    × (w.link ≡ Awaited → link ≡ Awaited) × ((key : ℕ) → w.link ≡ Under key → link ≡ Gone) × (w.link ≡ Gone → link ≡ Gone)

-- whatever has happened, an event that can happen goes on from it
abbrev pub EventsGoOn : Type 0
EventsGoOn =
    (retry session : ℕ) (intervals : Intervals) (other_session : OtherSession) (events : List Event) (w : TwoEnds) (event : Event) (new : TwoEnds)
    → IsAfter retry session intervals other_session events w → Happens w event new → IsAfter retry session intervals other_session (event ∷ events) new

-- events can lead to payloads in force
abbrev pub EventsLeadToPayloads : Type 0
EventsLeadToPayloads =
    (retry : ℕ) → (events : List Event) × (w : TwoEnds) × IsAfter retry 1 usual Report events w × AreFew w.published × (w.client.base ≡ Some (record { session = 1; serial = 1; payloads = [] }))

-- A session of a router.

-- what an input makes of its client and of its ring is what an event makes of the client and of the octets on the way to the cache
abbrev pub SessionsAreClients : Type 0
SessionsAreClients =
    (now : ℕ) (input : Input) (s : Session) →
    (has_room : Bool) × ((after_input now input s).client ≡ client_after now has_room (row now s.client input)) × ((after_input now input s).ring ≡ up_after has_room (row now s.client input) s.ring)
