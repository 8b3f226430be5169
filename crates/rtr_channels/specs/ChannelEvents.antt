-- What can happen to a cache and a client of it: publishing, handing out, reading, loss, moments and restarts, in any order and cut anywhere (our own).
use Rattle.std.specs.Prelude.{◌≡◌, ◌≢◌, ◌<◌, ◌^◌, ◌++◌, ◌==◌, ℕ, Bool, true, false, List, [], ◌∷◌, Option, Some, None, Ok, if◌then◌else◌}
use Rattle.std.specs.List.{AllByRecursion}
use Rattle.net_prefix.specs.PayloadSets.{IsPayloadSet}
use Rattle.net_prefix.specs.declared.payload.Vrp.{Vrp}
use Rattle.rtr_cache.specs.CacheState.{CacheState, empty_cache, tells_client}
use Rattle.rtr_cache.specs.ClientHistory.{Call, Makes, handed_by}
use Rattle.rtr_cache.specs.ClientHistory as calls
use Rattle.rtr_cache.specs.declared.other_session.OtherSession.{OtherSession}
use Rattle.rtr_client.specs.Following.{served}
use Rattle.rtr_codec.specs.ClientTable.{Client, Fail, Faulty, Heard, Input, No_room, Off, Reply, Starved, Tick, Up, row}
use Rattle.rtr_codec.specs.Intervals.{are_lawful}
use Rattle.rtr_codec.specs.PduSpelling.{Content, spelling}
use Rattle.rtr_codec.specs.PduStream.{Item, meaning, place_after}
use Rattle.rtr_codec.specs.declared.intervals.Intervals.{Intervals}
use Rattle.rtr_session.specs.SessionState.{input_of}
use Rattle.rtr_channels.specs.Channels.{Link, Awaited, Gone, Publication, TwoEnds, Under, first_place, is_new_session, published_after, start}

pub data Event : Type 0 where
  Accepts : (key : ℕ) → Event  -- the cache gets the client's connection, and has it under the key
  Calls : (call : Call) → Event  -- any other call of the cache, for this client or another one: a set is published, octets come or are handed out, a moment comes, a connection is lost
  Reads : (now : ℕ) (starved has_room : Bool) → Event  -- the client reads the PDU that comes next, or its fault
  Steps : (now : ℕ) (input : Input) (has_room : Bool) → Event  -- another input comes to the client: its connection stands, a moment, a query that has found no room
  Fails : (now : ℕ) → Event  -- the client hears that its connection, or its attempt to open one, has failed
  Restarts : (session : ℕ) (intervals : Intervals) (other_session : OtherSession) → Event  -- the cache begins anew, in a session in which nothing was published

-- What a client's row does.

-- the client behind a row that says this: a query that finds no room isn't said, and closes the session
abbrev pub settled : ℕ → Bool → Option Content → Client → Client
settled now true said client = client
settled now false None client = client
settled now false (Some content) client = (row now client No_room).client

abbrev pub client_after : ℕ → Bool → Reply → Client
client_after now has_room reply = settled now has_room reply.said reply.client

-- the octets that it puts on the way
abbrev pub said : Bool → Option Content → List ℕ
said has_room None = []
said true (Some content) = spelling content
said false (Some content) = []

abbrev pub up_after : Bool → Reply → List ℕ → List ℕ
up_after has_room reply up = up ++ said has_room reply.said

-- What a call of the cache does.

-- the octets that a call brings to the cache from the client of the key
abbrev pub brought_by : ℕ → Call → List ℕ
brought_by key (calls.Heard heard octets (Ok report)) = if heard == key then octets else []
brought_by key call = []

-- those of the client at the other end
abbrev pub brought : Link → Call → List ℕ
brought Awaited call = []
brought (Under key) call = brought_by key call
brought Gone call = []

-- the octets that a call hands out to it
abbrev pub handed : Link → Call → List ℕ
handed Awaited call = []
handed (Under key) call = handed_by key call
handed Gone call = []

-- whether the cache hears that the connection of the key is lost
abbrev pub hears_loss : ℕ → Call → Bool
hears_loss key (calls.WentDown lost (Ok report)) = lost == key
hears_loss key call = false

-- and then has it no more. The client hears of it at a moment of its own
abbrev pub link_after : Link → Call → Link
link_after Awaited call = Awaited
link_after (Under key) call = if hears_loss key call then Gone else Under key
link_after Gone call = Gone

-- each number of the payload is one that its field of a PDU holds
abbrev pub FitsPdu : Vrp → Type 0
FitsPdu payload = (payload.prefix.bits < 2 ^ 32) × (payload.asn.0 < 2 ^ 32)

-- what can be published: a set of such payloads
abbrev pub IsPublishable : List Vrp → Type 0
IsPublishable set = IsPayloadSet set × AllByRecursion FitsPdu set

-- a set that is loaded, and not refused, can be published
abbrev pub LoadsPublishable : Call → Type 0
LoadsPublishable (calls.Loaded set (Ok report)) = IsPublishable set
LoadsPublishable call = Unit {0}

-- what was published, behind a call
abbrev pub published_by : TwoEnds → Call → List Publication
published_by w (calls.Loaded set (Ok report)) = published_after w.cache.shared set w.published
published_by w call = w.published

-- What each event leaves of the two ends. What isn't named stays.

-- the cache has the connection
abbrev pub accepted : TwoEnds → ℕ → CacheState → TwoEnds
accepted w key cache = record w { cache = cache; link = Under key }

-- the call has made this cache, and these octets of the client's are still on the way
abbrev pub called : TwoEnds → Call → CacheState → List ℕ → TwoEnds
called w call cache rest = record w {
  cache = cache;
  link = link_after w.link call;
  up = rest;
  down = w.down ++ handed w.link call;
  published = published_by w call;
}

-- the client has read an item, and these octets are still on the way to it
abbrev pub read : TwoEnds → ℕ → Bool → Bool → Item → List ℕ → TwoEnds
read w now starved has_room item rest = record w {
  client = client_after now has_room (row now w.client (served starved (input_of item)));
  up = up_after has_room (row now w.client (served starved (input_of item))) w.up;
  down = rest;
  place = place_after w.place (Some item);
}

-- another input has come to it
abbrev pub stepped : TwoEnds → ℕ → Input → Bool → TwoEnds
stepped w now input has_room = record w { client = client_after now has_room (row now w.client input); up = up_after has_room (row now w.client input) w.up }

-- nothing of the connection is on the way any more, and the next one begins
abbrev pub failed : TwoEnds → ℕ → TwoEnds
failed w now = record w { client = (row now w.client Fail).client; link = Awaited; up = []; down = []; place = first_place }

-- a cache that begins anew has no connection. What it handed out before may still be on the way
abbrev pub link_lost : Link → Link
link_lost Awaited = Awaited
link_lost (Under key) = Gone
link_lost Gone = Gone

abbrev pub restarted : TwoEnds → ℕ → Intervals → OtherSession → TwoEnds
restarted w session intervals other_session = record w { cache = empty_cache session intervals other_session; link = link_lost w.link }

-- When an event can happen, and what it leads to.

-- a client that has no connection and none in the making has nothing that the cache could get
pub record IsAccepted (old : TwoEnds) (key : ℕ) (new : TwoEnds) : Type 0 where
  pub awaited : old.link ≡ Awaited
  pub begun : old.client.stage ≢ Off
  pub comes_up : Makes old.cache (calls.CameUp (Ok (tells_client key))) new.cache
  pub leaves : new ≡ accepted old key new.cache

pub record IsCalled (old : TwoEnds) (call : Call) (new : TwoEnds) : Type 0 where
  pub makes : Makes old.cache call new.cache
  pub publishable : LoadsPublishable call
  pub brings : old.up ≡ brought old.link call ++ new.up
  pub leaves : new ≡ called old call new.cache new.up

pub record IsRead (old : TwoEnds) (now : ℕ) (starved has_room : Bool) (new : TwoEnds) : Type 0 where
  pub octets : List ℕ
  pub item : Item
  pub front : old.down ≡ octets ++ new.down
  pub is : meaning old.place octets ≡ Some item
  pub leaves : new ≡ read old now starved has_room item new.down

-- a cache's session id and intervals are such as its PDUs carry
abbrev pub IsSession : ℕ → Intervals → Type 0
IsSession session intervals = (session < 2 ^ 16) × (are_lawful intervals ≡ true)

pub record IsRestarted (old : TwoEnds) (session : ℕ) (intervals : Intervals) (other_session : OtherSession) (new : TwoEnds) : Type 0 where
  pub fresh : is_new_session session old.published ≡ true
  pub lawful : IsSession session intervals
  pub leaves : new ≡ restarted old session intervals other_session

-- the inputs of a client that neither come by the way from the cache nor end its connection
abbrev pub IsOwn : Input → Type 0
IsOwn Up = Unit {0}
IsOwn Fail = ⊥
IsOwn (Heard content octets) = ⊥
IsOwn (Faulty fault octets) = ⊥
IsOwn Tick = Unit {0}
IsOwn No_room = Unit {0}
IsOwn Starved = ⊥

abbrev pub Happens : TwoEnds → Event → TwoEnds → Type 0
Happens old (Accepts key) new = IsAccepted old key new
Happens old (Calls call) new = IsCalled old call new
Happens old (Reads now starved has_room) new = IsRead old now starved has_room new
Happens old (Steps now input has_room) new = IsOwn input × (new ≡ stepped old now input has_room)
Happens old (Fails now) new = new ≡ failed old now
Happens old (Restarts session intervals other_session) new = IsRestarted old session intervals other_session new

-- the events lead from the one to the other, the newest first
abbrev pub LeadsTo : TwoEnds → List Event → TwoEnds → Type 0
LeadsTo first [] last = last ≡ first
LeadsTo first (event ∷ earlier) last = (before : TwoEnds) × LeadsTo first earlier before × Happens before event last

-- so they do from a beginning, in which the client's Retry Interval is the first of these numbers
abbrev pub IsAfter : ℕ → ℕ → Intervals → OtherSession → List Event → TwoEnds → Type 0
IsAfter retry session intervals other_session events last = IsSession session intervals × LeadsTo (start retry session intervals other_session) events last
