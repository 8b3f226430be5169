-- The calls of a cache, one after another, and what of them one client sees.
use Rattle.std.specs.Prelude.{◌≡◌, ◌≢◌, ◌⊎◌, ◌==◌, ℕ, false, if◌then◌else◌, List, [], ◌∷◌, ◌++◌, Option, Some, None, OnErr, Result, Ok, take}
use Rattle.net_prefix.specs.PayloadSets.{IsPayloadSet}
use Rattle.net_prefix.specs.declared.payload.Vrp.{Vrp}
use Rattle.rtr_codec.specs.PduStream.{pdus_from}
use Rattle.rtr_cache.specs.CacheState.{CacheState, ComesUp, GoesDown, HandsOut, HearsOctets, Loads, Ticks, Withdraws, client_at}
use Rattle.rtr_cache.specs.CacheTable.{Conn, Shared, place_of}
use Rattle.rtr_cache.specs.Telling.{AllLeadToVersions, AnswersItems, IsNotified, SaysWhole, Told}
use Rattle.rtr_cache.specs.declared.event.CacheEvent.{CacheEvent}
use Rattle.rtr_cache.specs.declared.event.CacheEvent.TheVariants as event
use Rattle.rtr_cache.specs.declared.event.CacheReport.{CacheReport}
use Rattle.rtr_cache.specs.declared.refusal.CacheRefusal.{CacheRefusal}
use Rattle.vrp_delta.specs.Versions.{kept_after}

-- a call: what was asked of the cache, and what it answered
pub data Call : Type 0 where
  Loaded : (set : List Vrp) (result : Result CacheReport CacheRefusal) → Call
  Withdrew : (result : Result CacheReport CacheRefusal) → Call
  CameUp : (result : Result CacheReport CacheRefusal) → Call
  Heard : (key : ℕ) (octets : List ℕ) (result : Result CacheReport CacheRefusal) → Call
  WentDown : (key : ℕ) (result : Result CacheReport CacheRefusal) → Call
  Ticked : (now : ℕ) (result : Result CacheReport CacheRefusal) → Call
  Took : (key : ℕ) (buf : List ℕ) (result : Result ℕ CacheRefusal) (handed : List ℕ) → Call

-- the call of an event
abbrev pub call_of : {B : Type 0} → CacheEvent B → Result CacheReport CacheRefusal → Call
call_of (event.Load set) result = Loaded set.now.keys result
call_of event.Withdraw result = Withdrew result
call_of event.Up result = CameUp result
call_of (event.Bytes key octets) result = Heard key octets.now result
call_of (event.Down key) result = WentDown key result
call_of (event.Tick now) result = Ticked now result

-- what a call makes of a cache: a refused one makes nothing; the payloads of a set that is handed in rise
abbrev pub Makes : CacheState → Call → CacheState → Type 0
Makes old (Loaded set result) new = Loads old set result new × OnErr result (new ≡ old) × IsPayloadSet set
Makes old (Withdrew result) new = Withdraws old result new × OnErr result (new ≡ old)
Makes old (CameUp result) new = ComesUp old result new × OnErr result (new ≡ old)
Makes old (Heard key octets result) new = HearsOctets old key octets result new × OnErr result (new ≡ old)
Makes old (WentDown key result) new = GoesDown old key result new × OnErr result (new ≡ old)
Makes old (Ticked now result) new = Ticks old now result new × OnErr result (new ≡ old)
Makes old (Took key buf result handed) new = HandsOut old key buf result handed new × OnErr result (new ≡ old)

-- a call, and the cache as it found it
pub record Turn : Type 0 where
  pub found : CacheState
  pub call : Call

abbrev pub turn_of : CacheState → Call → Turn
turn_of found call = record { found = found; call = call }

-- the calls lead from one state of a cache to another, the newest call first
abbrev pub IsRun : CacheState → List Turn → CacheState → Type 0
IsRun start [] end = end ≡ start
IsRun start (turn ∷ earlier) end = IsRun start earlier turn.found × Makes turn.found turn.call end

-- the octets that a call hands out to the client of the key
abbrev pub handed_by : ℕ → Call → List ℕ
handed_by key (Took taken buf (Ok count) handed) = if taken == key then take count handed else []
handed_by key call = []

-- and all calls
abbrev pub handed_out : ℕ → List Turn → List ℕ
handed_out key [] = []
handed_out key (turn ∷ earlier) = handed_out key earlier ++ handed_by key turn.call

-- what a client is told by octets that come from it: what answers the PDUs that they complete
abbrev pub AnswersOctets : Shared → Option Conn → List ℕ → List Told → Type 0
AnswersOctets shared None octets now = now ≡ []
AnswersOctets shared (Some conn) octets now = AnswersItems shared (pdus_from (place_of conn) conn.unread octets) now

-- what a call tells the client of the key. The cache is the one that the call finds; a set that is loaded is published in it
abbrev pub IsToldBy : ℕ → CacheState → Call → List Told → Type 0
IsToldBy key found (Loaded set (Ok report)) now = IsNotified (record found.shared { kept = kept_after found.shared.kept set; withdrawn = false }) now
IsToldBy key found (Ticked moment (Ok report)) now = IsNotified found.shared now
IsToldBy key found (Heard heard octets (Ok report)) now =
    ((heard ≡ key) × AnswersOctets found.shared (client_at found key) octets now) ⊎ ((heard ≢ key) × (now ≡ []))
IsToldBy key found call now = now ≡ []

-- and all calls, in their order
abbrev pub IsTold : ℕ → List Turn → List Told → Type 0
IsTold key [] told = told ≡ []
IsTold key (turn ∷ earlier) told =
    (before now : List Told) × (told ≡ before ++ now) × IsTold key earlier before × IsToldBy key turn.found turn.call now

-- no call tells that the client's connection is lost
abbrev pub KeepsClient : ℕ → Call → Type 0
KeepsClient key (WentDown lost result) = lost ≢ key
KeepsClient key call = Unit {0}

abbrev pub StaysUp : ℕ → List Turn → Type 0
StaysUp key [] = Unit {0}
StaysUp key (turn ∷ earlier) = KeepsClient key turn.call × StaysUp key earlier

-- The client of the key is there, what was handed out to it, and what waits for it, says whole what it was told, and each response among that gives its version.
pub record IsToldWhole (key : ℕ) (history : List Turn) (client : Option Conn) : Type 0 where
  pub conn : Conn
  pub is : client ≡ Some conn
  pub told : List Told
  pub by_calls : IsTold key history told
  pub leads : AllLeadToVersions told
  pub says : SaysWhole (handed_out key history) told conn
