-- Loads of payloads, by the PDUs of one connection (RFC 8210 sections 5.4 to 5.8 and 8).
use Rattle.std.specs.Prelude.{◌≡◌, ℕ, if◌then◌else◌, Bool, true, false, List, [], ◌∷◌, ◌++◌, Option, Some, None}
use Rattle.net_prefix.specs.declared.payload.Vrp.{Vrp}
use Rattle.octet_streams.specs.Streams.{with_front}
use Rattle.rtr_codec.specs.ClientTable.{Client, Stage, Off, Opening, Asked_serial, Asked_reset, Waiting, Loading, Synced, in_force}
use Rattle.rtr_codec.specs.PduSpelling.{Content, Serial_notify, Serial_query, Reset_query, Cache_response, Announce, Withdraw, Ipv6_prefix, End_of_data, Cache_reset, Router_key, Error_report}
use Rattle.rtr_codec.specs.PduStream.{Item, WholePdu, FaultyPdu}
use Rattle.rtr_codec.specs.Responses.{changed, is_change}
use Rattle.rtr_session.specs.SessionHistory.{Event, Came_up, Failed, Octet, Refused, Handed, Ticked, client, item_at}

-- a PDU that was read, and the client that read it
pub record Reading : Type 0 where
  pub content : Content
  pub client : Client

-- the reading of an item, where that is a whole PDU
abbrev pub reading_of : Client → Option Item → Option Reading
reading_of client None = None
reading_of client (Some (WholePdu content octets)) = Some (record { content = content; client = client })
reading_of client (Some (FaultyPdu fault octets)) = None

-- a connection is awaited
abbrev pub is_awaited : Stage → Bool
is_awaited Off = false
is_awaited Opening = true
is_awaited Asked_serial = false
is_awaited Asked_reset = false
is_awaited Waiting = false
is_awaited (Loading serially session set) = false
is_awaited Synced = false

-- of a session that has begun with this Retry Interval
module _ (retry : ℕ) where
  -- the PDUs that were read on the present connection, the newest first. It begins where a connection comes up that is awaited
  abbrev pub readings : List Event → List Reading
  readings [] = []
  readings (Came_up ∷ h) = if is_awaited (client retry h).stage then [] else readings h
  readings (Failed ∷ h) = []
  readings (Octet octet ∷ h) = with_front (reading_of (client retry h) (item_at retry h octet)) (readings h)
  readings (Refused ∷ h) = readings h
  readings (Handed octets ∷ h) = readings h
  readings (Ticked now ∷ h) = readings h

-- a PDU that may stand within a load: an IPv4 Prefix, or one that loading ignores
abbrev pub is_of_load : Content → Bool
is_of_load (Serial_notify session serial) = true
is_of_load (Serial_query session serial) = false
is_of_load Reset_query = false
is_of_load (Cache_response session) = false
is_of_load (Announce payload) = true
is_of_load (Withdraw payload) = true
is_of_load (Ipv6_prefix body) = true
is_of_load (End_of_data session serial intervals) = false
is_of_load Cache_reset = false
is_of_load (Router_key body) = true
is_of_load (Error_report code quoted) = false

-- a set with the announcements of these PDUs put in and their withdrawals taken out, one after another; the list has the newest first
abbrev pub loaded : List Vrp → List Reading → List Vrp
loaded start [] = start
loaded start (reading ∷ earlier) = changed (loaded start earlier) reading.content

-- each of them may stand within a load, none announces what is there, and none withdraws what isn't
abbrev pub AreOfLoad : List Vrp → List Reading → Type 0
AreOfLoad start [] = Unit {0}
AreOfLoad start (reading ∷ earlier) = (is_of_load reading.content ≡ true) × (is_change (loaded start earlier) reading.content ≡ true) × AreOfLoad start earlier

-- what a load starts from: the payloads in force behind a Serial Query, none behind a Reset Query
abbrev pub StartsFrom : Stage → List Vrp → List Vrp → Type 0
StartsFrom Off payloads start = ⊥
StartsFrom Opening payloads start = ⊥
StartsFrom Asked_serial payloads start = start ≡ payloads
StartsFrom Asked_reset payloads start = start ≡ []
StartsFrom Waiting payloads start = ⊥
StartsFrom (Loading serially session set) payloads start = ⊥
StartsFrom Synced payloads start = ⊥

-- the newest PDUs of a connection are a load of this session that isn't ended, and these are its payloads so far: a Cache Response that was read in Asked, and behind it PDUs that may stand within a load
pub record IsLoad (all : List Reading) (session : ℕ) (set : List Vrp) : Type 0 where
  pub within : List Reading
  pub response : Reading
  pub before : List Reading
  pub start : List Vrp
  pub all_are : all ≡ within ++ response ∷ before
  pub begins : response.content ≡ Cache_response session
  pub starts : StartsFrom response.client.stage (in_force response.client) start
  pub lawful : AreOfLoad start within
  pub set_is : set ≡ loaded start within
