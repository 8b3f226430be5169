-- A router's end of its session with a cache (RFC 8210 section 8): what the client's table speaks of.
use Rattle.std.specs.Prelude.{ℕ, Bool, true, false, List, [], Option, Some, None}
use Rattle.net_prefix.specs.declared.payload.Vrp.{Vrp}
use Rattle.net_prefix.specs.declared.transport.Transport.{Transport}
use Rattle.net_prefix.specs.declared.transport.Transport.TheVariants as transports
use Rattle.rtr_codec.specs.declared.fault.PduFault.{PduFault}
use Rattle.rtr_codec.specs.declared.intervals.Intervals.{Intervals}
use Rattle.rtr_codec.specs.Intervals.{usual}
use Rattle.rtr_codec.specs.PduSpelling.{Content}

-- the last completed load that was neither flushed nor has expired: its session, its serial, and its payloads, the least first
pub record Base : Type 0 where
  pub session : ℕ
  pub serial : ℕ
  pub payloads : List Vrp

-- where the session stands. A load in progress stands in its stage: whether it answers a Serial Query, its session, and the payloads so far
pub data Stage : Type 0 where
  Off : Stage
  Opening : Stage
  Asked_serial : Stage
  Asked_reset : Stage
  Waiting : Stage
  Loading : (serially : Bool) (session : ℕ) (set : List Vrp) → Stage
  Synced : Stage

-- the client. Each timer is the moment at which it ends, in seconds; none for one that doesn't run
pub record Client : Type 0 where
  pub stage : Stage
  pub closing : Bool  -- in Off: the last connection is still to be closed
  pub base : Option Base
  pub intervals : Intervals  -- those of the last completed load
  pub expire : Option ℕ
  pub refresh : Option ℕ
  pub query : Option ℕ
  pub reopen : Option ℕ

-- what happens to a client. A PDU and a fault come with their octets, which a report quotes
pub data Input : Type 0 where
  Up : Input
  Fail : Input
  Heard : (content : Content) (octets : List ℕ) → Input
  Faulty : (fault : PduFault) (octets : List ℕ) → Input
  Tick : Input
  No_room : Input  -- a query found too little room among what is queued
  Starved : Input  -- memory refused what the PDU in this place needs

-- what a row leaves of the client, the PDU that it says, and whether a connection attempt begins
pub record Reply : Type 0 where
  pub client : Client
  pub said : Option Content
  pub opened : Bool

-- a new client: a connection attempt has begun, and the intervals are the usual ones (RFC 8210 section 6)
abbrev pub initial : Client
initial = record { stage = Opening; closing = false; base = None; intervals = usual; expire = None; refresh = None; query = None; reopen = None }

-- the payloads of a base
abbrev pub payloads_of : Option Base → List Vrp
payloads_of None = []
payloads_of (Some base) = base.payloads

-- the payloads in force
abbrev pub in_force : Client → List Vrp
in_force client = payloads_of client.base

-- a connection carries the session
abbrev pub is_connected : Stage → Bool
is_connected Off = false
is_connected Opening = false
is_connected Asked_serial = true
is_connected Asked_reset = true
is_connected Waiting = true
is_connected (Loading serially session set) = true
is_connected Synced = true

-- what stands between the session and its connection
abbrev pub transport_at : Stage → Bool → Transport
transport_at Off true = transports.Closing
transport_at Off false = transports.None
transport_at Opening closing = transports.Opening
transport_at Asked_serial closing = transports.Open
transport_at Asked_reset closing = transports.Open
transport_at Waiting closing = transports.Open
transport_at (Loading serially session set) closing = transports.Open
transport_at Synced closing = transports.Open

abbrev pub transport_of : Client → Transport
transport_of client = transport_at client.stage client.closing
