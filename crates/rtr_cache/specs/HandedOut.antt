-- What was handed out to a client, as its router reads it: the serial of the last End of Data (RFC 8210 sections 5.8 and 8.1).
use Rattle.std.specs.Prelude.{◌≡◌, ℕ, Bool, true, false, List, [], ◌∷◌, Option, Some, None}
use Rattle.rtr_codec.specs.declared.place.End.TheVariants.{Client}
use Rattle.rtr_codec.specs.PduSpelling.{Content, Serial_notify, Serial_query, Reset_query, Cache_response, Announce, Withdraw, Ipv6_prefix, End_of_data, Cache_reset, Router_key, Error_report}
use Rattle.rtr_codec.specs.PduStream.{Item, WholePdu, FaultyPdu, Wants, ends_stream, pdus, pdus_from, place_from, unread_from}
use Rattle.rtr_codec.specs.Receiving.{Reception, beginning}

-- the serial of the last End of Data, once a PDU is read
abbrev pub serial_by : Content → Option ℕ → Option ℕ
serial_by (End_of_data session serial intervals) before = Some serial
serial_by (Serial_notify session serial) before = before
serial_by (Serial_query session serial) before = before
serial_by Reset_query before = before
serial_by (Cache_response session) before = before
serial_by (Announce payload) before = before
serial_by (Withdraw payload) before = before
serial_by (Ipv6_prefix body) before = before
serial_by Cache_reset before = before
serial_by (Router_key body) before = before
serial_by (Error_report code quoted) before = before

-- and PDUs one after another, up to a fault
abbrev pub last_serial : Option ℕ → List Item → Option ℕ
last_serial before [] = before
last_serial before (WholePdu content octets ∷ items) = last_serial (serial_by content before) items
last_serial before (FaultyPdu fault octets ∷ items) = before

-- the serial of the last End of Data that stands whole in octets, as the router reads them from the beginning of its connection on
abbrev pub serial_in : List ℕ → Option ℕ
serial_in octets = last_serial None (pdus (beginning Client).place octets)

-- how the reading of what was handed out stands
pub record Handed : Type 0 where
  pub reading : Option Reception  -- where the next PDU stands, and what of it was handed out; none behind a fault
  pub serial : Option ℕ  -- that of the last End of Data

-- nothing was handed out
abbrev pub nothing_handed : Handed
nothing_handed = record { reading = Some (beginning Client); serial = None }

-- whether there is a fault
abbrev pub has_fault : List Item → Bool
has_fault [] = false
has_fault (WholePdu content octets ∷ items) = has_fault items
has_fault (FaultyPdu fault octets ∷ items) = true

-- nothing is read behind a fault
abbrev pub unless_faulty : Bool → Reception → Option Reception
unless_faulty true r = None
unless_faulty false r = Some r

-- a reading behind more octets
abbrev pub read_on : Reception → List ℕ → Reception
read_on r octets = record { place = place_from r.place r.part octets; part = unread_from r.place r.part octets }

-- the same behind these PDUs, by where it stands behind the octets
abbrev pub behind_items : List Item → Reception → Option ℕ → Handed
behind_items items r before = record { reading = unless_faulty (has_fault items) r; serial = last_serial before items }

abbrev pub handing_by : List ℕ → Option Reception → Option ℕ → Handed
handing_by octets None before = record { reading = None; serial = before }
handing_by octets (Some r) before = behind_items (pdus_from r.place r.part octets) (read_on r octets) before

-- more octets are handed out
abbrev pub handing : List ℕ → Handed → Handed
handing octets handed = handing_by octets handed.reading handed.serial

-- What a reader finds at the front of them.

-- whether it is a fault
abbrev pub is_fault : Option Item → Bool
is_fault None = false
is_fault (Some item) = ends_stream item

-- the serial of the last End of Data behind it
abbrev pub serial_behind : Option Item → Option ℕ → Option ℕ
serial_behind None before = before
serial_behind (Some (WholePdu content octets)) before = serial_by content before
serial_behind (Some (FaultyPdu fault octets)) before = before

-- while there was no fault more octets are wanted
abbrev pub IsReading : Bool → Reception → Type 0
IsReading is_faulty r = is_faulty ≡ false → Wants r.place r.part
