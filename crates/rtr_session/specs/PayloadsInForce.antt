-- The payloads in force: those of the last completed load behind which there was neither a flush nor an expiry (RFC 8210 sections 5.8, 6 and 8).
use Rattle.std.specs.Prelude.{◌≡◌, ◌⊎◌, ◌==◌, ℕ, Bool, true, false, not, List, [], ◌∷◌, Option, Some, None}
use Rattle.moments.specs.Moments.{has_come}
use Rattle.net_prefix.specs.declared.payload.Vrp.{Vrp}
use Rattle.rtr_codec.specs.declared.fault.ErrorCode.TheVariants.{CorruptData}
use Rattle.rtr_codec.specs.declared.intervals.Intervals.{Intervals}
use Rattle.rtr_codec.specs.Intervals.{are_lawful}
use Rattle.rtr_codec.specs.ClientTable.{Base, Client, Stage, Off, Opening, Asked_serial, Asked_reset, Waiting, Loading, Synced}
use Rattle.rtr_codec.specs.PduFaults.{number_of}
use Rattle.rtr_codec.specs.PduSpelling.{Content, Serial_notify, Serial_query, Reset_query, Cache_response, Announce, Withdraw, Ipv6_prefix, End_of_data, Cache_reset, Router_key, Error_report}
use Rattle.rtr_codec.specs.PduStream.{WholePdu}
use Rattle.rtr_session.specs.SessionHistory.{Event, Came_up, Failed, Octet, Refused, Handed, Ticked, client, item_at}
use Rattle.rtr_session.specs.Loads.{IsLoad, readings}

-- the session isn't that of the last completed load
abbrev pub is_of_another : Option Base → ℕ → Bool
is_of_another None session = true
is_of_another (Some base) session = not (session == base.session)

-- what a PDU makes invalid: behind a Serial Query a Cache Response of another session than the last load's
abbrev pub flushes_response : Stage → Option Base → ℕ → Bool
flushes_response Off base session = false
flushes_response Opening base session = false
flushes_response Asked_serial base session = is_of_another base session
flushes_response Asked_reset base session = false
flushes_response Waiting base session = false
flushes_response (Loading serially own set) base session = false
flushes_response Synced base session = false

-- within a load an End of Data of another session
abbrev pub flushes_end : Stage → ℕ → Bool
flushes_end Off session = false
flushes_end Opening session = false
flushes_end Asked_serial session = false
flushes_end Asked_reset session = false
flushes_end Waiting session = false
flushes_end (Loading serially own set) session = not (session == own)
flushes_end Synced session = false

-- between two loads a Serial Notify of another session
abbrev pub flushes_notify : Stage → Option Base → ℕ → Bool
flushes_notify Off base session = false
flushes_notify Opening base session = false
flushes_notify Asked_serial base session = false
flushes_notify Asked_reset base session = false
flushes_notify Waiting base session = false
flushes_notify (Loading serially own set) base session = false
flushes_notify Synced base session = is_of_another base session

-- and an Error Report of corrupt data
abbrev pub flushes : Client → Content → Bool
flushes c (Serial_notify session serial) = flushes_notify c.stage c.base session
flushes c (Serial_query session serial) = false
flushes c Reset_query = false
flushes c (Cache_response session) = flushes_response c.stage c.base session
flushes c (Announce payload) = false
flushes c (Withdraw payload) = false
flushes c (Ipv6_prefix body) = false
flushes c (End_of_data session serial intervals) = flushes_end c.stage session
flushes c Cache_reset = false
flushes c (Router_key body) = false
flushes c (Error_report code quoted) = code == number_of CorruptData

-- of a session that has begun with this Retry Interval
module _ (retry : ℕ) where
  -- an octet, coming next, completes a load with this set: with an End of Data of the load's session and with lawful intervals
  pub record EndsLoad (h : List Event) (octet : ℕ) (set : List Vrp) : Type 0 where
    pub session : ℕ
    pub serial : ℕ
    pub intervals : Intervals
    pub octets : List ℕ
    pub ends : item_at retry h octet ≡ Some (WholePdu (End_of_data session serial intervals) octets)
    pub lawful : are_lawful intervals ≡ true
    pub load : IsLoad (readings retry h) session set

  -- so an event does
  abbrev pub CompletesLoad : List Event → Event → List Vrp → Type 0
  CompletesLoad h Came_up set = ⊥
  CompletesLoad h Failed set = ⊥
  CompletesLoad h (Octet octet) set = EndsLoad h octet set
  CompletesLoad h Refused set = ⊥
  CompletesLoad h (Handed octets) set = ⊥
  CompletesLoad h (Ticked now) set = ⊥

  -- an octet completes a PDU that flushes
  pub record Flushes (h : List Event) (octet : ℕ) : Type 0 where
    pub content : Content
    pub octets : List ℕ
    pub completes : item_at retry h octet ≡ Some (WholePdu content octets)
    pub flushes_it : flushes (client retry h) content ≡ true

  -- an event, coming next, ends what is in force: a flush, or a moment at which the expire timer ends
  abbrev pub EndsForce : List Event → Event → Type 0
  EndsForce h Came_up = ⊥
  EndsForce h Failed = ⊥
  EndsForce h (Octet octet) = Flushes h octet
  EndsForce h Refused = ⊥
  EndsForce h (Handed octets) = ⊥
  EndsForce h (Ticked now) = has_come (client retry h).expire now ≡ true

  -- the payloads that a history leaves in force: the newest event that completes a load, flushes or is an expiry decides
  abbrev pub AreInForce : List Event → List Vrp → Type 0
  AreInForce [] set = set ≡ []
  AreInForce (e ∷ h) set =
      CompletesLoad h e set
      ⊎ ((EndsForce h e × (set ≡ []))
      ⊎ (((other : List Vrp) → CompletesLoad h e other → ⊥) × (EndsForce h e → ⊥) × AreInForce h set))
