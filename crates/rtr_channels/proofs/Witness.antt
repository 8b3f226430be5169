-- Events after which the client has payloads in force: a set without payloads is loaded, and read.
use Rattle.std.specs.Prelude.{◌^◌}
use Rattle.std.proofs.Common.{◌≡◌, ◌≢◌, ◌<◌, ◌==◌, cond, ◌++◌, ℕ, zero, suc, min, List, [], ◌∷◌, length, take, drop, Bool, true, false, Some, None, Ok, refl, arith}
use Rattle.std.specs.List.Sorted as sorted
use Rattle.rtr_cache.specs.CacheState.{CacheState, client_at, empty_cache, tells_nothing, tells_serial}
use Rattle.rtr_cache.specs.CacheTable.{Conn, fresh_conn, hands_out, hears_octets, pumped}
use Rattle.rtr_cache.specs.ClientHistory.{Call, Makes}
use Rattle.rtr_cache.specs.ClientHistory as calls
use Rattle.rtr_cache.specs.declared.other_session.OtherSession.TheVariants.{Report}
use Rattle.rtr_codec.specs.ClientTable.{Up}
use Rattle.rtr_codec.specs.ClientTable as table
use Rattle.rtr_codec.specs.Intervals.{usual}
use Rattle.rtr_codec.specs.PduSpelling.{Cache_response, End_of_data, Reset_query, spelling}
use Rattle.rtr_codec.specs.PduStream.{WholePdu, meaning}
use Rattle.rtr_codec.specs.PduStream as stream
use Rattle.octet_streams.specs.Streams as streams
use Rattle.rtr_codec.specs.PduFaults as faults
use Rattle.rtr_codec.specs.PduTypes as types
use Rattle.rtr_codec.specs.PduContents as contents
use Rattle.rtr_channels.specs.Channels.{TwoEnds, start}
use Rattle.rtr_channels.specs.ChannelEvents.{Accepts, Calls, Event, Happens, IsAfter, Reads, Steps, accepted, called, read, stepped}
use Rattle.rtr_channels.specs.VersionsAgree.{AreFew}

abbrev c1 : CacheState
c1 = record { shared = record (empty_cache 1 usual Report).shared { kept = record { serial = 1; set = [] } ∷ [] }; clients = [] }

abbrev c2 : CacheState
c2 = record c1 { clients = Some fresh_conn ∷ [] }

-- a client whose Retry Interval begins as this one
module _ (retry : ℕ) where
  abbrev w0 : TwoEnds
  w0 = start retry 1 usual Report

  abbrev load : Call
  load = calls.Loaded [] (Ok (tells_serial 1))

  abbrev w1 : TwoEnds
  w1 = called w0 load c1 []

  e1 : Happens w0 (Calls load) w1
  unfolding sorted.IsStrictlySortedBy
  e1 = record { makes = ((refl, none_there, refl), tt, tt); publishable = (tt, tt); brings = refl; leaves = refl }
    where
      none_there : (key : ℕ) → client_at c1 key ≡ None
      none_there zero = refl
      none_there (suc n) = refl

  abbrev w2 : TwoEnds
  w2 = accepted (stepped w1 0 Up true) 0 c2

  e2 : Happens (stepped w1 0 Up true) (Accepts 0) w2
  unfolding table.row
  e2 = record { awaited = refl; begun = λ e. cc; comes_up = ((0, refl, omega arith, omega arith, refl, refl, others, refl), tt); leaves = refl }
    where
      others : (other : ℕ) → other ≢ 0 → client_at c2 other ≡ client_at c1 other
      others zero n = absurd (n refl)
      others (suc k) n = refl

  -- the cache hears the query
  abbrev query : List ℕ
  query = spelling Reset_query

  abbrev conn3 : Conn
  conn3 = pumped (hears_octets c2.shared [] fresh_conn query)

  abbrev c3 : CacheState
  c3 = record c2 { clients = Some conn3 ∷ [] }

  abbrev hear : Call
  hear = calls.Heard 0 query (Ok tells_nothing)

  abbrev w3 : TwoEnds
  w3 = called w2 hear c3 []

  said_first : w2.up ≡ query ++ []
  unfolding table.row spelling
  said_first = refl

  e3 : Happens w2 (Calls hear) w3
  e3 = record { makes = ((fresh_conn, refl, ([], refl), others, refl, refl), tt); publishable = tt; brings = said_first; leaves = refl }
    where
      others : (other : ℕ) → other ≢ 0 → client_at c3 other ≡ client_at c2 other
      others zero n = absurd (n refl)
      others (suc k) n = refl

  ring_is : conn3.ring ≡ spelling (Cache_response 1) ++ spelling (End_of_data 1 1 usual)
  unfolding spelling stream.pdu_grammar streams.meaning faults.header_fault types.type_of contents.told_length contents.content_at
  ring_is = refl

  -- what it says is handed out
  abbrev answer : List ℕ
  answer = spelling (Cache_response 1) ++ spelling (End_of_data 1 1 usual)

  abbrev conn4 : Conn
  conn4 = pumped (hands_out (length conn3.ring) conn3)

  abbrev c4 : CacheState
  c4 = record c3 { clients = Some conn4 ∷ [] }

  abbrev takes : Call
  takes = calls.Took 0 conn3.ring (Ok (length conn3.ring)) (take (length conn3.ring) conn3.ring ++ drop (length conn3.ring) conn3.ring)

  abbrev w4 : TwoEnds
  w4 = called w3 takes c4 []

  count_is : length conn3.ring ≡ min (length conn3.ring) (length conn3.ring)
  count_is = omega arith

  e4 : Happens w3 (Calls takes) w4
  e4 = record { makes = ((conn3, refl, count_is, refl, refl, others, refl), tt); publishable = tt; brings = refl; leaves = refl }
    where
      others : (other : ℕ) → other ≢ 0 → client_at c4 other ≡ client_at c3 other
      others zero n = absurd (n refl)
      others (suc k) n = refl

  down_is : w4.down ≡ spelling (Cache_response 1) ++ spelling (End_of_data 1 1 usual)
  unfolding spelling stream.pdu_grammar streams.meaning faults.header_fault types.type_of contents.told_length contents.content_at
  down_is = refl

  abbrev w5 : TwoEnds
  w5 = read w4 0 false true (WholePdu (Cache_response 1) (spelling (Cache_response 1))) (spelling (End_of_data 1 1 usual))

  first_means : meaning w4.place (spelling (Cache_response 1)) ≡ Some (WholePdu (Cache_response 1) (spelling (Cache_response 1)))
  unfolding spelling stream.pdu_grammar streams.meaning faults.header_fault types.type_of contents.told_length contents.content_at
  first_means = refl

  e5 : Happens w4 (Reads 0 false true) w5
  e5 = record { octets = spelling (Cache_response 1); item = WholePdu (Cache_response 1) (spelling (Cache_response 1)); front = down_is; is = first_means; leaves = refl }

  abbrev w6 : TwoEnds
  w6 = read w5 0 false true (WholePdu (End_of_data 1 1 usual) (spelling (End_of_data 1 1 usual))) []

  second_means : meaning w5.place (spelling (End_of_data 1 1 usual)) ≡ Some (WholePdu (End_of_data 1 1 usual) (spelling (End_of_data 1 1 usual)))
  unfolding spelling stream.pdu_grammar streams.meaning faults.header_fault types.type_of contents.told_length contents.content_at
  second_means = refl

  e6 : Happens w5 (Reads 0 false true) w6
  unfolding spelling
  e6 = record { octets = spelling (End_of_data 1 1 usual); item = WholePdu (End_of_data 1 1 usual) (spelling (End_of_data 1 1 usual)); front = refl; is = second_means; leaves = refl }

  base_is : w6.client.base ≡ Some (record { session = 1; serial = 1; payloads = [] })
  unfolding table.row
  base_is = refl

  abbrev events : List Event
  events = Reads 0 false true ∷ Reads 0 false true ∷ Calls takes ∷ Calls hear ∷ Accepts 0 ∷ Steps 0 Up true ∷ Calls load ∷ []

  few_case : (t : Bool) → cond t 1 0 < 2 ^ 32
  few_case true = omega arith
  few_case false = omega arith

  few : AreFew w6.published
  few session = few_case (1 == session)

  pub events_lead_to_payloads : (events : List Event) × (w : TwoEnds) × IsAfter retry 1 usual Report events w × AreFew w.published × (w.client.base ≡ Some (record { session = 1; serial = 1; payloads = [] }))
  events_lead_to_payloads = (events, w6, ((omega arith, refl), (w5, (w4, (w3, (w2, (stepped w1 0 Up true, (w1, (w0, refl, e1), (tt, refl)), e2), e3), e4), e5), e6)), few, base_is)
