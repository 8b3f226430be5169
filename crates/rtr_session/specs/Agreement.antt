-- When a session with a cache is as a history leaves it (RFC 8210 sections 5 to 8).
use Rattle.std.specs.Prelude.{◌≡◌, ◌≤◌, ◌-◌, ℕ, true, List, ◌∷◌, ◌++◌, Some, slice_index, take}
use Rattle.net_prefix.specs.declared.transport.Transport.TheVariants.{Open as Connected}
use Rattle.rtr_codec.specs.ClientTable.{transport_of}
use Rattle.rtr_codec.specs.PduSpelling.{Content}
use Rattle.rtr_codec.specs.PduStream.{WholePdu}
use Rattle.rtr_client.specs.Following.{load_takes}
use Rattle.rtr_session.specs.SessionState.{Session}
use Rattle.rtr_session.specs.SessionHistory.{Event, Refused, client, course, given, item_at, onto, reading_in, sent}

-- a session that has begun with this Retry Interval
module _ (retry : ℕ) where
  -- the client is the one that its table gives
  abbrev pub HasClient : List Event → Session → Type 0
  HasClient h s = s.client ≡ client retry h

  -- while the connection stands, what is being read is what no PDU of the stream has taken
  abbrev pub IsReading : List Event → Session → Type 0
  IsReading h s = transport_of s.client ≡ Connected → s.reading ≡ reading_in (course retry h)

  -- the ring holds what was queued on the connection and not yet handed out
  abbrev pub HasRing : List Event → Session → Type 0
  HasRing h s = given retry h ++ s.ring ≡ sent retry h

  -- the session is as this history leaves it
  pub record SessionAgrees (h : List Event) (s : Session) : Type 0 where
    pub client : HasClient h s
    pub reading : IsReading h s
    pub ring : HasRing h s

  -- the last of these octets completed a PDU for which memory was refused: the refusal stands in its place
  pub record Starves (h : List Event) (octets : List ℕ) (count : ℕ) (s : Session) : Type 0 where
    pub content : Content
    pub whole : List ℕ
    pub some : 1 ≤ count
    pub item : item_at retry (onto (take (count - 1) octets) h) (slice_index octets (count - 1)) ≡ Some (WholePdu content whole)
    pub takes : load_takes (client retry (onto (take (count - 1) octets) h)) content ≡ true
    pub agrees : SessionAgrees (Refused ∷ onto (take (count - 1) octets) h) s
