-- What a client is told, PDU by PDU and response by response (RFC 8210 sections 5 to 8).
use Rattle.std.specs.Prelude.{◌≡◌, ◌⊎◌, ℕ, true, false, List, [], ◌∷◌, ◌++◌, Some}
use Rattle.std.specs.List.{flat_map}
use Rattle.net_prefix.specs.declared.payload.Vrp.{Vrp}
use Rattle.rtr_codec.specs.declared.intervals.Intervals.{Intervals}
use Rattle.rtr_codec.specs.PduSpelling.{Content, Serial_notify, Serial_query, Reset_query, Cache_reset, Error_report}
use Rattle.rtr_codec.specs.PduStream.{Item, WholePdu, FaultyPdu}
use Rattle.rtr_codec.specs.Responses.{changed_by, response, spellings}
use Rattle.rtr_cache.specs.CacheTable.{Conn, Shared, offered}
use Rattle.rtr_cache.specs.HandedOut.{handing, nothing_handed}
use Rattle.vrp_delta.specs.Versions.{Version, newest_serial, version_of}

-- one thing that a client is told: a PDU of its own, or a whole response, which leads from the old set to the version
pub data Told : Type 0 where
  Alone : (content : Content) → Told
  Whole : (session : ℕ) (intervals : Intervals) (version : Version) (old : List Vrp) → Told

-- its PDUs
abbrev pub pdus_of : Told → List Content
pdus_of (Alone content) = content ∷ []
pdus_of (Whole session intervals version old) = response session intervals version old

-- those of all that a client is told, one after another
abbrev pub all_pdus : List Told → List Content
all_pdus told = flat_map pdus_of told

-- a response, read onto the set that it leads from, gives the set of its version
abbrev pub LeadsToVersion : Told → Type 0
LeadsToVersion (Alone content) = Unit {0}
LeadsToVersion (Whole session intervals version old) = changed_by old (response session intervals version old) ≡ version.set

-- and so does each that a client is told
abbrev pub AllLeadToVersions : List Told → Type 0
AllLeadToVersions [] = Unit {0}
AllLeadToVersions (one ∷ more) = LeadsToVersion one × AllLeadToVersions more

-- a PDU that is no part of a response
abbrev pub IsAside : Content → Type 0
IsAside (Serial_notify session serial) = Unit {0}
IsAside Cache_reset = Unit {0}
IsAside (Error_report code quoted) = Unit {0}
IsAside content = ⊥

-- nothing is told, or one PDU that is no part of a response
abbrev pub AreAside : List Told → Type 0
AreAside now = (now ≡ []) ⊎ ((content : Content) × IsAside content × (now ≡ Alone content ∷ []))

-- what answers a Serial Query, by the versions that are offered: a response with the newest of them, from the set of the query's serial; or none
abbrev pub AnswersSerial : Shared → ℕ → List Version → List Told → Type 0
AnswersSerial shared serial [] now = AreAside now
AnswersSerial shared serial (newest ∷ older) now =
    AreAside now
    ⊎ ((old : Version) × (version_of (newest ∷ older) serial ≡ Some old)
    × (now ≡ Whole shared.session shared.intervals newest old.set ∷ []))

-- what answers a Reset Query: a response with the newest of them, from the empty set; or none
abbrev pub AnswersReset : Shared → List Version → List Told → Type 0
AnswersReset shared [] now = AreAside now
AnswersReset shared (newest ∷ older) now =
    AreAside now ⊎ (now ≡ Whole shared.session shared.intervals newest [] ∷ [])

-- what answers one PDU of the client, or its fault: a response answers a query alone
abbrev pub AnswersItem : Shared → Item → List Told → Type 0
AnswersItem shared (WholePdu (Serial_query session serial) octets) now = AnswersSerial shared serial (offered shared) now
AnswersItem shared (WholePdu Reset_query octets) now = AnswersReset shared (offered shared) now
AnswersItem shared (WholePdu content octets) now = now ≡ []
AnswersItem shared (FaultyPdu fault octets) now = now ≡ []

-- and several, one after another
abbrev pub AnswersItems : Shared → List Item → List Told → Type 0
AnswersItems shared [] now = now ≡ []
AnswersItems shared (item ∷ items) now =
    (here later : List Told) × (now ≡ here ++ later) × AnswersItem shared item here × AnswersItems shared items later

-- a Serial Notify of the newest version, unless the set is withdrawn, or nothing
abbrev pub IsNotified : Shared → List Told → Type 0
IsNotified shared now = (now ≡ []) ⊎ ((shared.withdrawn ≡ false) × (now ≡ Alone (Serial_notify shared.session (newest_serial shared.kept)) ∷ []))

-- nothing, or one Error Report
abbrev pub IsLastWord : List Content → Type 0
IsLastWord last = (last ≡ []) ⊎ ((code : ℕ) × (quoted : List ℕ) × (last ≡ Error_report code quoted ∷ []))

-- What has gone out and what waits in the ring are whole PDUs: while the connection is open all that the client is told but what its response has left;
-- once the cache has closed it a front of what the client is told, and at most one Error Report behind it. What has gone out is read as the router reads it.
pub record SaysWhole (gone : List ℕ) (told : List Told) (conn : Conn) : Type 0 where
  pub said : List Content
  pub unsaid : List Content
  pub last : List Content
  pub octets_are : gone ++ conn.ring ≡ spellings (said ++ last)
  pub parts : said ++ unsaid ≡ all_pdus told
  pub while_open : conn.is_open ≡ true → (unsaid ≡ conn.left) × (last ≡ [])
  pub when_closed : conn.is_open ≡ false → conn.left ≡ []
  pub last_word : IsLastWord last
  pub read : conn.handed ≡ handing gone nothing_handed
