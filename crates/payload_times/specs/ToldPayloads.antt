-- Which payloads are in force, by the octets as they came (RFC 8210 sections 5.4 to 5.8 and 8).
use Rattle.std.specs.Prelude.{◌≡◌, ◌≢◌, ◌⊎◌, ℕ, true, List, [], ◌∷◌, ◌++◌, Option, Some, None}
use Rattle.net_prefix.specs.declared.payload.Vrp.{Vrp}
use Rattle.octet_streams.specs.Streams.{with_front}
use Rattle.rtr_codec.specs.ClientTable.{in_force}
use Rattle.rtr_codec.specs.PduSpelling.{Content, Cache_response}
use Rattle.rtr_codec.specs.PduStream.{Item, WholePdu, FaultyPdu, meaning, place_from, unread}
use Rattle.rtr_codec.specs.Responses.{changed, is_change}
use Rattle.rtr_session.specs.Loads.{is_of_load}
use Rattle.rtr_session.specs.SessionHistory.{Event, Came_up, Failed, Octet, Refused, Handed, Ticked, client, first_place}
use Rattle.payload_times.specs.PayloadTimes.{HasFreshEnd, arrived}

-- what an octet, coming next, completes of those that arrived on its connection
abbrev pub completed : List Event → ℕ → Option Item
completed h octet = meaning (place_from first_place [] (arrived h)) (unread first_place (arrived h) ++ octet ∷ [])

abbrev pub content_of_item : Option Item → Option Content
content_of_item None = None
content_of_item (Some (WholePdu content octets)) = Some content
content_of_item (Some (FaultyPdu fault octets)) = None

-- the PDUs that came whole, on whatever connection, the newest first
abbrev pub told : List Event → List Content
told [] = []
told (Came_up ∷ h) = told h
told (Failed ∷ h) = told h
told (Octet octet ∷ h) = with_front (content_of_item (completed h octet)) (told h)
told (Refused ∷ h) = told h
told (Handed octets ∷ h) = told h
told (Ticked now ∷ h) = told h

-- a set with what these PDUs announce put in and what they withdraw taken out, one after another; the newest is the first
abbrev pub made : List Vrp → List Content → List Vrp
made start [] = start
made start (content ∷ earlier) = changed (made start earlier) content

-- each of them may stand within a load, none announces what is there, and none withdraws what isn't
abbrev pub AreChanges : List Vrp → List Content → Type 0
AreChanges start [] = Unit {0}
AreChanges start (content ∷ earlier) = (is_of_load content ≡ true) × (is_change (made start earlier) content ≡ true) × AreChanges start earlier

-- of a session that has begun with this Retry Interval
module _ (retry : ℕ) where
  -- the PDUs that came last are a Cache Response of the session and behind it those of a load, and this is what they make of no payloads, or of those that were in force when the Cache Response came
  pub record AreTold (h : List Event) (session : ℕ) (set : List Vrp) : Type 0 where
    pub within : List Content
    pub since : List Event
    pub begun : List Event
    pub start : List Vrp
    pub behind : h ≡ since ++ begun
    pub told_are : told h ≡ within ++ Cache_response session ∷ told begun
    pub starts : (start ≡ []) ⊎ (start ≡ in_force (client retry begun))
    pub lawful : AreChanges start within
    pub set_is : set ≡ made start within

-- payloads in force are those of a load that an End of Data ended less than its expire interval ago
abbrev pub PayloadsAreTold : Type 0
PayloadsAreTold = (retry : ℕ) (h : List Event) → in_force (client retry h) ≢ [] → (end : HasFreshEnd h) × AreTold retry end.before end.session (in_force (client retry h))
