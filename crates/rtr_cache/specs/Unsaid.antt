-- What is still to be said of a response (RFC 8210 sections 5.5 to 5.8).
use Rattle.std.specs.Prelude.{◌≡◌, ℕ, Bool, true, false, List, [], ◌∷◌, ◌++◌, map, Option, Some, None}
use Rattle.std.specs.Option.{option_map}
use Rattle.rtr_codec.specs.declared.intervals.Intervals.{Intervals}
use Rattle.rtr_cache.specs.CacheTable.{Shared, is_idle}
use Rattle.rtr_codec.specs.PduSpelling.{Content, Serial_notify, Serial_query, Reset_query, Cache_response, Announce, Withdraw, Ipv6_prefix, End_of_data, Cache_reset, Router_key, Error_report}
use Rattle.rtr_codec.specs.Responses.{response}
use Rattle.vrp_delta.specs.Delta.{Change}
use Rattle.vrp_delta.specs.Versions.{Version, change_from, version_of}

-- the payloads of a response
abbrev pub payloads_of : Change → List Content
payloads_of change = map Withdraw change.withdrawn ++ map Announce change.announced

-- what changed since the version of a serial
pub record ChangeSince : Type 0 where
  pub serial : ℕ
  pub change : Change

-- up to the newest of some versions
abbrev pub LeadsToNewest : List Version → ChangeSince → Type 0
LeadsToNewest versions since = change_from versions since.serial ≡ Some since.change

-- what is unsaid: the Cache Response where the response has not begun, payloads, the End of Data
abbrev pub unsaid : Bool → ℕ → Intervals → ℕ → List Content → List Content
unsaid true session intervals serial payloads = payloads ++ End_of_data session serial intervals ∷ []
unsaid false session intervals serial payloads = Cache_response session ∷ (payloads ++ End_of_data session serial intervals ∷ [])

-- a whole response that tells a change up to the version of a serial
abbrev pub change_response : ℕ → Intervals → ℕ → Change → List Content
change_response session intervals serial change = unsaid false session intervals serial (payloads_of change)

-- the response to a Reset Query, where a set was published
abbrev pub whole_response : Shared → List Version → Option (List Content)
whole_response shared [] = None
whole_response shared (newest ∷ older) = Some (response shared.session shared.intervals newest [])

-- the response to a Serial Query, where its serial is kept
abbrev pub kept_response : Shared → ℕ → List Version → Option (List Content)
kept_response shared serial [] = None
kept_response shared serial (newest ∷ older) =
    option_map (λ old. response shared.session shared.intervals newest old.set) (version_of (newest ∷ older) serial)

-- what a connection has left to say of its response, if it has one
abbrev pub left_of : Option (List Content) → List Content
left_of None = []
left_of (Some contents) = contents

-- a response in progress has something left
abbrev pub IsUnsaid : Option (List Content) → Type 0
IsUnsaid None = Unit {0}
IsUnsaid (Some contents) = is_idle contents ≡ false

-- whether a set was published
abbrev pub is_published : List Version → Bool
is_published [] = false
is_published (newest ∷ older) = true

-- a PDU of a response
abbrev pub IsResponsePart : Content → Type 0
IsResponsePart (Cache_response session) = Unit {0}
IsResponsePart (Announce payload) = Unit {0}
IsResponsePart (Withdraw payload) = Unit {0}
IsResponsePart (End_of_data session serial intervals) = Unit {0}
IsResponsePart (Serial_notify session serial) = ⊥
IsResponsePart (Serial_query session serial) = ⊥
IsResponsePart Reset_query = ⊥
IsResponsePart (Ipv6_prefix body) = ⊥
IsResponsePart Cache_reset = ⊥
IsResponsePart (Router_key body) = ⊥
IsResponsePart (Error_report code quoted) = ⊥
