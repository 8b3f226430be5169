-- What a cache answers a query with (RFC 8210 sections 5.5 to 5.8 and 8).
use Rattle.std.specs.Prelude.{◌&&◌, ℕ, nat_le, Bool, true, not, List, [], ◌∷◌, ◌++◌, map}
use Rattle.std.specs.List.{flat_map, list_all}
use Rattle.net_prefix.specs.declared.payload.Vrp.{Vrp}
use Rattle.net_prefix.specs.PayloadSets.{has, out, put}
use Rattle.rtr_codec.specs.declared.intervals.Intervals.{Intervals}
use Rattle.rtr_codec.specs.PduSpelling.{Content, Serial_notify, Serial_query, Reset_query, Cache_response, Announce, Withdraw, Ipv6_prefix, End_of_data, Cache_reset, Router_key, Error_report, length_of, spelling}
use Rattle.vrp_delta.specs.Delta.{lacked}
use Rattle.vrp_delta.specs.Versions.{Version}

-- the payloads of a response: those of the old set that the new one lacks leave, then those that the old one lacked come, each part rising
abbrev pub changes_between : List Vrp → List Vrp → List Content
changes_between old new = map Withdraw (lacked old new) ++ map Announce (lacked new old)

-- a whole response of one version, for a client that has the old set (for a Reset Query the empty one): the Cache Response, the payloads, the End of Data
abbrev pub response : ℕ → Intervals → Version → List Vrp → List Content
response session intervals version old =
    Cache_response session ∷ (changes_between old version.set ++ End_of_data session version.serial intervals ∷ [])

-- the octets of PDUs one after another
abbrev pub spellings : List Content → List ℕ
spellings contents = flat_map spelling contents

-- each PDU has at most 24 octets
abbrev pub are_short : List Content → Bool
are_short contents = list_all (λ content. nat_le (length_of content) 24) contents

-- the set of a client once it has read a PDU
abbrev pub changed : List Vrp → Content → List Vrp
changed set (Announce payload) = put payload set
changed set (Withdraw payload) = out payload set
changed set (Serial_notify session serial) = set
changed set (Serial_query session serial) = set
changed set Reset_query = set
changed set (Cache_response session) = set
changed set (Ipv6_prefix body) = set
changed set (End_of_data session serial intervals) = set
changed set Cache_reset = set
changed set (Router_key body) = set
changed set (Error_report code quoted) = set

-- and PDUs one after another
abbrev pub changed_by : List Vrp → List Content → List Vrp
changed_by set [] = set
changed_by set (content ∷ contents) = changed_by (changed set content) contents

-- the payload that comes isn't in the set of the client, the payload that leaves is (RFC 8210 section 12, codes 7 and 6)
abbrev pub is_change : List Vrp → Content → Bool
is_change set (Announce payload) = not (has set payload)
is_change set (Withdraw payload) = has set payload
is_change set (Serial_notify session serial) = true
is_change set (Serial_query session serial) = true
is_change set Reset_query = true
is_change set (Cache_response session) = true
is_change set (Ipv6_prefix body) = true
is_change set (End_of_data session serial intervals) = true
is_change set Cache_reset = true
is_change set (Router_key body) = true
is_change set (Error_report code quoted) = true

-- and so for PDUs one after another
abbrev pub are_changes : List Vrp → List Content → Bool
are_changes set [] = true
are_changes set (content ∷ contents) = is_change set content && are_changes (changed set content) contents
