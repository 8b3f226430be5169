-- What each peer is sent of Loc-RIB (RFC 4271 sections 3.2 and 9.1.3).
use Rattle.std.specs.Prelude.{ℕ, List, Option}
use Rattle.std.specs.Option.{option_and_then}
use Rattle.bgp_conf.specs.Configuration.{peer_at}
use Rattle.net_prefix.specs.declared.prefix.Prefix.{Prefix}
use Rattle.runs.specs.SpeakerState.{SpeakerState}
use Rattle.routing.specs.Tables.{best_at}
use Rattle.routing.specs.Export.{export_peer_of, export_in}

-- the export to the peer of a slot; nothing where it isn't configured
abbrev pub export_to : SpeakerState → ℕ → Prefix → Option (List ℕ)
export_to s slot prefix = option_and_then (λ peer. export_in s.conf (best_at s.loc_rib) s.adj_in (export_peer_of s.conf slot peer) prefix) (peer_at s.conf slot)
