-- The prefixes that wait for a slot's peer, as the routes stand.
use Rattle.std.specs.Prelude.{ℕ, Bool, List}
use Rattle.std.specs.List.{list_any}
use Rattle.std.specs.Option.{option_map}
use Rattle.bgp_conf.specs.Configuration.{peer_at}
use Rattle.decision.specs.BookContents.{rows_of}
use Rattle.net_prefix.specs.declared.prefix.Prefix.{Prefix}
use Rattle.rib_out.specs.Held.{is_prefix}
use Rattle.routing.specs.Export.{export_peer_of}
use Rattle.routing.specs.RoutesState.{RoutesState}
use Rattle.routing.specs.Tables.{link_at}
use Rattle.routing.specs.Waiting.{waiting_at}

-- the known prefixes that wait of a slot
abbrev pub waiting_for : RoutesState → ℕ → List Prefix
waiting_for s slot = waiting_at s.conf (rows_of s.book) s.adj_in (option_map (export_peer_of s.conf slot) (peer_at s.conf slot)) (link_at s.links slot)

-- whether a prefix is one of them
abbrev pub is_waiting : RoutesState → ℕ → Prefix → Bool
is_waiting s slot prefix = list_any (is_prefix prefix) (waiting_for s slot)
