-- A speaker, as others see it.
use Rattle.std.specs.Prelude.{◌≡◌, ◌==◌, ◌||◌, not, ℕ, List, Bool, [], Option, Some, None, if◌then◌else◌}
use Rattle.bgp_conf.specs.Configuration.{Configuration}
use Rattle.decision.specs.BookContents.{BookState, offer_at}
use Rattle.decision.specs.declared.candidate.Candidate.{Candidate}
use Rattle.local_exceptions.specs.ExceptionSets.{no_exceptions}
use Rattle.net_prefix.specs.declared.payload.Vrp.{Vrp}
use Rattle.net_prefix.specs.declared.prefix.Prefix.{Prefix}
use Rattle.rib_in.specs.LatestRoutes.{RouteTable, route_at}
use Rattle.rtr_codec.specs.ClientTable.{in_force}
use Rattle.rtr_session.specs.SessionState.{Session as CacheSession, configured}
use Rattle.runs.specs.SlotTimes.{are_lawful, is_retry}
use Rattle.runs.specs.declared.config.Config.{Config}
use Rattle.routing.specs.Linked.{Linked}
use Rattle.routing.specs.Tables.{Tables, payloads_under, tables, link_at}

-- what others see of a speaker: its settings, the moment, the configured tables, the cache session, the payloads that
-- it has loaded, its slots, Adj-RIB-In,
-- the candidates that are kept, Loc-RIB, how often a best route was chosen so far (a count that stays at 2^64 - 1 where it has
-- reached it), and how often before the last step or take that wasn't refused
pub record SpeakerState : Type 0 where
  pub config : Config
  pub moment : ℕ
  pub conf : Configuration
  pub cache : Option CacheSession
  pub payloads : List Vrp
  pub links : List (ℕ × Linked)
  pub adj_in : RouteTable
  pub book : BookState
  pub loc_rib : List (Prefix × Candidate)
  pub chosen : ℕ
  pub chosen_before : ℕ

-- the payloads in force: those that are loaded, under the local exceptions
abbrev pub in_force_of : SpeakerState → List Vrp
in_force_of s = payloads_under s.conf s.payloads

-- what the selection reads
abbrev pub tables_of : SpeakerState → Tables
tables_of s = tables s.conf (in_force_of s) s.links s.adj_in

-- a speaker without peers, before any tick
abbrev pub started : Config → SpeakerState
started config = record {
  config = config;
  moment = 0;
  conf = record { own = config.asn; peers = []; policies = []; networks = []; reach = []; exceptions = no_exceptions };
  cache = if config.cache then Some (configured config.cache_retry) else None;
  payloads = [];
  links = [];
  adj_in = [];
  book = [];
  loc_rib = [];
  chosen = 0;
  chosen_before = 0;
}

-- an AS or an identifier of 0, a timer of some peer that is to run for no time, or a Retry Interval of the cache session that is none
abbrev pub is_out_of_range : Config → Bool
is_out_of_range config = config.asn.0 == 0 || config.identifier == 0 || not (are_lawful config.timers) || not (is_retry config.cache_retry)

-- the payloads that a cache session has loaded; none where there is no session
abbrev pub payloads_in : Option CacheSession → List Vrp
payloads_in None = []
payloads_in (Some session) = in_force session.client

-- nothing that others see has changed: each slot is as it was, and so is all else
pub record IsAsBefore (old new : SpeakerState) : Type 0 where
  pub config : new.config ≡ old.config
  pub moment : new.moment ≡ old.moment
  pub conf : new.conf ≡ old.conf
  pub cache : new.cache ≡ old.cache
  pub payloads : new.payloads ≡ old.payloads
  pub links : (slot : ℕ) → link_at new.links slot ≡ link_at old.links slot
  pub routes : (slot : ℕ) (prefix : Prefix) → route_at new.adj_in slot prefix ≡ route_at old.adj_in slot prefix
  pub offers : (slot : ℕ) (prefix : Prefix) → offer_at new.book slot prefix ≡ offer_at old.book slot prefix
  pub loc_rib : new.loc_rib ≡ old.loc_rib
  pub chosen : new.chosen ≡ old.chosen
  pub chosen_before : new.chosen_before ≡ old.chosen_before
