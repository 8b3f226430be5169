use Rattle.std.proofs.Common.{◌≡◌, ℕ, List, Option, Some, None, cond, refl, sym, ap, ◌∙◌}
use Rattle.std.specs.Option.{option_map}
use Rattle.bgp_conf.specs.declared.refusal.Refusal.TheVariants.{BadSlot}
use Rattle.rtr_codec.specs.ClientTable.{transport_of as client_transport}
use Rattle.rtr_session.specs.SessionHistory as cache
use Rattle.rtr_session.specs.SessionState.{Session as CacheSession}
use Rattle.runs.specs.Agreement.{Agrees, CacheAgrees, tables_after}
use Rattle.runs.specs.FirstRefusal.{cache_transport_after, cache_transport_of, refusal_by, refusal_in, refusal_of, take_refusal_in, take_refusal_of}
use Rattle.runs.specs.Runs.{Run, cache_history, moment_after}
use Rattle.runs.specs.SpeakerState.{SpeakerState, tables_of}
use Rattle.routing.specs.Tables.{link_at}
use Rattle.runs.specs.declared.config.Config.{Config}
use Rattle.runs.specs.declared.event.Event.{Event}
use Rattle.speaker.proofs.Calls.{tables_same}

-- A speaker that agrees with a run refuses as the run says.

-- the transport of the cache session
pub cache_shown : (config : Config) (h : List cache.Event) (found : Option CacheSession) → CacheAgrees config h found
    → option_map (λ session. client_transport session.client) found ≡ cond config.cache (Some (client_transport (cache.client config.cache_retry h))) None
cache_shown config h None agrees = rw agrees.0 refl
cache_shown config h (Some session) agrees = rw agrees.0 (ap (λ c. Some (client_transport c)) agrees.1.client)

-- an event
pub refusal_same : (config : Config) (r : Run) (s : SpeakerState) (event : Event) → Agrees config r s → refusal_of s event ≡ refusal_in config r event
refusal_same config r s event a =
    let tables : tables_after config r ≡ tables_of s = tables_same config r s.conf s.payloads (link_at s.links) s.adj_in (sym a.holds.conf) a.holds.payloads a.holds.slots a.holds.networks in
    ap (λ moment. refusal_by moment (cache_transport_of s) (tables_of s) event) a.holds.moment
    ∙ ap (λ transport. refusal_by (moment_after r) transport (tables_of s) event) (cache_shown config (cache_history r) s.cache a.holds.cache)
    ∙ ap (λ t. refusal_by (moment_after r) (cache_transport_after config r) t event) (sym tables)

-- a take
pub take_refusal_same : (config : Config) (r : Run) (s : SpeakerState) (slot : ℕ) → Agrees config r s → take_refusal_of s slot ≡ take_refusal_in config r slot
take_refusal_same config r s slot a =
    ap (λ b. cond b None (Some BadSlot)) (a.holds.slots slot).there
