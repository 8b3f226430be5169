-- A speaker behind an event that it refused.
use Rattle.std.proofs.Common.{◌≡◌, ◌∙◌, Option, None, Some, MatchOption, Result, Ok, Err, refl, sym, ap, subst}
use Rattle.std.specs.Prelude.{⊤}
use Rattle.std.specs.Option.{option_map}
use Rattle.bgp_attr.specs.PathAttributes.{PathAttributes}
use Rattle.bgp_conf.specs.Configuration.{peer_at}
use Rattle.bgp_conf.specs.declared.refusal.Refusal.{Refusal}
use Rattle.bgp_conf.specs.declared.refusal.Refusal.TheVariants.{NoMemory as Memory}
use Rattle.net_prefix.specs.declared.prefix.Prefix.{Prefix}
use Rattle.routing.proofs.KeptOffers.{kept_same}
use Rattle.routing.specs.Linked.{Linked}
use Rattle.routing.specs.Tables.{link_at, network_route, payloads_under}
use Rattle.runs.proofs.PeerRoutes.{peers_same}
use Rattle.runs.specs.Agreement.{Agrees, CacheAgrees, SlotAgrees}
use Rattle.runs.specs.FirstRefusal.{LacksMemory}
use Rattle.runs.specs.Runs.{Run, cache_history, history}
use Rattle.runs.specs.SpeakerState.{IsAsBefore, SpeakerState, tables_of}
use Rattle.runs.specs.declared.config.Config.{Config}
use Rattle.runs.specs.declared.event.Event.{Event}
use Rattle.runs.specs.declared.event.Report.{Report}

-- a speaker of which nothing that others see has changed agrees with the same runs
pub agrees_as_before : (config : Config) (r : Run) (old new : SpeakerState) → IsAsBefore old new → Agrees config r old → Agrees config r new
agrees_as_before config r old new same a = record {
  holds = record {
    config_is = same.config ∙ a.holds.config_is;
    moment = same.moment ∙ a.holds.moment;
    conf = same.conf ∙ a.holds.conf;
    cache = subst (λ x. CacheAgrees config (cache_history r) x) (sym same.cache) a.holds.cache;
    payloads = same.payloads ∙ a.holds.payloads;
    peers = rw same.conf a.holds.peers;
    slots = λ t.
        let R : (Prefix → Option PathAttributes) → Type 0 = λ x. SlotAgrees config (peer_at old.conf t) (link_at old.links t) x (history config t r) in
        rw (same.conf, same.links t) (subst R (λ i p. sym (peers_same old.adj_in new.adj_in t (same.routes t) p) i) (a.holds.slots t));
    networks = λ p. same.routes 64 p ∙ a.holds.networks p ∙ ap (λ c. network_route c p) (sym same.conf);
    kept = kept_same (tables_of old) (tables_of new) _ _ tables (λ i s p. same.offers s p i) a.holds.kept;
    chosen = rw (same.chosen, same.chosen_before) a.holds.chosen;
  };
  loc_rib = rw same.loc_rib a.loc_rib;
  settled = a.settled;
  thrifty = a.thrifty;
}
  where
    tables : tables_of old ≡ tables_of new
    tables i = record {
      conf = sym same.conf i;
      payloads = payloads_under (sym same.conf i) (sym same.payloads i);
      sessions = λ s. option_map (λ (l : Linked). l.peer.session) (sym (same.links s) i);
      routes = λ s p. sym (same.routes s p) i;
    }

-- what is answered for it
abbrev pub err_of : Refusal → Result Report Refusal
err_of why = Err why

-- a refused event is none
pub takes_nothing : (first : Option Refusal) (event : Event) (why : Refusal) (old new : SpeakerState)
    → MatchOption first ((why ≡ Memory) × LacksMemory event old new) (λ w. (err_of why ≡ err_of w) × (new ≡ old)) → (config : Config) (r : Run) → Agrees config r old → Agrees config r new
takes_nothing None event why old new lacks config r agrees = agrees_as_before config r old new lacks.1.1 agrees
takes_nothing (Some w) event why old new same config r agrees = rw same.1 agrees

abbrev pub ok_of : Report → Result Report Refusal
ok_of report = Ok report

-- an event that is accepted isn't refused
pub unrefused : (first : Option Refusal) (report : Report) (old new : SpeakerState) → MatchOption first ⊤ (λ w. (ok_of report ≡ err_of w) × (new ≡ old)) → first ≡ None
unrefused None report old new accepted = refl
unrefused (Some w) report old new refused = absurd (let is = refused.0 in cc)
