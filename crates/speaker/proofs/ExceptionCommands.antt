use Rattle.std.proofs.Common.{◌≡◌, ◌≢◌, ◌≤◌, ◌⊎◌, ◌∙◌, ℕ, List, [], ◌∷◌, length, Option, Some, None, Result, Ok, Err, is_none, cond, true, inl, inr, refl, sym, ap, subst, arith}
use Rattle.std.specs.Result.{result_ok}
use Rattle.bgp_conf.specs.ConfAfter.{asserted_of, conf_after}
use Rattle.bgp_conf.specs.FirstRefusal.{first_refusal}
use Rattle.bgp_conf.specs.Configuration.{Configuration, peer_at}
use Rattle.bgp_conf.specs.declared.command.Command.{Command}
use Rattle.bgp_conf.specs.declared.command.Command.TheVariants.{Filter, NoFilter, Assert, NoAssert}
use Rattle.bgp_conf.specs.declared.conf.ConfiguredPeer.{ConfiguredPeer}
use Rattle.bgp_conf.specs.declared.refusal.Refusal.{Refusal}
use Rattle.bgp_peer.specs.SessionInputs as happens
use Rattle.decision.specs.BookContents.{offer_at}
use Rattle.local_exceptions.specs.Filters.{filter_of}
use Rattle.net_prefix.specs.declared.asn.Asn.{Asn}
use Rattle.net_prefix.specs.declared.prefix.Prefix.{Prefix}
use Rattle.origin_valid.proofs.Touches.{untouched_states}
use Rattle.origin_valid.specs.Touched.{is_touched}
use Rattle.rib_in.specs.LatestRoutes.{HasRoute, route_at}
use Rattle.routing.proofs.Counting.{different_as}
use Rattle.routing.specs.Chosen.{OncePerPrefix}
use Rattle.routing.specs.Offers.{AreMadeWhere}
use Rattle.routing.specs.Tables.{link_at, network_route, payloads_under, peer_route_at}
use Rattle.runs.specs.Agreement.{AreTaken, CacheAgrees, Holds, SlotAgrees}
use Rattle.runs.specs.Choices.{choices_commanded, choices_excepted, choices_in}
use Rattle.runs.specs.Runs.{Run, turn, Command_call, cache_history, commanded, configuration_of, history, loaded_after, moment_after, opened_commanded, payloads_after}
use Rattle.runs.specs.SpeakerState.{SpeakerState, in_force_of, tables_of}
use Rattle.runs.specs.declared.config.Config.{Config}
use Rattle.speaker.proofs.AllowedChoices.{most_touched}
use Rattle.speaker.proofs.KeptOffers.{kept_touched}
use Rattle.runs.proofs.KnownPrefixes.{IsKnown, known_of}

-- Commands of local exceptions, as the run with them has them.

-- where such a command is accepted, its parts are those of a filter or of a payload
some_accepted : {X : Type 0} (found : Option X) (rest : Option Refusal) → cond (is_none found) (Some Refusal.Range) rest ≡ None → found ≢ None
some_accepted None rest may none = cc
some_accepted (Some x) rest may none = cc

pub filter_accepted : (conf : Configuration) (closing : ℕ) (command : Command) (prefix : Option Prefix) (asn : Option Asn) → (command ≡ Filter prefix asn) ⊎ (command ≡ NoFilter prefix asn) → first_refusal conf closing command ≡ None
    → filter_of prefix asn ≢ None
filter_accepted conf closing command prefix asn (inl is) may = some_accepted (filter_of prefix asn) _ (subst (λ c. first_refusal conf closing c ≡ None) is may)
filter_accepted conf closing command prefix asn (inr is) may = some_accepted (filter_of prefix asn) _ (subst (λ c. first_refusal conf closing c ≡ None) is may)

pub assertion_accepted : (conf : Configuration) (closing : ℕ) (command : Command) (prefix : Prefix) (max_len : ℕ) (asn : Asn) → (command ≡ Assert prefix max_len asn) ⊎ (command ≡ NoAssert prefix max_len asn)
    → first_refusal conf closing command ≡ None → asserted_of prefix max_len asn ≢ None
assertion_accepted conf closing command prefix max_len asn (inl is) may = some_accepted (asserted_of prefix max_len asn) _ (subst (λ c. first_refusal conf closing c ≡ None) is may)
assertion_accepted conf closing command prefix max_len asn (inr is) may = some_accepted (asserted_of prefix max_len asn) _ (subst (λ c. first_refusal conf closing c ≡ None) is may)

pub none_unless_ok : {T F : Type 0} (result : Result T F) → ((given : T) → result ≡ Ok given → ⊥) → result_ok result ≡ None
none_unless_ok (Ok given) never = absurd (never given refl)
none_unless_ok (Err fault) never = refl

-- such a command changes the exceptions alone, and nothing happens to slots
pub record Excepts (config : Config) (r : Run) (conf : Configuration) (command : Command) : Type 0 where
  pub conf_is : conf_after conf command ≡ record conf { exceptions = (conf_after conf command).exceptions }
  pub histories : (s : ℕ) → commanded config s command (history config s r) ≡ history config s r
  pub opened : opened_commanded config r command ≡ 0
  pub choices : choices_commanded config r command ≡ choices_excepted config r command

pub filter_excepts : (config : Config) (r : Run) (conf : Configuration) (command : Command) (prefix : Option Prefix) (asn : Option Asn) → (command ≡ Filter prefix asn) ⊎ (command ≡ NoFilter prefix asn) → Excepts config r conf command
filter_excepts config r conf command prefix asn (inl is) = subst (λ c. Excepts config r conf c) (sym is) (record { conf_is = refl; histories = λ s. refl; opened = refl; choices = refl })
filter_excepts config r conf command prefix asn (inr is) = subst (λ c. Excepts config r conf c) (sym is) (record { conf_is = refl; histories = λ s. refl; opened = refl; choices = refl })

pub assertion_excepts : (config : Config) (r : Run) (conf : Configuration) (command : Command) (prefix : Prefix) (max_len : ℕ) (asn : Asn) → (command ≡ Assert prefix max_len asn) ⊎ (command ≡ NoAssert prefix max_len asn)
    → Excepts config r conf command
assertion_excepts config r conf command prefix max_len asn (inl is) = subst (λ c. Excepts config r conf c) (sym is) (record { conf_is = refl; histories = λ s. refl; opened = refl; choices = refl })
assertion_excepts config r conf command prefix max_len asn (inr is) = subst (λ c. Excepts config r conf c) (sym is) (record { conf_is = refl; histories = λ s. refl; opened = refl; choices = refl })

-- payloads come into force or go, and the routes that this concerns are judged again
pub holds_excepted : (config : Config) (r : Run) (command : Command) (old new : SpeakerState) → Excepts config r old.conf command → Holds config r old → new.conf ≡ conf_after old.conf command
    → new.config ≡ old.config → new.moment ≡ old.moment → new.cache ≡ old.cache → new.payloads ≡ old.payloads → new.links ≡ old.links → new.adj_in ≡ old.adj_in
    → AreMadeWhere (tables_of new) (is_touched (in_force_of old) (in_force_of new)) (offer_at old.book) (offer_at new.book)
    → OncePerPrefix (λ p. (is_touched (in_force_of old) (in_force_of new) p ≡ true) × HasRoute old.adj_in p) old.chosen new.chosen → new.chosen_before ≡ old.chosen
    → Holds config (turn (Command_call command) [] ∷ r) new
holds_excepted config r command old new so h conf config_same moment cache payloads links adj_in made once counted =
    let few : length once.0 ≤ choices_excepted config r command =
    most_touched config r (payloads_after config r) (payloads_under (conf_after (configuration_of config r) command) (loaded_after config r)) once.0 (different_as _ _ once.0 here once.1) in
    let most = once.2 in
    let choices = so.choices in
    record {
      config_is = config_same ∙ h.config_is;
      moment = moment ∙ h.moment;
      conf = conf_now;
      cache = subst (λ x. CacheAgrees config (cache_history r) x) (sym cache) h.cache;
      payloads = payloads ∙ h.payloads;
      peers = subst (λ c. AreTaken config.asn c) (sym only) h.peers;
      slots = λ t. let P : Option ConfiguredPeer → Type 0 = λ x. SlotAgrees config x (link_at old.links t) (peer_route_at old.adj_in t) (history config t r) in
          let H : List happens.Event → Type 0 = λ x. SlotAgrees config (peer_at new.conf t) (link_at old.links t) (peer_route_at old.adj_in t) x in
          rw (links, adj_in) (subst H (sym (so.histories t)) (subst P (sym (ap (λ c. peer_at c t) only)) (h.slots t)));
      networks = λ p. ap (λ table. route_at table 64 p) adj_in ∙ h.networks p ∙ ap (λ c. network_route c p) (sym only);
      kept =
          kept_touched (is_touched (in_force_of old) (in_force_of new)) old new only links adj_in made
          (λ q out origin. untouched_states (in_force_of old) (in_force_of new) q origin out) h.kept;
      chosen = omega (arith, few, most, counted, choices);
    }
  where
    only : new.conf ≡ record old.conf { exceptions = new.conf.exceptions }
    only = conf ∙ so.conf_is ∙ ap (λ (c : Configuration). record old.conf { exceptions = c.exceptions }) (sym conf)

    conf_now : new.conf ≡ conf_after (configuration_of config r) command
    conf_now = conf ∙ ap (λ c. conf_after c command) h.conf

    loaded : new.payloads ≡ loaded_after config r
    loaded = payloads ∙ h.payloads

    was : in_force_of old ≡ payloads_after config r
    was i = payloads_under (h.conf i) (h.payloads i)

    is : in_force_of new ≡ payloads_under (conf_after (configuration_of config r) command) (loaded_after config r)
    is i = payloads_under (conf_now i) (loaded i)

    here : (p : Prefix) → (is_touched (in_force_of old) (in_force_of new) p ≡ true) × HasRoute old.adj_in p
        → (is_touched (payloads_after config r) (payloads_under (conf_after (configuration_of config r) command) (loaded_after config r)) p ≡ true) × IsKnown config r p
    here p both = (
      subst (λ x. is_touched x (payloads_under (conf_after (configuration_of config r) command) (loaded_after config r)) p ≡ true) was (subst (λ x. is_touched (in_force_of old) x p ≡ true) is both.0),
      known_of config (configuration_of config r) (moment_after r) (cache_history r) (λ t. history config t r) (choices_in config r) r old h refl (λ t q. refl) p both.1,
    )
