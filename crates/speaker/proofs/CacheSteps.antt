use Rattle.std.proofs.Common.{◌≡◌, ◌≢◌, ◌≤◌, ◌+◌, ◌-◌, ◌++◌, ℕ, Bool, true, false, List, [], ◌∷◌, Option, Some, None, length, take, drop, get_or, refl, sym, ap, ◌∙◌, subst, arith, append-nil, append_assoc}
use Rattle.std.proofs.lemmas.List.{take-append-drop, take_all, take_more}
use Rattle.bgp_conf.specs.Configuration.{Configuration}
use Rattle.bgp_peer.specs.SessionInputs as happens
use Rattle.bgp_peer.specs.SessionInputs.{Ticked}
use Rattle.local_exceptions.specs.ExceptionSets.{ExceptionSets, under}
use Rattle.net_prefix.specs.declared.asn.Asn.{Asn}
use Rattle.net_prefix.specs.declared.payload.Vrp.{Vrp}
use Rattle.net_prefix.specs.declared.prefix.Prefix.{Prefix}
use Rattle.origin_valid.specs.Validity.{validity}
use Rattle.origin_valid.proofs.Touches.{touched_by_change, untouched_states}
use Rattle.origin_valid.specs.Touched.{is_touched}
use Rattle.rib_in.specs.LatestRoutes.{HasRoute, route_at}
use Rattle.decision.specs.BookContents.{offer_at}
use Rattle.net_prefix.specs.declared.transport.Transport.TheVariants.{Open as Connected}
use Rattle.rtr_client.specs.FirstClient.{first_client}
use Rattle.rtr_codec.specs.ClientTable.{Tick, in_force, row, transport_of, Starved as Refuses}
use Rattle.rtr_client.specs.Following.{load_takes}
use Rattle.rtr_session.specs.Agreement.{SessionAgrees, Starves}
use Rattle.rtr_session.specs.SessionHistory as cached
use Rattle.rtr_session.specs.SessionState.{Session as CacheSession, client_after}
use Rattle.rtr_session.proofs.Agreeing.{stood_after}
use Rattle.rtr_session.proofs.ClientRows.{starved_closes}
use Rattle.rtr_session.proofs.SessionLaws.{octets_are_dropped, pieces_join}
use Rattle.runs.specs.AdjRibIn.{route}
use Rattle.runs.specs.Agreement.{Agrees, CacheAgrees, CacheHears, CacheHearsUntil, CacheMayStarve, Holds, HoldsBy}
use Rattle.speaker.specs.CacheMoves.{Revalidates, concerns}
use Rattle.runs.specs.Choices.{choices_cached, choices_cached_on, choices_in, in_force_with}
use Rattle.runs.specs.Runs.{Call, Run, Up_call, Fail_call, Bytes_call, Starved_call, Tick_call, Command_call, Take_call, Cache_up_call, Cache_fail_call, Cache_bytes_call, Cache_starved_call, Cache_take_call, cache_called, cache_history, configuration_of, history, moment_after, moment_called, turn}
use Rattle.runs.specs.SpeakerState.{SpeakerState, in_force_of}
use Rattle.runs.specs.declared.config.Config.{Config}
use Rattle.speaker.proofs.AllowedChoices.{most_touched}
use Rattle.runs.proofs.Coming.{HasCome, Joins}
use Rattle.routing.proofs.Counting.{different_as}
use Rattle.speaker.specs.Ready.{IsReady}
use Rattle.speaker.proofs.KeptOffers.{kept_touched}
use Rattle.runs.proofs.KnownPrefixes.{IsKnown, known_of}
use Rattle.routing.specs.Tables.{network_route, payloads_under}
use Rattle.runs.proofs.Histories.{route_stays}
use Rattle.runs.proofs.Touches.{choices_from, choices_joined, choices_none, choices_octets, choices_twice, untouched}

-- What the events of the cache session make of the speaker, as the run with them has it.

-- a change concerns just what the payloads cover that it makes come into force or go
concerned : (e : ExceptionSets) (before after : List Vrp) (q : Prefix) → concerns e before after q ≡ is_touched (under e before) (under e after) q
concerned e before after q = touched_by_change e before after q

-- no other state changes
pub states_kept : (e : ExceptionSets) (before after : List Vrp) (q : Prefix) → concerns e before after q ≡ false → (origin : Option Asn) → validity (under e after) q origin ≡ validity (under e before) q origin
states_kept e before after q out origin = untouched_states (under e before) (under e after) q origin (sym (concerned e before after q) ∙ out)

pub cache_moves : (config : Config) (conf : Configuration) (now : ℕ) (k1 k2 : List cached.Event) (histories : ℕ → List happens.Event) (most : ℕ) (r : Run) (old new : SpeakerState)
    → HoldsBy config conf now k1 histories most old → Revalidates old new → CacheAgrees config k2 new.cache → new.payloads ≡ in_force (cached.client config.cache_retry k2)
    → ((t : ℕ) (p : Prefix) → route (histories t) p ≡ route (history config t r) p) → conf ≡ configuration_of config r → HoldsBy config conf now k2 histories (most + choices_from config r k1 k2) new
cache_moves config conf now k1 k2 histories most r old new h moves agrees payloads routes same = record {
  config_is = moves.config ∙ h.config_is;
  moment = moves.moment ∙ h.moment;
  conf = moves.conf ∙ h.conf;
  cache = agrees;
  payloads = payloads;
  peers = rw moves.conf h.peers;
  slots = λ t. rw (moves.conf, moves.links, moves.adj_in) (h.slots t);
  networks = λ p. ap (λ table. route_at table 64 p) moves.adj_in ∙ h.networks p ∙ ap (λ c. network_route c p) (sym moves.conf);
  kept =
      kept_touched (concerns old.conf.exceptions old.payloads new.payloads) old new (moves.conf ∙ ap (λ e. record old.conf { exceptions = e }) (sym exceptions)) moves.links moves.adj_in moves.made
      (λ q out origin. ap (λ e. validity (under e new.payloads) q origin) exceptions ∙ states_kept old.conf.exceptions old.payloads new.payloads q out origin) h.kept;
  chosen =
      let few = moves.chosen.2 in
      let so_far = h.chosen in
      let before = moves.chosen_before in
      let touched = most_touched config r (in_force_with config r k1) (in_force_with config r k2) moves.chosen.0 (different_as _ _ moves.chosen.0 here moves.chosen.1) in
      omega (arith, few, so_far, before, touched);
}
  where
    exceptions : new.conf.exceptions ≡ old.conf.exceptions
    exceptions = ap (λ (c : Configuration). c.exceptions) moves.conf

    by : old.conf.exceptions ≡ (configuration_of config r).exceptions
    by = ap (λ (c : Configuration). c.exceptions) (h.conf ∙ same)

    before : under old.conf.exceptions old.payloads ≡ in_force_with config r k1
    before i = under (by i) (h.payloads i)

    after : under old.conf.exceptions new.payloads ≡ in_force_with config r k2
    after i = under (by i) (payloads i)

    here : (p : Prefix) → (concerns old.conf.exceptions old.payloads new.payloads p ≡ true) × HasRoute old.adj_in p → (is_touched (in_force_with config r k1) (in_force_with config r k2) p ≡ true) × IsKnown config r p
    here p both = (
      subst (λ x. is_touched x (in_force_with config r k2) p ≡ true) before (subst (λ x. is_touched (under old.conf.exceptions old.payloads) x p ≡ true) after (sym (concerned old.conf.exceptions old.payloads new.payloads p) ∙ both.0)),
      known_of config conf now k1 histories most r old h same routes p both.1,
    )

-- ---- each event

-- where nothing of the payloads changes
pub revalidates_none : (s new : SpeakerState) → new ≡ record s { cache = new.cache } → Revalidates s new
revalidates_none s new is = record {
  config = ap (λ (x : SpeakerState). x.config) is;
  moment = ap (λ (x : SpeakerState). x.moment) is;
  conf = ap (λ (x : SpeakerState). x.conf) is;
  links = ap (λ (x : SpeakerState). x.links) is;
  adj_in = ap (λ (x : SpeakerState). x.adj_in) is;
  made = record {
    made = λ slot q held. absurd (
        let never = sym (concerned s.conf.exceptions s.payloads new.payloads q) ∙ held in
        let none = ap (λ (x : SpeakerState). is_touched (in_force_of s) (under s.conf.exceptions x.payloads) q) is ∙ untouched (in_force_of s) q in
        cc
        );
    still = λ slot q out. ap (λ (x : SpeakerState). offer_at x.book slot q) is;
  };
  chosen = ([], tt, let same = ap (λ (x : SpeakerState). x.chosen) is in omega (arith, same));
  chosen_before = ap (λ (x : SpeakerState). x.chosen_before) is;
}

-- a call begins
begins : (config : Config) (conf : Configuration) (now : ℕ) (k : List cached.Event) (histories : ℕ → List happens.Event) (most : ℕ) (s : SpeakerState) → HoldsBy config conf now k histories most s → s.chosen ≤ s.chosen_before
    → HoldsBy config conf now k histories 0 s
begins config conf now k histories most s h few = record {
  config_is = h.config_is;
  moment = h.moment;
  conf = h.conf;
  cache = h.cache;
  payloads = h.payloads;
  peers = h.peers;
  slots = h.slots;
  networks = h.networks;
  kept = h.kept;
  chosen = omega (arith, few);
}

-- more may be allowed, and the histories may be written otherwise
allowed : (config : Config) (conf : Configuration) (now : ℕ) (k1 k2 : List cached.Event) (histories : ℕ → List happens.Event) (m1 m2 : ℕ) (s : SpeakerState) → HoldsBy config conf now k1 histories m1 s → k2 ≡ k1 → m1 ≤ m2
    → HoldsBy config conf now k2 histories m2 s
allowed config conf now k1 k2 histories m1 m2 s h same more = record {
  config_is = h.config_is;
  moment = h.moment;
  conf = h.conf;
  cache = subst (λ k. CacheAgrees config k s.cache) (sym same) h.cache;
  payloads = h.payloads ∙ ap (λ k. in_force (cached.client config.cache_retry k)) (sym same);
  peers = h.peers;
  slots = h.slots;
  networks = h.networks;
  kept = h.kept;
  chosen = let so_far = h.chosen in omega (arith, so_far, more);
}

-- the moment of the cache session is that of the run
onto_moment : (octets : List ℕ) (k : List cached.Event) → cached.moment_of (cached.onto octets k) ≡ cached.moment_of k
onto_moment [] k = refl
onto_moment (octet ∷ octets) k = onto_moment octets (cached.Octet octet ∷ k)

called_moment : (call : Call) (k : List cached.Event) → cached.moment_of (cache_called call k) ≡ moment_called call (cached.moment_of k)
called_moment (Up_call slot) k = refl
called_moment (Fail_call slot) k = refl
called_moment (Bytes_call slot octets) k = refl
called_moment (Starved_call slot before octet behind) k = refl
called_moment (Tick_call now) k = refl
called_moment (Command_call command) k = refl
called_moment (Take_call slot octets) k = refl
called_moment Cache_up_call k = refl
called_moment Cache_fail_call k = refl
called_moment (Cache_bytes_call octets) k = onto_moment octets k
called_moment (Cache_starved_call before octet behind) k = onto_moment behind (cached.Refused ∷ cached.onto before k) ∙ onto_moment before k
called_moment (Cache_take_call octets) k = refl

pub cache_moment : (r : Run) → cached.moment_of (cache_history r) ≡ moment_after r
cache_moment [] = refl
cache_moment (now ∷ r) = called_moment now.call (cache_history r) ∙ ap (λ m. moment_called now.call m) (cache_moment r)

-- a session that agrees with a history has the payloads in force that the history has
agreed_payloads : (config : Config) (k : List cached.Event) (found : Option CacheSession) (s : CacheSession) → found ≡ Some s → CacheAgrees config k found → (config.cache ≡ true) × SessionAgrees config.cache_retry k s
agreed_payloads config k found s is agrees = subst (λ x. CacheAgrees config k x) is agrees

pub agreed_session : (config : Config) (k : List cached.Event) (found : Option CacheSession) (s : CacheSession) → found ≡ Some s → CacheAgrees config k found → SessionAgrees config.cache_retry k s
agreed_session config k found s is agrees = (agreed_payloads config k found s is agrees).1

-- what a session becomes
becomes : (config : Config) (k1 k2 : List cached.Event) (old new : Option CacheSession) (s t : CacheSession) → old ≡ Some s → new ≡ Some t → CacheAgrees config k1 old → (SessionAgrees config.cache_retry k1 s → SessionAgrees config.cache_retry k2 t)
    → CacheAgrees config k2 new
becomes config k1 k2 old new s t was is agrees step =
    let before = agreed_payloads config k1 old s was agrees in
    subst (λ x. CacheAgrees config k2 x) (sym is) (before.0, step before.1)

-- an event comes to it: its connection stands or fails, or octets are handed out
pub holds_cached : (config : Config) (r : Run) (call : Call) (s t : CacheSession) (old new : SpeakerState) → Holds config r old → old.chosen ≤ old.chosen_before → old.cache ≡ Some s → new.cache ≡ Some t
    → configuration_of config (turn call [] ∷ r) ≡ configuration_of config r → moment_after (turn call [] ∷ r) ≡ moment_after r → ((slot : ℕ) → history config slot (turn call [] ∷ r) ≡ history config slot r)
    → (SessionAgrees config.cache_retry (cache_history r) s → SessionAgrees config.cache_retry (cache_history (turn call [] ∷ r)) t) → new.payloads ≡ in_force t.client → Revalidates old new
    → choices_from config r (cache_history r) (cache_history (turn call [] ∷ r)) ≤ choices_in config (turn call [] ∷ r) → Holds config (turn call [] ∷ r) new
holds_cached config r call s t old new h few was is conf moment histories step payloads moves most =
    let k2 : List cached.Event = cache_history (turn call [] ∷ r) in
    let agrees = becomes config (cache_history r) k2 old.cache new.cache s t was is h.cache step in
    let now = agreed_payloads config k2 new.cache t is agrees in
    let after = cache_moves config (configuration_of config r) (moment_after r) (cache_history r) k2 (λ slot. history config slot r) 0 r old new
    (begins config (configuration_of config r) (moment_after r) (cache_history r) (λ slot. history config slot r) (choices_in config r) old h few) moves agrees (payloads ∙ ap in_force now.1.client) (λ slot p. refl) refl in
    let P : Configuration → ℕ → (ℕ → List happens.Event) → Type 0 = λ c m hs. HoldsBy config c m k2 hs (choices_in config (turn call [] ∷ r)) new in
    subst (λ c. P c (moment_after (turn call [] ∷ r)) (λ slot. history config slot (turn call [] ∷ r))) (sym conf)
    (subst (λ m. P (configuration_of config r) m (λ slot. history config slot (turn call [] ∷ r))) (sym moment)
    (subst (λ hs. P (configuration_of config r) (moment_after r) hs) (λ i slot. sym (histories slot) i)
    (allowed config (configuration_of config r) (moment_after r) k2 k2 (λ slot. history config slot r) (0 + choices_from config r (cache_history r) k2) (choices_in config (turn call [] ∷ r)) new after refl (omega (arith, most)))))

-- a moment comes to it, behind the moment of each slot
pub holds_cache_ticked : (config : Config) (r : Run) (now : ℕ) (s t : CacheSession) (old new : SpeakerState)
    → HoldsBy config (configuration_of config r) now (cache_history r) (λ slot. Ticked now ∷ history config slot r) 0 old → old.cache ≡ Some s → new.cache ≡ Some t
    → (SessionAgrees config.cache_retry (cache_history r) s → SessionAgrees config.cache_retry (cached.Ticked now ∷ cache_history r) t) → new.payloads ≡ in_force t.client → Revalidates old new
    → HoldsBy config (configuration_of config r) now (cache_history (turn (Tick_call now) [] ∷ r)) (λ slot. Ticked now ∷ history config slot r) (choices_cached config r (cache_history r) (cached.Ticked now)) new
holds_cache_ticked config r now s t old new h was is step payloads moves =
    let k2 : List cached.Event = cached.Ticked now ∷ cache_history r in
    let agrees = becomes config (cache_history r) k2 old.cache new.cache s t was is h.cache step in
    let behind = agreed_payloads config k2 new.cache t is agrees in
    let after = cache_moves config (configuration_of config r) now (cache_history r) k2 (λ slot. Ticked now ∷ history config slot r) 0 r old new h moves agrees (payloads ∙ ap in_force behind.1.client) (λ slot p. route_stays (history config slot r) p) refl in
    allowed config (configuration_of config r) now k2 k2 (λ slot. Ticked now ∷ history config slot r) (0 + choices_from config r (cache_history r) k2) (choices_cached config r (cache_history r) (cached.Ticked now)) new after refl (omega arith)

-- octets come to it, up to the end of a PDU
pub cache_heard : (config : Config) (r : Run) (done piece : List ℕ) (s t : CacheSession) (old new : SpeakerState) → Holds config (turn (Cache_bytes_call done) [] ∷ r) old → old.cache ≡ Some s → new.cache ≡ Some t
    → ((k : List cached.Event) → SessionAgrees config.cache_retry k s → old.moment ≡ cached.moment_of k → SessionAgrees config.cache_retry (cached.onto piece k) t) → new.payloads ≡ in_force t.client → Revalidates old new
    → Holds config (turn (Cache_bytes_call (done ++ piece)) [] ∷ r) new
cache_heard config r done piece s t old new h was is step payloads moves =
    let k : List cached.Event = cache_history r in
    let k1 : List cached.Event = cached.onto done k in
    let k2 : List cached.Event = cached.onto piece k1 in
    let at : old.moment ≡ cached.moment_of k1 = h.moment ∙ sym (cache_moment (turn (Cache_bytes_call done) [] ∷ r)) in
    let agrees = becomes config k1 k2 old.cache new.cache s t was is h.cache (λ a. step k1 a at) in
    let now = agreed_payloads config k2 new.cache t is agrees in
    let after = cache_moves config (configuration_of config r) (moment_after r) k1 k2 (λ slot. history config slot r) (choices_in config (turn (Cache_bytes_call done) [] ∷ r)) r old new h moves agrees (payloads ∙ ap in_force now.1.client) (λ slot p. refl) refl in
    let joined = choices_joined config r done piece k in
    let few = choices_octets config r piece k1 in
    allowed config (configuration_of config r) (moment_after r) k2 (cached.onto (done ++ piece) k) (λ slot. history config slot r)
    (choices_in config (turn (Cache_bytes_call done) [] ∷ r) + choices_from config r k1 k2) (choices_in config (turn (Cache_bytes_call (done ++ piece)) [] ∷ r)) new after (pieces_join done piece k) (omega (arith, joined, few))

-- no octets are nothing that happens
pub cache_nothing : (config : Config) (r : Run) (s : SpeakerState) → Holds config r s → s.chosen ≤ s.chosen_before → Holds config (turn (Cache_bytes_call []) [] ∷ r) s
cache_nothing config r s h few = allowed config (configuration_of config r) (moment_after r) (cache_history r) (cache_history r) (λ slot. history config slot r) 0 (choices_in config (turn (Cache_bytes_call []) [] ∷ r)) s
    (begins config (configuration_of config r) (moment_after r) (cache_history r) (λ slot. history config slot r) (choices_in config r) s h few) refl (omega arith)

-- octets that come to a session whose connection doesn't stand are dropped
pub cache_dropped : (octets : List ℕ) (session : CacheSession) (s : SpeakerState) → s.cache ≡ Some session → transport_of session.client ≢ Connected → CacheHears octets s s
cache_dropped octets session s is shut config r done h =
    let had = agreed_payloads config (cache_history (turn (Cache_bytes_call done) [] ∷ r)) s.cache session is h.cache in
    cache_heard config r done octets session session s s h is is (λ k a at. octets_are_dropped config.cache_retry k session octets shut a) (h.payloads ∙ ap in_force (sym had.1.client)) (revalidates_none s s refl)

-- all of them, however the speaker is written
pub cache_dropped_whole : (octets : List ℕ) (session : CacheSession) (a v s : SpeakerState) → v ≡ s → a ≡ record v { cache = Some session } → v.cache ≡ Some session → transport_of session.client ≢ Connected → CacheHears (take (length octets) octets) s a
cache_dropped_whole octets session a v s same is found shut =
    let kept : a ≡ s = is ∙ ap (λ x. record v { cache = x }) (sym found) ∙ same in
    let whole : take (length octets) octets ≡ octets = take_all (length octets) octets (omega arith) in
    subst (λ x. CacheHears (take (length octets) octets) x a) kept (subst (λ x. CacheHears x a a) (sym whole) (cache_dropped octets session a (ap (λ (x : SpeakerState). x.cache) is) shut))

-- none are nothing
pub cache_start : (s : SpeakerState) → CacheHears [] s s
cache_start s config r done holds = subst (λ x. Holds config (turn (Cache_bytes_call x) [] ∷ r) s) (sym (append-nil done)) holds

pub cache_none : (rest : List ℕ) (s : SpeakerState) → rest ≡ [] → CacheHears rest s s
cache_none rest s none = subst (λ x. CacheHears x s s) (sym none) (cache_start s)

-- octets one after another
pub cache_more : Joins CacheHears
cache_more a b old mid new first later config r done holds = subst (λ x. Holds config (turn (Cache_bytes_call x) [] ∷ r) new) (append_assoc done a b) (later config r (done ++ a) (first config r done holds))

-- memory is refused behind octets that have come
pub cache_until : (octets rest : List ℕ) (first now new : SpeakerState) → HasCome CacheHears octets rest first now → CacheHearsUntil rest now new → CacheHearsUntil octets first new
cache_until octets rest first now new h until config r done holds =
    let last = until config r (done ++ h.done) (h.heard config r done holds) in
    (last.0, last.1, last.2, ap (λ x. done ++ x) (sym h.whole) ∙ sym (append_assoc done h.done rest) ∙ last.3, last.4, last.5)

-- ---- memory is refused

-- a session to which memory was refused has closed
refused_shut : (config : Config) (k : List cached.Event) (t : CacheSession) → SessionAgrees config.cache_retry (cached.Refused ∷ k) t → transport_of t.client ≢ Connected
refused_shut config k t a stands = starved_closes (cached.moment_of k) (cached.client config.cache_retry k) (stood_after (cached.moment_of k) Refuses (cached.waiting (cached.course config.cache_retry k)) (cached.client config.cache_retry k) (ap transport_of (sym a.client) ∙ stands))

-- the last of the first octets, so many of them, stands between the others and those behind
last_of : (octets : List ℕ) (count : ℕ) → 1 ≤ count → count ≤ length octets → octets ≡ take (count - 1) octets ++ get_or octets (count - 1) 0 ∷ drop count octets
last_of octets count some within =
    let last : take count octets ≡ take (count - 1) octets ++ get_or octets (count - 1) 0 ∷ [] =
    subst (λ (n : ℕ). take n octets ≡ take (count - 1) octets ++ get_or octets (count - 1) 0 ∷ []) (let e : count - 1 + 1 ≡ count = omega arith in e) (take_more octets (count - 1) 0 (omega arith)) in
    sym (take-append-drop count octets) ∙ ap (λ x. x ++ drop count octets) last ∙ append_assoc (take (count - 1) octets) (get_or octets (count - 1) 0 ∷ []) (drop count octets)

-- what octets up to it allow
starved_choices : (config : Config) (r : Run) (done piece behind : List ℕ) (k : List cached.Event) → in_force (cached.client config.cache_retry (cached.onto behind (cached.Refused ∷ cached.onto piece (cached.onto done k)))) ≡ in_force (cached.client config.cache_retry (cached.Refused ∷ cached.onto piece (cached.onto done k)))
    → choices_cached_on config r done k + choices_from config r (cached.onto done k) (cached.onto behind (cached.Refused ∷ cached.onto piece (cached.onto done k)))
    ≤ choices_cached_on config r (done ++ piece) k + choices_cached config r (cached.onto piece (cached.onto done k)) cached.Refused
starved_choices config r done piece behind k same =
    let k1 : List cached.Event = cached.onto done k in
    let k2 : List cached.Event = cached.onto piece k1 in
    let joined = choices_joined config r done piece k in
    let few = choices_octets config r piece k1 in
    let first = choices_twice config r k1 k2 (cached.onto behind (cached.Refused ∷ k2)) in
    let later = choices_twice config r k2 (cached.Refused ∷ k2) (cached.onto behind (cached.Refused ∷ k2)) in
    let none = choices_none config r (cached.Refused ∷ k2) (cached.onto behind (cached.Refused ∷ k2)) (ap (λ x. payloads_under (configuration_of config r) x) same) in
    omega (arith, joined, few, first, later, none)

-- octets come to it up to one that completes a PDU to which memory is refused
pub cache_starves : (config : Config) (r : Run) (done octets : List ℕ) (count : ℕ) (s t : CacheSession) (old new : SpeakerState) → Holds config (turn (Cache_bytes_call done) [] ∷ r) old → old.cache ≡ Some s → new.cache ≡ Some t
    → count ≤ length octets → ((k : List cached.Event) → SessionAgrees config.cache_retry k s → old.moment ≡ cached.moment_of k → Starves config.cache_retry k octets count t) → new.payloads ≡ in_force t.client → Revalidates old new
    → (before : List ℕ) × (octet : ℕ) × (behind : List ℕ) × (done ++ octets ≡ before ++ octet ∷ behind)
    × CacheMayStarve config (cached.onto before (cache_history r)) octet × Holds config (turn (Cache_starved_call before octet behind) [] ∷ r) new
cache_starves config r done octets count s t old new h was is within starves payloads moves =
    let k : List cached.Event = cache_history r in
    let k1 : List cached.Event = cached.onto done k in
    let piece : List ℕ = take (count - 1) octets in
    let behind : List ℕ = drop count octets in
    let octet : ℕ = get_or octets (count - 1) 0 in
    let at : old.moment ≡ cached.moment_of k1 = h.moment ∙ sym (cache_moment (turn (Cache_bytes_call done) [] ∷ r)) in
    let had = agreed_payloads config k1 old.cache s was h.cache in
    let w = starves k1 had.1 at in
    let k2 : List cached.Event = cached.onto piece k1 in
    let k3 : List cached.Event = cached.onto behind (cached.Refused ∷ k2) in
    let shut = refused_shut config k2 t w.agrees in
    let closed : SessionAgrees config.cache_retry k3 t = octets_are_dropped config.cache_retry (cached.Refused ∷ k2) t behind shut w.agrees in
    let agrees : CacheAgrees config k3 new.cache = subst (λ x. CacheAgrees config k3 x) (sym is) (had.0, closed) in
    let same : in_force (cached.client config.cache_retry k3) ≡ in_force (cached.client config.cache_retry (cached.Refused ∷ k2)) = ap in_force (sym closed.client ∙ w.agrees.client) in
    let after = cache_moves config (configuration_of config r) (moment_after r) k1 k3 (λ slot. history config slot r) (choices_in config (turn (Cache_bytes_call done) [] ∷ r)) r old new h moves agrees (payloads ∙ ap in_force closed.client) (λ slot p. refl) refl in
    let few = starved_choices config r done piece behind k same in
    let join : cached.onto (done ++ piece) k ≡ k2 = pieces_join done piece k in
    let few_joined : choices_cached_on config r done k + choices_from config r k1 k3 ≤ choices_cached_on config r (done ++ piece) k + choices_cached config r (cached.onto (done ++ piece) k) cached.Refused =
    subst (λ x. choices_cached_on config r done k + choices_from config r k1 k3 ≤ choices_cached_on config r (done ++ piece) k + choices_cached config r x cached.Refused) (sym join) few in (
      done ++ piece,
      octet,
      behind,
      ap (λ x. done ++ x) (last_of octets count w.some within) ∙ sym (append_assoc done piece (octet ∷ behind)),
      record {
        content = w.content;
        octets = w.whole;
        completes = ap (λ x. cached.item_at config.cache_retry x octet) join ∙ w.item;
        takes = ap (λ x. load_takes (cached.client config.cache_retry x) w.content) join ∙ w.takes;
      },
      allowed config (configuration_of config r) (moment_after r) k3 (cached.onto behind (cached.Refused ∷ cached.onto (done ++ piece) k)) (λ slot. history config slot r)
          (choices_in config (turn (Cache_bytes_call done) [] ∷ r) + choices_from config r k1 k3) (choices_in config (turn (Cache_starved_call (done ++ piece) octet behind) [] ∷ r)) new after
          (ap (λ x. cached.onto behind (cached.Refused ∷ x)) join) (omega (arith, few_joined)),
    )

-- ---- octets are handed out

-- all else stays
agrees_handed : (config : Config) (r : Run) (octets : List ℕ) (cache : Option CacheSession) (old new : SpeakerState) → Agrees config r old → CacheAgrees config (cached.Handed octets ∷ cache_history r) cache
    → new ≡ record old { cache = cache } → Agrees config (turn (Cache_take_call octets) [] ∷ r) new
agrees_handed config r octets cache old new a agrees is = subst (λ x. Agrees config (turn (Cache_take_call octets) [] ∷ r) x) (sym is) (record {
  holds = record {
    config_is = a.holds.config_is;
    moment = a.holds.moment;
    conf = a.holds.conf;
    cache = agrees;
    payloads = a.holds.payloads;
    peers = a.holds.peers;
    slots = a.holds.slots;
    networks = a.holds.networks;
    kept = a.holds.kept;
    chosen = let few = a.holds.chosen in omega (arith, few);
  };
  loc_rib = a.loc_rib;
  settled = a.settled;
  thrifty = (tt, tt, a.thrifty);
})

pub agrees_taken : (config : Config) (r : Run) (octets : List ℕ) (s t : CacheSession) (old new : SpeakerState) → Agrees config r old → old.cache ≡ Some s → (SessionAgrees config.cache_retry (cache_history r) s → SessionAgrees config.cache_retry (cached.Handed octets ∷ cache_history r) t)
    → new ≡ record old { cache = Some t } → Agrees config (turn (Cache_take_call octets) [] ∷ r) new
agrees_taken config r octets s t old new a was step is =
    let had = agreed_payloads config (cache_history r) old.cache s was a.holds.cache in
    agrees_handed config r octets (Some t) old new a (had.0, step had.1) is

-- where there is no session there is nothing to hand out
pub agrees_none : (config : Config) (r : Run) (octets : List ℕ) (old new : SpeakerState) → Agrees config r old → old.cache ≡ None → new ≡ old → Agrees config (turn (Cache_take_call octets) [] ∷ r) new
agrees_none config r octets old new a was is = agrees_handed config r octets None old new a (subst (λ x. CacheAgrees config (cache_history r) x) was a.holds.cache) (is ∙ ap (λ x. record old { cache = x }) was)

-- ---- where there is no cache session

-- a moment leaves a client to which nothing has happened
still_first : (retry now : ℕ) (ring : List ℕ) → client_after now Tick ring (first_client retry) ≡ first_client retry
unfolding row
still_first retry now ring = refl

opens_nothing : (retry now : ℕ) → (row now (first_client retry) Tick).opened ≡ false
unfolding row
opens_nothing retry now = refl

none_opens : (config : Config) (now : ℕ) (k : List cached.Event) → CacheAgrees config k None → cached.opens_at config.cache_retry now k ≡ false
none_opens config now k a = ap (λ c. (row now c Tick).opened) a.1 ∙ opens_nothing config.cache_retry now

none_ticked : (config : Config) (now : ℕ) (k : List cached.Event) → CacheAgrees config k None → CacheAgrees config (cached.Ticked now ∷ k) None
none_ticked config now k a = (a.0, ap (client_after now Tick (cached.waiting (cached.course config.cache_retry k))) a.1 ∙ still_first config.cache_retry now (cached.waiting (cached.course config.cache_retry k)))

pub none_from_not : (found : Option CacheSession) → ((s : CacheSession) → found ≡ Some s → ⊥) → found ≡ None
none_from_not None never = refl
none_from_not (Some s) never = absurd (never s refl)

pub holds_none_ticked : (config : Config) (r : Run) (now : ℕ) (opened : Bool) (s : SpeakerState) → HoldsBy config (configuration_of config r) now (cache_history r) (λ slot. Ticked now ∷ history config slot r) 0 s → s.cache ≡ None → opened ≡ false
    → HoldsBy config (configuration_of config r) now (cache_history (turn (Tick_call now) [] ∷ r)) (λ slot. Ticked now ∷ history config slot r) (choices_cached config r (cache_history r) (cached.Ticked now)) s
    × (opened ≡ cached.opens_at config.cache_retry now (cache_history r))
holds_none_ticked config r now opened s h none is =
    let k : List cached.Event = cache_history r in
    let had = subst (λ x. CacheAgrees config k x) none h.cache in
    let has = none_ticked config now k had in (
      record {
        config_is = h.config_is;
        moment = h.moment;
        conf = h.conf;
        cache = subst (λ x. CacheAgrees config (cached.Ticked now ∷ k) x) (sym none) has;
        payloads = h.payloads ∙ ap in_force (had.1 ∙ sym has.1);
        peers = h.peers;
        slots = h.slots;
        networks = h.networks;
        kept = h.kept;
        chosen = let so_far = h.chosen in omega (arith, so_far);
      },
      is ∙ sym (none_opens config now k had),
    )

-- ---- octets that have come

pub ready_cached : (config : Config) (r : Run) (octets : List ℕ) (starved : Bool) (old new : SpeakerState) → (starved ≡ false → CacheHears octets old new) → (starved ≡ true → CacheHearsUntil octets old new) → Holds config r old → old.chosen ≤ old.chosen_before
    → IsReady config r (Cache_bytes_call octets) (record { opened = 0; starved = 0; cache_opened = false; cache_starved = starved }) new
ready_cached config r octets false old new heard until holds few = record {
  call = Cache_bytes_call octets;
  asked_is = refl;
  opened_is = refl;
  starved_is = refl;
  cache_opened_is = refl;
  cache_starved_is = refl;
  fair = tt;
  holds = heard refl config r [] (cache_nothing config r old holds few);
}
ready_cached config r octets true old new heard until holds few =
    let found = until refl config r [] (cache_nothing config r old holds few) in
    record {
      call = Cache_starved_call found.0 found.1 found.2;
      asked_is = ap Cache_bytes_call (sym found.3);
      opened_is = refl;
      starved_is = refl;
      cache_opened_is = refl;
      cache_starved_is = refl;
      fair = found.4;
      holds = found.5;
    }
