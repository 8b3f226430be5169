use Rattle.std.proofs.Common.{◌≡◌, ◌≢◌, ◌≤◌, ◌<◌, ◌+◌, ◌==◌, ◌&&◌, ◌⊎◌, ◌^◌, inl, inr, ℕ, Bool, true, false, List, [], ◌∷◌, ◌++◌, Option, Some, None, length, take, min, cond, refl, sym, ap, ◌∙◌, subst, arith, append-nil, append_assoc}
use Rattle.std.proofs.lemmas.Bool.{cases_eq, eq-eqb, ne_eqb, lt-ltb, le-ltb}
use Rattle.std.proofs.lemmas.List.{length-take}
use Rattle.std.specs.Option.{IsSome, option_and_then}
use Rattle.bgp_attr.specs.PathAttributes.{PathAttributes}
use Rattle.bgp_conf.specs.Configuration.{Configuration, peer_at}
use Rattle.bgp_conf.specs.declared.command.Command.{Command}
use Rattle.bgp_conf.specs.declared.conf.ConfiguredPeer.{ConfiguredPeer}
use Rattle.bgp_fsm.proofs.TableLaws.{no_memory_closes}
use Rattle.bgp_fsm.specs.SessionTable.{effects_of}
use Rattle.bgp_fsm.specs.declared.input.Input.TheVariants.{NoMemory}
use Rattle.bgp_fsm.specs.declared.session.Session.{Session}
use Rattle.bgp_fsm.specs.Transports.{transport_of}
use Rattle.bgp_msg.specs.MessageStream.{Item, Wants, WholeMessage, meaning, needed_of}
use Rattle.bgp_msg.specs.UpdateMeaning.{UpdateBody, update_fault}
use Rattle.bgp_msg.specs.declared.frame.MessageType.TheVariants.{Update}
use Rattle.bgp_peer.specs.Agreement.{holding}
use Rattle.bgp_peer.specs.SessionInputs as happens
use Rattle.bgp_peer.specs.SessionInputs.{Octet, Signalled, Terms, Ticked, onto, session, input_of, item_at, kind_of, moment_of, terms_from, terms_of}
use Rattle.bgp_peer.specs.Slot.{Slot, pushed}
use Rattle.bgp_peer.proofs.Agreeing.{agrees-tick, item_of_rest, onto-append}
use Rattle.bgp_peer.proofs.Receiving.{HasHeard, Hears as HeardItem, wants-agreed}
use Rattle.net_prefix.specs.declared.prefix.Prefix.{Prefix}
use Rattle.net_prefix.specs.declared.transport.Transport.{Transport}
use Rattle.net_prefix.specs.declared.transport.Transport.TheVariants.{None as NoConnection, Opening, Listening, Open as Connected, Closing}
use Rattle.rib_in.specs.LatestRoutes.{route_at}
use Rattle.routing.specs.Updates.{NeedsMemory, is_among, sound_update, word_if}
use Rattle.routing.specs.Heard.{TakesMemoryAt, update_heard}
use Rattle.runs.specs.AdjRibIn.{brought, route}
use Rattle.runs.specs.Agreement.{Agrees, Hears, HearsUntil, CacheAgrees, HoldsBy, IsFair, IsThrifty, MayStarve, SlotAgrees, Holds}
use Rattle.runs.proofs.SlotStates.{SlotIs, slot_agrees, slot_from, linked_from}
use Rattle.routing.specs.Chosen.{named_if, AreDifferent, Ends}
use Rattle.runs.specs.Choices.{choices_by, choices_in, choices_on, routes_held}
use Rattle.routing.specs.Linked.{Linked, moved, taken_on, taken_of}
use Rattle.speaker.specs.Ready.{IsReady, is_command}
use Rattle.speaker.specs.Moves.{KeepsKept, KeepsRest, IsPut, Moves, Pushes, TakesItem}
use Rattle.runs.specs.Queueing.{Queue, starved_in}
use Rattle.runs.specs.declared.event.Event.{Event}
use Rattle.runs.specs.declared.event.Event.TheVariants.{Up, Fail, Bytes, Tick, Command as Commanded, CacheUp, CacheFail, CacheBytes}
use Rattle.runs.specs.declared.event.Report.{Report}
use Rattle.std.specs.Int.Bits.{bit_or}
use Rattle.runs.specs.Runs.{Call, Run, Turn, cache_history, report_of, turn, asked, Bytes_call, Starved_call, configuration_of, history, moment_after, terms_in}
use Rattle.rtr_codec.specs.ClientTable.{in_force}
use Rattle.rtr_session.specs.SessionHistory as cached
use Rattle.runs.specs.SpeakerState.{SpeakerState}
use Rattle.routing.specs.Tables.{network_route, link_at, peer_route_at}
use Rattle.runs.specs.declared.config.Config.{Config}
use Rattle.speaker.proofs.AllowedChoices.{choices_append, choices_last, item_few, most_routes}
use Rattle.speaker.proofs.Calls.{slots_changed}
use Rattle.runs.proofs.Coming.{HasCome, Joins}
use Rattle.routing.proofs.Counting.{different_as}
use Rattle.runs.proofs.Histories.{route_stays}
use Rattle.speaker.proofs.KeptOffers.{moves_keep, pushes_keep}
use Rattle.speaker.proofs.Messages.{rest_kept}
use Rattle.runs.proofs.Moments.{moment_same, onto_stays}
use Rattle.runs.proofs.Refreshing.{asked_stays}
use Rattle.runs.proofs.SlotEvents.{with_peer}
use Rattle.runs.proofs.SlotOctets.{agrees_dropped, slot_pushed, slot_signalled, slot_taken, slot_shut, WithRest}
use Rattle.runs.proofs.PeerRoutes.{agrees_peers, is_routes, not_local}

-- What each event makes of the speaker, as the run with it has it.

-- one slot of the speaker changes
pub put_agrees : (config : Config) (c1 c2 : Configuration) (now1 now2 : ℕ) (k1 k2 : List cached.Event) (h1 h2 : ℕ → List happens.Event) (m1 m2 : ℕ) (slot : ℕ) (l : Linked) (old new : SpeakerState) → HoldsBy config c1 now1 k1 h1 m1 old → c2 ≡ c1 → now2 ≡ now1 → k2 ≡ k1
    → KeepsKept old new → KeepsRest old new → IsPut slot l old new → ((t : ℕ) → t ≢ slot → (p : Prefix) → route_at new.adj_in t p ≡ route_at old.adj_in t p)
    → ((t : ℕ) → t ≢ slot → h2 t ≡ h1 t) → new.chosen ≤ new.chosen_before + m2
    → slot < 64 → SlotAgrees config (peer_at old.conf slot) (Some l) (route_at new.adj_in slot) (h2 slot) → HoldsBy config c2 now2 k2 h2 m2 new
put_agrees config c1 c2 now1 now2 k1 k2 h1 h2 m1 m2 slot l old new h conf moment cache kept keeps put routes histories few low here = record {
  config_is = keeps.config ∙ h.config_is;
  moment = keeps.moment ∙ h.moment ∙ sym moment;
  conf = keeps.conf ∙ h.conf ∙ sym conf;
  cache = subst (λ x. CacheAgrees config x new.cache) (sym cache) (subst (λ x. CacheAgrees config k1 x) (sym keeps.cache) h.cache);
  payloads = keeps.payloads ∙ h.payloads ∙ ap (λ x. in_force (cached.client config.cache_retry x)) (sym cache);
  peers = rw keeps.conf h.peers;
  slots =
      slots_changed config old.conf new.conf (link_at old.links) (link_at new.links) old.adj_in new.adj_in h1 h2 slot h.slots
      (λ t other. ap (λ c. peer_at c t) keeps.conf)
      (λ t other. put t ∙ off t other)
      routes histories
      (rw (keeps.conf, put slot, eq-eqb slot slot refl) (agrees_peers config (peer_at old.conf slot) (Some l) new.adj_in slot (h2 slot) low here));
  networks = λ p. routes 64 (λ is. not_local slot low (sym is)) p ∙ h.networks p ∙ ap (λ c. network_route c p) (sym keeps.conf);
  kept = kept h.kept;
  chosen = few;
}
  where
    off : (t : ℕ) → t ≢ slot → cond (t == slot) (Some l) (link_at old.links t) ≡ link_at old.links t
    off t other = rw (ne_eqb t slot other) refl

pub put_by : (config : Config) (c1 c2 : Configuration) (now1 now2 : ℕ) (k1 k2 : List cached.Event) (h1 h2 : ℕ → List happens.Event) (m1 m2 : ℕ) (slot : ℕ) (l : Linked) (old new : SpeakerState) → HoldsBy config c1 now1 k1 h1 m1 old → c2 ≡ c1 → now2 ≡ now1 → k2 ≡ k1
    → KeepsKept old new → KeepsRest old new → IsPut slot l old new → ((t : ℕ) → t ≢ slot → (p : Prefix) → route_at new.adj_in t p ≡ route_at old.adj_in t p)
    → ((t : ℕ) → t ≢ slot → h2 t ≡ h1 t) → new.chosen ≤ new.chosen_before + m2
    → (peer : ConfiguredPeer) → peer_at old.conf slot ≡ Some peer → SlotIs config peer l (route_at new.adj_in slot) (h2 slot) → HoldsBy config c2 now2 k2 h2 m2 new
put_by config c1 c2 now1 now2 k1 k2 h1 h2 m1 m2 slot l old new h conf moment cache kept keeps put routes histories few peer configured here =
    put_agrees config c1 c2 now1 now2 k1 k2 h1 h2 m1 m2 slot l old new h conf moment cache kept keeps put routes histories few (h.peers.1 slot peer configured).within
    (subst (λ found. SlotAgrees config found (Some l) (route_at new.adj_in slot) (h2 slot)) (sym configured) (slot_agrees config peer l (route_at new.adj_in slot) (h2 slot) here))

pub holds_put : (config : Config) (r1 r2 : Run) (slot : ℕ) (l : Linked) (old new : SpeakerState) → Holds config r1 old → configuration_of config r2 ≡ configuration_of config r1 → moment_after r2 ≡ moment_after r1 → cache_history r2 ≡ cache_history r1
    → KeepsKept old new → KeepsRest old new → IsPut slot l old new → ((t : ℕ) → t ≢ slot → (p : Prefix) → route_at new.adj_in t p ≡ route_at old.adj_in t p)
    → ((t : ℕ) → t ≢ slot → history config t r2 ≡ history config t r1) → new.chosen ≤ new.chosen_before + choices_in config r2
    → (peer : ConfiguredPeer) → peer_at old.conf slot ≡ Some peer → SlotIs config peer l (route_at new.adj_in slot) (history config slot r2) → Holds config r2 new
holds_put config r1 r2 slot l old new h conf moment cache kept keeps put routes histories few peer configured here =
    put_by config (configuration_of config r1) (configuration_of config r2) (moment_after r1) (moment_after r2) (cache_history r1) (cache_history r2) (λ t. history config t r1) (λ t. history config t r2) (choices_in config r1) (choices_in config r2) slot l old new
    h conf moment cache kept keeps put routes histories few peer configured here

-- a call begins: what was chosen so far was chosen in the calls before
abbrev pub begun : SpeakerState → SpeakerState
begun s = record s { chosen_before = s.chosen }

pub holds_begun : (config : Config) (r : Run) (s : SpeakerState) → Holds config r s → Holds config r (begun s)
holds_begun config r s h = record {
  config_is = h.config_is;
  moment = h.moment;
  conf = h.conf;
  cache = h.cache;
  payloads = h.payloads;
  peers = h.peers;
  slots = h.slots;
  networks = h.networks;
  kept = h.kept;
  chosen = omega arith;
}

-- a configured slot is there
pub slot_of : (config : Config) (r : Run) (slot : ℕ) (peer : ConfiguredPeer) (s : SpeakerState) → Holds config r s → peer_at s.conf slot ≡ Some peer
    → (l : Linked) × (link_at s.links slot ≡ Some l)
slot_of config r slot peer s h configured = linked_from config (peer_at s.conf slot) peer (link_at s.links slot) (peer_route_at s.adj_in slot) (history config slot r) configured (h.slots slot)

pub slot_now : (config : Config) (conf : Configuration) (now : ℕ) (k : List cached.Event) (hs : ℕ → List happens.Event) (most : ℕ) (slot : ℕ) (peer : ConfiguredPeer) (l : Linked) (s : SpeakerState) → HoldsBy config conf now k hs most s
    → peer_at s.conf slot ≡ Some peer → link_at s.links slot ≡ Some l → SlotIs config peer l (route_at s.adj_in slot) (hs slot)
slot_now config conf now k hs most slot peer l s h configured linked =
    is_routes config peer l s.adj_in slot (hs slot) (h.peers.1 slot peer configured).within
    (slot_from config (peer_at s.conf slot) peer (link_at s.links slot) l (peer_route_at s.adj_in slot) (hs slot) configured linked (h.slots slot))

pub slot_is : (config : Config) (r : Run) (slot : ℕ) (peer : ConfiguredPeer) (l : Linked) (s : SpeakerState) → Holds config r s → peer_at s.conf slot ≡ Some peer → link_at s.links slot ≡ Some l
    → SlotIs config peer l (route_at s.adj_in slot) (history config slot r)
slot_is config r slot peer l s h configured linked =
    slot_now config (configuration_of config r) (moment_after r) (cache_history r) (λ t. history config t r) (choices_in config r) slot peer l s h configured linked

-- octets

bytes_at : (config : Config) (slot : ℕ) (octets : List ℕ) (r : Run) → history config slot (turn (Bytes_call slot octets) [] ∷ r) ≡ onto octets (history config slot r)
bytes_at config slot octets r = rw (eq-eqb slot slot refl) refl

bytes_off : (config : Config) (slot : ℕ) (octets : List ℕ) (r : Run) (t : ℕ) → t ≢ slot → history config t (turn (Bytes_call slot octets) [] ∷ r) ≡ history config t r
bytes_off config slot octets r t other = rw (ne_eqb t slot other) refl

-- what is wanted
wants_needs : (octets : List ℕ) → Wants octets → 0 < needed_of octets
wants_needs octets (inl short) = rw (lt-ltb (length octets) 19 short) (omega (arith, short))
wants_needs octets (inr h) = rw (le-ltb (length octets) 19 h.0, h.1) (omega (arith, h.2))

taken_connected : (t : Transport) (rest octets : List ℕ) → taken_on t rest octets ≢ 0 → t ≡ Connected
taken_connected NoConnection rest octets some = absurd (some refl)
taken_connected Opening rest octets some = absurd (some refl)
taken_connected Listening rest octets some = absurd (some refl)
taken_connected Connected rest octets some = refl
taken_connected Closing rest octets some = absurd (some refl)

taken_few : (t : Transport) (rest octets : List ℕ) → taken_on t rest octets ≤ needed_of rest
taken_few NoConnection rest octets = omega arith
taken_few Opening rest octets = omega arith
taken_few Listening rest octets = omega arith
taken_few Connected rest octets = omega arith
taken_few Closing rest octets = omega arith

few_octets : (p : Slot) (octets : List ℕ) (count : ℕ) → count ≡ taken_of p octets → length (take count octets) ≤ needed_of p.rest
few_octets p octets count is = omega (arith, length-take count octets, is, taken_few (transport_of p.session) p.rest octets)

same_routes : (config : Config) (peer : ConfiguredPeer) (l : Linked) (r r2 : Prefix → Option PathAttributes) (h : List happens.Event) → SlotIs config peer l r h → ((p : Prefix) → r2 p ≡ r p) → SlotIs config peer l r2 h
same_routes config peer l r r2 h s same = record { terms = s.terms; link = s.link; routes_are = λ p. same p ∙ s.routes_are p }

cond_again : (b : Bool) (x y z : Option Linked) → cond b x (cond b y z) ≡ cond b x z
cond_again true x y z = refl
cond_again false x y z = refl

left_off : (left : Bool) (r : Option PathAttributes) → cond (left && false) None r ≡ r
left_off true r = refl
left_off false r = refl

left_on : (left : Bool) (r : Option PathAttributes) → cond (left && true) None r ≡ cond left None r
left_on true r = refl
left_on false r = refl

-- the octets and the item that they complete are taken
takes_found : (config : Config) (r1 r2 : Run) (slot : ℕ) (peer : ConfiguredPeer) (l : Linked) (found : Option Item) (old mid new : SpeakerState) → meaning l.peer.rest ≡ found
    → Holds config r1 old → configuration_of config r2 ≡ configuration_of config r1 → moment_after r2 ≡ moment_after r1 → cache_history r2 ≡ cache_history r1 → ((t : ℕ) → t ≢ slot → history config t r2 ≡ history config t r1) → peer_at old.conf slot ≡ Some peer
    → KeepsKept old mid → KeepsRest old mid → IsPut slot l old mid → mid.adj_in ≡ old.adj_in
    → transport_of l.peer.session ≡ Connected → HasHeard (λ x rest. WithRest config peer l (route_at old.adj_in slot) x rest) (history config slot r2) l.peer.rest
    → TakesItem slot (terms_in config peer) l found mid new → new.chosen ≤ new.chosen_before + choices_in config r2 → Holds config r2 new
takes_found config r1 r2 slot peer l None old mid new is h conf moment cache histories configured kept keeps put routes connected heard takes few =
    let same : (t : ℕ) (p : Prefix) → route_at new.adj_in t p ≡ route_at old.adj_in t p = λ t p. takes.1 t p ∙ ap (λ table. route_at table t p) routes in
    holds_put config r1 r2 slot l old new h conf moment cache (λ before. takes.2 (kept before)) (rest_kept old mid new keeps takes.3) (λ s. takes.0 s ∙ put s) (λ t other p. same t p) histories few
    peer configured (same_routes config peer l (route_at old.adj_in slot) (route_at new.adj_in slot) (history config slot r2) (heard.0 is) (same slot))
takes_found config r1 r2 slot peer l (Some item) old mid new is h conf moment cache histories configured kept keeps put routes connected heard takes few =
    let now : moment_of (history config slot r2) ≡ mid.moment = moment_same config r2 slot ∙ moment ∙ sym h.moment ∙ sym keeps.moment in
    let P : ℕ → Type 0 = λ at. SlotIs config peer (moved at l (input_of l.peer.session.state (terms_in config peer) item)) (route_at new.adj_in slot) (history config slot r2) in
    holds_put config r1 r2 slot (moved mid.moment l (input_of l.peer.session.state (terms_in config peer) item)) old new h conf moment cache (λ before. takes.2 (kept before)) (rest_kept old mid new keeps takes.3)
    (λ s. takes.0 s ∙ ap (λ other. cond (s == slot) (Some (moved mid.moment l (input_of l.peer.session.state (terms_in config peer) item))) other) (put s)
    ∙ cond_again (s == slot) (Some (moved mid.moment l (input_of l.peer.session.state (terms_in config peer) item))) (Some l) (link_at old.links s))
    (λ t other p. takes.1 t p ∙ rw (ne_eqb t slot other) (left_off (effects_of (input_of l.peer.session.state (terms_in config peer) item) l.peer.session).left (route_at mid.adj_in t p)) ∙ ap (λ table. route_at table t p) routes)
    histories few
    peer configured
    (subst P now (slot_taken config peer l (route_at old.adj_in slot) (route_at new.adj_in slot) (history config slot r2) item connected (heard.1 item is)
    (λ p. takes.1 slot p
    ∙ rw (eq-eqb slot slot refl) (left_on (effects_of (input_of l.peer.session.state (terms_in config peer) item) l.peer.session).left (word_if (update_heard l.peer.session.state (terms_in config peer) item) p (route_at mid.adj_in slot p)))
    ∙ ap (λ table. cond (effects_of (input_of l.peer.session.state (terms_in config peer) item) l.peer.session).left None (word_if (update_heard l.peer.session.state (terms_in config peer) item) p (route_at table slot p))) routes)))

-- the rest of what others see stays
item_rest : (slot : ℕ) (terms : Terms) (l : Linked) (found : Option Item) (old new : SpeakerState) → TakesItem slot terms l found old new → KeepsRest old new
item_rest slot terms l None old new takes = takes.3
item_rest slot terms l (Some item) old new takes = takes.3

-- how often a best route was chosen for the item, by how often it may be
item_count : (slot : ℕ) (terms : Terms) (l : Linked) (found : Option Item) (old new : SpeakerState) (most : ℕ) → TakesItem slot terms l found old new
    → ((item : Item) (ended : List Prefix) → found ≡ Some item → AreDifferent (λ p. IsSome (word_if (update_heard l.peer.session.state terms item) p (route_at old.adj_in slot p))) ended
    → ((effects_of (input_of l.peer.session.state terms item) l.peer.session).left ≡ false → ended ≡ []) → named_if (update_heard l.peer.session.state terms item) + length ended ≤ most)
    → new.chosen ≤ old.chosen + most
item_count slot terms l None old new most takes few = let same = takes.4 in omega (arith, same)
item_count slot terms l (Some item) old new most takes few =
    let all = takes.4 in
    let count = all.chosen in
    let allowed = few item all.ended refl all.routed all.none in
    omega (arith, count, allowed)

-- of some octets the last, and those before it
last_of : (octet : ℕ) (octets : List ℕ) → (front : List ℕ) × (last : ℕ) × (octet ∷ octets ≡ front ++ last ∷ [])
last_of octet [] = ([], octet, refl)
last_of octet (next ∷ octets) = let rest = last_of next octets in (octet ∷ rest.0, rest.1, ap (λ xs. octet ∷ xs) rest.2)

front_of : (octets : List ℕ) → 0 < length octets → (front : List ℕ) × (last : ℕ) × (octets ≡ front ++ last ∷ [])
front_of [] some = absurd (omega (arith, some))
front_of (octet ∷ octets) some = last_of octet octets

same_history : (a b : ℕ) (h k : List happens.Event) → List.◌∷◌ (Octet a) h ≡ Octet b ∷ k → (a ≡ b) × (h ≡ k)
same_history a b h k is = (cc, cc)

-- as often as it may be for an item, by the history up to the octet that completes it
item_allowed : (config : Config) (peer : ConfiguredPeer) (l : Linked) (octets : List ℕ) (slot : ℕ) (old mid : SpeakerState) (h before : List happens.Event) (octet : ℕ) (item : Item) (ended : List Prefix)
    → transport_of l.peer.session ≡ Connected → mid.adj_in ≡ old.adj_in → HeardItem (λ x rest. WithRest config peer l (route_at old.adj_in slot) x rest) h (l.peer.rest ++ octets) item → h ≡ Octet octet ∷ before
    → AreDifferent (λ p. IsSome (word_if (update_heard l.peer.session.state (terms_in config peer) item) p (route_at mid.adj_in slot p))) ended
    → ((effects_of (input_of l.peer.session.state (terms_in config peer) item) l.peer.session).left ≡ false → ended ≡ [])
    → named_if (update_heard l.peer.session.state (terms_in config peer) item) + length ended ≤ choices_by before (Octet octet)
item_allowed config peer l octets slot old mid h before octet item ended connected routes s split routed none =
    let terms : terms_of s.before ≡ terms_in config peer = ap terms_from s.holds.terms in
    let here : item_at s.before s.octet ≡ Some item = item_of_rest s.before (holding s.part l.peer) s.octet (Some item) connected s.whole s.holds.link.peer in
    let B : Session → Terms → Type 0 = λ x t.
    AreDifferent (λ p. IsSome (word_if (update_heard x.state t item) p (route s.before p))) ended
    → ((effects_of (input_of x.state t item) x).left ≡ false → ended ≡ []) → named_if (update_heard x.state t item) + length ended ≤ choices_by s.before (Octet s.octet) in
    let all : B l.peer.session (terms_in config peer) = subst (λ x. B x (terms_in config peer)) (sym s.holds.link.peer.session) (subst (λ t. B (session s.before) t) terms (λ different stays. item_few s.before s.octet item ended here different stays)) in
    let few = all (different_as (λ p. IsSome (word_if (update_heard l.peer.session.state (terms_in config peer) item) p (route_at mid.adj_in slot p)))
    (λ p. IsSome (word_if (update_heard l.peer.session.state (terms_in config peer) item) p (route s.before p))) ended
    (λ p there. subst (λ o. IsSome (word_if (update_heard l.peer.session.state (terms_in config peer) item) p o)) (ap (λ table. route_at table slot p) routes ∙ s.holds.routes_are p) there) routed) none in
    let same = same_history octet s.octet before s.before (sym split ∙ s.history_is) in
    let N : List happens.Event → ℕ → Type 0 = λ x o. named_if (update_heard l.peer.session.state (terms_in config peer) item) + length ended ≤ choices_by x (Octet o) in
    subst (λ o. N before o) (sym same.0) (subst (λ x. N x s.octet) (sym same.1) few)

-- how often a best route was chosen for octets and the item that they complete
heard_count : (config : Config) (r : Run) (done : List ℕ) (slot : ℕ) (peer : ConfiguredPeer) (l : Linked) (octets : List ℕ) (old mid new : SpeakerState)
    → Holds config (turn (Bytes_call slot done) [] ∷ r) old → 0 < length octets → transport_of l.peer.session ≡ Connected → Pushes slot l octets old mid
    → HasHeard (λ x rest. WithRest config peer l (route_at old.adj_in slot) x rest) (history config slot (turn (Bytes_call slot (done ++ octets)) [] ∷ r)) (l.peer.rest ++ octets)
    → TakesItem slot (terms_in config peer) (with_peer l (pushed l.peer octets)) (meaning (l.peer.rest ++ octets)) mid new
    → new.chosen ≤ new.chosen_before + choices_in config (turn (Bytes_call slot (done ++ octets)) [] ∷ r)
heard_count config r done slot peer l octets old mid new h some connected pushes heard takes =
    let cut = front_of octets some in
    let split : onto (done ++ octets) (history config slot r) ≡ Octet cut.1 ∷ onto (done ++ cut.0) (history config slot r) =
    ap (λ xs. onto xs (history config slot r)) (ap (λ xs. done ++ xs) cut.2 ∙ sym (append_assoc done cut.0 (cut.1 ∷ []))) ∙ onto-append (done ++ cut.0) (cut.1 ∷ []) (history config slot r) in
    let whole : choices_on (done ++ octets) (history config slot r) ≡ choices_on done (history config slot r) + choices_on cut.0 (onto done (history config slot r)) + choices_by (onto (done ++ cut.0) (history config slot r)) (Octet cut.1) =
    ap (λ xs. choices_on xs (history config slot r)) (ap (λ xs. done ++ xs) cut.2 ∙ sym (append_assoc done cut.0 (cut.1 ∷ [])))
    ∙ choices_last (done ++ cut.0) cut.1 (history config slot r) ∙ ap (λ n. n + choices_by (onto (done ++ cut.0) (history config slot r)) (Octet cut.1)) (choices_append done cut.0 (history config slot r)) in
    let few = item_count slot (terms_in config peer) (with_peer l (pushed l.peer octets)) (meaning (l.peer.rest ++ octets)) mid new (choices_by (onto (done ++ cut.0) (history config slot r)) (Octet cut.1)) takes
    (λ item ended is routed none. item_allowed config peer l octets slot old mid (history config slot (turn (Bytes_call slot (done ++ octets)) [] ∷ r)) (onto (done ++ cut.0) (history config slot r)) cut.1 item ended connected pushes.routes (heard.1 item is)
    (bytes_at config slot (done ++ octets) r ∙ split) routed none) in
    let before : old.chosen ≤ old.chosen_before + (choices_on done (history config slot r) + 0) = h.chosen in
    let still = pushes.chosen in
    let still_before = pushes.rest.chosen_before in
    let kept_before = (item_rest slot (terms_in config peer) (with_peer l (pushed l.peer octets)) (meaning (l.peer.rest ++ octets)) mid new takes).chosen_before in
    omega (arith, whole, few, before, still, still_before, kept_before)

-- octets come to an open connection, and what they complete is taken
pub holds_heard : (config : Config) (r : Run) (done : List ℕ) (slot : ℕ) (peer : ConfiguredPeer) (l : Linked) (octets : List ℕ) (old mid new : SpeakerState)
    → Holds config (turn (Bytes_call slot done) [] ∷ r) old → peer_at old.conf slot ≡ Some peer → link_at old.links slot ≡ Some l → transport_of l.peer.session ≡ Connected
    → 0 < length octets → length octets ≤ needed_of l.peer.rest → Pushes slot l octets old mid → TakesItem slot (terms_in config peer) (with_peer l (pushed l.peer octets)) (meaning (l.peer.rest ++ octets)) mid new
    → Holds config (turn (Bytes_call slot (done ++ octets)) [] ∷ r) new
holds_heard config r done slot peer l octets old mid new h configured linked connected some few pushes takes =
    let here = slot_is config (turn (Bytes_call slot done) [] ∷ r) slot peer l old h configured linked in
    let on : onto octets (history config slot (turn (Bytes_call slot done) [] ∷ r)) ≡ history config slot (turn (Bytes_call slot (done ++ octets)) [] ∷ r) =
    ap (λ x. onto octets x) (bytes_at config slot done r) ∙ sym (onto-append done octets (history config slot r)) ∙ sym (bytes_at config slot (done ++ octets) r) in
    let H : List happens.Event → Type 0 = λ x. HasHeard (λ y rest. WithRest config peer l (route_at old.adj_in slot) y rest) x (l.peer.rest ++ octets) in
    let heard = subst H on (slot_pushed config peer l (route_at old.adj_in slot) (history config slot (turn (Bytes_call slot done) [] ∷ r)) octets connected few here) in
    takes_found config (turn (Bytes_call slot done) [] ∷ r) (turn (Bytes_call slot (done ++ octets)) [] ∷ r) slot peer (with_peer l (pushed l.peer octets)) _ old mid new refl h refl refl refl
    (λ t other. bytes_off config slot (done ++ octets) r t other ∙ sym (bytes_off config slot done r t other)) configured (pushes_keep slot l octets old mid linked pushes) pushes.rest pushes.links pushes.routes connected heard takes
    (heard_count config r done slot peer l octets old mid new h some connected pushes heard takes)

-- octets come to a connection that is closed or closing
pub holds_shut : (config : Config) (r : Run) (done : List ℕ) (slot : ℕ) (peer : ConfiguredPeer) (l : Linked) (octets : List ℕ) (old new : SpeakerState)
    → Holds config (turn (Bytes_call slot done) [] ∷ r) old → peer_at old.conf slot ≡ Some peer → link_at old.links slot ≡ Some l → transport_of l.peer.session ≢ Connected
    → Pushes slot l [] old new → Holds config (turn (Bytes_call slot (done ++ octets)) [] ∷ r) new
holds_shut config r done slot peer l octets old new h configured linked shut pushes =
    let here = slot_is config (turn (Bytes_call slot done) [] ∷ r) slot peer l old h configured linked in
    let on : onto octets (history config slot (turn (Bytes_call slot done) [] ∷ r)) ≡ history config slot (turn (Bytes_call slot (done ++ octets)) [] ∷ r) =
    ap (λ x. onto octets x) (bytes_at config slot done r) ∙ sym (onto-append done octets (history config slot r)) ∙ sym (bytes_at config slot (done ++ octets) r) in
    let H : List happens.Event → Type 0 = λ x. SlotIs config peer l (route_at old.adj_in slot) x in
    let after = subst H on (slot_shut config peer l (route_at old.adj_in slot) (history config slot (turn (Bytes_call slot done) [] ∷ r)) octets shut here) in
    let R : List ℕ → Type 0 = λ x. SlotIs config peer (with_peer l (record { session = l.peer.session; rest = x; ring = l.peer.ring })) (route_at old.adj_in slot) (history config slot (turn (Bytes_call slot (done ++ octets)) [] ∷ r)) in
    let same = subst R (sym (append-nil l.peer.rest)) after in
    let before : old.chosen ≤ old.chosen_before + (choices_on done (history config slot r) + 0) = h.chosen in
    let still = pushes.chosen in
    let here_still = pushes.rest.chosen_before in
    holds_put config (turn (Bytes_call slot done) [] ∷ r) (turn (Bytes_call slot (done ++ octets)) [] ∷ r) slot (with_peer l (pushed l.peer [])) old new h refl refl refl (pushes_keep slot l [] old new linked pushes) pushes.rest pushes.links
    (λ t other p. ap (λ table. route_at table t p) pushes.routes)
    (λ t other. bytes_off config slot (done ++ octets) r t other ∙ sym (bytes_off config slot done r t other))
    (omega (arith, before, here_still, still, choices_append done octets (history config slot r)))
    peer configured (same_routes config peer (with_peer l (pushed l.peer [])) (route_at old.adj_in slot) (route_at new.adj_in slot) (history config slot (turn (Bytes_call slot (done ++ octets)) [] ∷ r)) same (λ p. ap (λ table. route_at table slot p) pushes.routes))

pub put_here : (slot : ℕ) (l : Linked) (old new : SpeakerState) → IsPut slot l old new → link_at new.links slot ≡ Some l
put_here slot l old new put = rw (put slot, eq-eqb slot slot refl) refl

-- the slot whose UPDATE memory is refused to, with the octets behind it
slot_starved : (config : Config) (peer : ConfiguredPeer) (l : Linked) (old new : Prefix → Option PathAttributes) (h : List happens.Event) (part behind : List ℕ)
    → SlotIs config peer (with_peer l (holding part l.peer)) old h
    → ((p : Prefix) → new p ≡ cond (effects_of NoMemory l.peer.session).left None (old p)) → SlotIs config peer (moved (moment_of h) l NoMemory) new (onto behind (Signalled NoMemory ∷ h))
slot_starved config peer l old new h part behind here change =
    slot_shut config peer (moved (moment_of h) l NoMemory) new (Signalled NoMemory ∷ h) behind (no_memory_closes (moment_of h) l.peer.session)
    (slot_signalled config peer (with_peer l (holding part l.peer)) old new h NoMemory refl (λ e. cc) (λ found. refl) here change)

-- octets come to an open connection, and memory is refused to the UPDATE that the last of them completes
pub starves_heard : (config : Config) (r : Run) (done : List ℕ) (slot : ℕ) (peer : ConfiguredPeer) (l : Linked) (octets behind : List ℕ) (old mid new : SpeakerState)
    → Holds config (turn (Bytes_call slot done) [] ∷ r) old → peer_at old.conf slot ≡ Some peer → link_at old.links slot ≡ Some l → transport_of l.peer.session ≡ Connected
    → 0 < length octets → length octets ≤ needed_of l.peer.rest → Pushes slot l octets old mid → (takes : TakesMemoryAt (kind_of (terms_in config peer)) (with_peer l (pushed l.peer octets))) → Moves slot (with_peer l (pushed l.peer octets)) NoMemory mid new
    → Ends slot mid.adj_in mid.chosen new.chosen
    → (before : List ℕ) × (octet : ℕ) × (after : List ℕ) × (done ++ (octets ++ behind) ≡ before ++ octet ∷ after)
    × MayStarve (onto before (history config slot r)) octet × Holds config (turn (Starved_call slot before octet after) [] ∷ r) new
starves_heard config r done slot peer l octets behind old mid new h configured linked connected some few pushes takes moves chooses =
    let was : Run = turn (Bytes_call slot done) [] ∷ r in
    let first : SlotIs config peer l (route_at old.adj_in slot) (history config slot was) = slot_is config was slot peer l old h configured linked in
    let heard = (slot_pushed config peer l (route_at old.adj_in slot) (history config slot was) octets connected few first).1 (WholeMessage Update takes.body) takes.is in
    let cut = front_of octets some in
    let split : onto octets (history config slot was) ≡ Octet cut.1 ∷ onto (done ++ cut.0) (history config slot r) =
    ap (λ xs. onto xs (history config slot was)) cut.2 ∙ onto-append cut.0 (cut.1 ∷ []) (history config slot was)
    ∙ ap (λ x. Octet cut.1 ∷ onto cut.0 x) (bytes_at config slot done r) ∙ ap (λ x. Octet cut.1 ∷ x) (sym (onto-append done cut.0 (history config slot r))) in
    let same = same_history cut.1 heard.octet (onto (done ++ cut.0) (history config slot r)) heard.before (sym split ∙ heard.history_is) in
    let at : history config slot (turn (Starved_call slot (done ++ cut.0) cut.1 behind) [] ∷ r) ≡ onto behind (Signalled NoMemory ∷ onto (done ++ cut.0) (history config slot r)) = rw (eq-eqb slot slot refl) refl in
    let change : (p : Prefix) → route_at new.adj_in slot p ≡ cond (effects_of NoMemory l.peer.session).left None (route_at old.adj_in slot p) =
    λ p. moves.routes slot p ∙ rw (eq-eqb slot slot refl) (left_on (effects_of NoMemory l.peer.session).left (route_at mid.adj_in slot p))
    ∙ ap (λ table. cond (effects_of NoMemory l.peer.session).left None (route_at table slot p)) pushes.routes in
    let after : SlotIs config peer (moved (moment_of heard.before) (with_peer l (pushed l.peer octets)) NoMemory) (route_at new.adj_in slot) (onto behind (Signalled NoMemory ∷ heard.before)) =
    slot_starved config peer (with_peer l (pushed l.peer octets)) (route_at old.adj_in slot) (route_at new.adj_in slot) heard.before heard.part behind heard.holds change in
    let H : List happens.Event → Type 0 = λ x. SlotIs config peer (moved mid.moment (with_peer l (pushed l.peer octets)) NoMemory) (route_at new.adj_in slot) x in
    let now : moment_of heard.before ≡ mid.moment =
    sym (ap moment_of heard.history_is) ∙ onto_stays octets (history config slot was) ∙ moment_same config was slot ∙ sym h.moment ∙ sym pushes.rest.moment in
    let M1 : ℕ → Type 0 = λ m. SlotIs config peer (moved m (with_peer l (pushed l.peer octets)) NoMemory) (route_at new.adj_in slot) (onto behind (Signalled NoMemory ∷ heard.before)) in
    let then_after = subst M1 now after in
    let M : List happens.Event → ℕ → Type 0 = λ x octet. MayStarve x octet in
    let may : MayStarve heard.before heard.octet = record {
      body = takes.body;
      established = ap (λ (x : Session). x.state) (sym heard.holds.link.peer.session) ∙ takes.established;
      completes = item_of_rest heard.before (holding heard.part l.peer) heard.octet (Some (WholeMessage Update takes.body)) connected heard.whole heard.holds.link.peer;
      needs = subst (λ t. NeedsMemory (kind_of t) takes.body) (sym (ap terms_from heard.holds.terms)) takes.needs;
    } in
    let ended : AreDifferent (λ p. IsSome (route heard.before p)) chooses.0 =
    different_as (λ p. IsSome (route_at mid.adj_in slot p)) (λ p. IsSome (route heard.before p)) chooses.0
    (λ p. subst (λ o. IsSome o) (ap (λ table. route_at table slot p) pushes.routes ∙ heard.holds.routes_are p)) chooses.1 in
    let N : List happens.Event → Type 0 = λ x. length chooses.0 ≤ routes_held x in
    let there : N (onto (done ++ cut.0) (history config slot r)) = subst N (sym same.1) (most_routes heard.before chooses.0 ended) in
    let so_far : old.chosen ≤ old.chosen_before + (choices_on done (history config slot r) + 0) = h.chosen in
    let most = chooses.2 in
    let still = pushes.chosen in
    let still_before = pushes.rest.chosen_before in
    let kept_before = moves.rest.chosen_before in (
      done ++ cut.0,
      cut.1,
      behind,
      ap (λ xs. done ++ (xs ++ behind)) cut.2 ∙ ap (λ xs. done ++ xs) (append_assoc cut.0 (cut.1 ∷ []) behind) ∙ sym (append_assoc done cut.0 (cut.1 ∷ behind)),
      subst (λ octet. M (onto (done ++ cut.0) (history config slot r)) octet) (sym same.0) (subst (λ x. M x heard.octet) (sym same.1) may),
      holds_put config was (turn (Starved_call slot (done ++ cut.0) cut.1 behind) [] ∷ r) slot (moved mid.moment (with_peer l (pushed l.peer octets)) NoMemory) old new h refl refl refl
          (λ before. moves_keep slot (with_peer l (pushed l.peer octets)) NoMemory mid new (put_here slot (with_peer l (pushed l.peer octets)) old mid pushes.links) moves (pushes_keep slot l octets old mid linked pushes before))
          (rest_kept old mid new pushes.rest moves.rest)
          (λ s. moves.links s ∙ ap (λ other. cond (s == slot) (Some (moved mid.moment (with_peer l (pushed l.peer octets)) NoMemory)) other) (pushes.links s)
          ∙ cond_again (s == slot) (Some (moved mid.moment (with_peer l (pushed l.peer octets)) NoMemory)) (Some (with_peer l (pushed l.peer octets))) (link_at old.links s))
          (λ t other p. moves.routes t p ∙ rw (ne_eqb t slot other) (left_off (effects_of NoMemory l.peer.session).left (route_at mid.adj_in t p)) ∙ ap (λ table. route_at table t p) pushes.routes)
          (λ t other. rw (ne_eqb t slot other) refl)
          (omega (arith, so_far, choices_append done cut.0 (history config slot r), most, there, still, still_before, kept_before))
          peer configured (subst H (sym at) (subst (λ x. H (onto behind (Signalled NoMemory ∷ x))) (sym same.1) then_after)),
    )

-- a connection that takes nothing isn't open
pub taken_shut : (config : Config) (r : Run) (slot : ℕ) (peer : ConfiguredPeer) (l : Linked) (octets : List ℕ) (s : SpeakerState)
    → Holds config r s → peer_at s.conf slot ≡ Some peer → link_at s.links slot ≡ Some l → taken_of l.peer octets ≡ 0 → 0 < length octets → transport_of l.peer.session ≢ Connected
taken_shut config r slot peer l octets s h configured linked none some connected =
    let here = slot_is config r slot peer l s h configured linked in
    let wants : Wants l.peer.rest = wants-agreed (history config slot r) l.peer here.link.peer connected in
    let count : min (needed_of l.peer.rest) (length octets) ≡ 0 = ap (λ t. taken_on t l.peer.rest octets) (sym connected) ∙ none in
    absurd (omega (arith, wants_needs l.peer.rest wants, some, count))

pub taken_open : (l : Linked) (octets : List ℕ) (count : ℕ) → count ≡ taken_of l.peer octets → count ≢ 0 → transport_of l.peer.session ≡ Connected
taken_open l octets count is some = taken_connected (transport_of l.peer.session) l.peer.rest octets (λ none. some (is ∙ none))

pub taken_wanted : (l : Linked) (octets : List ℕ) (count : ℕ) → count ≡ taken_of l.peer octets → length (take count octets) ≤ needed_of l.peer.rest
taken_wanted l octets count is = few_octets l.peer octets count is

-- no octets are nothing that happens
bytes_none : (config : Config) (slot : ℕ) (r : Run) (t : ℕ) (b : Bool) → (t == slot) ≡ b → cond b (history config t r) (history config t r) ≡ history config t r
bytes_none config slot r t true is = refl
bytes_none config slot r t false is = refl

pub holds_nothing : (config : Config) (r : Run) (slot : ℕ) (s : SpeakerState) → Holds config r s → s.chosen ≤ s.chosen_before → Holds config (turn (Bytes_call slot []) [] ∷ r) s
holds_nothing config r slot s h few = record {
  config_is = h.config_is;
  moment = h.moment;
  conf = h.conf;
  cache = h.cache;
  payloads = h.payloads;
  peers = h.peers;
  slots = λ t. let P : List happens.Event → Type 0 = λ x. SlotAgrees config (peer_at s.conf t) (link_at s.links t) (peer_route_at s.adj_in t) x in subst P (sym (bytes_none config slot r t _ refl)) (h.slots t);
  networks = h.networks;
  kept = h.kept;
  chosen = omega (arith, few);
}

-- a moment, which comes to each slot
slot_ticked : (config : Config) (found : Option ConfiguredPeer) (linked : Option Linked) (routes : Prefix → Option PathAttributes) (h : List happens.Event) (now : ℕ)
    → SlotAgrees config found linked routes h → SlotAgrees config found linked routes (Ticked now ∷ h)
slot_ticked config found linked routes h now a = record {
  configured = a.configured;
  there = a.there;
  link = λ l is. let k = a.link l is in record { peer = agrees-tick h l.peer now k.peer; held = k.held; asked = λ p. k.asked p ∙ sym (asked_stays h (Ticked now) p refl refl refl); silent = k.silent };
  vacant = a.vacant;
  routes_are = λ p. a.routes_are p ∙ sym (route_stays h p);
}

pub holds_ticked : (config : Config) (r : Run) (now : ℕ) (s : SpeakerState) → Holds config r s → s.chosen ≤ s.chosen_before
    → HoldsBy config (configuration_of config r) now (cache_history r) (λ t. Ticked now ∷ history config t r) 0 (record s { moment = now })
holds_ticked config r now s h few = record {
  config_is = h.config_is;
  moment = refl;
  conf = h.conf;
  cache = h.cache;
  payloads = h.payloads;
  peers = h.peers;
  slots = λ t. slot_ticked config (peer_at s.conf t) (link_at s.links t) (peer_route_at s.adj_in t) (history config t r) now (h.slots t);
  networks = h.networks;
  kept = h.kept;
  chosen = omega (arith, few);
}

-- octets come to a connection that doesn't stand
pub holds_dropped : (config : Config) (r : Run) (slot : ℕ) (l : Linked) (octets : List ℕ) (s : SpeakerState) → Holds config r s → link_at s.links slot ≡ Some l → transport_of l.peer.session ≢ Connected → s.chosen ≤ s.chosen_before
    → Holds config (turn (Bytes_call slot octets) [] ∷ r) s
holds_dropped config r slot l octets s h linked shut few = record {
  config_is = h.config_is;
  moment = h.moment;
  conf = h.conf;
  cache = h.cache;
  payloads = h.payloads;
  peers = h.peers;
  slots = λ t. elim (cases_eq t slot) [
    | inl same ↦ subst (λ x. SlotAgrees config (peer_at s.conf x) (link_at s.links x) (peer_route_at s.adj_in x) (history config x (turn (Bytes_call slot octets) [] ∷ r))) (sym same) here
    | inr other ↦ let P : List happens.Event → Type 0 = λ x. SlotAgrees config (peer_at s.conf t) (link_at s.links t) (peer_route_at s.adj_in t) x in subst P (sym (bytes_off config slot octets r t other)) (h.slots t)
  ];
  networks = h.networks;
  kept = h.kept;
  chosen = omega (arith, few);
}
  where
    here : SlotAgrees config (peer_at s.conf slot) (link_at s.links slot) (peer_route_at s.adj_in slot) (history config slot (turn (Bytes_call slot octets) [] ∷ r))
    here =
        let before : SlotAgrees config (peer_at s.conf slot) (Some l) (peer_route_at s.adj_in slot) (history config slot r) = subst (λ x. SlotAgrees config (peer_at s.conf slot) x (peer_route_at s.adj_in slot) (history config slot r)) linked (h.slots slot) in
        let P : List happens.Event → Type 0 = λ x. SlotAgrees config (peer_at s.conf slot) (link_at s.links slot) (peer_route_at s.adj_in slot) x in
        subst P (sym (bytes_at config slot octets r)) (subst (λ x. SlotAgrees config (peer_at s.conf slot) x (peer_route_at s.adj_in slot) (onto octets (history config slot r))) (sym linked) (agrees_dropped config (peer_at s.conf slot) l (peer_route_at s.adj_in slot) (history config slot r) octets shut before))

pub some_taken : (count : ℕ) (octets : List ℕ) → count ≤ length octets → count ≢ 0 → 0 < length (take count octets)
some_taken count octets within some = omega (arith, length-take count octets, within, some)

-- octets one after another
pub Hears-more : (slot : ℕ) → Joins (Hears slot)
Hears-more slot a b old mid new first later config r done peer configured holds =
    let before = first config r done peer configured holds in
    let still : peer_at mid.conf slot ≡ Some peer = ap (λ c. peer_at c slot) (before.conf ∙ sym holds.conf) ∙ configured in
    subst (λ x. Holds config (turn (Bytes_call slot x) [] ∷ r) new) (append_assoc done a b) (later config r (done ++ a) peer still before)

-- none are nothing
pub Hears-start : (slot : ℕ) (s : SpeakerState) → Hears slot [] s s
Hears-start slot s config r done peer configured holds = subst (λ x. Holds config (turn (Bytes_call slot x) [] ∷ r) s) (sym (append-nil done)) holds

-- memory is refused behind octets that have come
pub HasCome-until : (slot : ℕ) (octets rest : List ℕ) (first now new : SpeakerState) → HasCome (Hears slot) octets rest first now → HearsUntil slot rest now new → HearsUntil slot octets first new
HasCome-until slot octets rest first now new h until config r done peer configured holds =
    let mid = h.heard config r done peer configured holds in
    let still : peer_at now.conf slot ≡ Some peer = ap (λ c. peer_at c slot) (mid.conf ∙ sym holds.conf) ∙ configured in
    let last = until config r (done ++ h.done) peer still mid in
    (last.0, last.1, last.2, ap (λ x. done ++ x) (sym h.whole) ∙ sym (append_assoc done h.done rest) ∙ last.3, last.4, last.5)

pub Hears-none : (slot : ℕ) (rest : List ℕ) (s : SpeakerState) → rest ≡ [] → Hears slot rest s s
Hears-none slot rest s none config r done peer configured holds =
    subst (λ x. Holds config (turn (Bytes_call slot x) [] ∷ r) s) (sym (append-nil done) ∙ ap (λ x. done ++ x) (sym none)) holds

-- octets to one of which memory was refused
pub ready_starved : (config : Config) (r : Run) (slot starved : ℕ) (octets : List ℕ) (peer : ConfiguredPeer) (old new : SpeakerState) → starved ≡ 2 ^ slot → HearsUntil slot octets old new
    → peer_at old.conf slot ≡ Some peer → Holds config r old → old.chosen ≤ old.chosen_before → IsReady config r (Bytes_call slot octets) (record { opened = 0; starved = starved; cache_opened = false; cache_starved = false }) new
ready_starved config r slot starved octets peer old new is until configured holds few =
    let found = until config r [] peer configured (holds_nothing config r slot old holds few) in
    record {
      call = Starved_call slot found.0 found.1 found.2;
      asked_is = ap (λ x. Bytes_call slot x) (sym found.3);
      opened_is = refl;
      starved_is = sym is;
      cache_opened_is = refl;
      cache_starved_is = refl;
      fair = found.4;
      holds = found.5;
    }

-- a step with what it did at its end
pub steps : (config : Config) (r : Run) (wanted : Call) (done : Report) (mid new : SpeakerState) (more : ℕ) (report : Report) → IsReady config r wanted done mid → IsThrifty config r
    → ((config : Config) (call : Call) (r : Run) → Holds config (turn call [] ∷ r) mid → IsFair config r call → IsThrifty config r → (queue : Queue) × (starved_in queue ≡ more) × Agrees config (turn call queue ∷ r) new)
    → report ≡ record { opened = done.opened; starved = bit_or done.starved more; cache_opened = done.cache_opened; cache_starved = done.cache_starved }
    → (now : Turn) × (asked now.call ≡ wanted) × (report ≡ report_of config r now) × Agrees config (now ∷ r) new
steps config r wanted done mid new more report ready thrifty settles is =
    let end = settles config ready.call r ready.holds ready.fair thrifty in
    (turn ready.call end.0, ready.asked_is, rw (ready.opened_is, ready.starved_is, ready.cache_opened_is, ready.cache_starved_is, end.1) is, end.2)

-- an event that isn't a command
pub no_command : (event : Event) → ((command : Command) → event ≢ Commanded command) → is_command event ≡ false
no_command (Up slot) never = refl
no_command (Fail slot) never = refl
no_command (Bytes slot octets) never = refl
no_command (Tick now) never = refl
no_command (Commanded command) never = absurd (never command refl)
no_command CacheUp never = refl
no_command CacheFail never = refl
no_command (CacheBytes octets) never = refl
