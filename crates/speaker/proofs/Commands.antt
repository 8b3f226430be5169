use Rattle.std.proofs.Common.{◌≡◌, ◌≢◌, ◌≤◌, ◌<◌, ◌+◌, ◌==◌, ◌&&◌, ◌||◌, ◌^◌, ℕ, Bool, true, false, List, [], ◌∷◌, length, Option, Some, None, Result, Ok, Err, OnErr, is_none, is_some, nat_le, cond, refl, sym, ap, ◌∙◌, subst, inl, inr, arith}
use Rattle.std.proofs.lemmas.Bool.{cases_eq, eq-eqb, ne_eqb, eqb-true}
use Rattle.std.proofs.lemmas.Bool.Decides.{nat_tests}
use Rattle.std.proofs.lemmas.Grind.{common_steps}
use Rattle.std.specs.Borrow.{Bor}
use Rattle.std.specs.Option.{IsSome, option_map}
use Rattle.bgp_conf.proofs.PrefixOrder.{is_at-prefix_cmp}
use Rattle.decision.specs.BookContents.{is_prefix, offer_at}
use Rattle.bgp_attr.specs.PathAttributes.{PathAttributes, originated}
use Rattle.bgp_conf.specs.Configuration.{Configuration, is_network, peer_at}
use Rattle.bgp_conf.specs.ConfAfter.{TakesMemory, conf_after, exporting, importing, is_network_after, is_prefix as is_prefix_of, peer_after, configured_of}
use Rattle.bgp_conf.specs.FirstRefusal.{first_refusal}
use Rattle.bgp_conf.specs.declared.command.Command.{Command}
use Rattle.bgp_conf.specs.declared.command.Command.TheVariants.{AddPeer, RemovePeer, Enable, Disable, SetPolicy, DropPolicy, UseIn, UseOut, Network, NoNetwork, Reach, NoReach, Filter, NoFilter, Assert, NoAssert}
use Rattle.bgp_conf.specs.declared.command.PeerConf.{PeerConf}
use Rattle.bgp_conf.specs.declared.conf.ConfiguredPeer.{ConfiguredPeer}
use Rattle.bgp_conf.specs.declared.refusal.Refusal.{Refusal}
use Rattle.bgp_attr.specs.AttributeFaults.{is_host}
use Rattle.bgp_conf.proofs.PolicyActions.{import_action-DropPolicy, import_action-UseIn, import_action-UseOut, option_map-changed}
use Rattle.bgp_conf.proofs.PeerLists.{lookup-with_changed}
use Rattle.bgp_conf.specs.PeerPolicies.{import_action}
use Rattle.policy.specs.PolicyNames.{name_of}
use Rattle.policy.specs.declared.rule.Rule.{Rule}
use Rattle.origin_valid.specs.Validity.{validity}
use Rattle.bgp_conf.proofs.Accepted.{apart-from_accepted, is_host-from_accepted, peer_at-from_accepted, slot-from_accepted}
use Rattle.bgp_fsm.specs.SessionTable.{effects_of}
use Rattle.bgp_fsm.specs.StateTests.{is_established, is_message}
use Rattle.bgp_fsm.specs.Transports.{is_closing, transport_of}
use Rattle.bgp_fsm.proofs.TableLaws.{established_stands}
use Rattle.bgp_fsm.specs.declared.input.Input.{Input}
use Rattle.bgp_fsm.specs.declared.input.Input.TheVariants.{Start, Disable as Disabled, Up}
use Rattle.bgp_fsm.specs.declared.session.Session.{Session}
use Rattle.bgp_peer.specs.SessionInputs as happens
use Rattle.bgp_peer.specs.SessionInputs.{Signalled, Terms, moment_of, session, staying}
use Rattle.bgp_peer.specs.Slot.{configured}
use Rattle.bgp_peer.proofs.Agreeing.{agrees-new}
use Rattle.net_prefix.specs.declared.asn.Asn.{Asn}
use Rattle.net_prefix.specs.declared.prefix.Prefix.{Prefix}
use Rattle.net_prefix.specs.declared.transport.Transport.{Transport}
use Rattle.net_prefix.specs.declared.transport.Transport.TheVariants.{Open as Connected}
use Rattle.rib_in.specs.LatestRoutes.{HasRoute, RouteTable, is_route, route_at}
use Rattle.runs.specs.AdjRibIn.{route}
use Rattle.runs.specs.Agreement.{CacheAgrees, SlotAgrees, IsTaken, Holds, HoldsBy}
use Rattle.rtr_session.specs.SessionHistory as cached
use Rattle.runs.proofs.Histories.{no_route}
use Rattle.runs.proofs.SlotStates.{SlotIs, slot_agrees, configured_from}
use Rattle.runs.specs.Choices.{choices_by, choices_commanded, choices_in, is_known, named_to}
use Rattle.routing.specs.Chosen.{how_many, AreDifferent, OncePerPrefix}
use Rattle.speaker.specs.Chosen.{Chooses}
use Rattle.runs.specs.FirstRefusal.{refused_at, awaits_up, is_open}
use Rattle.routing.specs.Linked.{Linked, moved}
use Rattle.routing.specs.Offers.{AreKept, AreMadeAgain, AreMadeWhere}
use Rattle.routes.specs.Commands.{resolves}
use Rattle.speaker.specs.Ready.{is_free, is_other}
use Rattle.speaker.specs.Moves.{Announces, Moves, IsPut}
use Rattle.runs.specs.Runs.{Call, Run, turn, Up_call, Fail_call, Bytes_call, Starved_call, Tick_call, Command_call, Take_call, Cache_up_call, Cache_fail_call, Cache_bytes_call, Cache_starved_call, Cache_take_call, cache_history, commanded, conf_called, configuration_of, history, moment_after, opened_commanded, terms_in}
use Rattle.runs.specs.SlotTimes.{times_at}
use Rattle.runs.specs.SpeakerState.{SpeakerState, in_force_of, tables_of}
use Rattle.routing.specs.Tables.{link_at, network_route, payloads_under, peer_route_at, session_at, tables}
use Rattle.runs.specs.declared.config.Config.{Config}
use Rattle.speaker.proofs.AllowedChoices.{most_known, most_routes, signal_few}
use Rattle.speaker.proofs.Calls.{slots_changed}
use Rattle.routing.proofs.Counting.{different_as}
use Rattle.speaker.proofs.Events.{put_by, slot_is, slot_now, slot_of}
use Rattle.runs.proofs.Moments.{moment_same}
use Rattle.routing.proofs.KeptOffers.{IsAlike, taken_by, kept_gone, kept_network}
use Rattle.speaker.proofs.KeptOffers.{in_force_same, kept_added, kept_again, kept_conf, kept_partly, moves_keep}
use Rattle.runs.proofs.KnownPrefixes.{IsKnown, known_of}
use Rattle.runs.proofs.PeerRoutes.{agrees_peers, peer_as}
use Rattle.routing.proofs.Places.{same_from_is_prefix}
use Rattle.routing.proofs.RouteChanges.{is_route-parts, second_true}
use Rattle.runs.proofs.SlotOctets.{slot_signalled}

-- Connections that stand or fail, and commands, as the run with them has them.

-- an accepted event of a slot: the slot is there, and its transport takes the event
pub accepted : (found : Option Linked) (takes : Transport → Bool) → refused_at (option_map (λ l. l.peer.session) found) takes ≡ None
    → (l : Linked) × (found ≡ Some l) × (takes (transport_of l.peer.session) ≡ true)
accepted None takes h = absurd (cc)
accepted (Some l) takes h = (l, refl, accepted_by (takes (transport_of l.peer.session)) h)
  where
    accepted_by : (b : Bool) → cond b None (Some Refusal.NotExpected) ≡ None → b ≡ true
    accepted_by true is = refl
    accepted_by false is = absurd (cc)

-- an accepted event of a slot whose peer is configured
pub accepted_configured : (found : Option ConfiguredPeer) (linked : Option Linked) (takes : Transport → Bool) → refused_at (cond (is_some found) (option_map (λ l. l.peer.session) linked) None) takes ≡ None
    → ((peer : ConfiguredPeer) × (found ≡ Some peer)) × ((l : Linked) × (linked ≡ Some l) × (takes (transport_of l.peer.session) ≡ true))
accepted_configured None linked takes h = absurd (cc)
accepted_configured (Some peer) linked takes h = ((peer, refl), accepted linked takes h)

-- a slot whose connection isn't still to be closed is configured
pub peer_of : (config : Config) (r : Run) (slot : ℕ) (l : Linked) (s : SpeakerState) → Holds config r s → link_at s.links slot ≡ Some l → is_closing (transport_of l.peer.session) ≡ false → (peer : ConfiguredPeer) × (peer_at s.conf slot ≡ Some peer)
peer_of config r slot l s h linked standing =
    configured_from config (peer_at s.conf slot) (link_at s.links slot) l (peer_route_at s.adj_in slot) (history config slot r) linked standing (h.slots slot)

pub open_stands : (t : Transport) → is_open t ≡ true → (t ≡ Connected) × (is_closing t ≡ false)
open_stands t is = (grind (arith, common_steps, is), grind (arith, common_steps, is))

pub open_or : (t : Transport) → is_open t ≡ false → t ≢ Connected
open_or t not is = let never = sym not ∙ ap is_open is in cc

pub left_here : (slot : ℕ) (left : Bool) (r : Option PathAttributes) → cond (left && slot == slot) None r ≡ cond left None r
left_here slot true r = rw (eq-eqb slot slot refl) refl
left_here slot false r = refl

pub left_there : (slot t : ℕ) (left : Bool) (r : Option PathAttributes) → t ≢ slot → cond (left && t == slot) None r ≡ r
left_there slot t true r other = rw (ne_eqb t slot other) refl
left_there slot t false r other = refl

not_yet : (s : Session) (b : Bool) → is_established s.state ≡ b → transport_of s ≢ Connected → b ≡ false
not_yet s true is shut = absurd (shut (established_stands s is))
not_yet s false is shut = refl

-- an input that is no message moves a slot; a connection comes up only where none stands
pub signalled_by : (config : Config) (c1 c2 : Configuration) (now1 now2 : ℕ) (k1 k2 : List cached.Event) (h1 h2 : ℕ → List happens.Event) (m1 m2 : ℕ) (slot : ℕ) (l : Linked) (input : Input) (old new : SpeakerState)
    → HoldsBy config c1 now1 k1 h1 m1 old → c2 ≡ c1 → now2 ≡ now1 → k2 ≡ k1 → moment_of (h1 slot) ≡ old.moment
    → (peer : ConfiguredPeer) → peer_at old.conf slot ≡ Some peer → ((found : Option Terms) → staying input found ≡ found)
    → link_at old.links slot ≡ Some l → is_message input ≡ false → (input ≡ Up → transport_of l.peer.session ≢ Connected) → Moves slot l input old new
    → ((t : ℕ) → h2 t ≡ cond (t == slot) (Signalled input ∷ h1 t) (h1 t))
    → Chooses slot (effects_of input l.peer.session).left old new → (most : ℕ) → old.chosen ≤ old.chosen_before + most → most + choices_by (h1 slot) (Signalled input) ≤ m2
    → HoldsBy config c2 now2 k2 h2 m2 new
signalled_by config c1 c2 now1 now2 k1 k2 h1 h2 m1 m2 slot l input old new h conf moment cache at_moment peer configured stays linked is shut moves histories chooses most so_far allowed =
    let here : SlotIs config peer l (route_at old.adj_in slot) (h1 slot) = slot_now config c1 now1 k1 h1 m1 slot peer l old h configured linked in
    let at : h2 slot ≡ Signalled input ∷ h1 slot = histories slot ∙ rw (eq-eqb slot slot refl) refl in
    let other : input ≡ Up → is_established (session (h1 slot)).state ≡ false =
    λ up. not_yet (session (h1 slot)) _ refl (λ k. shut up (ap transport_of here.link.peer.session ∙ k)) in
    let H : List happens.Event → Type 0 = λ x. SlotIs config peer (moved old.moment l input) (route_at new.adj_in slot) x in
    let M : ℕ → Type 0 = λ m. SlotIs config peer (moved m l input) (route_at new.adj_in slot) (Signalled input ∷ h1 slot) in
    let few = signal_few slot (h1 slot) input l.peer.session old new here.link.peer.session here.routes_are chooses in
    let kept_before = moves.rest.chosen_before in
    put_by config c1 c2 now1 now2 k1 k2 h1 h2 m1 m2 slot (moved old.moment l input) old new h conf moment cache (moves_keep slot l input old new linked moves) moves.rest moves.links
    (λ t away p. moves.routes t p ∙ left_there slot t (effects_of input l.peer.session).left (route_at old.adj_in t p) away)
    (λ t away. histories t ∙ rw (ne_eqb t slot away) refl)
    (omega (arith, few, so_far, allowed, kept_before))
    peer configured
    (subst H (sym at) (subst M at_moment (slot_signalled config peer l (route_at old.adj_in slot) (route_at new.adj_in slot) (h1 slot) input is other stays here
    (λ p. moves.routes slot p ∙ left_here slot (effects_of input l.peer.session).left (route_at old.adj_in slot p)))))

pub holds_signalled : (config : Config) (r1 r2 : Run) (slot : ℕ) (l : Linked) (input : Input) (old new : SpeakerState)
    → Holds config r1 old → (peer : ConfiguredPeer) → peer_at old.conf slot ≡ Some peer → ((found : Option Terms) → staying input found ≡ found)
    → link_at old.links slot ≡ Some l → is_message input ≡ false → (input ≡ Up → transport_of l.peer.session ≢ Connected) → Moves slot l input old new
    → configuration_of config r2 ≡ configuration_of config r1 → moment_after r2 ≡ moment_after r1 → cache_history r2 ≡ cache_history r1
    → ((t : ℕ) → history config t r2 ≡ cond (t == slot) (Signalled input ∷ history config t r1) (history config t r1))
    → Chooses slot (effects_of input l.peer.session).left old new → (most : ℕ) → old.chosen ≤ old.chosen_before + most → most + choices_by (history config slot r1) (Signalled input) ≤ choices_in config r2
    → Holds config r2 new
holds_signalled config r1 r2 slot l input old new h peer configured stays linked is shut moves conf moment cache histories chooses most so_far allowed =
    signalled_by config (configuration_of config r1) (configuration_of config r2) (moment_after r1) (moment_after r2) (cache_history r1) (cache_history r2) (λ t. history config t r1) (λ t. history config t r2) (choices_in config r1) (choices_in config r2)
    slot l input old new h conf moment cache (moment_same config r1 slot ∙ sym h.moment) peer configured stays linked is shut moves histories chooses most so_far allowed

-- where a connection may come up, none stands
pub awaits_none : (t : Transport) → awaits_up t ≡ true → t ≢ Connected
awaits_none t may is = let back = ap awaits_up is in cc

pub some_from_not : (a : Bool) (o : Option ConfiguredPeer) (r : Refusal) → cond (a || is_none o) (Some r) None ≡ None → (peer : ConfiguredPeer) × (o ≡ Some peer)
some_from_not a (Some peer) r h = (peer, refl)
some_from_not true None r h = absurd (cc)
some_from_not false None r h = absurd (cc)

pub holds_enable : (config : Config) (r : Run) (slot : ℕ) (old new : SpeakerState) → Holds config r old → first_refusal old.conf 0 (Enable slot) ≡ None
    → ((l : Linked) → link_at old.links slot ≡ Some l → Moves slot l Start old new) → ((l : Linked) → link_at old.links slot ≡ Some l → Chooses slot (effects_of Start l.peer.session).left old new)
    → old.chosen ≤ old.chosen_before → Holds config (turn (Command_call (Enable slot)) [] ∷ r) new
holds_enable config r slot old new h may moves chooses so_far =
    let peer = some_from_not (nat_le 64 slot) (peer_at old.conf slot) Refusal.BadSlot may in
    let found = slot_of config r slot peer.0 old h peer.1 in
    holds_signalled config r (turn (Command_call (Enable slot)) [] ∷ r) slot found.0 Start old new h peer.0 peer.1 (λ x. refl) found.1 refl (λ e. cc) (moves found.0 found.1) refl refl refl (λ t. refl) (chooses found.0 found.1) 0 (omega (arith, so_far)) (omega arith)

pub slot_low : (conf : Configuration) (slot : ℕ) → first_refusal conf 0 (Enable slot) ≡ None → slot < 64
slot_low conf slot may = below (nat_le 64 slot) refl may
  where
    below : (b : Bool) → nat_le 64 slot ≡ b → cond (b || is_none (peer_at conf slot)) (Some Refusal.BadSlot) None ≡ None → slot < 64
    below true over h = absurd (cc)
    below false under h = grind (arith, nat_tests, under)

-- the slot of an accepted enabling has begun an attempt where its row says so
pub enable_opens : (config : Config) (r : Run) (slot : ℕ) (opened : ℕ) (old : SpeakerState) → Holds config r old → first_refusal old.conf 0 (Enable slot) ≡ None
    → ((l : Linked) → link_at old.links slot ≡ Some l → opened ≡ cond (effects_of Start l.peer.session).opened (2 ^ slot) 0) → opened ≡ opened_commanded config r (Enable slot)
enable_opens config r slot opened old h may is =
    let peer = some_from_not (nat_le 64 slot) (peer_at old.conf slot) Refusal.BadSlot may in
    let found = slot_of config r slot peer.0 old h peer.1 in
    is found.0 found.1 ∙ ap (λ (s : Session). cond (effects_of Start s).opened (2 ^ slot) 0) (slot_is config r slot peer.0 found.0 old h peer.1 found.1).link.peer.session

pub holds_disable : (config : Config) (r : Run) (slot : ℕ) (old new : SpeakerState) → Holds config r old → first_refusal old.conf 0 (Disable slot) ≡ None
    → ((l : Linked) → link_at old.links slot ≡ Some l → Moves slot l Disabled old new) → ((l : Linked) → link_at old.links slot ≡ Some l → Chooses slot (effects_of Disabled l.peer.session).left old new)
    → old.chosen ≤ old.chosen_before → Holds config (turn (Command_call (Disable slot)) [] ∷ r) new
holds_disable config r slot old new h may moves chooses so_far =
    let peer = some_from_not (nat_le 64 slot) (peer_at old.conf slot) Refusal.BadSlot may in
    let found = slot_of config r slot peer.0 old h peer.1 in
    holds_signalled config r (turn (Command_call (Disable slot)) [] ∷ r) slot found.0 Disabled old new h peer.0 peer.1 (λ x. refl) found.1 refl (λ e. cc) (moves found.0 found.1) refl refl refl (λ t. refl) (chooses found.0 found.1) 0 (omega (arith, so_far)) (omega arith)

-- such a command leaves the peers and what happens to slots, and chooses once for each known prefix
pub record Resolved (config : Config) (r : Run) (conf : Configuration) (command : Command) : Type 0 where
  pub peers : (s : ℕ) → peer_after conf command s ≡ peer_at conf s
  pub histories : (s : ℕ) → commanded config s command (history config s r) ≡ history config s r
  pub opened : opened_commanded config r command ≡ 0
  pub choices : choices_commanded config r command ≡ how_many (is_known config r) (named_to config r)
  pub networks : (p : Prefix) → network_route (conf_after conf command) p ≡ network_route conf p

pub resolved : (config : Config) (r : Run) (conf : Configuration) (command : Command) → resolves command ≡ true → Resolved config r conf command
resolved config r conf (AddPeer slot peer) is = absurd (cc)
resolved config r conf (RemovePeer slot) is = absurd (cc)
resolved config r conf (Enable slot) is = absurd (cc)
resolved config r conf (Disable slot) is = absurd (cc)
resolved config r conf (SetPolicy name rules) is = absurd (cc)
resolved config r conf (DropPolicy name) is = absurd (cc)
resolved config r conf (UseIn slot name) is = absurd (cc)
resolved config r conf (UseOut slot name) is = absurd (cc)
resolved config r conf (Network prefix) is = absurd (cc)
resolved config r conf (NoNetwork prefix) is = absurd (cc)
resolved config r conf (Reach prefix cost) is = record { peers = λ s. refl; histories = λ s. refl; opened = refl; choices = refl; networks = λ p. refl }
resolved config r conf (NoReach prefix) is = record { peers = λ s. refl; histories = λ s. refl; opened = refl; choices = refl; networks = λ p. refl }
resolved config r conf (Filter prefix asn) is = absurd (cc)
resolved config r conf (NoFilter prefix asn) is = absurd (cc)
resolved config r conf (Assert prefix max_len asn) is = absurd (cc)
resolved config r conf (NoAssert prefix max_len asn) is = absurd (cc)

pub resolved_opened : (config : Config) (r : Run) (command : Command) → resolves command ≡ true → 0 ≡ opened_commanded config r command
resolved_opened config r command is = sym (resolved config r (configuration_of config r) command is).opened

-- so do the rules of a policy
pub resolved_set : (config : Config) (r : Run) (conf : Configuration) (name : Bor (List ℕ)) (rules : Bor (List Rule)) → Resolved config r conf (SetPolicy name rules)
resolved_set config r conf name rules = record { peers = λ s. refl; histories = λ s. refl; opened = refl; choices = refl; networks = λ p. refl }

-- an entry of `reach` comes or goes, or a policy has other rules
pub holds_resolved : (config : Config) (r : Run) (command : Command) (old new : SpeakerState) → Resolved config r old.conf command → Holds config r old → new.conf ≡ conf_after old.conf command
    → ((s : ℕ) → peer_at new.conf s ≡ peer_after old.conf command s) → new.config ≡ old.config → new.moment ≡ old.moment → new.cache ≡ old.cache → new.payloads ≡ old.payloads → new.links ≡ old.links → new.adj_in ≡ old.adj_in
    → AreMadeAgain (tables new.conf (in_force_of new) old.links old.adj_in) (offer_at old.book) (offer_at new.book)
    → (known : List Prefix) → AreDifferent (HasRoute old.adj_in) known → new.chosen ≤ old.chosen + length known → new.chosen_before ≡ old.chosen
    → Holds config (turn (Command_call command) [] ∷ r) new
holds_resolved config r command old new so h conf peers config_same moment cache payloads links adj_in again known routed count counted =
    let peers_same : (s : ℕ) → peer_at new.conf s ≡ peer_at old.conf s = λ s. peers s ∙ so.peers s in
    let most = most_known config r known (different_as (HasRoute old.adj_in) (IsKnown config r) known (λ p there. known_of config (configuration_of config r) (moment_after r) (cache_history r) (λ t. history config t r) (choices_in config r) r old h refl (λ t q. refl) p there) routed) in
    record {
      config_is = config_same ∙ h.config_is;
      moment = moment ∙ h.moment;
      conf = conf ∙ ap (λ c. conf_after c command) h.conf;
      cache = subst (λ x. CacheAgrees config (cache_history r) x) (sym cache) h.cache;
      payloads = payloads ∙ h.payloads;
      peers = (h.peers.0, λ t peer at. h.peers.1 t peer (sym (peers_same t) ∙ at));
      slots = λ t. let P : Option ConfiguredPeer → Type 0 = λ x. SlotAgrees config x (link_at old.links t) (peer_route_at old.adj_in t) (history config t r) in
          let H : List happens.Event → Type 0 = λ x. SlotAgrees config (peer_at new.conf t) (link_at old.links t) (peer_route_at old.adj_in t) x in
          rw (links, adj_in) (subst H (sym (so.histories t)) (subst P (sym (peers_same t)) (h.slots t)));
      networks = λ p. ap (λ table. route_at table 64 p) adj_in ∙ h.networks p ∙ sym (so.networks p) ∙ ap (λ c. network_route c p) (sym conf);
      kept = kept_again old new links adj_in again h.kept;
      chosen = omega (arith, count, counted, most, so.choices);
    }

-- ---- local networks

-- a route of that slot is that of this prefix
pub local_is : (network : Prefix) (s : ℕ) (p : Prefix) → is_route 64 network s p ≡ true → (s ≡ 64) × (network ≡ p)
local_is network s p is =
    let parts = sym (is_route-parts 64 network s p) ∙ is in
    (eqb-true s 64 (first_true (s == 64) _ parts), same_from_is_prefix network p (second_true (s == 64) _ parts))
  where
    first_true : (a b : Bool) → (a && b) ≡ true → a ≡ true
    first_true true b h = refl
    first_true false b h = absurd (cc)

local_off : (network : Prefix) (s : ℕ) (p : Prefix) (b : Bool) → is_route 64 network s p ≡ b → s ≢ 64 → b ≡ false
local_off network s p true is other = absurd (other (local_is network s p is).0)
local_off network s p false is other = refl

-- both are one prefix, in the words of the order and of the configuration
prefix_of_is : (network p : Prefix) → is_prefix_of network p ≡ is_prefix network p
prefix_of_is network p = sym (is_at-prefix_cmp network p)

prefix_of_same : (network p : Prefix) → is_prefix_of network p ≡ true → network ≡ p
prefix_of_same network p is = same_from_is_prefix network p (sym (prefix_of_is network p) ∙ is)

-- of slot 64 the order of prefixes decides
local_at : (network p : Prefix) → is_route 64 network 64 p ≡ is_prefix network p
local_at network p = is_route-parts 64 network 64 p

-- the tables of local networks after a command
network_put : (conf : Configuration) (network p : Prefix) (b : Bool) → is_network_after conf (Network network) p ≡ b → is_network (conf_after conf (Network network)) p ≡ is_network_after conf (Network network) p
    → network_route (conf_after conf (Network network)) p ≡ cond b (Some originated) None
network_put conf network p b is same = ap (λ x. cond x (Some originated) None) (same ∙ is)

-- one that was there is there
pub holds_there : (config : Config) (r : Run) (network : Prefix) (old new : SpeakerState) → Holds config r old → new ≡ record old { conf = conf_after old.conf (Network network); chosen_before = old.chosen }
    → ((p : Prefix) → is_network (conf_after old.conf (Network network)) p ≡ is_network_after old.conf (Network network) p) → is_network old.conf network ≡ true → Holds config (turn (Command_call (Network network)) [] ∷ r) new
holds_there config r network old new h is after there = subst (λ s. Holds config (turn (Command_call (Network network)) [] ∷ r) s) (sym is) (record {
  config_is = h.config_is;
  moment = h.moment;
  conf = ap (λ c. conf_after c (Network network)) h.conf;
  cache = h.cache;
  payloads = h.payloads;
  peers = h.peers;
  slots = h.slots;
  networks = λ p. h.networks p ∙ ap (λ b. cond b (Some originated) None) (sym (after p ∙ stays p (is_prefix_of network p) refl));
  kept = kept_conf old (conf_after old.conf (Network network)) refl refl refl (λ s. refl) (λ s route. refl) h.kept;
  chosen = omega arith;
})
  where
    stays : (p : Prefix) (b : Bool) → is_prefix_of network p ≡ b → is_network_after old.conf (Network network) p ≡ is_network old.conf p
    stays p true same = rw same (sym (ap (λ q. is_network old.conf q) (sym (prefix_of_same network p same)) ∙ there))
    stays p false other = rw other refl

-- a prefix becomes one
pub holds_network : (config : Config) (r : Run) (network : Prefix) (old mid new : SpeakerState) → Holds config r old → mid ≡ record old { conf = conf_after old.conf (Network network) }
    → ((p : Prefix) → is_network mid.conf p ≡ is_network_after old.conf (Network network) p) → Announces network mid new → Holds config (turn (Command_call (Network network)) [] ∷ r) new
holds_network config r network old mid new h is after comes = record {
  config_is = comes.config ∙ same_config ∙ h.config_is;
  moment = comes.moment ∙ same_moment ∙ h.moment;
  conf = comes.conf ∙ same_conf ∙ ap (λ c. conf_after c (Network network)) h.conf;
  cache = subst (λ x. CacheAgrees config (cache_history r) x) (sym (comes.cache ∙ same_cache)) h.cache;
  payloads = comes.payloads ∙ same_payloads ∙ h.payloads;
  peers = rw (comes.conf, same_conf) h.peers;
  slots = λ t.
      let R : (Prefix → Option PathAttributes) → Type 0 = λ x. SlotAgrees config (peer_at old.conf t) (link_at old.links t) x (history config t r) in
      rw (comes.conf, same_conf, comes.links, same_links) (subst R (λ i p. sym (others t p) i) (h.slots t));
  networks = λ p. comes.routes 64 p ∙ network_here p (is_prefix network p) refl;
  kept = kept_announced;
  chosen = let few = comes.chosen.1 in let before = comes.chosen_before in omega (arith, few, before);
}
  where
    same_config : mid.config ≡ old.config
    same_config = ap (λ (s : SpeakerState). s.config) is

    same_moment : mid.moment ≡ old.moment
    same_moment = ap (λ (s : SpeakerState). s.moment) is

    same_conf : mid.conf ≡ conf_after old.conf (Network network)
    same_conf = ap (λ (s : SpeakerState). s.conf) is

    same_cache : mid.cache ≡ old.cache
    same_cache = ap (λ (s : SpeakerState). s.cache) is

    same_payloads : mid.payloads ≡ old.payloads
    same_payloads = ap (λ (s : SpeakerState). s.payloads) is

    same_links : mid.links ≡ old.links
    same_links = ap (λ (s : SpeakerState). s.links) is

    same_adj_in : mid.adj_in ≡ old.adj_in
    same_adj_in = ap (λ (s : SpeakerState). s.adj_in) is

    same_book : mid.book ≡ old.book
    same_book = ap (λ (s : SpeakerState). s.book) is

    routes_mid : (t : ℕ) (p : Prefix) → route_at mid.adj_in t p ≡ route_at old.adj_in t p
    routes_mid t p = ap (λ table. route_at table t p) same_adj_in

    route_off : (t : ℕ) (p : Prefix) → t ≢ 64 → route_at new.adj_in t p ≡ route_at old.adj_in t p
    route_off t p other = comes.routes t p ∙ ap (λ b. cond b (Some originated) (route_at mid.adj_in t p)) (local_off network t p (is_route 64 network t p) refl other) ∙ routes_mid t p

    others : (t : ℕ) (p : Prefix) → peer_route_at new.adj_in t p ≡ peer_route_at old.adj_in t p
    others t p = elim (cases_eq t 64) [
      | inl local ↦ rw (eq-eqb t 64 local) refl
      | inr other ↦ rw (ne_eqb t 64 other) (route_off t p other)
    ]

    put_at : (p : Prefix) (b : Bool) → is_prefix_of network p ≡ b → is_network_after old.conf (Network network) p ≡ cond b true (is_network old.conf p)
    put_at p b same = rw same refl

    network_here : (p : Prefix) (b : Bool) → is_prefix network p ≡ b → cond (is_route 64 network 64 p) (Some originated) (route_at mid.adj_in 64 p) ≡ network_route new.conf p
    network_here p true same =
        ap (λ b. cond b (Some originated) (route_at mid.adj_in 64 p)) (local_at network p ∙ same)
        ∙ sym (ap (λ b. cond b (Some originated) None) (ap (λ c. is_network c p) comes.conf ∙ after p ∙ put_at p true (prefix_of_is network p ∙ same)))
    network_here p false other =
        ap (λ b. cond b (Some originated) (route_at mid.adj_in 64 p)) (local_at network p ∙ other) ∙ routes_mid 64 p ∙ h.networks p
        ∙ sym (ap (λ b. cond b (Some originated) None) (ap (λ c. is_network c p) comes.conf ∙ after p ∙ put_at p false (prefix_of_is network p ∙ other)))

    kept_announced : AreKept (tables_of new) (offer_at new.book)
    kept_announced =
        let before : AreKept (tables_of (record old { conf = conf_after old.conf (Network network) })) (offer_at old.book) = kept_conf old (conf_after old.conf (Network network)) refl refl refl (λ s. refl) (λ s route. refl) h.kept in
        let now : AreKept (tables_of mid) (offer_at mid.book) = subst (λ (s : SpeakerState). AreKept (tables_of s) (offer_at s.book)) (sym is) before in
        let grown = kept_network mid.conf (in_force_of mid) network (λ s. session_at mid.links s) mid.adj_in new.adj_in (offer_at mid.book) (offer_at new.book) (λ p q same. (local_is p 64 q same).1) (λ s p same. (local_is network s p same).0) comes.routes comes.offers now in
        rw (comes.conf, comes.payloads, comes.links) grown

-- a prefix is none any more
pub holds_retracted : (config : Config) (r : Run) (network : Prefix) (old new : SpeakerState) → Holds config r old → new.conf ≡ conf_after old.conf (NoNetwork network)
    → ((p : Prefix) → is_network new.conf p ≡ is_network_after old.conf (NoNetwork network) p)
    → ((s : ℕ) (p : Prefix) → route_at new.adj_in s p ≡ cond (is_route 64 network s p) None (route_at old.adj_in s p)) → ((s : ℕ) (p : Prefix) → offer_at new.book s p ≡ cond (is_route 64 network s p) None (offer_at old.book s p))
    → new.config ≡ old.config → new.moment ≡ old.moment → new.cache ≡ old.cache → new.payloads ≡ old.payloads → new.links ≡ old.links → new.chosen_before ≡ old.chosen_before → new.chosen ≤ old.chosen + 1 → old.chosen ≤ old.chosen_before
    → Holds config (turn (Command_call (NoNetwork network)) [] ∷ r) new
holds_retracted config r network old new h conf after routes offers config_same moment cache payloads links counted few so_far = record {
  config_is = config_same ∙ h.config_is;
  moment = moment ∙ h.moment;
  conf = conf ∙ ap (λ c. conf_after c (NoNetwork network)) h.conf;
  cache = subst (λ x. CacheAgrees config (cache_history r) x) (sym cache) h.cache;
  payloads = payloads ∙ h.payloads;
  peers = rw conf h.peers;
  slots = λ t.
      let R : (Prefix → Option PathAttributes) → Type 0 = λ x. SlotAgrees config (peer_at old.conf t) (link_at old.links t) x (history config t r) in
      rw (conf, links) (subst R (λ i p. sym (others t p) i) (h.slots t));
  networks = λ p. routes 64 p ∙ network_here p (is_prefix network p) refl;
  kept = kept_gone_now;
  chosen = omega (arith, few, so_far, counted);
}
  where
    route_off : (t : ℕ) (p : Prefix) → t ≢ 64 → route_at new.adj_in t p ≡ route_at old.adj_in t p
    route_off t p other = routes t p ∙ ap (λ b. cond b None (route_at old.adj_in t p)) (local_off network t p (is_route 64 network t p) refl other)

    others : (t : ℕ) (p : Prefix) → peer_route_at new.adj_in t p ≡ peer_route_at old.adj_in t p
    others t p = elim (cases_eq t 64) [
      | inl local ↦ rw (eq-eqb t 64 local) refl
      | inr other ↦ rw (ne_eqb t 64 other) (route_off t p other)
    ]

    out_at : (p : Prefix) (b : Bool) → is_prefix_of network p ≡ b → is_network_after old.conf (NoNetwork network) p ≡ cond b false (is_network old.conf p)
    out_at p b same = rw same refl

    network_here : (p : Prefix) (b : Bool) → is_prefix network p ≡ b → cond (is_route 64 network 64 p) None (route_at old.adj_in 64 p) ≡ network_route new.conf p
    network_here p true same =
        ap (λ b. cond b None (route_at old.adj_in 64 p)) (local_at network p ∙ same) ∙ sym (ap (λ b. cond b (Some originated) None) (after p ∙ out_at p true (prefix_of_is network p ∙ same)))
    network_here p false other =
        ap (λ b. cond b None (route_at old.adj_in 64 p)) (local_at network p ∙ other) ∙ h.networks p ∙ sym (ap (λ b. cond b (Some originated) None) (after p ∙ out_at p false (prefix_of_is network p ∙ other)))

    kept_gone_now : AreKept (tables_of new) (offer_at new.book)
    kept_gone_now =
        let before : AreKept (tables_of (record old { conf = new.conf })) (offer_at old.book) = kept_conf old new.conf (ap (λ (c : Configuration). c.own) conf) (ap (λ (c : Configuration). c.reach) conf) (ap (λ (c : Configuration). c.exceptions) conf) (λ s. ap (λ c. option_map taken_by (peer_at c s)) conf) (λ s route. ap (λ c. import_action c s route) conf) h.kept in
        let gone = kept_gone new.conf (payloads_under new.conf old.payloads) (λ s. session_at old.links s) (λ s p. route_at old.adj_in s p) (λ s p. route_at new.adj_in s p) (offer_at old.book) (offer_at new.book) (λ s p. is_route 64 network s p) routes offers before in
        rw (payloads, links) gone

-- ---- policies

-- a policy that no peer uses is dropped
pub holds_dropped : (closing : ℕ) (config : Config) (r : Run) (name : Bor (List ℕ)) (old new : SpeakerState) → first_refusal old.conf closing (DropPolicy name) ≡ None → Holds config r old
    → new ≡ record old { conf = conf_after old.conf (DropPolicy name) } → old.chosen ≤ old.chosen_before → Holds config (turn (Command_call (DropPolicy name)) [] ∷ r) new
holds_dropped closing config r name old new may h is so_far = subst (λ s. Holds config (turn (Command_call (DropPolicy name)) [] ∷ r) s) (sym is) (record {
  config_is = h.config_is;
  moment = h.moment;
  conf = ap (λ c. conf_after c (DropPolicy name)) h.conf;
  cache = h.cache;
  payloads = h.payloads;
  peers = h.peers;
  slots = h.slots;
  networks = h.networks;
  kept = kept_conf old (conf_after old.conf (DropPolicy name)) refl refl refl (λ s. refl) (λ s route. import_action-DropPolicy old.conf s route closing name may) h.kept;
  chosen = omega (arith, so_far);
})

-- the addresses of a session
abbrev pub addresses_of : ConfiguredPeer → ℕ × ℕ
addresses_of peer = (peer.local, peer.address)

-- they are those that the peer had
importing_back : (f g : Option ConfiguredPeer) (p : ConfiguredPeer) → option_map addresses_of f ≡ option_map addresses_of g → f ≡ Some p
    → (x : ConfiguredPeer) × (g ≡ Some x) × (x.local ≡ p.local) × (x.address ≡ p.address)
importing_back f None p same is = absurd (let never = sym same ∙ ap (option_map addresses_of) is in cc)
importing_back f (Some x) p same is =
    let both : addresses_of x ≡ addresses_of p = some_one (sym same ∙ ap (option_map addresses_of) is) in
    (x, refl, ap (λ (b : ℕ × ℕ). b.0) both, ap (λ (b : ℕ × ℕ). b.1) both)
  where
    some_one : {X : Type 0} {x y : X} → Some x ≡ Some y → x ≡ y
    some_one is = cc

-- what an import policy doesn't say of a slot is the same
slot_importing : (config : Config) (found found2 : Option ConfiguredPeer) (linked : Option Linked) (routes : Prefix → Option PathAttributes) (h : List happens.Event) → option_map (terms_in config) found2 ≡ option_map (terms_in config) found
    → SlotAgrees config found linked routes h → SlotAgrees config found2 linked routes h
slot_importing config found found2 linked routes h same a = record { configured = same ∙ a.configured; there = a.there; link = a.link; vacant = a.vacant; routes_are = a.routes_are }

-- a peer has another import policy: the candidates of the prefixes to which it has routes were made again
pub holds_used : (closing : ℕ) (config : Config) (r : Run) (slot : ℕ) (name : Bor (List ℕ)) (old new : SpeakerState) → slot < 64 → first_refusal old.conf closing (UseIn slot name) ≡ None → Holds config r old
    → new.conf ≡ conf_after old.conf (UseIn slot name) → new.config ≡ old.config → new.moment ≡ old.moment → new.cache ≡ old.cache → new.payloads ≡ old.payloads → new.links ≡ old.links → new.adj_in ≡ old.adj_in
    → AreMadeWhere (tables new.conf (in_force_of new) old.links old.adj_in) (λ q. is_some (route_at old.adj_in slot q)) (offer_at old.book) (offer_at new.book)
    → OncePerPrefix (λ p. IsSome (route_at old.adj_in slot p)) old.chosen new.chosen → new.chosen_before ≡ old.chosen_before → old.chosen ≤ old.chosen_before
    → Holds config (turn (Command_call (UseIn slot name)) [] ∷ r) new
holds_used closing config r slot name old new within may h conf config_same moment cache payloads links adj_in made once counted so_far =
    let after : (t : ℕ) → option_map (terms_in config) (peer_at new.conf t) ≡ option_map (terms_in config) (peer_at old.conf t) =
    λ t. ap (λ c. option_map (terms_in config) (peer_at c t)) conf ∙ option_map-changed old.conf slot (importing (name_of name.now)) (terms_in config) (λ peer. refl) t in
    let settings : (t : ℕ) → option_map addresses_of (peer_at new.conf t) ≡ option_map addresses_of (peer_at old.conf t) =
    λ t. ap (λ c. option_map addresses_of (peer_at c t)) conf ∙ option_map-changed old.conf slot (importing (name_of name.now)) addresses_of (λ peer. refl) t in
    let was : (p : Prefix) → route_at old.adj_in slot p ≡ route (history config slot r) p = λ p. sym (peer_as old.adj_in slot p within) ∙ (h.slots slot).routes_are p in
    let few = most_routes (history config slot r) once.0 (different_as (λ p. IsSome (route_at old.adj_in slot p)) (λ p. IsSome (route (history config slot r) p)) once.0 (λ p there. subst (λ o. IsSome o) (was p) there) once.1) in
    let most = once.2 in
    record {
      config_is = config_same ∙ h.config_is;
      moment = moment ∙ h.moment;
      conf = conf ∙ ap (λ c. conf_after c (UseIn slot name)) h.conf;
      cache = subst (λ x. CacheAgrees config (cache_history r) x) (sym cache) h.cache;
      payloads = payloads ∙ h.payloads;
      peers = (
        h.peers.0,
        λ t peer at.
            let back = importing_back (peer_at new.conf t) (peer_at old.conf t) peer (settings t) at in
            let taken = h.peers.1 t back.0 back.1 in
            record {
              within = taken.within;
              local = subst (λ a. is_host a ≡ true) back.2 taken.local;
              apart = ap (λ a. a == peer.address) (sym back.2) ∙ ap (λ a. back.0.local == a) (sym back.3) ∙ taken.apart;
            },
      );
      slots = λ t. let S : Option Linked → RouteTable → Type 0 = λ l table. SlotAgrees config (peer_at new.conf t) l (peer_route_at table t) (history config t r) in
          subst (λ l. S (link_at l t) new.adj_in) (sym links) (subst (λ table. S (link_at old.links t) table) (sym adj_in)
          (slot_importing config (peer_at old.conf t) (peer_at new.conf t) (link_at old.links t) (peer_route_at old.adj_in t) (history config t r) (after t) (h.slots t)));
      networks = λ p. ap (λ table. route_at table 64 p) adj_in ∙ h.networks p ∙ ap (λ c. network_route c p) (sym conf);
      kept =
          kept_partly (λ q. is_some (route_at old.adj_in slot q)) old new links adj_in
          (subst (λ l. AreMadeWhere (tables new.conf (in_force_of new) l new.adj_in) (λ q. is_some (route_at old.adj_in slot q)) (offer_at old.book) (offer_at new.book)) (sym links)
          (subst (λ table. AreMadeWhere (tables new.conf (in_force_of new) old.links table) (λ q. is_some (route_at old.adj_in slot q)) (offer_at old.book) (offer_at new.book)) (sym adj_in) made))
          alike h.kept;
      chosen = omega (arith, few, most, counted, so_far);
    }
  where
    none_there : {P : Type 0} (o : Option PathAttributes) → is_some o ≡ false → IsSome o → P
    none_there None none there = absurd (cc)
    none_there (Some x) none there = absurd (cc)

    alike_off : (s : ℕ) (q : Prefix) → s ≢ slot → IsAlike (tables_of old) (tables_of new) s q
    alike_off s q other = record {
      own = ap (λ (c : Configuration). c.own) conf;
      reach = ap (λ (c : Configuration). c.reach) conf;
      peer = ap (option_map taken_by) (ap (λ c. peer_at c s) conf ∙ lookup-with_changed old.conf.peers slot s (importing (name_of name.now)) ∙ ap (λ b. cond b (option_map (importing (name_of name.now)) (peer_at old.conf slot)) (peer_at old.conf s)) (ne_eqb s slot other));
      identifier = ap (λ t. option_map (λ (x : Session). x.identifier) (session_at t s)) links;
      route = ap (λ t. route_at t s q) adj_in;
      state = λ origin. ap (λ x. validity x q origin) (in_force_same old new (ap (λ (c : Configuration). c.exceptions) conf) payloads);
      action = λ seen. ap (λ c. import_action c s seen) conf ∙ import_action-UseIn old.conf s seen slot name other;
    }

    alike : (s : ℕ) (q : Prefix) → is_some (route_at old.adj_in slot q) ≡ false → IsSome (route_at old.adj_in s q) → IsAlike (tables_of old) (tables_of new) s q
    alike s q none there = elim (cases_eq s slot) [
      | inl same ↦ none_there (route_at old.adj_in slot q) none (subst (λ x. IsSome (route_at old.adj_in x q)) same there)
      | inr other ↦ alike_off s q other
    ]

-- a peer has another export policy: no candidate goes by it
pub holds_exporting : (config : Config) (r : Run) (slot : ℕ) (name : Bor (List ℕ)) (old new : SpeakerState) → Holds config r old → new ≡ record old { conf = conf_after old.conf (UseOut slot name) } → old.chosen ≤ old.chosen_before
    → Holds config (turn (Command_call (UseOut slot name)) [] ∷ r) new
holds_exporting config r slot name old new h is so_far = subst (λ s. Holds config (turn (Command_call (UseOut slot name)) [] ∷ r) s) (sym is) (record {
  config_is = h.config_is;
  moment = h.moment;
  conf = ap (λ c. conf_after c (UseOut slot name)) h.conf;
  cache = h.cache;
  payloads = h.payloads;
  peers = (
    h.peers.0,
    λ t peer at.
        let back = importing_back (peer_at (conf_after old.conf (UseOut slot name)) t) (peer_at old.conf t) peer (settings addresses_of (λ peer. refl) t) at in
        let taken = h.peers.1 t back.0 back.1 in
        record {
          within = taken.within;
          local = subst (λ a. is_host a ≡ true) back.2 taken.local;
          apart = ap (λ a. a == peer.address) (sym back.2) ∙ ap (λ a. back.0.local == a) (sym back.3) ∙ taken.apart;
        },
  );
  slots = λ t. slot_importing config (peer_at old.conf t) (peer_at (conf_after old.conf (UseOut slot name)) t) (link_at old.links t) (peer_route_at old.adj_in t) (history config t r) (settings (terms_in config) (λ peer. refl) t) (h.slots t);
  networks = h.networks;
  kept = kept_conf old (conf_after old.conf (UseOut slot name)) refl refl refl (settings taken_by (λ peer. refl)) (λ s route. import_action-UseOut old.conf s route slot name) h.kept;
  chosen = omega (arith, so_far);
})
  where
    settings : {X : Type 0} (f : ConfiguredPeer → X) → ((peer : ConfiguredPeer) → f (exporting (name_of name.now) peer) ≡ f peer) → (t : ℕ)
        → option_map f (peer_at (conf_after old.conf (UseOut slot name)) t) ≡ option_map f (peer_at old.conf t)
    settings f same t = option_map-changed old.conf slot (exporting (name_of name.now)) f same t

-- with a new peer each is one that was accepted
added_taken : (slot t : ℕ) (before : Option ConfiguredPeer) (peer found : ConfiguredPeer) → IsTaken slot peer → (before ≡ Some found → IsTaken t found)
    → cond (t == slot) (Some peer) before ≡ Some found → IsTaken t found
added_taken slot t before peer found new old at = by_slot (t == slot) refl at
  where
    by_slot : (b : Bool) → (t == slot) ≡ b → cond b (Some peer) before ≡ Some found → IsTaken t found
    by_slot true same is = let this : peer ≡ found = cc in rw (eqb-true t slot same, ← this) new
    by_slot false other is = old is

-- commands leave the own AS
own_after : (conf : Configuration) (command : Command) → (conf_after conf command).own ≡ conf.own
own_after conf (AddPeer slot peer) = refl
own_after conf (RemovePeer slot) = refl
own_after conf (Enable slot) = refl
own_after conf (Disable slot) = refl
own_after conf (SetPolicy name rules) = refl
own_after conf (DropPolicy name) = refl
own_after conf (UseIn slot name) = refl
own_after conf (UseOut slot name) = refl
own_after conf (Network prefix) = refl
own_after conf (NoNetwork prefix) = refl
own_after conf (Reach prefix cost) = refl
own_after conf (NoReach prefix) = refl
own_after conf (Filter prefix asn) = refl
own_after conf (NoFilter prefix asn) = refl
own_after conf (Assert prefix max_len asn) = refl
own_after conf (NoAssert prefix max_len asn) = refl

own_called : (call : Call) (conf : Configuration) → (conf_called call conf).own ≡ conf.own
own_called (Up_call slot) conf = refl
own_called (Fail_call slot) conf = refl
own_called (Bytes_call slot octets) conf = refl
own_called (Starved_call slot before octet behind) conf = refl
own_called (Tick_call now) conf = refl
own_called (Command_call command) conf = own_after conf command
own_called (Take_call slot octets) conf = refl
own_called Cache_up_call conf = refl
own_called Cache_fail_call conf = refl
own_called (Cache_bytes_call octets) conf = refl
own_called (Cache_starved_call before octet behind) conf = refl
own_called (Cache_take_call octets) conf = refl

pub own_is : (config : Config) (r : Run) → (configuration_of config r).own ≡ config.asn
own_is config [] = refl
own_is config (now ∷ r) = own_called now.call (configuration_of config r) ∙ own_is config r

-- it takes memory, since the slot is free
pub added_grows : {T F : Type 0} (result : Result T F) (closing : ℕ) (conf : Configuration) (slot : ℕ) (peer : PeerConf) → first_refusal conf closing (AddPeer slot peer) ≡ None → OnErr result (TakesMemory conf (AddPeer slot peer))
added_grows (Ok done) closing conf slot peer may = tt
added_grows (Err why) closing conf slot peer may = peer_at-from_accepted conf closing slot peer may

-- an accepted peer
is_taken : (closing : ℕ) (config : Config) (r : Run) (slot : ℕ) (peer : PeerConf) (s : SpeakerState) → Holds config r s → first_refusal s.conf closing (AddPeer slot peer) ≡ None → IsTaken slot (configured_of peer)
is_taken closing config r slot peer s h may = record {
  within = slot-from_accepted s.conf closing slot peer may;
  local = is_host-from_accepted s.conf closing slot peer may;
  apart = apart-from_accepted s.conf closing slot peer may;
}

-- a new peer
pub holds_added : (closing : ℕ) (config : Config) (r : Run) (slot : ℕ) (peer : PeerConf) (old new : SpeakerState) → Holds config r old → first_refusal old.conf closing (AddPeer slot peer) ≡ None
    → new.conf ≡ conf_after old.conf (AddPeer slot peer) → ((s : ℕ) → peer_at new.conf s ≡ peer_after old.conf (AddPeer slot peer) s)
    → IsPut slot (record { peer = configured (terms_in config (configured_of peer)).own peer.mode (times_at config.timers slot); adj_out = [] }) old new
    → new.config ≡ old.config → new.moment ≡ old.moment → new.cache ≡ old.cache → new.payloads ≡ old.payloads → new.adj_in ≡ old.adj_in → new.book ≡ old.book → new.chosen ≤ new.chosen_before → Holds config (turn (Command_call (AddPeer slot peer)) [] ∷ r) new
holds_added closing config r slot peer old new h may conf peers put config_same moment cache payloads adj_in book few =
    let free : peer_at old.conf slot ≡ None = peer_at-from_accepted old.conf closing slot peer may in
    let before = h.slots slot in
    let vacant : is_established (session (history config slot r)).state ≡ false = ap is_established (before.vacant (sym before.configured ∙ ap (option_map (terms_in config)) free)).0 in
    let was : (p : Prefix) → route_at old.adj_in slot p ≡ route (history config slot r) p = λ p. sym (peer_as old.adj_in slot p (slot-from_accepted old.conf closing slot peer may)) ∙ before.routes_are p in
    record {
      config_is = config_same ∙ h.config_is;
      moment = moment ∙ h.moment;
      conf = conf ∙ ap (λ c. conf_after c (AddPeer slot peer)) h.conf;
      cache = subst (λ x. CacheAgrees config (cache_history r) x) (sym cache) h.cache;
      payloads = payloads ∙ h.payloads;
      peers = (h.peers.0, λ t found at. added_taken slot t (peer_at old.conf t) (configured_of peer) found (is_taken closing config r slot peer old h may) (h.peers.1 t found) (sym (peers t) ∙ at));
      slots =
          slots_changed config old.conf new.conf (link_at old.links) (link_at new.links) old.adj_in new.adj_in (λ t. history config t r) (λ t. history config t (turn (Command_call (AddPeer slot peer)) [] ∷ r)) slot h.slots
          (λ t other. peers t ∙ rw (ne_eqb t slot other) refl)
          (λ t other. put t ∙ rw (ne_eqb t slot other) refl)
          (λ t other p. ap (λ table. route_at table t p) adj_in)
          (λ t other. rw (ne_eqb t slot other) refl)
          (rw (peers slot, put slot, adj_in, eq-eqb slot slot refl) (agrees_peers config (Some (configured_of peer)) _ old.adj_in slot _ (slot-from_accepted old.conf closing slot peer may) (slot_agrees config (configured_of peer) _ (route_at old.adj_in slot) _ (record {
            terms = refl;
            link = record {
              peer = agrees-new (history config slot r) (terms_in config (configured_of peer)).own peer.mode peer.asn (times_at config.timers slot);
              held = λ p. refl;
              asked = λ p. refl;
              silent = λ k new p. absurd (cc);
            };
            routes_are = λ p. was p ∙ no_route (history config slot r) p vacant;
          }))));
      networks = λ p. ap (λ table. route_at table 64 p) adj_in ∙ h.networks p ∙ ap (λ c. network_route c p) (sym conf);
      kept =
          kept_added slot (configured (terms_in config (configured_of peer)).own peer.mode (times_at config.timers slot)) old new (offer_at old.book) (offer_at new.book) (slot-from_accepted old.conf closing slot peer may) put
          (λ p. was p ∙ no_route (history config slot r) p vacant)
          (ap (λ (c : Configuration). c.own) conf) (ap (λ (c : Configuration). c.reach) conf) (ap (λ (c : Configuration). c.policies) conf) (ap (λ (c : Configuration). c.exceptions) conf) (λ t other. peers t ∙ rw (ne_eqb t slot other) refl)
          payloads adj_in (ap (λ b. offer_at b) book) h.kept;
      chosen = omega (arith, few);
    }

-- a new slot, with the OPEN of the peer's terms, and its timers
abbrev pub added : Config → ℕ → PeerConf → Linked
added config slot peer = record { peer = configured (record { asn = config.asn; hold_time = peer.hold; identifier = config.identifier; multiprotocol = config.multiprotocol }) peer.mode (times_at config.timers slot); adj_out = [] }

pub added_same : (have config : Config) (slot : ℕ) (peer : PeerConf) → have ≡ config → added have slot peer ≡ added config slot peer
added_same have config slot peer is = rw is refl

-- a command of no other kind takes no memory
pub other_left : (command : Command) → ((slot : ℕ) (peer : PeerConf) → command ≢ AddPeer slot peer)
    → ((name : Bor (List ℕ)) (rules : Bor (List Rule)) → command ≢ SetPolicy name rules)
    → ((prefix : Prefix) → command ≢ Network prefix)
    → ((prefix : Prefix) (cost : ℕ) → command ≢ Reach prefix cost)
    → ((prefix : Prefix) → command ≢ NoReach prefix) → is_other command ≡ true
other_left (AddPeer slot peer) add set network reach unreach = absurd (add slot peer refl)
other_left (RemovePeer slot) add set network reach unreach = refl
other_left (Enable slot) add set network reach unreach = refl
other_left (Disable slot) add set network reach unreach = refl
other_left (SetPolicy name rules) add set network reach unreach = absurd (set name rules refl)
other_left (DropPolicy name) add set network reach unreach = refl
other_left (UseIn slot name) add set network reach unreach = refl
other_left (UseOut slot name) add set network reach unreach = refl
other_left (Network prefix) add set network reach unreach = absurd (network prefix refl)
other_left (NoNetwork prefix) add set network reach unreach = refl
other_left (Reach prefix cost) add set network reach unreach = absurd (reach prefix cost refl)
other_left (NoReach prefix) add set network reach unreach = absurd (unreach prefix refl)
other_left (Filter prefix asn) add set network reach unreach = refl
other_left (NoFilter prefix asn) add set network reach unreach = refl
other_left (Assert prefix max_len asn) add set network reach unreach = refl
other_left (NoAssert prefix max_len asn) add set network reach unreach = refl

pub free_left : (command : Command) → is_other command ≡ true
    → ((prefix : Option Prefix) (asn : Option Asn) → command ≢ Filter prefix asn)
    → ((prefix : Option Prefix) (asn : Option Asn) → command ≢ NoFilter prefix asn)
    → ((prefix : Prefix) (max_len : ℕ) (asn : Asn) → command ≢ Assert prefix max_len asn)
    → ((prefix : Prefix) (max_len : ℕ) (asn : Asn) → command ≢ NoAssert prefix max_len asn) → is_free command ≡ true
free_left (AddPeer slot peer) other filter unfilter claim unclaim = absurd cc
free_left (RemovePeer slot) other filter unfilter claim unclaim = refl
free_left (Enable slot) other filter unfilter claim unclaim = refl
free_left (Disable slot) other filter unfilter claim unclaim = refl
free_left (SetPolicy name rules) other filter unfilter claim unclaim = absurd cc
free_left (DropPolicy name) other filter unfilter claim unclaim = refl
free_left (UseIn slot name) other filter unfilter claim unclaim = refl
free_left (UseOut slot name) other filter unfilter claim unclaim = refl
free_left (Network prefix) other filter unfilter claim unclaim = absurd cc
free_left (NoNetwork prefix) other filter unfilter claim unclaim = refl
free_left (Reach prefix cost) other filter unfilter claim unclaim = absurd cc
free_left (NoReach prefix) other filter unfilter claim unclaim = absurd cc
free_left (Filter prefix asn) other filter unfilter claim unclaim = absurd (filter prefix asn refl)
free_left (NoFilter prefix asn) other filter unfilter claim unclaim = absurd (unfilter prefix asn refl)
free_left (Assert prefix max_len asn) other filter unfilter claim unclaim = absurd (claim prefix max_len asn refl)
free_left (NoAssert prefix max_len asn) other filter unfilter claim unclaim = absurd (unclaim prefix max_len asn refl)

-- no other kind takes no memory
pub none_free : (command : Command) → is_free command ≡ true → ((slot : ℕ) → command ≢ RemovePeer slot)
    → ((slot : ℕ) → command ≢ Enable slot)
    → ((slot : ℕ) → command ≢ Disable slot)
    → ((name : Bor (List ℕ)) → command ≢ DropPolicy name)
    → ((slot : ℕ) (name : Bor (List ℕ)) → command ≢ UseIn slot name)
    → ((slot : ℕ) (name : Bor (List ℕ)) → command ≢ UseOut slot name)
    → ((prefix : Prefix) → command ≢ NoNetwork prefix) → ⊥
none_free (AddPeer slot peer) free remove enable disable drop intake export retract = absurd cc
none_free (RemovePeer slot) free remove enable disable drop intake export retract = remove slot refl
none_free (Enable slot) free remove enable disable drop intake export retract = enable slot refl
none_free (Disable slot) free remove enable disable drop intake export retract = disable slot refl
none_free (SetPolicy name rules) free remove enable disable drop intake export retract = absurd cc
none_free (DropPolicy name) free remove enable disable drop intake export retract = drop name refl
none_free (UseIn slot name) free remove enable disable drop intake export retract = intake slot name refl
none_free (UseOut slot name) free remove enable disable drop intake export retract = export slot name refl
none_free (Network prefix) free remove enable disable drop intake export retract = absurd cc
none_free (NoNetwork prefix) free remove enable disable drop intake export retract = retract prefix refl
none_free (Reach prefix cost) free remove enable disable drop intake export retract = absurd cc
none_free (NoReach prefix) free remove enable disable drop intake export retract = absurd cc
none_free (Filter prefix asn) free remove enable disable drop intake export retract = absurd cc
none_free (NoFilter prefix asn) free remove enable disable drop intake export retract = absurd cc
none_free (Assert prefix max_len asn) free remove enable disable drop intake export retract = absurd cc
none_free (NoAssert prefix max_len asn) free remove enable disable drop intake export retract = absurd cc
