use Rattle.std.proofs.Common.{◌≡◌, ◌≢◌, ◌≤◌, ◌<◌, ◌+◌, ◌==◌, ◌&&◌, ◌||◌, ℕ, Bool, true, false, not, List, [], ◌∷◌, length, Option, Some, None, is_some, cond, refl, sym, ap, ◌∙◌, subst, arith}
use Rattle.std.proofs.lemmas.Bool.{eq-eqb, ne_eqb}
use Rattle.std.specs.Option.{IsSome, option_map}
use Rattle.bgp_attr.specs.PathAttributes.{PathAttributes}
use Rattle.bgp_conf.specs.ConfAfter.{conf_after}
use Rattle.bgp_conf.specs.Configuration.{Configuration, peer_at}
use Rattle.bgp_conf.specs.declared.command.Command.TheVariants.{RemovePeer}
use Rattle.bgp_conf.specs.declared.conf.ConfiguredPeer.{ConfiguredPeer}
use Rattle.bgp_fsm.proofs.TableLaws.{fail_leaves, left_is, remove_ends}
use Rattle.bgp_fsm.specs.SessionTable.{effects_of, session_after}
use Rattle.bgp_fsm.specs.StateTests.{is_established}
use Rattle.bgp_fsm.specs.TimerMoments.{stopped}
use Rattle.bgp_fsm.specs.Transports.{is_closing, transport_of}
use Rattle.bgp_fsm.specs.declared.state.State.TheVariants.{Idle}
use Rattle.bgp_fsm.specs.declared.input.Input.{Input}
use Rattle.bgp_fsm.specs.declared.input.Input.TheVariants.{Fail, Remove as Removed}
use Rattle.bgp_fsm.specs.declared.session.Session.{Session}
use Rattle.bgp_peer.specs.SessionInputs as happens
use Rattle.bgp_peer.specs.SessionInputs.{Signalled, moment_of, occupant, session}
use Rattle.decision.specs.BookContents.{offer_at}
use Rattle.net_prefix.specs.declared.prefix.Prefix.{Prefix}
use Rattle.rib_in.specs.LatestRoutes.{route_at}
use Rattle.runs.specs.Agreement.{CacheAgrees, AreTaken, Holds, LinkAgrees, SlotAgrees}
use Rattle.rtr_codec.specs.ClientTable.{in_force}
use Rattle.rtr_session.specs.SessionHistory.{client}
use Rattle.runs.specs.Choices.{choices_in}
use Rattle.routing.specs.Chosen.{AreDifferent}
use Rattle.speaker.specs.Chosen.{Chooses}
use Rattle.runs.specs.FirstRefusal.{closes}
use Rattle.routing.specs.Linked.{Linked, moved}
use Rattle.speaker.specs.Moves.{Forgets, IsWithout, Moves}
use Rattle.runs.specs.Runs.{cache_history, Run, turn, Command_call, Fail_call, configuration_of, history, moment_after, terms_in}
use Rattle.runs.specs.SpeakerState.{SpeakerState, tables_of}
use Rattle.routing.specs.Tables.{link_at, session_at, network_route, peer_route_at}
use Rattle.runs.specs.declared.config.Config.{Config}
use Rattle.speaker.proofs.AllowedChoices.{signal_few}
use Rattle.speaker.proofs.Calls.{slots_changed}
use Rattle.speaker.proofs.Commands.{holds_signalled}
use Rattle.runs.proofs.Histories.{no_route}
use Rattle.speaker.proofs.KeptOffers.{kept_without}
use Rattle.routing.proofs.KeptOffers.{none_offered}
use Rattle.runs.proofs.Moments.{moment_same}
use Rattle.runs.proofs.SlotEvents.{link_signalled}
use Rattle.runs.proofs.SlotStates.{link_alone}
use Rattle.runs.proofs.PeerRoutes.{agrees_peers, agrees_routes, not_local}

-- A peer that is removed, and a slot that is let go, as the run with them has it.

-- what is left of a slot without a peer: nothing, or a connection that is still to be closed
pub record IsLeft (slot : ℕ) (mid new : SpeakerState) : Type 0 where
  pub links : (t : ℕ) → t ≢ slot → link_at new.links t ≡ link_at mid.links t
  pub here : link_at new.links slot ≡ cond (closes (session_at mid.links slot)) (link_at mid.links slot) None
  pub adj_in : new.adj_in ≡ mid.adj_in
  pub book : new.book ≡ mid.book
  pub chosen : new.chosen ≡ mid.chosen
  pub config : new.config ≡ mid.config
  pub moment : new.moment ≡ mid.moment
  pub conf : new.conf ≡ mid.conf
  pub cache : new.cache ≡ mid.cache
  pub payloads : new.payloads ≡ mid.payloads
  pub chosen_before : new.chosen_before ≡ mid.chosen_before

pub is_left : (slot : ℕ) (mid new : SpeakerState) → (closes (session_at mid.links slot) ≡ true → new ≡ mid) → (closes (session_at mid.links slot) ≡ false → IsWithout slot mid new) → IsLeft slot mid new
is_left slot mid new stays goes = by_test (closes (session_at mid.links slot)) refl
  where
    by_test : (b : Bool) → closes (session_at mid.links slot) ≡ b → IsLeft slot mid new
    by_test true is =
        let same = stays is in
        record {
          links = λ t other. ap (λ (s : SpeakerState). link_at s.links t) same;
          here = ap (λ (s : SpeakerState). link_at s.links slot) same ∙ sym (rw is refl);
          adj_in = ap (λ (s : SpeakerState). s.adj_in) same;
          book = ap (λ (s : SpeakerState). s.book) same;
          chosen = ap (λ (s : SpeakerState). s.chosen) same;
          config = ap (λ (s : SpeakerState). s.config) same;
          moment = ap (λ (s : SpeakerState). s.moment) same;
          conf = ap (λ (s : SpeakerState). s.conf) same;
          cache = ap (λ (s : SpeakerState). s.cache) same;
          payloads = ap (λ (s : SpeakerState). s.payloads) same;
          chosen_before = ap (λ (s : SpeakerState). s.chosen_before) same;
        }
    by_test false is =
        let gone = goes is in
        record {
          links = λ t other. gone.links t ∙ ap (λ b. cond b None (link_at mid.links t)) (ne_eqb t slot other);
          here = gone.links slot ∙ ap (λ b. cond b None (link_at mid.links slot)) (eq-eqb slot slot refl) ∙ sym (rw is refl);
          adj_in = gone.routes;
          book = gone.book;
          chosen = gone.chosen;
          config = gone.rest.config;
          moment = gone.rest.moment;
          conf = gone.rest.conf;
          cache = gone.rest.cache;
          payloads = gone.rest.payloads;
          chosen_before = gone.rest.chosen_before;
        }

some_if : {X : Type 0} (b : Bool) (x : X) → is_some (cond b (Some x) None) ≡ b
some_if true x = refl
some_if false x = refl

-- a slot without a peer, in Idle, with what is left of it
nobody_agrees : (config : Config) (l : Linked) (found : Option Linked) (routes : Prefix → Option PathAttributes) (h : List happens.Event) → occupant h ≡ None → (session h).state ≡ Idle → (session h).timers ≡ stopped → LinkAgrees h l
    → found ≡ cond (is_closing (transport_of (session h))) (Some l) None → ((p : Prefix) → routes p ≡ None) → SlotAgrees config None found routes h
nobody_agrees config l found routes h none idle timers link is unrouted = record {
  configured = sym none;
  there = ap is_some is ∙ some_if (is_closing (transport_of (session h))) l ∙ sym (ap (λ o. is_some o || is_closing (transport_of (session h))) none);
  link = λ x at. linked_by (is_closing (transport_of (session h))) x (sym is ∙ at);
  vacant = λ n. (idle, timers);
  routes_are = λ p. unrouted p ∙ sym (no_route h p (ap is_established idle));
}
  where
    linked_by : (b : Bool) (x : Linked) → cond b (Some l) None ≡ Some x → LinkAgrees h x
    linked_by true x at = link_alone l x h link at
    linked_by false x at = absurd (cc)

-- what is left of it behind this input
left_here : (slot : ℕ) (l : Linked) (input : Input) (old mid new : SpeakerState) (h : List happens.Event) → moment_of h ≡ old.moment → l.peer.session ≡ session h → link_at mid.links slot ≡ Some (moved old.moment l input) → IsLeft slot mid new
    → link_at new.links slot ≡ cond (is_closing (transport_of (session (Signalled input ∷ h)))) (Some (moved old.moment l input)) None
left_here slot l input old mid new h now session_is put left =
    left.here ∙ ap (λ o. cond (closes (option_map (λ (x : Linked). x.peer.session) o)) o None) put
    ∙ ap (λ (s : Session). cond (is_closing (transport_of s)) (Some (moved old.moment l input)) None) (ap (session_after old.moment input) session_is ∙ ap (λ m. session_after m input (session h)) (sym now))

none_either : {X : Type 0} (b : Bool) (x : Option X) → x ≡ None → cond b None x ≡ None
none_either true x none = refl
none_either false x none = none

off_either : {X : Type 0} (b : Bool) (slot t : ℕ) (x : Option X) → t ≢ slot → cond (b && t == slot) None x ≡ x
off_either true slot t x other = rw (ne_eqb t slot other) refl
off_either false slot t x other = refl

still_some : {X : Type 0} (b : Bool) (x : Option X) (y : X) → cond b None x ≡ Some y → x ≡ Some y
still_some true x y is = absurd (cc)
still_some false x y is = is

-- one slot is left without a peer
gone_by : (config : Config) (r1 r2 : Run) (slot : ℕ) (old new : SpeakerState) → Holds config r1 old → slot < 64 → new.config ≡ old.config → new.moment ≡ old.moment → moment_after r2 ≡ moment_after r1 → new.conf ≡ configuration_of config r2 → new.cache ≡ old.cache → new.payloads ≡ old.payloads → cache_history r2 ≡ cache_history r1
    → AreTaken config.asn new.conf → new.conf.own ≡ old.conf.own → new.conf.reach ≡ old.conf.reach → new.conf.policies ≡ old.conf.policies → new.conf.exceptions ≡ old.conf.exceptions → ((p : Prefix) → network_route old.conf p ≡ network_route new.conf p) → ((t : ℕ) → t ≢ slot → peer_at new.conf t ≡ peer_at old.conf t) → ((t : ℕ) → t ≢ slot → link_at new.links t ≡ link_at old.links t)
    → ((t : ℕ) → t ≢ slot → (p : Prefix) → route_at new.adj_in t p ≡ route_at old.adj_in t p) → ((p : Prefix) → route_at new.adj_in slot p ≡ None)
    → ((t : ℕ) → t ≢ slot → (p : Prefix) → offer_at new.book t p ≡ offer_at old.book t p) → ((p : Prefix) → offer_at new.book slot p ≡ None)
    → ((t : ℕ) → t ≢ slot → history config t r2 ≡ history config t r1) → new.chosen ≤ new.chosen_before + choices_in config r2
    → SlotAgrees config (peer_at new.conf slot) (link_at new.links slot) (route_at new.adj_in slot) (history config slot r2) → Holds config r2 new
gone_by config r1 r2 slot old new h low config_same moment now conf cache payloads cached taken own reach policies exceptions same_networks peers links routes unrouted offers unoffered histories few here = record {
  config_is = config_same ∙ h.config_is;
  moment = moment ∙ h.moment ∙ sym now;
  conf = conf;
  cache = subst (λ x. CacheAgrees config x new.cache) (sym cached) (subst (λ x. CacheAgrees config (cache_history r1) x) (sym cache) h.cache);
  payloads = payloads ∙ h.payloads ∙ ap (λ x. in_force (client config.cache_retry x)) (sym cached);
  peers = taken;
  slots = slots_changed config old.conf new.conf (link_at old.links) (link_at new.links) old.adj_in new.adj_in (λ t. history config t r1) (λ t. history config t r2) slot h.slots peers links routes histories (agrees_peers config (peer_at new.conf slot) (link_at new.links slot) new.adj_in slot (history config slot r2) low here);
  networks = λ p. routes 64 (λ is. not_local slot low (sym is)) p ∙ h.networks p ∙ same_networks p;
  kept = kept_without slot old new h.kept own reach policies exceptions payloads peers (λ t other. ap (option_map (λ (x : Linked). x.peer.session)) (links t other)) routes unrouted offers unoffered (λ session there. low);
  chosen = few;
}

within_slots : (config : Config) (r : Run) (slot : ℕ) (l : Linked) (s : SpeakerState) → Holds config r s → link_at s.links slot ≡ Some l → slot < 64
within_slots config r slot l s h linked = h.kept.below slot l.peer.session (ap (option_map (λ (x : Linked). x.peer.session)) linked)

put_there : (slot : ℕ) (l : Linked) (input : Input) (old mid : SpeakerState) → Moves slot l input old mid → link_at mid.links slot ≡ Some (moved old.moment l input)
put_there slot l input old mid moves = moves.links slot ∙ ap (λ b. cond b (Some (moved old.moment l input)) (link_at old.links slot)) (eq-eqb slot slot refl)

put_off : (slot t : ℕ) (l : Linked) (input : Input) (old mid : SpeakerState) → Moves slot l input old mid → t ≢ slot → link_at mid.links t ≡ link_at old.links t
put_off slot t l input old mid moves other = moves.links t ∙ ap (λ b. cond b (Some (moved old.moment l input)) (link_at old.links t)) (ne_eqb t slot other)

-- the connection of a slot without a peer is lost
holds_lost : (config : Config) (r : Run) (slot : ℕ) (l : Linked) (old mid new : SpeakerState) → Holds config r old → link_at old.links slot ≡ Some l → peer_at old.conf slot ≡ None → Moves slot l Fail old mid
    → Chooses slot (effects_of Fail l.peer.session).left old mid → IsLeft slot mid new → old.chosen ≤ old.chosen_before → Holds config (turn (Fail_call slot) [] ∷ r) new
holds_lost config r slot l old mid new h linked nobody moves chooses left so_far =
    let k : List happens.Event = history config slot r in
    let a : SlotAgrees config (peer_at old.conf slot) (Some l) (route_at old.adj_in slot) (history config slot r) = agrees_routes config (peer_at old.conf slot) (Some l) old.adj_in slot (history config slot r) (within_slots config r slot l old h linked) (subst (λ x. SlotAgrees config (peer_at old.conf slot) x (peer_route_at old.adj_in slot) (history config slot r)) linked (h.slots slot)) in
    let none : occupant (history config slot r) ≡ None = sym a.configured ∙ ap (option_map (terms_in config)) nobody in
    let link : LinkAgrees (history config slot r) l = a.link l refl in
    let now : moment_of (history config slot r) ≡ old.moment = moment_same config r slot ∙ sym h.moment in
    let leaves = fail_leaves (moment_of (history config slot r)) (session (history config slot r)) (a.vacant none).0 (a.vacant none).1 in
    let L : ℕ → Type 0 = λ m. LinkAgrees (Signalled Fail ∷ history config slot r) (moved m l Fail) in
    let unrouted : (p : Prefix) → route_at old.adj_in slot p ≡ None = λ p. a.routes_are p ∙ no_route (history config slot r) p (ap is_established (a.vacant none).0) in
    let few = signal_few slot (history config slot r) Fail l.peer.session old mid link.peer.session a.routes_are chooses in
    let before = moves.rest.chosen_before in
    let same = left.chosen in
    let same_before = left.chosen_before in
    let routes : (p : Prefix) → route_at new.adj_in slot p ≡ None =
    λ p. ap (λ t. route_at t slot p) left.adj_in ∙ moves.routes slot p ∙ none_either ((effects_of Fail l.peer.session).left && slot == slot) (route_at old.adj_in slot p) (unrouted p) in
    let after : Run = turn (Fail_call slot) [] ∷ r in
    let at : history config slot after ≡ Signalled Fail ∷ history config slot r = rw (eq-eqb slot slot refl) refl in
    let P : List happens.Event → Type 0 = λ x. SlotAgrees config (peer_at new.conf slot) (link_at new.links slot) (route_at new.adj_in slot) x in
    let peers : (t : ℕ) → peer_at new.conf t ≡ peer_at old.conf t = λ t. ap (λ c. peer_at c t) (left.conf ∙ moves.rest.conf) in
    gone_by config r after slot old new h (within_slots config r slot l old h linked) (left.config ∙ moves.rest.config) (left.moment ∙ moves.rest.moment) refl (left.conf ∙ moves.rest.conf ∙ h.conf) (left.cache ∙ moves.rest.cache) (left.payloads ∙ moves.rest.payloads) refl
    (h.peers.0, λ t peer there. h.peers.1 t peer (sym (peers t) ∙ there)) (ap (λ (c : Configuration). c.own) (left.conf ∙ moves.rest.conf)) (ap (λ (c : Configuration). c.reach) (left.conf ∙ moves.rest.conf)) (ap (λ (c : Configuration). c.policies) (left.conf ∙ moves.rest.conf)) (ap (λ (c : Configuration). c.exceptions) (left.conf ∙ moves.rest.conf)) (λ p. ap (λ c. network_route c p) (sym (left.conf ∙ moves.rest.conf))) (λ t other. peers t)
    (λ t other. left.links t other ∙ put_off slot t l Fail old mid moves other)
    (λ t other p. ap (λ x. route_at x t p) left.adj_in ∙ moves.routes t p ∙ off_either (effects_of Fail l.peer.session).left slot t (route_at old.adj_in t p) other) routes
    (λ t other p. ap (λ b. offer_at b t p) left.book ∙ moves.offers t p ∙ off_either (effects_of Fail l.peer.session).left slot t (offer_at old.book t p) other)
    (λ p. ap (λ b. offer_at b slot p) left.book ∙ moves.offers slot p
    ∙ none_either ((effects_of Fail l.peer.session).left && slot == slot) (offer_at old.book slot p) (none_offered (tables_of old) slot p (offer_at old.book slot p) (unrouted p) (h.kept.made slot p)))
    (λ t other. rw (ne_eqb t slot other) refl) (omega (arith, few, before, same, same_before, so_far))
    (subst P (sym at) (subst (λ found. SlotAgrees config found (link_at new.links slot) (route_at new.adj_in slot) (Signalled Fail ∷ history config slot r)) (sym (peers slot ∙ nobody))
    (nobody_agrees config (moved old.moment l Fail) (link_at new.links slot) (route_at new.adj_in slot) (Signalled Fail ∷ history config slot r) none leaves.0 leaves.1
    (subst L now (link_signalled (history config slot r) l Fail refl (λ e. cc) link))
    (left_here slot l Fail old mid new (history config slot r) now link.peer.session (put_there slot l Fail old mid moves) left) routes)))

-- a connection, or an attempt at one, is lost
pub holds_failed : (config : Config) (r : Run) (slot : ℕ) (l : Linked) (old mid new : SpeakerState) → Holds config r old → link_at old.links slot ≡ Some l → Moves slot l Fail old mid
    → Chooses slot (effects_of Fail l.peer.session).left old mid → (IsSome (peer_at mid.conf slot) → new ≡ mid) → (closes (session_at mid.links slot) ≡ true → new ≡ mid)
    → (peer_at mid.conf slot ≡ None → closes (session_at mid.links slot) ≡ false → IsWithout slot mid new) → old.chosen ≤ old.chosen_before → Holds config (turn (Fail_call slot) [] ∷ r) new
holds_failed config r slot l old mid new h linked moves chooses kept closing gone so_far = by_peer (peer_at old.conf slot) refl
  where
    same : peer_at mid.conf slot ≡ peer_at old.conf slot
    same = ap (λ c. peer_at c slot) moves.rest.conf

    by_peer : (found : Option ConfiguredPeer) → peer_at old.conf slot ≡ found → Holds config (turn (Fail_call slot) [] ∷ r) new
    by_peer None nobody = holds_lost config r slot l old mid new h linked nobody moves chooses (is_left slot mid new closing (gone (same ∙ nobody))) so_far
    by_peer (Some peer) configured =
        rw (kept (subst (λ o. IsSome o) (sym (same ∙ configured)) refl))
        (holds_signalled config r (turn (Fail_call slot) [] ∷ r) slot l Fail old mid h peer configured (λ x. refl) linked refl (λ e. cc) moves refl refl refl (λ t. refl) chooses 0 (omega (arith, so_far)) (omega arith))

no_different : (holds : Prefix → Type 0) (ps : List Prefix) → ((p : Prefix) → holds p → ⊥) → AreDifferent holds ps → length ps ≤ 0
no_different holds [] never h = omega arith
no_different holds (p ∷ ps) never h = absurd (never p h.1)

was_down : (was is left : Bool) → left ≡ (was && not is) → is ≡ false → left ≡ false → was ≡ false
was_down true false true so down not = absurd (cc)
was_down true false false so down not = absurd (cc)
was_down true true left so down not = absurd (cc)
was_down false is left so down not = refl

-- a peer is removed
pub holds_removed : (config : Config) (r : Run) (slot : ℕ) (l : Linked) (old mid forgot new : SpeakerState) → Holds config r old → link_at old.links slot ≡ Some l → Moves slot l Removed old mid
    → Chooses slot (effects_of Removed l.peer.session).left old mid → Forgets slot mid forgot → IsLeft slot forgot new → old.chosen ≤ old.chosen_before → Holds config (turn (Command_call (RemovePeer slot)) [] ∷ r) new
holds_removed config r slot l old mid forgot new h linked moves chooses forgets left so_far =
    let a : SlotAgrees config (peer_at old.conf slot) (Some l) (route_at old.adj_in slot) (history config slot r) = agrees_routes config (peer_at old.conf slot) (Some l) old.adj_in slot (history config slot r) (within_slots config r slot l old h linked) (subst (λ x. SlotAgrees config (peer_at old.conf slot) x (peer_route_at old.adj_in slot) (history config slot r)) linked (h.slots slot)) in
    let link : LinkAgrees (history config slot r) l = a.link l refl in
    let now : moment_of (history config slot r) ≡ old.moment = moment_same config r slot ∙ sym h.moment in
    let ends = remove_ends (moment_of (history config slot r)) (session (history config slot r)) in
    let L : ℕ → Type 0 = λ m. LinkAgrees (Signalled Removed ∷ history config slot r) (moved m l Removed) in
    let few = signal_few slot (history config slot r) Removed l.peer.session old mid link.peer.session a.routes_are chooses in
    let down : (effects_of Removed l.peer.session).left ≡ false → is_established (session (history config slot r)).state ≡ false =
    λ not. was_down (is_established (session (history config slot r)).state) (is_established (session_after (moment_of (history config slot r)) Removed (session (history config slot r))).state) (effects_of Removed (session (history config slot r))).left
    (left_is (moment_of (history config slot r)) Removed (session (history config slot r))) (ap is_established ends.0) (ap (λ (s : Session). (effects_of Removed s).left) (sym link.peer.session) ∙ not) in
    let nothing : (p : Prefix) → IsSome (route_at mid.adj_in slot p) → ⊥ =
    λ p there. nothing_left (effects_of Removed l.peer.session).left refl p (λ not. a.routes_are p ∙ no_route (history config slot r) p (down not)) (subst (λ o. IsSome o) (moves.routes slot p) there) in
    let none_ended = no_different (λ p. IsSome (route_at mid.adj_in slot p)) forgets.chosen.0 nothing forgets.chosen.1 in
    let ended = forgets.chosen.2 in
    let before = moves.rest.chosen_before in
    let forgot_before = forgets.chosen_before in
    let same = left.chosen in
    let same_before = left.chosen_before in
    let after : Run = turn (Command_call (RemovePeer slot)) [] ∷ r in
    let at : history config slot after ≡ Signalled Removed ∷ history config slot r = rw (eq-eqb slot slot refl) refl in
    let P : List happens.Event → Type 0 = λ x. SlotAgrees config (peer_at new.conf slot) (link_at new.links slot) (route_at new.adj_in slot) x in
    let conf_is : new.conf ≡ conf_after old.conf (RemovePeer slot) = left.conf ∙ forgets.conf ∙ ap (λ c. conf_after c (RemovePeer slot)) moves.rest.conf in
    let peers : (t : ℕ) → peer_at new.conf t ≡ cond (t == slot) None (peer_at old.conf t) = λ t. ap (λ c. peer_at c t) left.conf ∙ forgets.peers t ∙ ap (λ c. cond (t == slot) None (peer_at c t)) moves.rest.conf in
    let nobody : peer_at new.conf slot ≡ None = peers slot ∙ ap (λ b. cond b None (peer_at old.conf slot)) (eq-eqb slot slot refl) in
    let routes : (p : Prefix) → route_at new.adj_in slot p ≡ None = λ p. ap (λ t. route_at t slot p) left.adj_in ∙ forgets.routes slot p ∙ ap (λ b. cond b None (route_at mid.adj_in slot p)) (eq-eqb slot slot refl) in
    gone_by config r after slot old new h (within_slots config r slot l old h linked) (left.config ∙ forgets.config ∙ moves.rest.config) (left.moment ∙ forgets.moment ∙ moves.rest.moment) refl (conf_is ∙ ap (λ c. conf_after c (RemovePeer slot)) h.conf) (left.cache ∙ forgets.cache ∙ moves.rest.cache) (left.payloads ∙ forgets.payloads ∙ moves.rest.payloads) refl
    (h.peers.0, λ t peer there. h.peers.1 t peer (still_some (t == slot) (peer_at old.conf t) peer (sym (peers t) ∙ there))) (ap (λ (c : Configuration). c.own) conf_is) (ap (λ (c : Configuration). c.reach) conf_is) (ap (λ (c : Configuration). c.policies) conf_is) (ap (λ (c : Configuration). c.exceptions) conf_is) (λ p. ap (λ c. network_route c p) (sym conf_is))
    (λ t other. peers t ∙ ap (λ b. cond b None (peer_at old.conf t)) (ne_eqb t slot other))
    (λ t other. left.links t other ∙ ap (λ ls. link_at ls t) forgets.links ∙ put_off slot t l Removed old mid moves other)
    (λ t other p. ap (λ x. route_at x t p) left.adj_in ∙ forgets.routes t p ∙ ap (λ b. cond b None (route_at mid.adj_in t p)) (ne_eqb t slot other) ∙ moves.routes t p
    ∙ off_either (effects_of Removed l.peer.session).left slot t (route_at old.adj_in t p) other) routes
    (λ t other p. ap (λ b. offer_at b t p) left.book ∙ forgets.offers t p ∙ ap (λ b. cond b None (offer_at mid.book t p)) (ne_eqb t slot other) ∙ moves.offers t p
    ∙ off_either (effects_of Removed l.peer.session).left slot t (offer_at old.book t p) other)
    (λ p. ap (λ b. offer_at b slot p) left.book ∙ forgets.offers slot p ∙ ap (λ b. cond b None (offer_at mid.book slot p)) (eq-eqb slot slot refl))
    (λ t other. rw (ne_eqb t slot other) refl) (omega (arith, few, before, none_ended, ended, forgot_before, same, same_before, so_far))
    (subst P (sym at) (subst (λ found. SlotAgrees config found (link_at new.links slot) (route_at new.adj_in slot) (Signalled Removed ∷ history config slot r)) (sym nobody)
    (nobody_agrees config (moved old.moment l Removed) (link_at new.links slot) (route_at new.adj_in slot) (Signalled Removed ∷ history config slot r) refl ends.0 ends.1
    (subst L now (link_signalled (history config slot r) l Removed refl (λ e. cc) link))
    (left_here slot l Removed old forgot new (history config slot r) now link.peer.session (ap (λ ls. link_at ls slot) forgets.links ∙ put_there slot l Removed old mid moves) left) routes)))
  where
    nothing_left : (b : Bool) → (effects_of Removed l.peer.session).left ≡ b → (p : Prefix) → ((effects_of Removed l.peer.session).left ≡ false → route_at old.adj_in slot p ≡ None)
        → IsSome (cond ((effects_of Removed l.peer.session).left && slot == slot) None (route_at old.adj_in slot p)) → ⊥
    nothing_left true is p none there = let never = subst (λ b. IsSome (cond b None (route_at old.adj_in slot p))) (ap (λ b. b && slot == slot) is ∙ eq-eqb slot slot refl) there in cc
    nothing_left false is p none there = let never = subst (λ o. IsSome o) (none is) (subst (λ b. IsSome (cond (b && slot == slot) None (route_at old.adj_in slot p))) is there) in cc

-- the session of a removed peer isn't Established
pub down_after : (slot : ℕ) (old new : SpeakerState) → ((l : Linked) → link_at old.links slot ≡ Some l → Moves slot l Removed old new) → (link_at old.links slot ≡ None → new ≡ old)
    → (x : Linked) → link_at new.links slot ≡ Some x → is_established x.peer.session.state ≡ false
down_after slot old new moves none x at = by_link (link_at old.links slot) refl
  where
    once : {X : Type 0} {a b : X} → Some a ≡ Some b → a ≡ b
    once is = cc

    by_link : (found : Option Linked) → link_at old.links slot ≡ found → is_established x.peer.session.state ≡ false
    by_link None is = let never = sym is ∙ sym (ap (λ (s : SpeakerState). link_at s.links slot) (none is)) ∙ at in absurd (cc)
    by_link (Some l) is =
        let same : moved old.moment l Removed ≡ x = once (sym (put_there slot l Removed old new (moves l is)) ∙ at) in
        subst (λ (y : Linked). is_established y.peer.session.state ≡ false) same (ap is_established (remove_ends old.moment l.peer.session).0)

pub some_is : {X : Type 0} (o : Option X) → IsSome o → (x : X) × (o ≡ Some x)
some_is None there = absurd (cc)
some_is (Some x) there = (x, refl)

pub forgotten : (slot : ℕ) (mid forgot : SpeakerState) → Forgets slot mid forgot → peer_at forgot.conf slot ≡ None
forgotten slot mid forgot forgets = forgets.peers slot ∙ ap (λ b. cond b None (peer_at mid.conf slot)) (eq-eqb slot slot refl)
