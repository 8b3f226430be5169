use Rattle.std.proofs.Common.{◌≡◌, ◌≢◌, ◌≤◌, ◌||◌, ℕ, Bool, true, false, List, [], ◌∷◌, ◌++◌, Option, Some, None, is_some, length, take, cond, refl, sym, ap, ◌∙◌, subst}
use Rattle.bgp_attr.specs.PathAttributes.{PathAttributes}
use Rattle.bgp_conf.specs.declared.conf.ConfiguredPeer.{ConfiguredPeer}
use Rattle.bgp_fsm.specs.SessionTable.{effects_of}
use Rattle.bgp_fsm.specs.StateTests.{is_established, is_message}
use Rattle.bgp_fsm.specs.Transports.{is_closing, transport_of}
use Rattle.bgp_fsm.specs.declared.input.Input.{Input}
use Rattle.bgp_fsm.specs.declared.input.Input.TheVariants.{Up}
use Rattle.bgp_fsm.specs.declared.session.Effects.{Effects}
use Rattle.bgp_fsm.specs.declared.session.Session.{Session}
use Rattle.bgp_fsm.proofs.TableLaws.{established_stands}
use Rattle.bgp_msg.specs.MessageStream.{Item, completed, needed_of}
use Rattle.bgp_peer.specs.Agreement.{holding}
use Rattle.bgp_peer.specs.SessionInputs.{Event, Terms, Signalled, Octet, Handed, terms_from, terms_of, item_at, input_of, moment_of, occupant, session, staying, onto}
use Rattle.bgp_peer.specs.Slot.{pushed, handed}
use Rattle.bgp_peer.proofs.Agreeing.{agrees-shut, agrees-take, shut_octet, item_of_rest}
use Rattle.bgp_peer.proofs.Receiving.{Hears, HasHeard, heard-wanted, wants-agreed}
use Rattle.bgp_peer.proofs.Rows.{ignored}
use Rattle.net_prefix.specs.declared.prefix.Prefix.{Prefix}
use Rattle.net_prefix.specs.declared.transport.Transport.TheVariants.{Open as Connected}
use Rattle.routing.specs.Updates.{word_if}
use Rattle.routing.specs.Heard.{update_heard}
use Rattle.runs.specs.AdjRibIn.{route}
use Rattle.runs.specs.Agreement.{LinkAgrees, SlotAgrees}
use Rattle.routing.specs.Linked.{Linked, moved}
use Rattle.runs.specs.Runs.{terms_in}
use Rattle.runs.specs.declared.config.Config.{Config}
use Rattle.runs.proofs.SlotStates.{SlotIs, link_alone}
use Rattle.runs.proofs.Histories.{route_moved, route_stays}
use Rattle.runs.proofs.Refreshing.{asked_quiet, asked_stays}
use Rattle.runs.proofs.SlotEvents.{route_octet, route_item, link_signalled, link_octet, link_item, with_peer, unheard}

-- A slot with its routes, as one thing after another happens to it.

pub slot_signalled : (config : Config) (peer : ConfiguredPeer) (l : Linked) (old new : Prefix → Option PathAttributes) (h : List Event) (input : Input)
    → is_message input ≡ false → (input ≡ Up → is_established (session h).state ≡ false) → ((found : Option Terms) → staying input found ≡ found) → SlotIs config peer l old h
    → ((p : Prefix) → new p ≡ cond (effects_of input l.peer.session).left None (old p)) → SlotIs config peer (moved (moment_of h) l input) new (Signalled input ∷ h)
slot_signalled config peer l old new h input is other stays s change = record {
  terms = stays (occupant h) ∙ s.terms;
  link = link_signalled h l input is other s.link;
  routes_are = λ p. change p ∙ ap (λ r. cond (effects_of input l.peer.session).left None r) (s.routes_are p)
      ∙ ap (λ (x : Session). cond (effects_of input x).left None (route h p)) s.link.peer.session ∙ sym (route_moved (moment_of h) h (Signalled input) input None p refl refl (λ none. refl));
}

-- octets are handed out, whether or not a peer is configured
pub agrees_handed : (config : Config) (found : Option ConfiguredPeer) (l : Linked) (routes : Prefix → Option PathAttributes) (h : List Event) (count : ℕ) → SlotAgrees config found (Some l) routes h
    → SlotAgrees config found (Some (with_peer l (handed l.peer count))) routes (Handed (take count l.peer.ring) ∷ h)
agrees_handed config found l routes h count a =
    let link = a.link l refl in
    record {
      configured = a.configured;
      there = a.there;
      link = λ x is. link_alone (with_peer l (handed l.peer count)) x (Handed (take count l.peer.ring) ∷ h) (record { peer = agrees-take h l.peer count link.peer; held = link.held; asked = λ p. link.asked p ∙ sym (asked_stays h (Handed (take count l.peer.ring)) p refl refl refl); silent = link.silent }) is;
      vacant = a.vacant;
      routes_are = λ p. a.routes_are p ∙ sym (route_stays h p);
    }

-- the slot with this rest is as the history leaves it
abbrev pub WithRest : Config → ConfiguredPeer → Linked → (Prefix → Option PathAttributes) → List Event → List ℕ → Type 0
WithRest config peer l routes h rest = SlotIs config peer (with_peer l (holding rest l.peer)) routes h

slot_octet : (config : Config) (peer : ConfiguredPeer) (l : Linked) (routes : Prefix → Option PathAttributes) (h : List Event) (octet : ℕ)
    → transport_of l.peer.session ≡ Connected → completed l.peer.rest octet ≡ None → SlotIs config peer l routes h
    → SlotIs config peer (with_peer l (pushed l.peer (octet ∷ []))) routes (Octet octet ∷ h)
slot_octet config peer l routes h octet connected none s = record {
  terms = s.terms;
  link = link_octet h l octet connected none s.link;
  routes_are = λ p. s.routes_are p ∙ sym (route_octet h octet p (item_of_rest h l.peer octet None connected none s.link.peer));
}

-- octets that are wanted come on an open connection
pub slot_pushed : (config : Config) (peer : ConfiguredPeer) (l : Linked) (routes : Prefix → Option PathAttributes) (h : List Event) (octets : List ℕ)
    → transport_of l.peer.session ≡ Connected → length octets ≤ needed_of l.peer.rest → SlotIs config peer l routes h
    → HasHeard (λ x rest. WithRest config peer l routes x rest) (onto octets h) (l.peer.rest ++ octets)
slot_pushed config peer l routes h octets connected few s =
    heard-wanted (λ x rest. WithRest config peer l routes x rest) h l.peer.rest octets
    (λ x part octet none before. slot_octet config peer (with_peer l (holding part l.peer)) routes x octet connected none before)
    (wants-agreed h l.peer s.link.peer connected) few s

-- the item is taken
pub slot_taken : (config : Config) (peer : ConfiguredPeer) (l : Linked) (old new : Prefix → Option PathAttributes) (h : List Event) (item : Item) → transport_of l.peer.session ≡ Connected
    → Hears (λ x rest. WithRest config peer l old x rest) h l.peer.rest item
    → ((p : Prefix) → new p ≡ cond (effects_of (input_of l.peer.session.state (terms_in config peer) item) l.peer.session).left None
    (word_if (update_heard l.peer.session.state (terms_in config peer) item) p (old p)))
    → SlotIs config peer (moved (moment_of h) l (input_of l.peer.session.state (terms_in config peer) item)) new h
slot_taken config peer l old new h item connected s change =
    let here : item_at s.before s.octet ≡ Some item = item_of_rest s.before (holding s.part l.peer) s.octet (Some item) connected s.whole s.holds.link.peer in
    let terms : terms_of s.before ≡ terms_in config peer = ap terms_from s.holds.terms in
    let F : Terms → Type 0 = λ t. LinkAgrees (Octet s.octet ∷ s.before) (moved (moment_of s.before) l (input_of l.peer.session.state t item)) in
    let linked : LinkAgrees (Octet s.octet ∷ s.before) (moved (moment_of s.before) l (input_of l.peer.session.state (terms_in config peer) item)) =
    subst F terms (link_item s.before l s.part s.octet item connected s.whole s.holds.link) in
    rw s.history_is (record {
      terms = s.holds.terms;
      link = linked;
      routes_are = λ p.
          change p
          ∙ ap (λ r. cond (effects_of (input_of l.peer.session.state (terms_in config peer) item) l.peer.session).left None (word_if (update_heard l.peer.session.state (terms_in config peer) item) p r)) (s.holds.routes_are p)
          ∙ ap (λ (x : Session). cond (effects_of (input_of x.state (terms_in config peer) item) x).left None (word_if (update_heard x.state (terms_in config peer) item) p (route s.before p))) s.holds.link.peer.session
          ∙ ap (λ t. cond (effects_of (input_of (session s.before).state t item) (session s.before)).left None (word_if (update_heard (session s.before).state t item) p (route s.before p))) (sym terms)
          ∙ sym (route_item s.before s.octet item p here);
    })

-- without a connection an octet changes nothing
not_established : (s : Session) (b : Bool) → is_established s.state ≡ b → transport_of s ≢ Connected → b ≡ false
not_established s true is shut = absurd (shut (established_stands s is))
not_established s false is shut = refl

quiet_route : (h : List Event) (octet : ℕ) (found : Option Item) (p : Prefix) → item_at h octet ≡ found → transport_of (session h) ≢ Connected → route (Octet octet ∷ h) p ≡ route h p
quiet_route h octet None p is shut = route_octet h octet p is
quiet_route h octet (Some item) p is shut =
    let nothing_done = ignored (session h) (terms_of h) item shut in
    route_item h octet item p is
    ∙ ap (λ (row : (ℕ → Session) × Effects). cond row.1.left None (word_if (update_heard (session h).state (terms_of h) item) p (route h p))) nothing_done
    ∙ ap (λ update. word_if update p (route h p)) (unheard (session h).state (terms_of h) item (not_established (session h) _ refl shut))

slot_quiet : (config : Config) (peer : ConfiguredPeer) (l : Linked) (routes : Prefix → Option PathAttributes) (h : List Event) (octet : ℕ)
    → transport_of l.peer.session ≢ Connected → SlotIs config peer l routes h → SlotIs config peer l routes (Octet octet ∷ h)
slot_quiet config peer l routes h octet shut s =
    let shut_after : transport_of (session h) ≢ Connected = λ e. shut (ap transport_of s.link.peer.session ∙ e) in
    let still = shut_octet h octet _ refl shut_after in
    record {
      terms = s.terms;
      link = record {
        peer = agrees-shut h l.peer (octet ∷ []) shut s.link.peer;
        held = λ p. rw (still.0, still.1) (s.link.held p);
        asked = λ p. s.link.asked p ∙ sym (asked_quiet h (Octet octet) p still.0 (not_established (session h) _ refl shut_after));
        silent = λ k new p. rw still.1 (s.link.silent (rw still.0 at k) (rw still.0 at new) p);
      };
      routes_are = λ p. s.routes_are p ∙ sym (quiet_route h octet _ p refl shut_after);
    }

pub slot_shut : (config : Config) (peer : ConfiguredPeer) (l : Linked) (routes : Prefix → Option PathAttributes) (h : List Event) (octets : List ℕ)
    → transport_of l.peer.session ≢ Connected → SlotIs config peer l routes h → SlotIs config peer l routes (onto octets h)
slot_shut config peer l routes h [] shut s = s
slot_shut config peer l routes h (octet ∷ octets) shut s = slot_shut config peer l routes (Octet octet ∷ h) octets shut (slot_quiet config peer l routes h octet shut s)

-- nor does it whether or not a peer is configured
agrees_quiet : (config : Config) (found : Option ConfiguredPeer) (l : Linked) (routes : Prefix → Option PathAttributes) (h : List Event) (octet : ℕ)
    → transport_of l.peer.session ≢ Connected → SlotAgrees config found (Some l) routes h → SlotAgrees config found (Some l) routes (Octet octet ∷ h)
agrees_quiet config found l routes h octet shut a =
    let link = a.link l refl in
    let shut_after : transport_of (session h) ≢ Connected = λ e. shut (ap transport_of link.peer.session ∙ e) in
    let still = shut_octet h octet _ refl shut_after in
    record {
      configured = a.configured;
      there = a.there ∙ ap (λ (x : Session). is_some (occupant h) || is_closing (transport_of x)) (sym still.0);
      link = λ x is. link_alone l x (Octet octet ∷ h) (record {
        peer = agrees-shut h l.peer (octet ∷ []) shut link.peer;
        held = λ p. rw (still.0, still.1) (link.held p);
        asked = λ p. link.asked p ∙ sym (asked_quiet h (Octet octet) p still.0 (not_established (session h) _ refl shut_after));
        silent = λ k new p. rw still.1 (link.silent (rw still.0 at k) (rw still.0 at new) p);
      }) is;
      vacant = λ none. rw still.0 (a.vacant none);
      routes_are = λ p. a.routes_are p ∙ sym (quiet_route h octet _ p refl shut_after);
    }

pub agrees_dropped : (config : Config) (found : Option ConfiguredPeer) (l : Linked) (routes : Prefix → Option PathAttributes) (h : List Event) (octets : List ℕ)
    → transport_of l.peer.session ≢ Connected → SlotAgrees config found (Some l) routes h → SlotAgrees config found (Some l) routes (onto octets h)
agrees_dropped config found l routes h [] shut a = a
agrees_dropped config found l routes h (octet ∷ octets) shut a = agrees_dropped config found l routes (Octet octet ∷ h) octets shut (agrees_quiet config found l routes h octet shut a)
