use Rattle.std.proofs.Common.{◌≡◌, ◌||◌, ◌⊎◌, inl, inr, Bool, true, false, List, Option, Some, None, is_some, cond, refl, sym, ap, ◌∙◌, subst}
use Rattle.std.specs.Option.{option_map}
use Rattle.bgp_attr.specs.PathAttributes.{PathAttributes}
use Rattle.bgp_conf.specs.declared.conf.ConfiguredPeer.{ConfiguredPeer}
use Rattle.bgp_fsm.specs.Transports.{is_closing, transport_of}
use Rattle.bgp_fsm.specs.declared.session.Session.{Session}
use Rattle.bgp_peer.specs.SessionInputs.{Event, Terms, is_there, occupant, session}
use Rattle.net_prefix.specs.declared.prefix.Prefix.{Prefix}
use Rattle.runs.specs.AdjRibIn.{route}
use Rattle.runs.specs.Agreement.{LinkAgrees, SlotAgrees}
use Rattle.routing.specs.Linked.{Linked}
use Rattle.runs.specs.Runs.{terms_in}
use Rattle.runs.specs.declared.config.Config.{Config}

-- A slot with its peer and its link, where it has them.

-- the slot of this peer and its routes are as this history leaves them
pub record SlotIs (config : Config) (peer : ConfiguredPeer) (l : Linked) (routes : Prefix → Option PathAttributes) (h : List Event) : Type 0 where
  pub terms : occupant h ≡ Some (terms_in config peer)
  pub link : LinkAgrees h l
  pub routes_are : (prefix : Prefix) → routes prefix ≡ route h prefix

pub link_alone : (l x : Linked) (h : List Event) → LinkAgrees h l → Some l ≡ Some x → LinkAgrees h x
link_alone l x h a is = let same : l ≡ x = cc in subst (λ y. LinkAgrees h y) same a

-- a slot that a peer occupies is there
pub there_by : (h : List Event) (found : Option Terms) → occupant h ≡ found → is_some found ≡ true → is_there h ≡ true
there_by h found is some = rw (is, some) refl

pub slot_agrees : (config : Config) (peer : ConfiguredPeer) (l : Linked) (routes : Prefix → Option PathAttributes) (h : List Event) → SlotIs config peer l routes h
    → SlotAgrees config (Some peer) (Some l) routes h
slot_agrees config peer l routes h s = record {
  configured = sym s.terms;
  there = sym (there_by h (Some (terms_in config peer)) s.terms refl);
  link = λ x is. link_alone l x h s.link is;
  vacant = λ none. let never = sym s.terms ∙ none in absurd (cc);
  routes_are = s.routes_are;
}

pub slot_from : (config : Config) (found : Option ConfiguredPeer) (peer : ConfiguredPeer) (linked : Option Linked) (l : Linked) (routes : Prefix → Option PathAttributes) (h : List Event)
    → found ≡ Some peer → linked ≡ Some l → SlotAgrees config found linked routes h → SlotIs config peer l routes h
slot_from config found peer linked l routes h configured there a = record {
  terms = sym a.configured ∙ ap (option_map (terms_in config)) configured;
  link = a.link l there;
  routes_are = a.routes_are;
}

some_from : {X : Type 0} (o : Option X) → is_some o ≡ true → (x : X) × (o ≡ Some x)
some_from None is = absurd (cc)
some_from (Some x) is = (x, refl)

pub none_from : {X : Type 0} (o : Option X) → is_some o ≡ false → o ≡ None
none_from None is = refl
none_from (Some x) is = absurd (cc)

-- a slot that isn't there is vacant
pub vacant_from : (h : List Event) → is_there h ≡ false → occupant h ≡ None
vacant_from h none = none_from (occupant h) (first (is_some (occupant h)) (is_closing (transport_of (session h))) none)
  where
    first : (a b : Bool) → (a || b) ≡ false → a ≡ false
    first true b is = absurd (cc)
    first false b is = refl

-- one that is there, and whose connection isn't closing, is occupied
pub occupied_from : (h : List Event) → is_there h ≡ true → is_closing (transport_of (session h)) ≡ false → is_some (occupant h) ≡ true
occupied_from h there standing = first (is_some (occupant h)) (is_closing (transport_of (session h))) there standing
  where
    first : (a b : Bool) → (a || b) ≡ true → b ≡ false → a ≡ true
    first true b is out = refl
    first false b is out = absurd (cc)

mapped_some : (config : Config) (found : Option ConfiguredPeer) → is_some (option_map (terms_in config) found) ≡ is_some found
mapped_some config None = refl
mapped_some config (Some peer) = refl

pub linked_from : (config : Config) (found : Option ConfiguredPeer) (peer : ConfiguredPeer) (linked : Option Linked) (routes : Prefix → Option PathAttributes) (h : List Event)
    → found ≡ Some peer → SlotAgrees config found linked routes h → (l : Linked) × (linked ≡ Some l)
linked_from config found peer linked routes h configured a =
    some_from linked (a.there ∙ there_by h (option_map (terms_in config) found) (sym a.configured) (mapped_some config found ∙ ap is_some configured))

-- a slot whose connection isn't still to be closed is configured
pub configured_from : (config : Config) (found : Option ConfiguredPeer) (linked : Option Linked) (l : Linked) (routes : Prefix → Option PathAttributes) (h : List Event)
    → linked ≡ Some l → is_closing (transport_of l.peer.session) ≡ false → SlotAgrees config found linked routes h → (peer : ConfiguredPeer) × (found ≡ Some peer)
configured_from config found linked l routes h there standing a =
    some_from found (sym (mapped_some config found) ∙ ap is_some a.configured ∙ occupied_from h (sym a.there ∙ ap is_some there) (ap (λ (x : Session). is_closing (transport_of x)) (sym (a.link l there).peer.session) ∙ standing))

-- nor is a vacant one with a timer that runs
pub vacant_or : (config : Config) (found : Option ConfiguredPeer) (linked : Option Linked) (routes : Prefix → Option PathAttributes) (h : List Event) → SlotAgrees config found linked routes h
    → ((peer : ConfiguredPeer) × (found ≡ Some peer)) ⊎ (occupant h ≡ None)
vacant_or config None linked routes h a = inr (sym a.configured)
vacant_or config (Some peer) linked routes h a = inl (peer, refl)

session_by : (h : List Event) (linked : Option Linked) → is_some linked ≡ is_there h → ((l : Linked) → linked ≡ Some l → LinkAgrees h l)
    → cond (is_there h) (Some (session h)) None ≡ option_map (λ x. x.peer.session) linked
session_by h None same link = rw (← same) refl
session_by h (Some l) same link = rw (← same) (ap Some (sym (link l refl).peer.session))

-- the session of a slot
pub slot_session : (config : Config) (found : Option ConfiguredPeer) (linked : Option Linked) (routes : Prefix → Option PathAttributes) (h : List Event) → SlotAgrees config found linked routes h
    → cond (is_there h) (Some (session h)) None ≡ option_map (λ x. x.peer.session) linked
slot_session config found linked routes h a = session_by h linked a.there a.link
