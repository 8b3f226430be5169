use Rattle.std.proofs.Common.{◌≡◌, ◌<◌, ◌↔◌, ◌⊎◌, ℕ, Bool, true, false, List, Option, Some, None, cond, refl, sym, ap, ◌∙◌, subst, inl, inr, arith}
use Rattle.std.proofs.lemmas.Grind.{common_steps}
use Rattle.std.specs.List.Sorted.{IsStrictlySortedBy}
use Rattle.std.specs.Map.{keys_of}
use Rattle.std.specs.Option.{IsSome, MatchOption, option_map}
use Rattle.bgp_attr.specs.PathAttributes.{PathAttributes, originated}
use Rattle.bgp_attr.specs.PeerKinds.{is_external, kind_between}
use Rattle.bgp_conf.specs.Configuration.{Configuration, peer_at}
use Rattle.bgp_conf.specs.declared.conf.ConfiguredPeer.{ConfiguredPeer}
use Rattle.bgp_fsm.specs.SessionTable.{effects_of, session_after}
use Rattle.bgp_fsm.specs.StateTests.{is_established}
use Rattle.bgp_fsm.specs.declared.input.Input.{Input}
use Rattle.bgp_fsm.specs.declared.session.Session.{Session}
use Rattle.decision.specs.BookContents.{IsBestOf, best_at}
use Rattle.decision.specs.declared.candidate.Candidate.{Candidate}
use Rattle.bgp_conf.specs.PeerPolicies.{action_by, import_action}
use Rattle.policy.specs.PolicyMeaning.{Route}
use Rattle.net_prefix.specs.PrefixOrder.{prefix_cmp}
use Rattle.net_prefix.specs.declared.asn.Asn.{Asn}
use Rattle.net_prefix.specs.declared.payload.Vrp.{Vrp}
use Rattle.net_prefix.specs.declared.prefix.Prefix.{Prefix}
use Rattle.origin_valid.specs.Validity.{validity}
use Rattle.rib_in.specs.LatestRoutes.{RouteTable, is_route, route_at}
use Rattle.routing.specs.Candidates.{IsCandidate, IsCandidateOf, IsLocalCandidate, IsMade, IsPeerCandidate, HasNoneAt, IsOnlyCandidateAt, degree_of, judged_at, local_candidate, network_at, origin_in, seen_of, state_in, taken, with_state}
use Rattle.routing.specs.Linked.{Linked}
use Rattle.routing.specs.LocRib.{HasNoCandidate, IsBest, IsLocRib}
use Rattle.routing.specs.Offers.{AreKept, IsOffer, IsSource, IsUp, Offers, read_in}
use Rattle.routing.specs.Tables.{Tables, tables}
use Rattle.routing.proofs.CandidateLists.{candidate_made, candidate_route, network_made, none_routed}

-- What leaves a slot's candidate of a prefix as it is.

-- a peer of the same settings and the same policies make of a route what they made
pub same_action : (old new : Configuration) (slot : ℕ) (route : Route) → new.policies ≡ old.policies → peer_at new slot ≡ peer_at old slot → import_action new slot route ≡ import_action old slot route
same_action old new slot route policies peer = λ i. action_by (λ x. x.import) (policies i) (peer i) route

-- what a candidate of a peer goes by, beside the peer's import policy
abbrev pub taken_by : ConfiguredPeer → Asn × ℕ × ℕ
taken_by peer = (peer.asn, peer.address, peer.local)

-- of this slot and prefix the selection reads the same in both tables
pub record IsAlike (t u : Tables) (slot : ℕ) (prefix : Prefix) : Type 0 where
  pub own : u.conf.own ≡ t.conf.own
  pub reach : u.conf.reach ≡ t.conf.reach
  pub peer : option_map taken_by (peer_at u.conf slot) ≡ option_map taken_by (peer_at t.conf slot)
  pub identifier : option_map (λ (s : Session). s.identifier) (u.sessions slot) ≡ option_map (λ (s : Session). s.identifier) (t.sessions slot)
  pub route : u.routes slot prefix ≡ t.routes slot prefix
  -- whatever its origin is
  pub state : (origin : Option Asn) → validity u.payloads prefix origin ≡ validity t.payloads prefix origin
  -- whatever the route is
  pub action : (route : Route) → import_action u.conf slot route ≡ import_action t.conf slot route

alike_back : (t u : Tables) (slot : ℕ) (prefix : Prefix) → IsAlike t u slot prefix → IsAlike u t slot prefix
alike_back t u slot prefix a = record { own = sym a.own; reach = sym a.reach; peer = sym a.peer; identifier = sym a.identifier; route = sym a.route; state = λ origin. sym (a.state origin); action = λ route. sym (a.action route) }

identifier_of : (found : Option Session) (identifier : ℕ) → option_map (λ (s : Session). s.identifier) found ≡ Some identifier
    → (session : Session) × (found ≡ Some session) × (session.identifier ≡ identifier)
identifier_of None identifier is = absurd (cc)
identifier_of (Some session) identifier is = (session, refl, cc)

-- the peer that a candidate goes by
pub taken_back : (found other : Option ConfiguredPeer) (peer : ConfiguredPeer) → option_map taken_by found ≡ option_map taken_by other → other ≡ Some peer
    → (x : ConfiguredPeer) × (found ≡ Some x) × (x.asn ≡ peer.asn) × (x.address ≡ peer.address) × (x.local ≡ peer.local)
taken_back None other peer same is = absurd (let never = same ∙ ap (option_map taken_by) is in cc)
taken_back (Some x) other peer same is =
    let both : taken_by x ≡ taken_by peer = one (same ∙ ap (option_map taken_by) is) in
    (x, refl, ap (λ (b : Asn × ℕ × ℕ). b.0) both, ap (λ (b : Asn × ℕ × ℕ). b.1) both, ap (λ (b : Asn × ℕ × ℕ). b.2) both)
  where
    one : {X : Type 0} {x y : X} → Some x ≡ Some y → x ≡ y
    one is = cc

-- what attributes make is the same
of_alike : (t u : Tables) (prefix : Prefix) (identifier other : ℕ) (attrs : PathAttributes) (c : Candidate) → IsAlike t u c.slot prefix → other ≡ identifier → IsCandidateOf t.conf identifier attrs c → IsCandidateOf u.conf other attrs c
of_alike t u prefix identifier other attrs c a told made =
    let now = taken_back (peer_at u.conf c.slot) (peer_at t.conf c.slot) made.peer a.peer made.configured in
    record {
      peer = now.0;
      path = made.path;
      next_hop = made.next_hop;
      configured = now.1;
      origin_is = made.origin_is;
      path_is = made.path_is;
      next_hop_is = made.next_hop_is;
      without_own_as = rw a.own made.without_own_as;
      not_own_address = λ own. made.not_own_address (own ∙ now.4);
      resolves = rw a.reach made.resolves;
      degree_is = ap (λ own. degree_of (kind_between own now.0.asn) attrs) a.own ∙ ap (λ asn. degree_of (kind_between t.conf.own asn) attrs) now.2 ∙ made.degree_is;
      length_is = made.length_is;
      neighbor_is = rw a.own made.neighbor_is;
      med_is = made.med_is;
      external_is = made.external_is ∙ sym (ap (λ own. is_external (kind_between own now.0.asn)) a.own ∙ ap (λ asn. is_external (kind_between t.conf.own asn)) now.2);
      identifier_is = made.identifier_is ∙ sym told;
      address_is = made.address_is ∙ sym now.3;
    }

-- its state is the same
state_alike : (t u : Tables) (slot : ℕ) (prefix : Prefix) (attrs : PathAttributes) → IsAlike t u slot prefix → state_in u.conf.own u.payloads prefix attrs ≡ state_in t.conf.own t.payloads prefix attrs
state_alike t u slot prefix attrs a = ap (λ own. state_in own u.payloads prefix attrs) a.own ∙ a.state (origin_in t.conf.own attrs)

-- and so is what policies see of it
seen_alike : (t u : Tables) (slot : ℕ) (prefix : Prefix) (attrs : PathAttributes) → IsAlike t u slot prefix → seen_of u.conf.own u.payloads slot prefix attrs ≡ seen_of t.conf.own t.payloads slot prefix attrs
seen_alike t u slot prefix attrs a = λ i. record {
  prefix = prefix;
  state = state_alike t u slot prefix attrs a i;
  origin = origin_in (a.own i) attrs;
  path = attrs.as_path;
  from = Some slot;
}

judged_alike : (t u : Tables) (prefix : Prefix) (attrs : PathAttributes) (c : Candidate) → IsAlike t u c.slot prefix → judged_at u.conf u.payloads attrs (Some c) prefix ≡ judged_at t.conf t.payloads attrs (Some c) prefix
judged_alike t u prefix attrs c a =
    ap (λ state. taken (import_action u.conf c.slot (seen_of u.conf.own u.payloads c.slot prefix attrs)) (with_state state c)) (state_alike t u c.slot prefix attrs a)
    ∙ ap (λ action. taken action (with_state (state_in t.conf.own t.payloads prefix attrs) c))
    (ap (import_action u.conf c.slot) (seen_alike t u c.slot prefix attrs a) ∙ a.action (seen_of t.conf.own t.payloads c.slot prefix attrs))

peer_alike : (t u : Tables) (prefix : Prefix) (c : Candidate) → IsAlike t u c.slot prefix → IsPeerCandidate t prefix c → IsPeerCandidate u prefix c
peer_alike t u prefix c a is =
    let found = identifier_of (u.sessions c.slot) is.session.identifier (a.identifier ∙ ap (option_map (λ (s : Session). s.identifier)) is.session_is) in
    let at : IsAlike t u is.made.slot prefix = subst (λ s. IsAlike t u s prefix) (sym is.of_slot) a in
    record {
      session = found.0;
      attrs = is.attrs;
      made = is.made;
      slot_is = is.slot_is;
      session_is = found.1;
      route = a.route ∙ is.route;
      of_slot = is.of_slot;
      by_attrs = of_alike t u prefix is.session.identifier found.0.identifier is.attrs is.made at found.2 is.by_attrs;
      judged = judged_alike t u prefix is.attrs is.made at ∙ is.judged;
    }

local_alike : (t u : Tables) (prefix : Prefix) (c : Candidate) → IsAlike t u 64 prefix → IsLocalCandidate t prefix c → IsLocalCandidate u prefix c
local_alike t u prefix c a is =
    let judged : state_in t.conf.own t.payloads prefix is.attrs ≡ state_in u.conf.own u.payloads prefix is.attrs = sym (state_alike t u 64 prefix is.attrs a) in
    record {
      attrs = is.attrs;
      route = a.route ∙ is.route;
      made = is.made ∙ (λ i. with_state (judged i) (local_candidate (sym a.own i)));
    }

candidate_alike : (t u : Tables) (prefix : Prefix) (c : Candidate) → IsAlike t u c.slot prefix → IsCandidate t prefix c → IsCandidate u prefix c
candidate_alike t u prefix c a (inl is) = inl (peer_alike t u prefix c a is)
candidate_alike t u prefix c a (inr is) = inr (local_alike t u prefix c (subst (λ slot. IsAlike t u slot prefix) (ap (λ (x : Candidate). x.slot) is.made) a) is)

candidate_at_slot : (t u : Tables) (slot : ℕ) (prefix : Prefix) (c : Candidate) → IsAlike t u slot prefix → c.slot ≡ slot → IsCandidate t prefix c → IsCandidate u prefix c
candidate_at_slot t u slot prefix c a at is = candidate_alike t u prefix c (subst (λ s. IsAlike t u s prefix) (sym at) a) is

-- the candidate stays
pub offer_alike : (t u : Tables) (slot : ℕ) (prefix : Prefix) (found : Option Candidate) → IsAlike t u slot prefix → IsOffer t slot prefix found → IsOffer u slot prefix found
offer_alike t u slot prefix None a none = λ c at is. none c at (candidate_at_slot u t slot prefix c (alike_back t u slot prefix a) at is)
offer_alike t u slot prefix (Some c) a one = record {
  at_slot = one.at_slot;
  is_one = candidate_at_slot t u slot prefix c a one.at_slot one.is_one;
  alone = λ d here is. one.alone d here (candidate_at_slot u t slot prefix d (alike_back t u slot prefix a) here is);
}

pub none_offered : (t : Tables) (slot : ℕ) (prefix : Prefix) (found : Option Candidate) → t.routes slot prefix ≡ None → IsOffer t slot prefix found → found ≡ None
none_offered t slot prefix None nothing is = refl
none_offered t slot prefix (Some c) nothing one =
    let found = candidate_route t prefix c one.is_one in
    let route = subst (λ s. t.routes s prefix ≡ Some found.0) one.at_slot found.1 in
    absurd (cc)

-- where there is no route in either table, nothing is kept
pub offer_unrouted : (t u : Tables) (slot : ℕ) (prefix : Prefix) (found : Option Candidate) → t.routes slot prefix ≡ None → u.routes slot prefix ≡ None
    → IsOffer t slot prefix found → IsOffer u slot prefix found
offer_unrouted t u slot prefix found nothing still is =
    let none = none_offered t slot prefix found nothing is in
    subst (λ f. IsOffer u slot prefix f) (sym none) (none_routed u prefix slot still)

-- a slot below 64 with a route is Established
pub up_of : (t : Tables) (offers : Offers) (slot : ℕ) (p : Prefix) → AreKept t offers → slot < 64 → IsSome (t.routes slot p) → IsUp t slot
up_of t offers slot p kept below there = elim (kept.routed slot p there) [ inl up ↦ up | inr local ↦ absurd (omega (arith, below, local)) ]

-- the session of such a slot stays
pub up_as : (t u : Tables) (s : ℕ) → u.sessions s ≡ t.sessions s → IsUp t s ⊎ (s ≡ 64) → IsUp u s ⊎ (s ≡ 64)
up_as t u s same (inl up) = inl (up.0, same ∙ up.1, up.2)
up_as t u s same (inr local) = inr local

-- what has a route is where routes come from
pub source_of : (t : Tables) (offers : Offers) (slot : ℕ) (p : Prefix) → AreKept t offers → IsSome (t.routes slot p) → IsSource t slot
source_of t offers slot p kept there = elim (kept.routed slot p there) [ inl up ↦ inl (kept.below slot up.0 up.1, (up.0, up.1)) | inr local ↦ inr local ]

pub some_once : {X : Type 0} {x y : X} → Some x ≡ Some y → x ≡ y
some_once is = cc

-- Established that isn't left lasts
pub lasting : (now : ℕ) (input : Input) (s : Session) → is_established s.state ≡ true → (effects_of input s).left ≡ false → is_established (session_after now input s).state ≡ true
lasting now input s was lasts = grind (arith, common_steps)

none_if : {X : Type 0} (o : Option X) → (IsSome o → ⊥) → o ≡ None
none_if None not = refl
none_if (Some x) not = absurd (not refl)

-- the session of a slot that is there
pub session_linked : (found : Option Linked) (l : Linked) → found ≡ Some l → option_map (λ (x : Linked). x.peer.session) found ≡ Some l.peer.session
session_linked found l is = rw is refl

-- what is none isn't there
pub no_none : {X P : Type 0} (o : Option X) → o ≡ None → IsSome o → P
no_none o none there = absurd (let never = subst (λ x. IsSome x) none there in cc)

pub some_if : {X : Type 0} (o p : Option X) → o ≡ p → IsSome p → IsSome o
some_if o p is there = rw is there

-- the same tables and candidates
pub kept_same : (t u : Tables) (f g : Offers) → t ≡ u → g ≡ f → AreKept t f → AreKept u g
kept_same t u f g tables offers kept = subst (λ x. AreKept x g) tables (subst (λ x. AreKept t x) (sym offers) kept)

-- what the selection reads, by what routes there are
abbrev pub reads : Configuration → List Vrp → (ℕ → Option Session) → (ℕ → Prefix → Option PathAttributes) → Tables
reads conf payloads sessions routes = record { conf = conf; payloads = payloads; sessions = sessions; routes = λ slot prefix. routes slot prefix }

-- some slots' routes go, with their candidates
pub kept_gone : (conf : Configuration) (payloads : List Vrp) (sessions : ℕ → Option Session) (old new : ℕ → Prefix → Option PathAttributes) (had has : Offers) (gone : ℕ → Prefix → Bool)
    → ((slot : ℕ) (prefix : Prefix) → new slot prefix ≡ cond (gone slot prefix) None (old slot prefix))
    → ((slot : ℕ) (prefix : Prefix) → has slot prefix ≡ cond (gone slot prefix) None (had slot prefix))
    → AreKept (reads conf payloads sessions old) had → AreKept (reads conf payloads sessions new) has
kept_gone conf payloads sessions old new had has gone routes offers kept = record {
  made = λ slot prefix. made_here slot prefix (gone slot prefix) (routes slot prefix) (offers slot prefix);
  routed = λ slot prefix there. kept.routed slot prefix (routed_here slot prefix (gone slot prefix) (routes slot prefix) there);
  below = kept.below;
}
  where
    made_here : (slot : ℕ) (prefix : Prefix) (b : Bool) → new slot prefix ≡ cond b None (old slot prefix) → has slot prefix ≡ cond b None (had slot prefix)
        → IsOffer (reads conf payloads sessions new) slot prefix (has slot prefix)
    made_here slot prefix true route offer = subst (λ f. IsOffer (reads conf payloads sessions new) slot prefix f) (sym offer) (none_routed (reads conf payloads sessions new) prefix slot route)
    made_here slot prefix false route offer =
        subst (λ f. IsOffer (reads conf payloads sessions new) slot prefix f) (sym offer)
        (offer_alike (reads conf payloads sessions old) (reads conf payloads sessions new) slot prefix (had slot prefix) (record { own = refl; reach = refl; peer = refl; identifier = refl; route = route; state = λ origin. refl; action = λ seen. refl }) (kept.made slot prefix))

    routed_here : (slot : ℕ) (prefix : Prefix) (b : Bool) → new slot prefix ≡ cond b None (old slot prefix) → IsSome (new slot prefix) → IsSome (old slot prefix)
    routed_here slot prefix true route there = no_none (new slot prefix) route there
    routed_here slot prefix false route there = some_if (old slot prefix) (new slot prefix) (sym route) there

-- routes of the slot with these attributes come, and make this candidate, each with its state
pub kept_come : (conf : Configuration) (payloads : List Vrp) (slot identifier : ℕ) (attrs : PathAttributes) (found : Option Candidate) (old new : ℕ → Prefix → Option PathAttributes) (had has : Offers) (come : ℕ → Prefix → Bool)
    → ((s : ℕ) (p : Prefix) → come s p ≡ true → s ≡ slot) → IsMade conf slot identifier attrs found
    → ((s : ℕ) (p : Prefix) → new s p ≡ cond (come s p) (Some attrs) (old s p))
    → ((s : ℕ) (p : Prefix) → has s p ≡ cond (come s p) (judged_at conf payloads attrs found p) (had s p))
    → (session : Session) → is_established session.state ≡ true → session.identifier ≡ identifier → (sessions : ℕ → Option Session) → sessions slot ≡ Some session
    → AreKept (reads conf payloads sessions old) had → AreKept (reads conf payloads sessions new) has
kept_come conf payloads slot identifier attrs found old new had has come here made routes offers session established same sessions there kept = record {
  made = λ s p. made_here s p (come s p) refl (routes s p) (offers s p);
  routed = λ s p routed. routed_here s p (come s p) refl (routes s p) routed;
  below = kept.below;
}
  where
    made_there : (s : ℕ) (p : Prefix) → s ≡ slot → new s p ≡ Some attrs → IsOffer (reads conf payloads sessions new) s p (judged_at conf payloads attrs found p)
    made_there s p slots route =
        subst (λ x. IsOffer (reads conf payloads sessions new) x p (judged_at conf payloads attrs found p)) (sym slots)
        (candidate_made (reads conf payloads sessions new) p slot identifier session attrs found (kept.below slot session there) there (subst (λ x. new x p ≡ Some attrs) slots route) (sym same) made)

    made_here : (s : ℕ) (p : Prefix) (b : Bool) → come s p ≡ b → new s p ≡ cond b (Some attrs) (old s p) → has s p ≡ cond b (judged_at conf payloads attrs found p) (had s p)
        → IsOffer (reads conf payloads sessions new) s p (has s p)
    made_here s p true is route offer = subst (λ f. IsOffer (reads conf payloads sessions new) s p f) (sym offer) (made_there s p (here s p is) route)
    made_here s p false is route offer =
        subst (λ f. IsOffer (reads conf payloads sessions new) s p f) (sym offer)
        (offer_alike (reads conf payloads sessions old) (reads conf payloads sessions new) s p (had s p) (record { own = refl; reach = refl; peer = refl; identifier = refl; route = route; state = λ origin. refl; action = λ seen. refl }) (kept.made s p))

    routed_here : (s : ℕ) (p : Prefix) (b : Bool) → come s p ≡ b → new s p ≡ cond b (Some attrs) (old s p) → IsSome (new s p)
        → ((x : Session) × (sessions s ≡ Some x) × (is_established x.state ≡ true)) ⊎ (s ≡ 64)
    routed_here s p true is route routed = inl (session, ap sessions (here s p is) ∙ there, established)
    routed_here s p false is route routed = kept.routed s p (some_if (old s p) (new s p) (sym route) routed)

-- a local network comes, with the candidate that it makes
pub kept_network : (conf : Configuration) (payloads : List Vrp) (network : Prefix) (sessions : ℕ → Option Session) (old new : RouteTable) (had has : Offers) → ((p q : Prefix) → is_route 64 p 64 q ≡ true → p ≡ q)
    → ((s : ℕ) (p : Prefix) → is_route 64 network s p ≡ true → s ≡ 64)
    → ((s : ℕ) (p : Prefix) → route_at new s p ≡ cond (is_route 64 network s p) (Some originated) (route_at old s p))
    → ((s : ℕ) (p : Prefix) → has s p ≡ cond (is_route 64 network s p) (Some (network_at conf.own payloads originated network)) (had s p))
    → AreKept (read_in conf payloads sessions old) had → AreKept (read_in conf payloads sessions new) has
kept_network conf payloads network sessions old new had has one here routes offers kept = record {
  made = λ s p. made_here s p (is_route 64 network s p) refl (routes s p) (offers s p);
  routed = λ s p routed. routed_here s p (is_route 64 network s p) refl (routes s p) routed;
  below = kept.below;
}
  where
    made_here : (s : ℕ) (p : Prefix) (b : Bool) → is_route 64 network s p ≡ b → route_at new s p ≡ cond b (Some originated) (route_at old s p)
        → has s p ≡ cond b (Some (network_at conf.own payloads originated network)) (had s p) → IsOffer (read_in conf payloads sessions new) s p (has s p)
    made_here s p true is route offer =
        let slots : s ≡ 64 = here s p is in
        let same : network ≡ p = one network p (subst (λ x. is_route 64 network x p ≡ true) slots is) in
        let made = network_made (read_in conf payloads sessions new) p originated (subst (λ x. route_at new x p ≡ Some originated) slots route) in
        subst (λ f. IsOffer (read_in conf payloads sessions new) s p f) (sym offer)
        (subst (λ x. IsOffer (read_in conf payloads sessions new) x p (Some (network_at conf.own payloads originated network))) (sym slots)
        (subst (λ q. IsOffer (read_in conf payloads sessions new) 64 p (Some (network_at conf.own payloads originated q))) (sym same) made))
    made_here s p false is route offer =
        subst (λ f. IsOffer (read_in conf payloads sessions new) s p f) (sym offer)
        (offer_alike (read_in conf payloads sessions old) (read_in conf payloads sessions new) s p (had s p) (record { own = refl; reach = refl; peer = refl; identifier = refl; route = route; state = λ origin. refl; action = λ seen. refl }) (kept.made s p))

    routed_here : (s : ℕ) (p : Prefix) (b : Bool) → is_route 64 network s p ≡ b → route_at new s p ≡ cond b (Some originated) (route_at old s p) → IsSome (route_at new s p)
        → ((x : Session) × (sessions s ≡ Some x) × (is_established x.state ≡ true)) ⊎ (s ≡ 64)
    routed_here s p true is route routed = inr (here s p is)
    routed_here s p false is route routed = kept.routed s p (some_if (route_at old s p) (route_at new s p) (sym route) routed)

-- nothing has changed at any route
pub kept_still : (conf : Configuration) (payloads : List Vrp) (sessions : ℕ → Option Session) (old new : RouteTable) (had has : Offers) → ((s : ℕ) (p : Prefix) → route_at new s p ≡ route_at old s p)
    → ((s : ℕ) (p : Prefix) → has s p ≡ had s p) → AreKept (read_in conf payloads sessions old) had → AreKept (read_in conf payloads sessions new) has
kept_still conf payloads sessions old new had has routes offers kept = kept_gone conf payloads sessions (route_at old) (route_at new) had has (λ s p. false) routes offers kept

-- Loc-RIB has the best of the candidates of all routes

kept_none : (t : Tables) (offers : Offers) (p : Prefix) → AreKept t offers → ((s : ℕ) → offers s p ≡ None) → HasNoCandidate t p
kept_none t offers p kept none c is =
    let here : HasNoneAt t p c.slot = subst (λ f. IsOffer t c.slot p f) (none c.slot) (kept.made c.slot p) in here c refl is

kept_candidate : (t : Tables) (offers : Offers) (p : Prefix) (c : Candidate) → AreKept t offers → IsCandidate t p c ↔ (offers c.slot p ≡ Some c)
kept_candidate t offers p c kept = (λ is. from (offers c.slot p) refl is, λ is. let here = subst (λ f. IsOffer t c.slot p f) is (kept.made c.slot p) in here.is_one)
  where
    from : (found : Option Candidate) → offers c.slot p ≡ found → IsCandidate t p c → offers c.slot p ≡ Some c
    from None at is = let here : HasNoneAt t p c.slot = subst (λ f. IsOffer t c.slot p f) at (kept.made c.slot p) in absurd (here c refl is)
    from (Some d) at is = let here : IsOnlyCandidateAt t p c.slot d = subst (λ f. IsOffer t c.slot p f) at (kept.made c.slot p) in at ∙ ap Some (sym (here.alone c refl is))

kept_best : (t : Tables) (offers : Offers) (p : Prefix) (best : Option Candidate) → AreKept t offers → IsBestOf (λ s. offers s p) best → MatchOption best (HasNoCandidate t p) (λ c. IsBest t p c)
kept_best t offers p None kept is = kept_none t offers p kept is
kept_best t offers p (Some c) kept is = (
  is.0,
  λ d. (λ has. (kept_candidate t offers p d kept).1 ((is.1 d).0 has), λ candidate. (is.1 d).1 ((kept_candidate t offers p d kept).0 candidate)),
  is.2,
)

pub kept_loc_rib : (t : Tables) (offers : Offers) (rows : List (Prefix × Candidate)) → ((p : Prefix) → IsBestOf (λ s. offers s p) (best_at rows p)) → IsStrictlySortedBy prefix_cmp (keys_of rows)
    → AreKept t offers → IsLocRib t rows
kept_loc_rib t offers rows best rising kept = record { rising = rising; best = λ p. kept_best t offers p (best_at rows p) kept (best p) }
