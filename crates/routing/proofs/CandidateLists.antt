use Rattle.std.proofs.Common.{◌≡◌, ◌<◌, ℕ, List, Option, Some, None, refl, sym, ap, ◌∙◌, subst, inl, inr, arith}
use Rattle.bgp_attr.specs.PathAttributes.{PathAttributes}
use Rattle.bgp_attr.specs.AsPath.{neighbor_as_of}
use Rattle.bgp_attr.specs.PeerKinds.{kind_between}
use Rattle.bgp_conf.specs.Configuration.{Configuration}
use Rattle.bgp_conf.specs.declared.conf.ConfiguredPeer.{ConfiguredPeer}
use Rattle.bgp_conf.proofs.Covering.{IsCost-unique}
use Rattle.decision.specs.declared.candidate.Candidate.{Candidate}
use Rattle.bgp_conf.specs.PeerPolicies.{import_action}
use Rattle.net_prefix.specs.declared.payload.Vrp.{Vrp}
use Rattle.net_prefix.specs.declared.prefix.Prefix.{Prefix}
use Rattle.policy.specs.declared.rule.Action.{Action}
use Rattle.policy.specs.declared.rule.Action.TheVariants.{Reject, Accept}
use Rattle.bgp_fsm.specs.declared.session.Session.{Session}
use Rattle.origin_valid.specs.declared.validity.Validity.{Validity}
use Rattle.routing.specs.Tables.{Tables}
use Rattle.routing.specs.Candidates.{IsCandidateOf, IsCandidate, IsMade, IsPeerCandidate, MakesNone, HasNoneAt, degree_by, degree_of, judged_at, network_at, seen_of, state_in, taken, with_state}
use Rattle.routing.specs.Offers.{IsOffer, IsRemade, LacksRoute}
use Rattle.decision.specs.declared.book.Change.{Change}
use Rattle.std.specs.Option.{MatchOption, option_map}

-- The candidates that slots' routes make.

some_same : {X : Type 0} (o : Option X) (x y : X) → o ≡ Some x → o ≡ Some y → x ≡ y
some_same o x y a b = cc

-- one route of one slot makes one candidate, whose state is one
pub same_candidate : (conf : Configuration) (identifier : ℕ) (attrs : PathAttributes) (c d : Candidate) → c.slot ≡ d.slot → d.validity ≡ c.validity
    → IsCandidateOf conf identifier attrs c → IsCandidateOf conf identifier attrs d → d ≡ c
same_candidate conf identifier attrs c d slots states h k =
    let path_same : k.path ≡ h.path = some_same attrs.as_path _ _ k.path_is h.path_is in
    let hop_same : k.next_hop ≡ h.next_hop = some_same attrs.next_hop _ _ k.next_hop_is h.next_hop_is in
    let configured = rw (sym slots) at k.configured in
    let peer_same : k.peer ≡ h.peer = some_same _ _ _ configured h.configured in
    let origin_same : d.origin ≡ c.origin = some_same attrs.origin _ _ k.origin_is h.origin_is in
    let resolved = rw hop_same at k.resolves in
    let costs : Some d.cost ≡ Some c.cost = IsCost-unique conf.reach h.next_hop _ _ resolved h.resolves in
    let slot_same : d.slot ≡ c.slot = sym slots in
    let cost_same : d.cost ≡ c.cost = cc in
    let kind_same = ap (λ (peer : ConfiguredPeer). degree_of (kind_between conf.own peer.asn) attrs) peer_same in
    let degrees : Some d.degree ≡ Some c.degree = sym k.degree_is ∙ kind_same ∙ h.degree_is in
    let degree_same : d.degree ≡ c.degree = cc in
    let length_same : d.path_length ≡ c.path_length = rw (k.length_is, h.length_is, path_same) refl in
    let neighbor_same : d.neighbor ≡ c.neighbor = k.neighbor_is ∙ ap (λ path. neighbor_as_of path conf.own) path_same ∙ sym h.neighbor_is in
    let med_same : d.med ≡ c.med = k.med_is ∙ sym h.med_is in
    let external_same : d.external ≡ c.external = cc in
    let identifier_same : d.identifier ≡ c.identifier = cc in
    let address_same : d.address ≡ c.address = rw (k.address_is, h.address_is, peer_same) refl in
    λ i. record {
      slot = slot_same i;
      degree = degree_same i;
      path_length = length_same i;
      origin = origin_same i;
      neighbor = neighbor_same i;
      med = med_same i;
      external = external_same i;
      cost = cost_same i;
      identifier = identifier_same i;
      address = address_same i;
      validity = states i;
    }

-- a candidate has a route
pub candidate_route : (t : Tables) (prefix : Prefix) (c : Candidate) → IsCandidate t prefix c → (attrs : PathAttributes) × (t.routes c.slot prefix ≡ Some attrs)
candidate_route t prefix c (inl is) = (is.attrs, is.route)
candidate_route t prefix c (inr is) = (is.attrs, subst (λ slot. t.routes slot prefix ≡ Some is.attrs) (sym (ap (λ (x : Candidate). x.slot) is.made)) is.route)

-- no route, no candidate
pub none_routed : (t : Tables) (prefix : Prefix) (slot : ℕ) → t.routes slot prefix ≡ None → HasNoneAt t prefix slot
none_routed t prefix slot nothing = λ c at is. let route = candidate_route t prefix c is in let found : t.routes slot prefix ≡ Some route.0 = subst (λ s. t.routes s prefix ≡ Some route.0) at route.1 in (cc)

-- a candidate of a peer's slot is one of its routes
pub of_peer : (t : Tables) (prefix : Prefix) (c : Candidate) → c.slot < 64 → IsCandidate t prefix c → IsPeerCandidate t prefix c
of_peer t prefix c below (inl is) = is
of_peer t prefix c below (inr is) = let local : c.slot ≡ 64 = ap (λ (x : Candidate). x.slot) is.made in absurd (omega (arith, below, local))

-- whatever its state is
made_with_state : (conf : Configuration) (identifier : ℕ) (attrs : PathAttributes) (c : Candidate) (state : Validity) → IsCandidateOf conf identifier attrs c
    → IsCandidateOf conf identifier attrs (with_state state c)
made_with_state conf identifier attrs c state made = record {
  peer = made.peer;
  path = made.path;
  next_hop = made.next_hop;
  configured = made.configured;
  origin_is = made.origin_is;
  path_is = made.path_is;
  next_hop_is = made.next_hop_is;
  without_own_as = made.without_own_as;
  not_own_address = made.not_own_address;
  resolves = made.resolves;
  degree_is = made.degree_is;
  length_is = made.length_is;
  neighbor_is = made.neighbor_is;
  med_is = made.med_is;
  external_is = made.external_is;
  identifier_is = made.identifier_is;
  address_is = made.address_is;
}

-- what the same attributes make of a slot is judged alike
judged_same : (conf : Configuration) (payloads : List Vrp) (identifier : ℕ) (attrs : PathAttributes) (c d : Candidate) (prefix : Prefix) → c.slot ≡ d.slot → IsCandidateOf conf identifier attrs c → IsCandidateOf conf identifier attrs d
    → judged_at conf payloads attrs (Some d) prefix ≡ judged_at conf payloads attrs (Some c) prefix
judged_same conf payloads identifier attrs c d prefix slots h k =
    let state = state_in conf.own payloads prefix attrs in
    let same : with_state state d ≡ with_state state c =
    same_candidate conf identifier attrs (with_state state c) (with_state state d) slots refl (made_with_state conf identifier attrs c state h) (made_with_state conf identifier attrs d state k) in
    ap (λ (x : Candidate). taken (import_action conf x.slot (seen_of conf.own payloads x.slot prefix attrs)) x) same

-- a slot stays through it
taken_slot : (action : Action) (c d : Candidate) → taken action c ≡ Some d → d.slot ≡ c.slot
taken_slot Reject c d is = absurd (cc)
taken_slot (Accept set med prepend) c d is = let same : record c { degree = degree_by c.external set c.degree } ≡ d = some_once is in sym (ap (λ (x : Candidate). x.slot) same)
  where
    some_once : {X : Type 0} {x y : X} → Some x ≡ Some y → x ≡ y
    some_once is = cc

pub judged_slot : (conf : Configuration) (payloads : List Vrp) (attrs : PathAttributes) (c d : Candidate) (prefix : Prefix) → judged_at conf payloads attrs (Some c) prefix ≡ Some d → d.slot ≡ c.slot
judged_slot conf payloads attrs c d prefix is = taken_slot _ (with_state (state_in conf.own payloads prefix attrs) c) d is

-- what a slot's route makes is what its attributes make, judged
made_of : (t : Tables) (prefix : Prefix) (slot : ℕ) (session : Session) (attrs : PathAttributes) (c : Candidate)
    → slot < 64 → t.sessions slot ≡ Some session → t.routes slot prefix ≡ Some attrs → c.slot ≡ slot → IsCandidate t prefix c
    → (made : Candidate) × (made.slot ≡ slot) × IsCandidateOf t.conf session.identifier attrs made × (judged_at t.conf t.payloads attrs (Some made) prefix ≡ Some c)
made_of t prefix slot session attrs c below linked route at one =
    let is = of_peer t prefix c (subst (λ s. s < 64) (sym at) below) one in
    let found : t.sessions slot ≡ Some is.session = subst (λ s. t.sessions s ≡ Some is.session) at is.session_is in
    let routed : t.routes slot prefix ≡ Some is.attrs = subst (λ s. t.routes s prefix ≡ Some is.attrs) at is.route in
    let session_same : is.session ≡ session = some_same _ _ _ found linked in
    let attrs_same : is.attrs ≡ attrs = some_same _ _ _ routed route in
    (is.made, is.of_slot ∙ at, rw (session_same, attrs_same) at is.by_attrs, subst (λ a. judged_at t.conf t.payloads a (Some is.made) prefix ≡ Some c) attrs_same is.judged)

pub none_made : (t : Tables) (prefix : Prefix) (slot : ℕ) (session : Session) (attrs : PathAttributes)
    → slot < 64 → t.sessions slot ≡ Some session → t.routes slot prefix ≡ Some attrs
    → MakesNone t.conf slot session.identifier attrs → HasNoneAt t prefix slot
none_made t prefix slot session attrs below linked route none =
    λ c at is. let made = made_of t prefix slot session attrs c below linked route at is in none made.0 made.1 made.2

pub one_made : (t : Tables) (prefix : Prefix) (slot : ℕ) (session : Session) (attrs : PathAttributes) (c : Candidate) (judged : Option Candidate)
    → slot < 64 → t.sessions slot ≡ Some session → t.routes slot prefix ≡ Some attrs
    → c.slot ≡ slot → IsCandidateOf t.conf session.identifier attrs c → judged_at t.conf t.payloads attrs (Some c) prefix ≡ judged
    → IsOffer t slot prefix judged
one_made t prefix slot session attrs c None below linked route at made judged = λ d here is.
    let other = made_of t prefix slot session attrs d below linked route here is in
    let same = judged_same t.conf t.payloads session.identifier attrs c other.0 prefix (at ∙ sym other.1) made other.2 in
    absurd (let never = sym other.3 ∙ same ∙ judged in cc)
one_made t prefix slot session attrs c (Some d) below linked route at made judged =
    let slot_is = judged_slot t.conf t.payloads attrs c d prefix judged in
    record {
      at_slot = slot_is ∙ at;
      is_one = inl (record {
        session = session;
        attrs = attrs;
        made = c;
        slot_is = subst (λ s. s < 64) (sym (slot_is ∙ at)) below;
        session_is = subst (λ s. t.sessions s ≡ Some session) (sym (slot_is ∙ at)) linked;
        route = subst (λ s. t.routes s prefix ≡ Some attrs) (sym (slot_is ∙ at)) route;
        of_slot = sym slot_is;
        by_attrs = made;
        judged = judged;
      });
      alone = λ e here is.
          let other = made_of t prefix slot session attrs e below linked route here is in
          let same = judged_same t.conf t.payloads session.identifier attrs c other.0 prefix (at ∙ sym other.1) made other.2 in
          some_same _ _ _ other.3 (same ∙ judged);
    }

-- what a slot's route makes, from what its attributes make
pub candidate_made : (t : Tables) (prefix : Prefix) (slot identifier : ℕ) (session : Session) (attrs : PathAttributes) (found : Option Candidate)
    → slot < 64 → t.sessions slot ≡ Some session → t.routes slot prefix ≡ Some attrs → identifier ≡ session.identifier
    → IsMade t.conf slot identifier attrs found → IsOffer t slot prefix (judged_at t.conf t.payloads attrs found prefix)
candidate_made t prefix slot identifier session attrs None below linked route told made =
    let none = rw told at made in none_made t prefix slot session attrs below linked route none
candidate_made t prefix slot identifier session attrs (Some c) below linked route told made =
    let one = rw told at made.1 in one_made t prefix slot session attrs c _ below linked route made.0 one refl

-- what a local network makes
pub network_made : (t : Tables) (prefix : Prefix) (attrs : PathAttributes) → t.routes 64 prefix ≡ Some attrs
    → IsOffer t 64 prefix (Some (network_at t.conf.own t.payloads attrs prefix))
network_made t prefix attrs route = record {
  at_slot = refl;
  is_one = inr (record { attrs = attrs; route = route; made = refl });
  alone = λ d here is. alone_here d here is;
}
  where
    alone_here : (d : Candidate) → d.slot ≡ 64 → IsCandidate t prefix d → d ≡ network_at t.conf.own t.payloads attrs prefix
    alone_here d here (inl peer) = let below = peer.slot_is in absurd (omega (arith, below, here))
    alone_here d here (inr local) =
        let same : local.attrs ≡ attrs = some_same (t.routes 64 prefix) _ _ local.route route in
        local.made ∙ ap (λ a. network_at t.conf.own t.payloads a prefix) same

-- a local network's candidate made again
pub network_remade : (t : Tables) (prefix : Prefix) (slot : ℕ) (change : Option Change) → slot ≡ 64
    → change ≡ option_map (λ attrs. record { slot = 64; candidate = Some (network_at t.conf.own t.payloads attrs prefix) }) (t.routes 64 prefix)
    → MatchOption change (LacksRoute t slot prefix) (IsRemade t slot prefix)
network_remade t prefix slot change at is =
    subst (λ s. MatchOption change (LacksRoute t s prefix) (IsRemade t s prefix)) (sym at) (subst (λ o. MatchOption o (LacksRoute t 64 prefix) (IsRemade t 64 prefix)) (sym is) (of (t.routes 64 prefix) refl))
  where
    of : (found : Option PathAttributes) → t.routes 64 prefix ≡ found
        → MatchOption (option_map (λ attrs. record { slot = 64; candidate = Some (network_at t.conf.own t.payloads attrs prefix) }) found) (LacksRoute t 64 prefix) (IsRemade t 64 prefix)
    of None found = inl found
    of (Some attrs) found = record { slot_is = refl; routed = rw found refl; offer = network_made t prefix attrs found }
