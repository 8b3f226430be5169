use Rattle.std.proofs.Common.{◌≡◌, ◌≢◌, ◌⊎◌, ◌≤◌, ◌<◌, ◌+◌, ◌==◌, ℕ, Bool, true, false, List, [], ◌∷◌, Option, Some, None, length, cond, MatchOption, refl, sym, ap, ◌∙◌, subst, arith, inl, inr}
use Rattle.std.proofs.lemmas.Bool.{eq-eqb}
use Rattle.std.specs.List.Sorted.{IsStrictlySortedBy}
use Rattle.std.specs.Map.{keys_of}
use Rattle.bgp_attr.specs.AsPath.{PathSegment}
use Rattle.bgp_attr.specs.PathAttributes.{PathAttributes, originated}
use Rattle.bgp_attr.specs.PeerKinds.{kind_between}
use Rattle.bgp_attr.specs.declared.attrs.Origin.{Origin}
use Rattle.std.specs.Option.{IsSome}
use Rattle.bgp_conf.specs.Configuration.{Configuration, peer_at, is_network}
use Rattle.bgp_conf.specs.declared.conf.ConfiguredPeer.{ConfiguredPeer}
use Rattle.bgp_fsm.specs.SessionTable.{effects_of}
use Rattle.bgp_fsm.specs.declared.input.Input.TheVariants.{NoMemory}
use Rattle.bgp_fsm.specs.declared.session.Session.{Session}
use Rattle.bgp_fsm.specs.declared.state.State.TheVariants.{Established}
use Rattle.bgp_peer.specs.SentMessages.{ring_of}
use Rattle.bgp_peer.specs.SessionInputs as happens
use Rattle.bgp_peer.specs.SessionInputs.{Queued, session, is_there}
use Rattle.bgp_peer.proofs.Agreeing.{ring-is}
use Rattle.decision.specs.BookContents.{IsBestOf, offer_at}
use Rattle.decision.specs.declared.candidate.Candidate.{Candidate}
use Rattle.export_rules.specs.Export.{AreAccepted, IsComplete, IsSender}
use Rattle.net_prefix.specs.PrefixOrder.{prefix_cmp}
use Rattle.net_prefix.specs.declared.prefix.Prefix.{Prefix}
use Rattle.rib_in.specs.LatestRoutes.{route_at}
use Rattle.rib_out.specs.Held.{is_among}
use Rattle.runs.specs.AdjRibIn.{route}
use Rattle.runs.specs.Agreement.{IsLowest, LinkAgrees, SlotAgrees, tables_after, IsFair, IsNews, IsOwedIn, IsShortIn, IsThrifty, Holds, Passes, QueuesAll, QueuesOn, QueuesStarved, Agrees}
use Rattle.runs.specs.Choices.{choices_in}
use Rattle.speaker.specs.Chosen.{Chooses}
use Rattle.routing.specs.Export.{IsAccepted, IsExport, export_peer_of}
use Rattle.speaker.specs.Export.{export_to}
use Rattle.runs.specs.Held.{held}
use Rattle.runs.specs.Refreshes.{asked}
use Rattle.routing.specs.Linked.{Linked}
use Rattle.routing.specs.LocRib.{HasNoCandidate, IsBest, IsLocRib}
use Rattle.routing.specs.Candidates.{IsCandidate, IsPeerCandidate}
use Rattle.routing.specs.Offers.{AreKept}
use Rattle.speaker.specs.Moves.{Moves}
use Rattle.runs.specs.Queueing.{ComesFirst, Queue, Starves, Tells, IsServed, starved_in}
use Rattle.routing.specs.Packing.{IsDue, IsFrom, IsNewTo, IsPack, room_beside}
use Rattle.routing.specs.Told.{update_saying, HasRoom}
use Rattle.routing.specs.Places.{rank_of}
use Rattle.runs.specs.Runs.{payloads_after, Call, Run, turn, configuration_of, history}
use Rattle.speaker.specs.Serving.{AreServedBelow, IsServedAt, IsShortAt, IsStill, IsToldAt}
use Rattle.runs.specs.SpeakerState.{SpeakerState, tables_of}
use Rattle.routing.specs.Tables.{Tables, best_at, link_at, network_route, peer_route_at}
use Rattle.runs.specs.declared.config.Config.{Config}
use Rattle.routing.proofs.Exported.{best_candidate, export_is}
use Rattle.speaker.proofs.Calls.{tables_same, export_peer_found, export_short, at_slot, off_slot}
use Rattle.speaker.proofs.Commands.{holds_signalled, own_is, peer_of}
use Rattle.speaker.proofs.Events.{holds_put, slot_is}
use Rattle.runs.proofs.Histories.{route_stays}
use Rattle.routes.proofs.OneBest.{same_export}
use Rattle.routing.proofs.KeptOffers.{kept_loc_rib}
use Rattle.speaker.proofs.KeptOffers.{kept_still_links, kept_told}
use Rattle.runs.proofs.QueuedUpdates.{CanBeSaid, IsGood, saying_faultless, slot_queued, saying_is_update, saying_names, saying_says, named_is}
use Rattle.runs.proofs.SlotStates.{SlotIs, linked_from}

-- The queueing of a call: each UPDATE was owed, and with room each peer holds its export.

-- the kept export is the run's
pub export_of_run : (config : Config) (r : Run) (s : SpeakerState) (slot : ℕ) (peer : ConfiguredPeer) (prefix : Prefix) → tables_after config r ≡ tables_of s → configuration_of config r ≡ s.conf
    → IsLocRib (tables_of s) s.loc_rib → peer_at s.conf slot ≡ Some peer
    → IsExport (tables_after config r) (export_peer_of (configuration_of config r) slot peer) prefix (export_to s slot prefix)
export_of_run config r s slot peer prefix tables conf is configured =
    let P : Tables → Type 0 = λ t. IsExport t (export_peer_of (configuration_of config r) slot peer) prefix (export_to s slot prefix) in
    let C : Configuration → Type 0 = λ c. IsExport (tables_of s) (export_peer_of c slot peer) prefix (export_to s slot prefix) in
    let E : Option (List ℕ) → Type 0 = λ e. IsExport (tables_of s) (export_peer_of s.conf slot peer) prefix e in
    subst P (sym tables) (subst C (sym conf) (subst E (sym (export_peer_found s slot peer prefix configured))
    (export_is (tables_of s) (best_at s.loc_rib) s.adj_in (export_peer_of s.conf slot peer) prefix (λ t p. refl) is.best)))

-- an UPDATE leaves the session and the routes
same_session : (b : Bool) (u : List ℕ) (h : List happens.Event) → cond (is_there (cond b (Queued u ∷ h) h)) (Some (session (cond b (Queued u ∷ h) h))) None ≡ cond (is_there h) (Some (session h)) None
same_session true u h = refl
same_session false u h = refl

same_route : (b : Bool) (u : List ℕ) (h : List happens.Event) (p : Prefix) → route (cond b (Queued u ∷ h) h) p ≡ route h p
same_route true u h p = route_stays h p
same_route false u h p = refl

-- so it leaves what the selection reads
tables_queued : (config : Config) (call : Call) (r : Run) (queue : Queue) (slot : ℕ) (u : List ℕ) → tables_after config (turn call ((slot, Tells u) ∷ queue) ∷ r) ≡ tables_after config (turn call queue ∷ r)
tables_queued config call r queue slot u = λ i. record {
  conf = configuration_of config (turn call queue ∷ r);
  payloads = payloads_after config (turn call queue ∷ r);
  sessions = λ s. same_session (s == slot) u (history config s (turn call queue ∷ r)) i;
  routes = λ s prefix. cond (s == 64) (network_route (configuration_of config (turn call queue ∷ r)) prefix) (same_route (s == slot) u (history config s (turn call queue ∷ r)) prefix i);
}

-- a candidate's route has what every peer needs of it
nothing_missing : (c : Candidate) (attrs : PathAttributes) (origin : Origin) (path : List PathSegment) (next_hop : ℕ) → attrs.origin ≡ Some origin → attrs.as_path ≡ Some path → attrs.next_hop ≡ Some next_hop → IsComplete c attrs
nothing_missing c attrs origin path next_hop some_origin some_path some_next_hop = rw (some_origin, some_path, some_next_hop) (record { origin = refl; as_path = refl; next_hop = λ other. refl })

same_attrs : (a b : PathAttributes) → Some a ≡ Some b → a ≡ b
same_attrs a b is = cc

peer_complete : (t : Tables) (p : Prefix) (c : Candidate) (attrs : PathAttributes) → IsPeerCandidate t p c → t.routes c.slot p ≡ Some attrs → IsComplete c attrs
peer_complete t p c attrs is route_is =
    let same : is.attrs ≡ attrs = same_attrs is.attrs attrs (sym is.route ∙ route_is) in
    subst (λ (a : PathAttributes). IsComplete c a) same (nothing_missing c is.attrs is.made.origin is.by_attrs.path is.by_attrs.next_hop is.by_attrs.origin_is is.by_attrs.path_is is.by_attrs.next_hop_is)

-- so has a local network, of which the next hop is told where the route is
local_is : (slot : ℕ) → slot ≡ 64 → (slot == 64) ≡ false → (next_hop : Option ℕ) → IsSome next_hop
local_is slot is other next_hop = let found : (slot == 64) ≡ true = eq-eqb slot 64 is in absurd (cc)

network_complete : (conf : Configuration) (p : Prefix) (c : Candidate) (attrs : PathAttributes) (b : Bool) → c.slot ≡ 64 → cond b (Some originated) None ≡ Some attrs → IsComplete c attrs
network_complete conf p c attrs true at is =
    let same : originated ≡ attrs = same_attrs originated attrs is in
    subst (λ (a : PathAttributes). IsComplete c a) same (record { origin = refl; as_path = refl; next_hop = λ other. local_is c.slot at other None })
network_complete conf p c attrs false at is = absurd (cc)

candidate_complete : (t : Tables) (p : Prefix) (c : Candidate) (attrs : PathAttributes) → ((q : Prefix) → t.routes 64 q ≡ network_route t.conf q) → IsCandidate t p c → t.routes c.slot p ≡ Some attrs → IsComplete c attrs
candidate_complete t p c attrs networks (inl is) route_is = peer_complete t p c attrs is route_is
candidate_complete t p c attrs networks (inr is) route_is =
    let at : c.slot ≡ 64 = ap (λ (x : Candidate). x.slot) is.made in
    network_complete t.conf p c attrs (is_network t.conf p) at (sym (networks p) ∙ subst (λ slot. t.routes slot p ≡ Some attrs) at route_is)

best_complete : (s : SpeakerState) (p : Prefix) → ((q : Prefix) → route_at s.adj_in 64 q ≡ network_route s.conf q) → IsLocRib (tables_of s) s.loc_rib → (c : Candidate) (attrs : PathAttributes) → best_at s.loc_rib p ≡ Some c → route_at s.adj_in c.slot p ≡ Some attrs
    → IsComplete c attrs
best_complete s p networks chosen c attrs best =
    let B : Option Candidate → Type 0 = λ found. MatchOption found (HasNoCandidate (tables_of s) p) (λ c. IsBest (tables_of s) p c) in
    candidate_complete (tables_of s) p c attrs networks (best_candidate (tables_of s) p c (subst B best (chosen.best p)))

-- the octets that the export to a slot has are good to its peer
abbrev pub Accepts : SpeakerState → ℕ → Prefix → Option (List ℕ) → Type 0
Accepts s slot p export = (a : List ℕ) → export ≡ Some a → (peer : ConfiguredPeer) → peer_at s.conf slot ≡ Some peer → IsAccepted s.loc_rib s.adj_in (export_peer_of s.conf slot peer) p a

-- this side has an AS and an address of a host
is_sender : (config : Config) (r : Run) (s : SpeakerState) (slot : ℕ) (peer : ConfiguredPeer) → Holds config r s → peer_at s.conf slot ≡ Some peer → IsSender (export_peer_of s.conf slot peer)
is_sender config r s slot peer holds configured =
    let own : s.conf.own ≡ config.asn = ap (λ (c : Configuration). c.own) holds.conf ∙ own_is config r in
    record { own = rw own holds.peers.0; local = (holds.peers.1 slot peer configured).local }

is_good : (config : Config) (r : Run) (s : SpeakerState) (slot : ℕ) (p : Prefix) (export : Option (List ℕ)) (peer : ConfiguredPeer) → Holds config r s → IsLocRib (tables_of s) s.loc_rib
    → peer_at s.conf slot ≡ Some peer → Accepts s slot p export → IsGood (kind_between peer.asn config.asn) export
is_good config r s slot p export peer holds chosen configured accepts a some =
    let own : s.conf.own ≡ config.asn = ap (λ (c : Configuration). c.own) holds.conf ∙ own_is config r in
    subst (λ asn. AreAccepted (kind_between peer.asn asn) a) own
    (accepts a some peer configured (is_sender config r s slot peer holds configured) (best_complete s p holds.networks chosen))

-- a slot that is served holds the run's export
served_slot : (config : Config) (r : Run) (s : SpeakerState) (slot : ℕ) (peer : ConfiguredPeer) (found : Option Linked) (links : ℕ → Option Linked) → links slot ≡ found
    → tables_after config r ≡ tables_of s → configuration_of config r ≡ s.conf → IsLocRib (tables_of s) s.loc_rib → peer_at s.conf slot ≡ Some peer
    → ((l : Linked) → links slot ≡ Some l → IsServed (export_to s slot) l)
    → SlotAgrees config (Some peer) found (peer_route_at s.adj_in slot) (history config slot r)
    → (session (history config slot r)).state ≡ Established → length (ring_of (history config slot r)) + 8192 ≤ 65536 → (prefix : Prefix)
    → IsExport (tables_after config r) (export_peer_of (configuration_of config r) slot peer) prefix (held (history config slot r) prefix) × (asked (history config slot r) prefix ≡ false)
served_slot config r s slot peer None links is tables conf chosen configured served a established room prefix =
    let there = linked_from config (Some peer) peer None (peer_route_at s.adj_in slot) (history config slot r) refl a in
    let never = there.1 in absurd (cc)
served_slot config r s slot peer (Some l) links is tables conf chosen configured served a established room prefix =
    let state : l.peer.session.state ≡ Established = ap (λ (x : Session). x.state) (a.link l refl).peer.session ∙ established in
    let free : length l.peer.ring + 8192 ≤ 65536 = subst (λ ring. length ring + 8192 ≤ 65536) (ring-is (history config slot r) l.peer (a.link l refl).peer) room in
    let has = served l is state free prefix in
    let holds : held (history config slot r) prefix ≡ export_to s slot prefix = sym ((a.link l refl).held prefix) ∙ has.0 in
    let E : Option (List ℕ) → Type 0 = λ e. IsExport (tables_after config r) (export_peer_of (configuration_of config r) slot peer) prefix e in
    (subst E (sym holds) (export_of_run config r s slot peer prefix tables conf chosen configured), sym ((a.link l refl).asked prefix) ∙ has.1)

-- so do all lower slots that are served
settled_below : (config : Config) (r : Run) (s : SpeakerState) (slot : ℕ) → Holds config r s → IsLocRib (tables_after config r) s.loc_rib → AreServedBelow s slot → IsLowest config r slot
settled_below config r s slot holds loc_rib below t low peer configured established room prefix =
    let conf : configuration_of config r ≡ s.conf = sym holds.conf in
    let tables : tables_after config r ≡ tables_of s = tables_same config r s.conf s.payloads (link_at s.links) s.adj_in conf holds.payloads holds.slots holds.networks in
    let chosen : IsLocRib (tables_of s) s.loc_rib = subst (λ t. IsLocRib t s.loc_rib) tables loc_rib in
    let here : peer_at s.conf t ≡ Some peer = ap (λ c. peer_at c t) (sym conf) ∙ configured in
    let A : Option ConfiguredPeer → Type 0 = λ x. SlotAgrees config x (link_at s.links t) (peer_route_at s.adj_in t) (history config t r) in
    served_slot config r s t peer _ (link_at s.links) refl tables conf chosen here (λ l linked. below t low peer l here linked) (subst A here (holds.slots t)) established room prefix

-- what is new to a peer as its slot stands is so by the history, and the other way round
pub news_by : (h : List happens.Event) (l : Linked) (q : Prefix) (e f : Option (List ℕ)) → LinkAgrees h l → e ≡ f → IsNewTo l q e → (held h q ≢ f) ⊎ (asked h q ≡ true)
news_by h l q e f link same (inl other) = inl (λ is. other (link.held q ∙ is ∙ sym same))
news_by h l q e f link same (inr is) = inr (sym (link.asked q) ∙ is)

pub news_to : (h : List happens.Event) (l : Linked) (q : Prefix) (e f : Option (List ℕ)) → LinkAgrees h l → e ≡ f → (held h q ≢ f) ⊎ (asked h q ≡ true) → IsNewTo l q e
news_to h l q e f link same (inl other) = inl (λ is. other (sym (link.held q) ∙ is ∙ same))
news_to h l q e f link same (inr is) = inr (link.asked q ∙ is)

-- what holds of the same prefixes is packed the same way
pub pack_as : (A B : Prefix → Type 0) (most : ℕ) (named : List Prefix) → ((q : Prefix) → A q → B q) → ((q : Prefix) → B q → A q) → IsPack A most named → IsPack B most named
pack_as A B most named on back pack = record {
  some = pack.some;
  each = λ q among. on q (pack.each q among);
  rising = pack.rising;
  fits = pack.fits;
  behind = λ q there other. pack.behind q (back q there) other;
  full = λ q there other least. pack.full q (back q there) other (λ p here beside. least p (on p here) beside);
}

-- of what is told alike the lower prefix comes first
alike_first : (p q : Prefix) (export : Option (List ℕ)) → ComesFirst p export q export → rank_of p ≤ rank_of q
alike_first p q None first = first
alike_first p q (Some octets) first = first

-- what is packed by what the slot's peer holds is packed by what the run has told it, and comes first of all that is owed
owed_pack : (config : Config) (r : Run) (s : SpeakerState) (slot : ℕ) (named : List Prefix) (least : Prefix) (export : Option (List ℕ)) (peer : ConfiguredPeer) (l : Linked) → Holds config r s
    → IsLocRib (tables_after config r) s.loc_rib → peer_at s.conf slot ≡ Some peer → LinkAgrees (history config slot r) l
    → IsPack (IsFrom least (IsDue (export_to s slot) export l)) (room_beside export) named → ((q : Prefix) → IsNewTo l q (export_to s slot q) → ComesFirst least export q (export_to s slot q))
    → IsPack (λ q. IsNews config r slot peer q export) (room_beside export) named × ((q : Prefix) (e : Option (List ℕ)) → IsNews config r slot peer q e → ComesFirst least export q e)
owed_pack config r s slot named least export peer l holds loc_rib configured link pack order =
    let tables : tables_after config r ≡ tables_of s = tables_same config r s.conf s.payloads (link_at s.links) s.adj_in (sym holds.conf) holds.payloads holds.slots holds.networks in
    let chosen : IsLocRib (tables_of s) s.loc_rib = subst (λ t. IsLocRib t s.loc_rib) tables loc_rib in
    let kept : (q : Prefix) → IsExport (tables_after config r) (export_peer_of (configuration_of config r) slot peer) q (export_to s slot q) =
    λ q. export_of_run config r s slot peer q tables (sym holds.conf) chosen configured in
    let first : (q : Prefix) (e : Option (List ℕ)) → IsNews config r slot peer q e → (e ≡ export_to s slot q) × ComesFirst least export q e = λ q e other.
    let same : e ≡ export_to s slot q = same_export (tables_after config r) (export_peer_of (configuration_of config r) slot peer) q e (export_to s slot q) other.is_export (kept q) in
    (same, subst (λ x. ComesFirst least export q x) (sym same) (order q (news_to (history config slot r) l q (export_to s slot q) e link (sym same) other.news))) in
    let on : (q : Prefix) → IsFrom least (IsDue (export_to s slot) export l) q → IsNews config r slot peer q export = λ q due. record {
      is_export = subst (λ e. IsExport (tables_after config r) (export_peer_of (configuration_of config r) slot peer) q e) due.1.0 (kept q);
      news = news_by (history config slot r) l q export export link refl due.1.1;
    } in
    let back : (q : Prefix) → IsNews config r slot peer q export → IsFrom least (IsDue (export_to s slot) export l) q = λ q news.
    let is = first q export news in (alike_first least q export is.1, (sym is.0, news_to (history config slot r) l q export export link refl news.news)) in
    (pack_as (IsFrom least (IsDue (export_to s slot) export l)) (λ q. IsNews config r slot peer q export) (room_beside export) named on back pack, λ q e other. (first q e other).1)

-- an UPDATE that says of prefixes what the export has and what is new to the peer is owed
is_owed : (config : Config) (r : Run) (s : SpeakerState) (slot : ℕ) (named : List Prefix) (least : Prefix) (export : Option (List ℕ)) (peer : ConfiguredPeer) (l : Linked) → Holds config r s
    → IsLocRib (tables_after config r) s.loc_rib → peer_at s.conf slot ≡ Some peer → SlotIs config peer l (route_at s.adj_in slot) (history config slot r) → CanBeSaid named export
    → is_among least named ≡ true → IsPack (IsFrom least (IsDue (export_to s slot) export l)) (room_beside export) named → Accepts s slot least export
    → ((q : Prefix) → IsNewTo l q (export_to s slot q) → ComesFirst least export q (export_to s slot q)) → AreServedBelow s slot → IsOwedIn config r slot (update_saying named export)
is_owed config r s slot named least export peer l holds loc_rib configured here can among pack accepts order below =
    let tables : tables_after config r ≡ tables_of s = tables_same config r s.conf s.payloads (link_at s.links) s.adj_in (sym holds.conf) holds.payloads holds.slots holds.networks in
    let chosen : IsLocRib (tables_of s) s.loc_rib = subst (λ t. IsLocRib t s.loc_rib) tables loc_rib in
    let owed = owed_pack config r s slot named least export peer l holds loc_rib configured here.link pack order in
    record {
      peer = peer;
      configured = ap (λ c. peer_at c slot) (sym holds.conf) ∙ configured;
      is_update = saying_is_update named export can;
      faultless = saying_faultless named export (kind_between peer.asn config.asn) can (is_good config r s slot least export peer holds chosen configured accepts);
      says = (named, (export, refl));
      some = (least, saying_names named export least can among);
      each = λ q names.
          let there = named_is named export q can names in
          subst (λ e. IsNews config r slot peer q e) (sym (saying_says named export q can there)) (owed.0.each q there);
      packed = owed.0;
      first = (least, among, owed.1);
      lowest = settled_below config r s slot holds loc_rib below;
    }

-- for an UPDATE that is queued no best route is chosen
told_few : (config : Config) (call : Call) (r : Run) (queue : Queue) (slot : ℕ) (u : List ℕ) (now new : SpeakerState) → new ≡ record now { links = new.links } → now.chosen ≤ now.chosen_before + choices_in config (turn call queue ∷ r)
    → new.chosen ≤ new.chosen_before + choices_in config (turn call ((slot, Tells u) ∷ queue) ∷ r)
told_few config call r queue slot u now new rest few =
    let same = ap (λ (s : SpeakerState). s.chosen) rest in
    let same_before = ap (λ (s : SpeakerState). s.chosen_before) rest in
    omega (arith, same, same_before, few)

-- a peer is told what it is owed
pub queues_told : (slot : ℕ) (named : List Prefix) (least : Prefix) (export : Option (List ℕ)) (now new : SpeakerState) → (told : IsToldAt slot named export now new) → told.before.peer.session.state ≡ Established
    → HasRoom told.before → is_among least named ≡ true
    → IsPack (IsFrom least (IsDue (export_to now slot) export told.before)) (room_beside export) named
    → Accepts now slot least export → ((q : Prefix) → IsNewTo told.before q (export_to now slot q) → ComesFirst least export q (export_to now slot q)) → AreServedBelow now slot → QueuesOn now new
queues_told slot named least export now new told up room among pack accepts order below config call r queue passes =
    let peer = peer_of config (turn call queue ∷ r) slot told.before now passes.holds told.was (rw up refl) in
    let before = slot_is config (turn call queue ∷ r) slot peer.0 told.before now passes.holds peer.1 told.was in
    let can : CanBeSaid named export = record {
      places = told.told.places;
      room = pack.fits;
      short = λ a some. export_short now slot least a ((pack.each least among).1.0 ∙ some);
    } in
    let after = slot_queued config peer.0 named export told.before told.after (route_at now.adj_in slot) (history config slot (turn call queue ∷ r)) can up room told.told before in
    let routes : new.adj_in ≡ now.adj_in = ap (λ (s : SpeakerState). s.adj_in) told.rest in
    let book : new.book ≡ now.book = ap (λ (s : SpeakerState). s.book) told.rest in
    let loc_rib : new.loc_rib ≡ now.loc_rib = ap (λ (s : SpeakerState). s.loc_rib) told.rest in
    let T : Tables → Type 0 = λ t. IsLocRib t new.loc_rib in (
      (slot, Tells (update_saying named export)) ∷ queue,
      record {
        holds =
            holds_put config (turn call queue ∷ r) (turn call ((slot, Tells (update_saying named export)) ∷ queue) ∷ r) slot told.after now new passes.holds refl refl refl
            (λ kept. subst (λ b. AreKept (tables_of new) (offer_at b)) (sym book) (kept_told slot named export now new (offer_at now.book) told kept))
            (record { config = ap (λ (s : SpeakerState). s.config) told.rest; moment = ap (λ (s : SpeakerState). s.moment) told.rest; conf = ap (λ (s : SpeakerState). s.conf) told.rest; cache = ap (λ (s : SpeakerState). s.cache) told.rest; payloads = ap (λ (s : SpeakerState). s.payloads) told.rest; chosen_before = ap (λ (s : SpeakerState). s.chosen_before) told.rest })
            told.puts (λ t other q. ap (λ table. route_at table t q) routes) (λ t other. off_slot config t slot call (Tells (update_saying named export)) queue r other)
            (told_few config call r queue slot (update_saying named export) now new told.rest passes.holds.chosen)
            peer.0 peer.1 (rw (routes, at_slot config slot call (Tells (update_saying named export)) queue r) after);
        loc_rib = subst T (sym (tables_queued config call r queue slot (update_saying named export))) (rw loc_rib passes.loc_rib);
        owed = (is_owed config (turn call queue ∷ r) now slot named least export peer.0 told.before passes.holds passes.loc_rib peer.1 before can among pack accepts order below, passes.owed);
      },
      refl,
    )

-- nothing has changed
pub queues_still : (now new : SpeakerState) → IsStill now new → QueuesOn now new
queues_still now new still config call r queue passes =
    let P : SpeakerState → Type 0 = λ s. Passes config call r queue s in (
      queue,
      subst P (sym still.rest) (record {
        holds = record {
          config_is = passes.holds.config_is;
          moment = passes.holds.moment;
          conf = passes.holds.conf;
          cache = passes.holds.cache;
          payloads = passes.holds.payloads;
          peers = passes.holds.peers;
          slots = λ t. subst (λ l. SlotAgrees config (peer_at now.conf t) l (peer_route_at now.adj_in t) (history config t (turn call queue ∷ r))) (sym (still.links t)) (passes.holds.slots t);
          networks = passes.holds.networks;
          kept = kept_still_links now new (offer_at now.book) still passes.holds.kept;
          chosen = passes.holds.chosen;
        };
        loc_rib = passes.loc_rib;
        owed = passes.owed;
      }),
      refl,
    )

-- the queueing goes on from the one to the next
pub QueuesOn-none : (s : SpeakerState) → QueuesOn s s
QueuesOn-none s config call r queue passes = (queue, passes, refl)

pub QueuesOn-more : (a b c : SpeakerState) → QueuesOn a b → QueuesOn b c → QueuesOn a c
QueuesOn-more a b c first later config call r queue passes =
    let mid = first config call r queue passes in
    let last = later config call r mid.0 mid.1 in (last.0, last.1, last.2 ∙ mid.2)

-- a call that has queued nothing yet
pub passes_first : (config : Config) (call : Call) (r : Run) (s : SpeakerState) → Holds config (turn call [] ∷ r) s → IsLocRib (tables_of s) s.loc_rib → Passes config call r [] s
passes_first config call r s holds chosen =
    let tables = tables_same config (turn call [] ∷ r) s.conf s.payloads (link_at s.links) s.adj_in (sym holds.conf) holds.payloads holds.slots holds.networks in
    record { holds = holds; loc_rib = subst (λ t. IsLocRib t s.loc_rib) (sym tables) chosen; owed = tt }

-- the end of a call: with room each peer has been served
pub agrees_served : (config : Config) (call : Call) (r : Run) (queue : Queue) (s : SpeakerState) → Passes config call r queue s → IsFair config r call → IsThrifty config r
    → ((slot : ℕ) → slot < 64 → IsServedAt s slot) → Agrees config (turn call queue ∷ r) s
agrees_served config call r queue s passes fair thrifty served =
    let holds = passes.holds in
    let conf : configuration_of config (turn call queue ∷ r) ≡ s.conf = sym holds.conf in
    let tables : tables_after config (turn call queue ∷ r) ≡ tables_of s = tables_same config (turn call queue ∷ r) s.conf s.payloads (link_at s.links) s.adj_in conf holds.payloads holds.slots holds.networks in
    let chosen : IsLocRib (tables_of s) s.loc_rib = subst (λ t. IsLocRib t s.loc_rib) tables passes.loc_rib in
    record {
      holds = holds;
      loc_rib = passes.loc_rib;
      settled = λ slot peer configured established room prefix.
          let here : peer_at s.conf slot ≡ Some peer = ap (λ c. peer_at c slot) (sym conf) ∙ configured in
          let A : Option ConfiguredPeer → Type 0 = λ x. SlotAgrees config x (link_at s.links slot) (peer_route_at s.adj_in slot) (history config slot (turn call queue ∷ r)) in
          served_slot config (turn call queue ∷ r) s slot peer _ (link_at s.links) refl tables conf chosen here (λ l linked. served slot (holds.peers.1 slot peer here).within peer l here linked) (subst A here (holds.slots slot)) established room prefix;
      thrifty = (fair, passes.owed, thrifty);
    }

-- as the run stands, the slot's export has what its peer doesn't hold
is_short : (config : Config) (r : Run) (s : SpeakerState) (slot : ℕ) → Holds config r s → IsLocRib (tables_after config r) s.loc_rib → IsShortAt s slot → IsShortIn config r slot
is_short config r s slot holds loc_rib short =
    let tables : tables_after config r ≡ tables_of s = tables_same config r s.conf s.payloads (link_at s.links) s.adj_in (sym holds.conf) holds.payloads holds.slots holds.networks in
    let chosen : IsLocRib (tables_of s) s.loc_rib = subst (λ t. IsLocRib t s.loc_rib) tables loc_rib in
    let here = slot_is config r slot short.peer short.linked s holds short.configured short.is in
    let E : Option (List ℕ) → Type 0 = λ e. IsExport (tables_after config r) (export_peer_of (configuration_of config r) slot short.peer) short.prefix e in
    let owed = owed_pack config r s slot short.named short.least (Some short.octets) short.peer short.linked holds loc_rib short.configured here.link short.packed short.first in
    record {
      peer = short.peer;
      octets = short.octets;
      named = short.named;
      prefix = short.prefix;
      configured = ap (λ c. peer_at c slot) (sym holds.conf) ∙ short.configured;
      established = ap (λ (x : Session). x.state) (sym here.link.peer.session) ∙ short.up;
      room = subst (λ ring. length ring + 8192 ≤ 65536) (sym (ring-is (history config slot r) short.linked.peer here.link.peer)) short.room;
      packed = owed.0;
      first = (short.least, short.leads, owed.1);
      among = short.among;
      is_export = subst E short.exported (export_of_run config r s slot short.peer short.prefix tables (sym holds.conf) chosen short.configured);
      other = λ is. short.other (here.link.held short.prefix ∙ is);
      lowest = settled_below config r s slot holds loc_rib short.below;
    }

-- memory is refused to it: its session is closed, and Loc-RIB has the best of the candidates that are kept then
pub queues_starved : (slot : ℕ) (old new : SpeakerState) → (short : IsShortAt old slot) → Moves slot short.linked NoMemory old new → Chooses slot (effects_of NoMemory short.linked.peer.session).left old new
    → ((p : Prefix) → IsBestOf (λ s. offer_at new.book s p) (best_at new.loc_rib p)) → IsStrictlySortedBy prefix_cmp (keys_of new.loc_rib) → QueuesStarved slot old new
queues_starved slot old new short moves chooses best rising config call r queue passes =
    let holds : Holds config (turn call ((slot, Starves) ∷ queue) ∷ r) new =
    holds_signalled config (turn call queue ∷ r) (turn call ((slot, Starves) ∷ queue) ∷ r) slot short.linked NoMemory old new passes.holds short.peer short.configured (λ x. refl) short.is refl (λ e. cc) moves refl refl refl (λ t. refl) chooses (choices_in config (turn call queue ∷ r)) passes.holds.chosen (omega arith) in
    let tables = tables_same config (turn call ((slot, Starves) ∷ queue) ∷ r) new.conf new.payloads (link_at new.links) new.adj_in (sym holds.conf) holds.payloads holds.slots holds.networks in
    record {
      holds = holds;
      loc_rib = subst (λ t. IsLocRib t new.loc_rib) (sym tables) (kept_loc_rib (tables_of new) (offer_at new.book) new.loc_rib best rising holds.kept);
      owed = (is_short config (turn call queue ∷ r) old slot passes.holds passes.loc_rib short, passes.owed);
    }

-- a step's end: Loc-RIB has the best of the candidates that are kept, and then it queued
pub settled_agrees : (starved : ℕ) (old new : SpeakerState) → ((p : Prefix) → IsBestOf (λ s. offer_at old.book s p) (best_at old.loc_rib p)) → IsStrictlySortedBy prefix_cmp (keys_of old.loc_rib)
    → QueuesAll starved old new → ((slot : ℕ) → slot < 64 → IsServedAt new slot) → (config : Config) (call : Call) (r : Run) → Holds config (turn call [] ∷ r) old → IsFair config r call → IsThrifty config r
    → (queue : Queue) × (starved_in queue ≡ starved) × Agrees config (turn call queue ∷ r) new
settled_agrees starved old new best rising queues served config call r holds fair thrifty =
    let chosen : IsLocRib (tables_of old) old.loc_rib = kept_loc_rib (tables_of old) (offer_at old.book) old.loc_rib best rising holds.kept in
    let queued = queues config call r (passes_first config call r old holds chosen) in
    (queued.0, queued.2, agrees_served config call r queued.0 new queued.1 fair thrifty served)
