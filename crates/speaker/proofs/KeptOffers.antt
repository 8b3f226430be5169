use Rattle.std.proofs.Common.{◌≡◌, ◌≢◌, ◌<◌, ◌==◌, ◌&&◌, ℕ, Bool, true, false, List, [], Option, Some, None, cond, refl, sym, ap, ◌∙◌, subst, inl, inr}
use Rattle.std.specs.Option.{IsSome, option_map}
use Rattle.std.proofs.lemmas.Bool.{cases_eq, eq-eqb, ne_eqb}
use Rattle.bgp_attr.specs.PathAttributes.{PathAttributes}
use Rattle.bgp_conf.specs.Configuration.{Configuration, peer_at}
use Rattle.bgp_fsm.proofs.TableLaws.{keeps_identifier}
use Rattle.bgp_fsm.specs.SessionTable.{effects_of, session_after}
use Rattle.bgp_fsm.specs.StateTests.{is_established}
use Rattle.bgp_fsm.specs.declared.input.Input.{Input}
use Rattle.bgp_fsm.specs.declared.session.Session.{Session}
use Rattle.bgp_peer.specs.Slot.{Slot, handed, pushed}
use Rattle.decision.specs.BookContents.{offer_at}
use Rattle.bgp_conf.specs.PeerPolicies.{import_action}
use Rattle.policy.specs.PolicyMeaning.{Route}
use Rattle.net_prefix.specs.declared.asn.Asn.{Asn}
use Rattle.net_prefix.specs.declared.prefix.Prefix.{Prefix}
use Rattle.local_exceptions.specs.ExceptionSets.{under}
use Rattle.origin_valid.specs.Validity.{validity}
use Rattle.rib_in.specs.LatestRoutes.{route_at}
use Rattle.routing.specs.Linked.{Linked, moved}
use Rattle.speaker.specs.Moves.{Hands, IsPut, KeepsKept, Moves, Pushes}
use Rattle.routing.specs.Offers.{AreKept, AreMadeAgain, AreMadeWhere, IsOffer, IsSource, Offers}
use Rattle.speaker.specs.Serving.{IsStill, IsToldAt}
use Rattle.runs.specs.SpeakerState.{SpeakerState, in_force_of, tables_of}
use Rattle.routing.specs.Tables.{link_at, session_at, tables}
use Rattle.routing.proofs.CandidateLists.{none_routed}
use Rattle.routing.proofs.KeptOffers.{same_action, taken_by, IsAlike, offer_alike, offer_unrouted, up_of, up_as, source_of, some_once, lasting, session_linked, no_none, some_if, kept_same}

-- under the same exceptions the same payloads are in force
pub in_force_same : (old new : SpeakerState) → new.conf.exceptions ≡ old.conf.exceptions → new.payloads ≡ old.payloads → in_force_of new ≡ in_force_of old
in_force_same old new exceptions payloads i = under (exceptions i) (payloads i)

pub in_force_kept : (old new : SpeakerState) → new.conf ≡ old.conf → new.payloads ≡ old.payloads → in_force_of new ≡ in_force_of old
in_force_kept old new conf payloads = in_force_same old new (ap (λ (c : Configuration). c.exceptions) conf) payloads

-- a session takes an input, and its routes go where it leaves Established
pub kept_moved : (slot : ℕ) (l : Linked) (input : Input) (old new : SpeakerState) (had has : Offers) → link_at old.links slot ≡ Some l → IsPut slot (moved old.moment l input) old new → new.conf ≡ old.conf → new.payloads ≡ old.payloads
    → ((s : ℕ) (p : Prefix) → route_at new.adj_in s p ≡ cond ((effects_of input l.peer.session).left && s == slot) None (route_at old.adj_in s p))
    → ((s : ℕ) (p : Prefix) → has s p ≡ cond ((effects_of input l.peer.session).left && s == slot) None (had s p))
    → AreKept (tables_of old) had → AreKept (tables_of new) has
kept_moved slot l input old new had has linked put conf payloads routes offers kept = record {
  made = λ s p. elim (cases_eq s slot) [
    | inl same ↦ subst (λ x. IsOffer (tables_of new) x p (has x p)) (sym same) (made_here p _ refl _ refl)
    | inr other ↦ made_there s p other
  ];
  routed = λ s p there. elim (cases_eq s slot) [
    | inl same ↦ inl (subst (λ x. (session : Session) × (session_at new.links x ≡ Some session) × (is_established session.state ≡ true)) (sym same) (routed_here p _ refl (subst (λ x. IsSome (route_at new.adj_in x p)) same there)))
    | inr other ↦ up_as (tables_of old) (tables_of new) s (session_off s other) (kept.routed s p (some_if (route_at old.adj_in s p) (route_at new.adj_in s p) (sym (route_off s p other)) there))
  ];
  below = λ s session there. elim (cases_eq s slot) [
    | inl same ↦ subst (λ x. x < 64) (sym same) (kept.below slot l.peer.session (session_linked (link_at old.links slot) l linked))
    | inr other ↦ kept.below s session (sym (session_off s other) ∙ there)
  ];
}
  where
    left : Bool
    left = (effects_of input l.peer.session).left

    session_on : session_at new.links slot ≡ Some (session_after old.moment input l.peer.session)
    session_on = session_linked (link_at new.links slot) (moved old.moment l input) (put slot ∙ rw (eq-eqb slot slot refl) refl)

    session_was : session_at old.links slot ≡ Some l.peer.session
    session_was = session_linked (link_at old.links slot) l linked

    session_off : (s : ℕ) → s ≢ slot → session_at new.links s ≡ session_at old.links s
    session_off s other = let same : link_at new.links s ≡ link_at old.links s = put s ∙ rw (ne_eqb s slot other) refl in ap (option_map (λ (x : Linked). x.peer.session)) same

    off_none : {X : Type 0} (b : Bool) (x y : X) → cond (b && false) x y ≡ y
    off_none true x y = refl
    off_none false x y = refl

    on_left : {X : Type 0} (b : Bool) (x y : X) → cond (b && true) x y ≡ cond b x y
    on_left true x y = refl
    on_left false x y = refl

    route_off : (s : ℕ) (p : Prefix) → s ≢ slot → route_at new.adj_in s p ≡ route_at old.adj_in s p
    route_off s p other = routes s p ∙ rw (ne_eqb s slot other) (off_none (effects_of input l.peer.session).left None (route_at old.adj_in s p))

    offer_off : (s : ℕ) (p : Prefix) → s ≢ slot → has s p ≡ had s p
    offer_off s p other = offers s p ∙ rw (ne_eqb s slot other) (off_none (effects_of input l.peer.session).left None (had s p))

    route_on : (p : Prefix) → route_at new.adj_in slot p ≡ cond (effects_of input l.peer.session).left None (route_at old.adj_in slot p)
    route_on p = routes slot p ∙ rw (eq-eqb slot slot refl) (on_left (effects_of input l.peer.session).left None (route_at old.adj_in slot p))

    offer_on : (p : Prefix) → has slot p ≡ cond (effects_of input l.peer.session).left None (had slot p)
    offer_on p = offers slot p ∙ rw (eq-eqb slot slot refl) (on_left (effects_of input l.peer.session).left None (had slot p))

    made_there : (s : ℕ) (p : Prefix) → s ≢ slot → IsOffer (tables_of new) s p (has s p)
    made_there s p other =
        subst (λ f. IsOffer (tables_of new) s p f) (sym (offer_off s p other))
        (offer_alike (tables_of old) (tables_of new) s p (had s p)
        (record { own = ap (λ (c : Configuration). c.own) conf; reach = ap (λ (c : Configuration). c.reach) conf; peer = ap (λ c. option_map taken_by (peer_at c s)) conf; identifier = ap (option_map (λ (x : Session). x.identifier)) (session_off s other); route = route_off s p other; state = λ origin. ap (λ x. validity x p origin) (in_force_kept old new conf payloads); action = λ seen. ap (λ c. import_action c s seen) conf })
        (kept.made s p))

    -- where it stays Established, so does its identifier
    stays : (p : Prefix) → (effects_of input l.peer.session).left ≡ false → IsSome (route_at old.adj_in slot p)
        → (is_established (session_after old.moment input l.peer.session).state ≡ true) × ((session_after old.moment input l.peer.session).identifier ≡ l.peer.session.identifier)
    stays p lasts there =
        let before = up_of (tables_of old) had slot p kept (kept.below slot l.peer.session session_was) there in
        let same : before.0 ≡ l.peer.session = some_once (sym before.1 ∙ session_was) in
        let was : is_established l.peer.session.state ≡ true = sym (ap (λ (x : Session). is_established x.state) same) ∙ before.2 in
        let is : is_established (session_after old.moment input l.peer.session).state ≡ true = lasting old.moment input l.peer.session was lasts in
        (is, keeps_identifier old.moment input l.peer.session was is)

    made_here : (p : Prefix) (b : Bool) → (effects_of input l.peer.session).left ≡ b → (found : Option PathAttributes) → route_at old.adj_in slot p ≡ found → IsOffer (tables_of new) slot p (has slot p)
    made_here p true is found was =
        let gone : has slot p ≡ None = offer_on p ∙ rw is refl in
        let unrouted : route_at new.adj_in slot p ≡ None = route_on p ∙ rw is refl in
        subst (λ f. IsOffer (tables_of new) slot p f) (sym gone) (none_routed (tables_of new) p slot unrouted)
    made_here p false is None was =
        let still : has slot p ≡ had slot p = offer_on p ∙ rw is refl in
        subst (λ f. IsOffer (tables_of new) slot p f) (sym still)
        (offer_unrouted (tables_of old) (tables_of new) slot p (had slot p) was (route_on p ∙ rw is was) (kept.made slot p))
    made_here p false is (Some attrs) was =
        let lasts = stays p is (rw was refl) in
        let still : has slot p ≡ had slot p = offer_on p ∙ rw is refl in
        subst (λ f. IsOffer (tables_of new) slot p f) (sym still)
        (offer_alike (tables_of old) (tables_of new) slot p (had slot p)
        (record {
          own = ap (λ (c : Configuration). c.own) conf;
          reach = ap (λ (c : Configuration). c.reach) conf;
          peer = ap (λ c. option_map taken_by (peer_at c slot)) conf;
          identifier = ap (option_map (λ (x : Session). x.identifier)) session_on ∙ ap Some lasts.1 ∙ sym (ap (option_map (λ (x : Session). x.identifier)) session_was);
          route = route_on p ∙ rw is refl;
          state = λ origin. ap (λ x. validity x p origin) (in_force_kept old new conf payloads);
          action = λ seen. ap (λ c. import_action c slot seen) conf;
        })
        (kept.made slot p))

    routed_here : (p : Prefix) (b : Bool) → (effects_of input l.peer.session).left ≡ b → IsSome (route_at new.adj_in slot p) → (session : Session) × (session_at new.links slot ≡ Some session) × (is_established session.state ≡ true)
    routed_here p true is there = no_none (route_at new.adj_in slot p) (route_on p ∙ rw is refl) there
    routed_here p false is there =
        let lasts = stays p is (some_if (route_at old.adj_in slot p) (route_at new.adj_in slot p) (sym (route_on p ∙ rw is refl)) there) in
        (session_after old.moment input l.peer.session, session_on, lasts.0)

-- a slot keeps its session
pub kept_put : (slot : ℕ) (l m : Linked) (old new : SpeakerState) (had has : Offers) → link_at old.links slot ≡ Some l → m.peer.session ≡ l.peer.session → IsPut slot m old new
    → new.conf ≡ old.conf → new.payloads ≡ old.payloads → new.adj_in ≡ old.adj_in → has ≡ had → AreKept (tables_of old) had → AreKept (tables_of new) has
kept_put slot l m old new had has linked session put conf payloads adj_in book kept =
    kept_same (tables_of old) (tables_of new) had has
    (λ i. record {
      conf = sym conf i;
      payloads = sym (in_force_kept old new conf payloads) i;
      sessions = λ s. sym (sessions s) i;
      routes = λ s p. route_at (sym adj_in i) s p;
    }) book kept
  where
    sessions : (s : ℕ) → session_at new.links s ≡ session_at old.links s
    sessions s = elim (cases_eq s slot) [
      | inl same ↦
          subst (λ x. session_at new.links x ≡ session_at old.links x) (sym same)
          (session_linked (link_at new.links slot) m (put slot ∙ rw (eq-eqb slot slot refl) refl) ∙ ap Some session ∙ sym (session_linked (link_at old.links slot) l linked))
      | inr other ↦ let same : link_at new.links s ≡ link_at old.links s = put s ∙ rw (ne_eqb s slot other) refl in ap (option_map (λ (x : Linked). x.peer.session)) same
    ]

-- so it is where a session takes an input, octets come, or octets are handed out
pub moves_keep : (slot : ℕ) (l : Linked) (input : Input) (old new : SpeakerState) → link_at old.links slot ≡ Some l → Moves slot l input old new → KeepsKept old new
moves_keep slot l input old new linked moves = kept_moved slot l input old new (offer_at old.book) (offer_at new.book) linked moves.links moves.rest.conf moves.rest.payloads moves.routes moves.offers

pub pushes_keep : (slot : ℕ) (l : Linked) (octets : List ℕ) (old new : SpeakerState) → link_at old.links slot ≡ Some l → Pushes slot l octets old new → KeepsKept old new
pushes_keep slot l octets old new linked pushes =
    kept_put slot l (record { peer = pushed l.peer octets; adj_out = l.adj_out }) old new (offer_at old.book) (offer_at new.book) linked refl pushes.links pushes.rest.conf pushes.rest.payloads pushes.routes (ap (λ b. offer_at b) pushes.book)

pub hands_keep : (slot : ℕ) (l : Linked) (count : ℕ) (old new : SpeakerState) → link_at old.links slot ≡ Some l → Hands slot l count old new → KeepsKept old new
hands_keep slot l count old new linked hands =
    kept_put slot l (record { peer = handed l.peer count; adj_out = l.adj_out }) old new (offer_at old.book) (offer_at new.book) linked refl hands.links hands.rest.conf hands.rest.payloads hands.routes (ap (λ b. offer_at b) hands.book)

-- a peer is told something
pub kept_told : (slot : ℕ) (named : List Prefix) (export : Option (List ℕ)) (old new : SpeakerState) (had : Offers) → IsToldAt slot named export old new → AreKept (tables_of old) had → AreKept (tables_of new) had
kept_told slot named export old new had told =
    kept_put slot told.before told.after old new had had told.was (ap (λ (x : Slot). x.session) told.told.peer) told.puts
    (ap (λ (s : SpeakerState). s.conf) told.rest) (ap (λ (s : SpeakerState). s.payloads) told.rest) (ap (λ (s : SpeakerState). s.adj_in) told.rest) refl

-- no slot has changed
pub kept_still_links : (old new : SpeakerState) (had : Offers) → IsStill old new → AreKept (tables_of old) had → AreKept (tables_of (record old { links = new.links })) had
kept_still_links old new had still kept =
    kept_same (tables_of old) (tables_of (record old { links = new.links })) had had
    (λ i. record {
      conf = old.conf;
      payloads = in_force_of old;
      sessions = λ s. sym (ap (option_map (λ (l : Linked). l.peer.session)) (still.links s)) i;
      routes = λ s p. route_at old.adj_in s p;
    }) refl kept

-- a peer is added to a slot that has no routes
pub kept_added : (slot : ℕ) (peer : Slot) (old new : SpeakerState) (had has : Offers) → slot < 64 → IsPut slot (record { peer = peer; adj_out = [] }) old new → ((p : Prefix) → route_at old.adj_in slot p ≡ None)
    → new.conf.own ≡ old.conf.own → new.conf.reach ≡ old.conf.reach → new.conf.policies ≡ old.conf.policies → new.conf.exceptions ≡ old.conf.exceptions → ((s : ℕ) → s ≢ slot → peer_at new.conf s ≡ peer_at old.conf s)
    → new.payloads ≡ old.payloads → new.adj_in ≡ old.adj_in → has ≡ had → AreKept (tables_of old) had → AreKept (tables_of new) has
kept_added slot peer old new had has within put unrouted own reach policies exceptions peers payloads adj_in book kept = record {
  made = λ s p. subst (λ f. IsOffer (tables_of new) s p f) (ap (λ (o : Offers). o s p) (sym book)) (elim (cases_eq s slot) [
    | inl same ↦
        let was : route_at old.adj_in s p ≡ None = subst (λ x. route_at old.adj_in x p ≡ None) (sym same) (unrouted p) in
        offer_unrouted (tables_of old) (tables_of new) s p (had s p) was (route_same s p ∙ was) (kept.made s p)
    | inr other ↦
        offer_alike (tables_of old) (tables_of new) s p (had s p)
        (record { own = own; reach = reach; peer = ap (option_map taken_by) (peers s other); identifier = ap (option_map (λ (x : Session). x.identifier)) (session_off s other); route = route_same s p; state = λ origin. ap (λ x. validity x p origin) (in_force_same old new exceptions payloads); action = λ seen. same_action old.conf new.conf s seen policies (peers s other) })
        (kept.made s p)
  ]);
  routed = λ s p there.
      let was = some_if (route_at old.adj_in s p) (route_at new.adj_in s p) (sym (route_same s p)) there in
      elim (cases_eq s slot) [
        | inl same ↦ no_none (route_at old.adj_in s p) (subst (λ x. route_at old.adj_in x p ≡ None) (sym same) (unrouted p)) was
        | inr other ↦ up_as (tables_of old) (tables_of new) s (session_off s other) (kept.routed s p was)
      ];
  below = λ s session there. elim (cases_eq s slot) [
    | inl same ↦ subst (λ x. x < 64) (sym same) within
    | inr other ↦ kept.below s session (sym (session_off s other) ∙ there)
  ];
}
  where
    session_off : (s : ℕ) → s ≢ slot → session_at new.links s ≡ session_at old.links s
    session_off s other = let same : link_at new.links s ≡ link_at old.links s = put s ∙ rw (ne_eqb s slot other) refl in ap (option_map (λ (x : Linked). x.peer.session)) same

    route_same : (s : ℕ) (p : Prefix) → route_at new.adj_in s p ≡ route_at old.adj_in s p
    route_same s p = ap (λ t. route_at t s p) adj_in

-- the candidates of all routes were made again
pub kept_remade : (old new : SpeakerState) (had has : Offers) → ((slot : ℕ) (prefix : Prefix) → IsSource (tables_of old) slot → IsSome (route_at old.adj_in slot prefix) → IsOffer (tables_of new) slot prefix (has slot prefix))
    → ((slot : ℕ) (prefix : Prefix) → route_at old.adj_in slot prefix ≡ None → has slot prefix ≡ had slot prefix)
    → new.links ≡ old.links → new.adj_in ≡ old.adj_in → AreKept (tables_of old) had → AreKept (tables_of new) has
kept_remade old new had has remade still links adj_in kept = record {
  made = λ s p. made_here s p (route_at old.adj_in s p) refl;
  routed = λ s p there. up_as (tables_of old) (tables_of new) s (ap (λ t. session_at t s) links) (kept.routed s p (some_if (route_at old.adj_in s p) (route_at new.adj_in s p) (ap (λ t. route_at t s p) (sym adj_in)) there));
  below = λ s session there. kept.below s session (ap (λ t. session_at t s) (sym links) ∙ there);
}
  where
    made_here : (s : ℕ) (p : Prefix) (found : Option PathAttributes) → route_at old.adj_in s p ≡ found → IsOffer (tables_of new) s p (has s p)
    made_here s p None is =
        subst (λ f. IsOffer (tables_of new) s p f) (sym (still s p is))
        (offer_unrouted (tables_of old) (tables_of new) s p (had s p) is (ap (λ t. route_at t s p) adj_in ∙ is) (kept.made s p))
    made_here s p (Some attrs) is =
        let there : IsSome (route_at old.adj_in s p) = rw is refl in
        remade s p (source_of (tables_of old) had s p kept there) there

-- a configuration that says the same of the selection
pub kept_conf : (s : SpeakerState) (conf : Configuration) → conf.own ≡ s.conf.own → conf.reach ≡ s.conf.reach → conf.exceptions ≡ s.conf.exceptions → ((slot : ℕ) → option_map taken_by (peer_at conf slot) ≡ option_map taken_by (peer_at s.conf slot)) → ((slot : ℕ) (route : Route) → import_action conf slot route ≡ import_action s.conf slot route) → AreKept (tables_of s) (offer_at s.book)
    → AreKept (tables_of (record s { conf = conf })) (offer_at s.book)
kept_conf s conf own reach exceptions peers action kept = record {
  made = λ slot p.
      offer_alike (tables_of s) (tables_of (record s { conf = conf })) slot p (offer_at s.book slot p)
      (record { own = own; reach = reach; peer = peers slot; identifier = refl; route = refl; state = λ origin. ap (λ e. validity (under e s.payloads) p origin) exceptions; action = action slot }) (kept.made slot p);
  routed = kept.routed;
  below = kept.below;
}

-- with another configuration the candidates of all routes were made again
pub kept_again : (old new : SpeakerState) → new.links ≡ old.links → new.adj_in ≡ old.adj_in → AreMadeAgain (tables new.conf (in_force_of new) old.links old.adj_in) (offer_at old.book) (offer_at new.book) → KeepsKept old new
kept_again old new links adj_in again =
    kept_remade old new (offer_at old.book) (offer_at new.book)
    (λ slot prefix source there.
    subst (λ t. IsOffer t slot prefix (offer_at new.book slot prefix)) (λ i. tables new.conf (in_force_of new) (sym links i) (sym adj_in i)) (again.made slot prefix refl source there))
    (λ slot prefix none. again.still slot prefix (inr none)) links adj_in

-- the candidates of some prefixes are made again, and of the others nothing else is read
pub kept_partly : (holds : Prefix → Bool) (old new : SpeakerState) → new.links ≡ old.links → new.adj_in ≡ old.adj_in → AreMadeWhere (tables new.conf (in_force_of new) new.links new.adj_in) holds (offer_at old.book) (offer_at new.book)
    → ((s : ℕ) (q : Prefix) → holds q ≡ false → IsSome (route_at old.adj_in s q) → IsAlike (tables_of old) (tables_of new) s q) → AreKept (tables_of old) (offer_at old.book) → AreKept (tables_of new) (offer_at new.book)
kept_partly holds old new links adj_in made alike kept = record {
  made = λ s p. made_here s p (holds p) refl (route_at old.adj_in s p) refl;
  routed = λ s p there. up_as (tables_of old) (tables_of new) s (ap (λ t. session_at t s) links) (kept.routed s p (some_if (route_at old.adj_in s p) (route_at new.adj_in s p) (ap (λ t. route_at t s p) (sym adj_in)) there));
  below = λ s session there. kept.below s session (ap (λ t. session_at t s) (sym links) ∙ there);
}
  where
    made_here : (s : ℕ) (p : Prefix) (b : Bool) → holds p ≡ b → (found : Option PathAttributes) → route_at old.adj_in s p ≡ found → IsOffer (tables_of new) s p (offer_at new.book s p)
    made_here s p b at None is =
        subst (λ f. IsOffer (tables_of new) s p f) (sym (made.still s p (inr (ap (λ t. route_at t s p) adj_in ∙ is))))
        (offer_unrouted (tables_of old) (tables_of new) s p (offer_at old.book s p) is (ap (λ t. route_at t s p) adj_in ∙ is) (kept.made s p))
    made_here s p false at (Some attrs) is =
        subst (λ f. IsOffer (tables_of new) s p f) (sym (made.still s p (inl at)))
        (offer_alike (tables_of old) (tables_of new) s p (offer_at old.book s p) (alike s p at (rw is refl)) (kept.made s p))
    made_here s p true at (Some attrs) is =
        let there : IsSome (route_at old.adj_in s p) = rw is refl in
        let source = source_of (tables_of old) (offer_at old.book) s p kept there in
        let sessions : session_at new.links s ≡ session_at old.links s = ap (λ t. session_at t s) links in
        let now : IsSource (tables new.conf (in_force_of new) new.links new.adj_in) s = elim source [ inl up ↦ inl (up.0, (up.1.0, sessions ∙ up.1.1)) | inr local ↦ inr local ] in
        made.made s p at now (some_if (route_at new.adj_in s p) (route_at old.adj_in s p) (ap (λ t. route_at t s p) adj_in) there)

-- the payloads in force change, with those that are loaded or with the exceptions: of the other prefixes no state changes
pub kept_touched : (holds : Prefix → Bool) (old new : SpeakerState) → new.conf ≡ record old.conf { exceptions = new.conf.exceptions } → new.links ≡ old.links → new.adj_in ≡ old.adj_in
    → AreMadeWhere (tables new.conf (in_force_of new) new.links new.adj_in) holds (offer_at old.book) (offer_at new.book)
    → ((q : Prefix) → holds q ≡ false → (origin : Option Asn) → validity (in_force_of new) q origin ≡ validity (in_force_of old) q origin)
    → AreKept (tables_of old) (offer_at old.book) → AreKept (tables_of new) (offer_at new.book)
kept_touched holds old new conf links adj_in made states kept =
    kept_partly holds old new links adj_in made
    (λ s p at there. record {
      own = ap (λ (c : Configuration). c.own) conf;
      reach = ap (λ (c : Configuration). c.reach) conf;
      peer = ap (λ c. option_map taken_by (peer_at c s)) conf;
      identifier = ap (λ t. option_map (λ (x : Session). x.identifier) (session_at t s)) links;
      route = ap (λ t. route_at t s p) adj_in;
      state = states p at;
      action = λ seen. ap (λ c. import_action c s seen) conf;
    }) kept

-- a slot is without routes and candidates, and what is read of the others stays
pub kept_without : (slot : ℕ) (old new : SpeakerState) → AreKept (tables_of old) (offer_at old.book) → new.conf.own ≡ old.conf.own → new.conf.reach ≡ old.conf.reach → new.conf.policies ≡ old.conf.policies → new.conf.exceptions ≡ old.conf.exceptions → new.payloads ≡ old.payloads
    → ((t : ℕ) → t ≢ slot → peer_at new.conf t ≡ peer_at old.conf t) → ((t : ℕ) → t ≢ slot → session_at new.links t ≡ session_at old.links t)
    → ((t : ℕ) → t ≢ slot → (p : Prefix) → route_at new.adj_in t p ≡ route_at old.adj_in t p) → ((p : Prefix) → route_at new.adj_in slot p ≡ None)
    → ((t : ℕ) → t ≢ slot → (p : Prefix) → offer_at new.book t p ≡ offer_at old.book t p) → ((p : Prefix) → offer_at new.book slot p ≡ None)
    → ((session : Session) → session_at new.links slot ≡ Some session → slot < 64) → AreKept (tables_of new) (offer_at new.book)
kept_without slot old new kept own reach policies exceptions payloads peers sessions routes unrouted offers unoffered low = record {
  made = λ t p. elim (cases_eq t slot) [
    | inl same ↦ subst (λ x. IsOffer (tables_of new) x p (offer_at new.book x p)) (sym same) (subst (λ f. IsOffer (tables_of new) slot p f) (sym (unoffered p)) (none_routed (tables_of new) p slot (unrouted p)))
    | inr other ↦
        subst (λ f. IsOffer (tables_of new) t p f) (sym (offers t other p))
        (offer_alike (tables_of old) (tables_of new) t p (offer_at old.book t p)
        (record { own = own; reach = reach; peer = ap (option_map taken_by) (peers t other); identifier = ap (option_map (λ (x : Session). x.identifier)) (sessions t other); route = routes t other p; state = λ origin. ap (λ x. validity x p origin) (in_force_same old new exceptions payloads); action = λ seen. same_action old.conf new.conf t seen policies (peers t other) })
        (kept.made t p))
  ];
  routed = λ t p there. elim (cases_eq t slot) [
    | inl same ↦ no_none (route_at new.adj_in t p) (subst (λ x. route_at new.adj_in x p ≡ None) (sym same) (unrouted p)) there
    | inr other ↦ up_as (tables_of old) (tables_of new) t (sessions t other) (kept.routed t p (subst (λ o. IsSome o) (routes t other p) there))
  ];
  below = λ t session there. elim (cases_eq t slot) [
    | inl same ↦ subst (λ x. x < 64) (sym same) (low session (subst (λ x. session_at new.links x ≡ Some session) same there))
    | inr other ↦ kept.below t session (sym (sessions t other) ∙ there)
  ];
}
