use Rattle.std.proofs.Common.{◌≡◌, ◌<◌, ◌==◌, ◌⊎◌, not, ℕ, Bool, true, false, List, Option, Some, None, cond, refl, sym, ap, ◌∙◌, subst, inl, inr}
use Rattle.std.proofs.lemmas.Bool.{cases_eq, eq-eqb, ne_eqb}
use Rattle.bgp_conf.proofs.Accepted.{peer_at-from_accepted, slot-from_accepted}
use Rattle.std.specs.Borrow.{Bor}
use Rattle.std.specs.Option.{option_and_then, option_map}
use Rattle.bgp_conf.proofs.PolicyActions.{export_action-DropPolicy, export_action-SetPolicy, export_action-UseIn, export_action-UseOut, option_map-changed}
use Rattle.bgp_conf.specs.ConfAfter.{conf_after, configured_of, exporting, importing, peer_after}
use Rattle.bgp_conf.specs.Configuration.{Configuration, peer_at}
use Rattle.bgp_conf.specs.FirstRefusal.{first_refusal}
use Rattle.bgp_conf.specs.PeerPolicies.{action_by, export_action, exports_by}
use Rattle.bgp_conf.specs.declared.command.Command.{Command}
use Rattle.bgp_conf.specs.declared.command.Command.TheVariants.{AddPeer, RemovePeer, Enable, Disable, SetPolicy, DropPolicy, UseIn, UseOut, Network, NoNetwork, Reach, NoReach, Filter, NoFilter, Assert, NoAssert}
use Rattle.bgp_conf.specs.declared.command.PeerConf.{PeerConf}
use Rattle.bgp_conf.specs.declared.conf.ConfiguredPeer.{ConfiguredPeer}
use Rattle.bgp_fsm.specs.StateTests.{is_established}
use Rattle.decision.specs.BookContents.{BookState, rows_of}
use Rattle.decision.specs.declared.candidate.Candidate.{Candidate}
use Rattle.export_rules.specs.Export.{export_at}
use Rattle.export_rules.specs.declared.export.ExportPeer.{ExportPeer}
use Rattle.bgp_attr.specs.PathAttributes.{PathAttributes}
use Rattle.policy.specs.PolicyMeaning.{Route}
use Rattle.policy.specs.PolicyNames.{name_of}
use Rattle.policy.specs.declared.rule.Rule.{Rule}
use Rattle.net_prefix.specs.declared.asn.Asn.{Asn}
use Rattle.net_prefix.specs.declared.prefix.Prefix.{Prefix}
use Rattle.rib_in.specs.LatestRoutes.{RouteTable, route_at}
use Rattle.rib_out.specs.Held.{asked_at, held_at}
use Rattle.routes.specs.Commands.{resolves}
use Rattle.routing.specs.Export.{export_in, export_peer_of, selected_of}
use Rattle.routing.specs.Linked.{Linked}
use Rattle.routing.specs.Marks.{AreMarked, AreMarkedFor, mark_at, mark_for, mark_of, no_mark}
use Rattle.routing.specs.RoutingState.{RoutingState}
use Rattle.routing.specs.Tables.{best_at, link_at}
use Rattle.routing.proofs.Marking.{export_none, is_other, marked_as, none_unlinked, other_is}
use Rattle.routes.proofs.SlotMarks.{IsNow, now_off}

-- What waits, where a peer is added.

-- the configuration says of the export to a slot but the own AS and what the slot's export policy makes of routes
export_conf : (conf conf2 : Configuration) (loc_rib : Prefix → Option Candidate) (adj_in : RouteTable) (peer : ExportPeer) (p : Prefix) → conf2.own ≡ conf.own → ((route : Route) → export_action conf2 peer.slot route ≡ export_action conf peer.slot route)
    → export_in conf2 loc_rib adj_in peer p ≡ export_in conf loc_rib adj_in peer p
export_conf conf conf2 loc_rib adj_in peer p own actions i =
    option_and_then (λ (c : Candidate). option_and_then (λ attrs. export_at c attrs peer (same c attrs i)) (route_at adj_in c.slot p)) (loc_rib p)
  where
    same : (c : Candidate) (attrs : PathAttributes) → export_action conf2 peer.slot (selected_of conf2.own p c attrs) ≡ export_action conf peer.slot (selected_of conf.own p c attrs)
    same c attrs = ap (λ asn. export_action conf2 peer.slot (selected_of asn p c attrs)) own ∙ actions (selected_of conf.own p c attrs)

-- what the export to a peer goes by, beside its policy
abbrev pub exported_by : ConfiguredPeer → Asn × ℕ
exported_by peer = (peer.asn, peer.local)

-- where the export to the slot is the same, the same is owed
mark_conf : (conf conf2 : Configuration) (adj_in : RouteTable) (book : BookState) (slot : ℕ) (p : Prefix) (found found2 : Option ConfiguredPeer) (linked : Option Linked) → conf2.own ≡ conf.own → option_map exported_by found2 ≡ option_map exported_by found
    → ((peer : ExportPeer) → peer.slot ≡ slot → export_in conf2 (best_at (rows_of book)) adj_in peer p ≡ export_in conf (best_at (rows_of book)) adj_in peer p)
    → mark_of conf2 adj_in book slot p found2 linked ≡ mark_of conf adj_in book slot p found linked
mark_conf conf conf2 adj_in book slot p None None linked own same exports = refl
mark_conf conf conf2 adj_in book slot p None (Some b) linked own same exports = absurd (cc)
mark_conf conf conf2 adj_in book slot p (Some a) None linked own same exports = absurd (cc)
mark_conf conf conf2 adj_in book slot p (Some a) (Some b) None own same exports = refl
mark_conf conf conf2 adj_in book slot p (Some a) (Some b) (Some l) own same exports =
    let both : exported_by b ≡ exported_by a = one same in
    ap (λ e. cond (is_established l.peer.session.state) (mark_for e (held_at l.adj_out p) (asked_at l.adj_out p)) no_mark)
    (exports (export_peer_of conf2 slot b) refl ∙ (λ i. export_in conf (best_at (rows_of book)) adj_in (record { slot = slot; own = own i; asn = (both i).0; local = (both i).1 }) p))
  where
    one : {X : Type 0} {x y : X} → Some x ≡ Some y → x ≡ y
    one is = cc

-- the export policy of a slot makes the same of routes where the policies and the slot's peer are the same
same_actions : (conf conf2 : Configuration) (slot : ℕ) → conf2.policies ≡ conf.policies → peer_at conf2 slot ≡ peer_at conf slot → (route : Route) → export_action conf2 slot route ≡ export_action conf slot route
same_actions conf conf2 slot policies peers route i = action_by (λ peer. peer.export) (policies i) (peers i) route

-- what is owed to a slot whose peer, and what its export policy makes of routes, are the same
mark_kept : (conf conf2 : Configuration) (t : RoutingState) (slot : ℕ) (p : Prefix) (linked : Option Linked) → conf2.own ≡ conf.own → option_map exported_by (peer_at conf2 slot) ≡ option_map exported_by (peer_at conf slot)
    → ((route : Route) → export_action conf2 slot route ≡ export_action conf slot route) → mark_of conf2 t.adj_in t.book slot p (peer_at conf2 slot) linked ≡ mark_of conf t.adj_in t.book slot p (peer_at conf slot) linked
mark_kept conf conf2 t slot p linked own peers actions =
    mark_conf conf conf2 t.adj_in t.book slot p (peer_at conf slot) (peer_at conf2 slot) linked own peers
    (λ peer at. export_conf conf conf2 (best_at (rows_of t.book)) t.adj_in peer p own (λ route. subst (λ s. export_action conf2 s route ≡ export_action conf s route) (sym at) (actions route)))

-- the same where both are
mark_same : (conf conf2 : Configuration) (t : RoutingState) (slot : ℕ) (p : Prefix) (linked : Option Linked) → conf2.own ≡ conf.own → conf2.policies ≡ conf.policies → peer_at conf2 slot ≡ peer_at conf slot
    → mark_of conf2 t.adj_in t.book slot p (peer_at conf2 slot) linked ≡ mark_of conf t.adj_in t.book slot p (peer_at conf slot) linked
mark_same conf conf2 t slot p linked own policies peers = mark_kept conf conf2 t slot p linked own (ap (option_map exported_by) peers) (same_actions conf conf2 slot policies peers)

-- a peer whose session isn't Established is owed nothing
mark_down : (conf : Configuration) (adj_in : RouteTable) (book : BookState) (slot : ℕ) (p : Prefix) (peer : Option ConfiguredPeer) (l : Linked) → is_established l.peer.session.state ≡ false
    → mark_of conf adj_in book slot p peer (Some l) ≡ no_mark
mark_down conf adj_in book slot p None l down = refl
mark_down conf adj_in book slot p (Some peer) l down = rw down refl

-- a slot that isn't there is owed nothing
mark_nobody : (conf : Configuration) (adj_in : RouteTable) (book : BookState) (slot : ℕ) (p : Prefix) (peer : Option ConfiguredPeer) → mark_of conf adj_in book slot p peer None ≡ no_mark
mark_nobody conf adj_in book slot p None = refl
mark_nobody conf adj_in book slot p (Some peer) = refl

pub marked_added : (closing : ℕ) (conf conf2 : Configuration) (links links2 : List (ℕ × Linked)) (t : RoutingState) (slot : ℕ) (peer : PeerConf) (m : Linked) → AreMarked conf links t → first_refusal conf closing (AddPeer slot peer) ≡ None
    → conf2.own ≡ conf.own → conf2.policies ≡ conf.policies → ((s : ℕ) → peer_at conf2 s ≡ peer_after conf (AddPeer slot peer) s) → IsNow slot m links links2 → is_established m.peer.session.state ≡ false → AreMarked conf2 links2 t
marked_added closing conf conf2 links links2 t slot peer m marked may own policies peers put down = record {
  there = record {
    within = λ s l there. elim (cases_eq s slot) [
      | inl same ↦ subst (λ x. x < 64) (sym same) (slot-from_accepted conf closing slot peer may)
      | inr other ↦ marked.there.within s l (sym (now_off slot m links links2 put s other) ∙ there)
    ];
  };
  marks = λ s p within. marked_as _ _ t s p (same s p) (marked.marks s p within);
}
  where
    at_slot : (p : Prefix) → mark_at conf links t slot p ≡ mark_at conf2 links2 t slot p
    at_slot p =
        ap (λ found. mark_of conf t.adj_in t.book slot p found (link_at links slot)) (peer_at-from_accepted conf closing slot peer may)
        ∙ sym (ap (mark_of conf2 t.adj_in t.book slot p (peer_at conf2 slot)) (put slot ∙ rw (eq-eqb slot slot refl) refl) ∙ mark_down conf2 t.adj_in t.book slot p (peer_at conf2 slot) m down)

    same : (s : ℕ) (p : Prefix) → mark_at conf links t s p ≡ mark_at conf2 links2 t s p
    same s p = elim (cases_eq s slot) [
      | inl here ↦ subst (λ x. mark_at conf links t x p ≡ mark_at conf2 links2 t x p) (sym here) (at_slot p)
      | inr other ↦
          sym
          (ap (mark_of conf2 t.adj_in t.book s p (peer_at conf2 s)) (now_off slot m links links2 put s other)
          ∙ mark_same conf conf2 t s p (link_at links s) own policies (peers s ∙ ap (λ b. cond b (Some (configured_of peer)) (peer_at conf s)) (ne_eqb s slot other)))
    ]

-- the slots are as they were
pub marked_links : (conf : Configuration) (links links2 : List (ℕ × Linked)) (t : RoutingState) → AreMarked conf links t → ((s : ℕ) → link_at links2 s ≡ link_at links s) → AreMarked conf links2 t
marked_links conf links links2 t marked same = record {
  there = record { within = λ s l there. marked.there.within s l (sym (same s) ∙ there) };
  marks = λ s p within. marked_as _ _ t s p (sym (ap (mark_of conf t.adj_in t.book s p (peer_at conf s)) (same s))) (marked.marks s p within);
}

-- an entry of `reach` says nothing of the export
pub marked_reached : (conf conf2 : Configuration) (links : List (ℕ × Linked)) (t : RoutingState) → AreMarked conf links t → conf2.own ≡ conf.own → conf2.policies ≡ conf.policies → ((s : ℕ) → peer_at conf2 s ≡ peer_at conf s) → AreMarked conf2 links t
marked_reached conf conf2 links t marked own policies peers = record {
  there = marked.there;
  marks = λ s p within. marked_as _ _ t s p (sym (mark_same conf conf2 t s p (link_at links s) own policies (peers s))) (marked.marks s p within);
}

-- nor does any command that changes how next hops resolve
pub marked_resolved : (conf conf2 : Configuration) (links : List (ℕ × Linked)) (t : RoutingState) (command : Command) → conf2 ≡ conf_after conf command → resolves command ≡ true → AreMarked conf links t → AreMarked conf2 links t
marked_resolved conf conf2 links t (AddPeer slot peer) is so marked = absurd (cc)
marked_resolved conf conf2 links t (RemovePeer slot) is so marked = absurd (cc)
marked_resolved conf conf2 links t (Enable slot) is so marked = absurd (cc)
marked_resolved conf conf2 links t (Disable slot) is so marked = absurd (cc)
marked_resolved conf conf2 links t (SetPolicy name rules) is so marked = absurd (cc)
marked_resolved conf conf2 links t (DropPolicy name) is so marked = absurd (cc)
marked_resolved conf conf2 links t (UseIn slot name) is so marked = absurd (cc)
marked_resolved conf conf2 links t (UseOut slot name) is so marked = absurd (cc)
marked_resolved conf conf2 links t (Network prefix) is so marked = absurd (cc)
marked_resolved conf conf2 links t (NoNetwork prefix) is so marked = absurd (cc)
marked_resolved conf conf2 links t (Reach prefix cost) is so marked =
    marked_reached conf conf2 links t marked (ap (λ (c : Configuration). c.own) is) (ap (λ (c : Configuration). c.policies) is) (λ s. ap (λ c. peer_at c s) is)
marked_resolved conf conf2 links t (NoReach prefix) is so marked =
    marked_reached conf conf2 links t marked (ap (λ (c : Configuration). c.own) is) (ap (λ (c : Configuration). c.policies) is) (λ s. ap (λ c. peer_at c s) is)
marked_resolved conf conf2 links t (Filter prefix asn) is so marked = absurd (cc)
marked_resolved conf conf2 links t (NoFilter prefix asn) is so marked = absurd (cc)
marked_resolved conf conf2 links t (Assert prefix max_len asn) is so marked = absurd (cc)
marked_resolved conf conf2 links t (NoAssert prefix max_len asn) is so marked = absurd (cc)

-- where a peer is removed: its session isn't Established
pub marked_removed : (conf conf2 : Configuration) (links : List (ℕ × Linked)) (t : RoutingState) (slot : ℕ) → AreMarked conf links t → conf2.own ≡ conf.own → conf2.policies ≡ conf.policies → ((s : ℕ) → peer_at conf2 s ≡ cond (s == slot) None (peer_at conf s))
    → ((l : Linked) → link_at links slot ≡ Some l → is_established l.peer.session.state ≡ false) → AreMarked conf2 links t
marked_removed conf conf2 links t slot marked own policies peers down = record {
  there = marked.there;
  marks = λ s p within. marked_as _ _ t s p (same s p) (marked.marks s p within);
}
  where
    was : (p : Prefix) (linked : Option Linked) → link_at links slot ≡ linked → mark_of conf t.adj_in t.book slot p (peer_at conf slot) linked ≡ no_mark
    was p None is = mark_nobody conf t.adj_in t.book slot p (peer_at conf slot)
    was p (Some l) is = mark_down conf t.adj_in t.book slot p (peer_at conf slot) l (down l is)

    at_slot : (p : Prefix) → mark_at conf links t slot p ≡ mark_at conf2 links t slot p
    at_slot p =
        was p (link_at links slot) refl
        ∙ sym (ap (λ found. mark_of conf2 t.adj_in t.book slot p found (link_at links slot)) (peers slot ∙ ap (λ b. cond b None (peer_at conf slot)) (eq-eqb slot slot refl)))

    same : (s : ℕ) (p : Prefix) → mark_at conf links t s p ≡ mark_at conf2 links t s p
    same s p = elim (cases_eq s slot) [
      | inl here ↦ subst (λ x. mark_at conf links t x p ≡ mark_at conf2 links t x p) (sym here) (at_slot p)
      | inr other ↦
          sym (mark_same conf conf2 t s p (link_at links s) own policies (peers s ∙ ap (λ b. cond b None (peer_at conf s)) (ne_eqb s slot other)))
    ]

-- where a slot without a peer is let go
pub marked_gone : (conf : Configuration) (links links2 : List (ℕ × Linked)) (t : RoutingState) (slot : ℕ) → AreMarked conf links t → peer_at conf slot ≡ None → ((s : ℕ) → link_at links2 s ≡ cond (s == slot) None (link_at links s)) → AreMarked conf links2 t
marked_gone conf links links2 t slot marked nobody gone = record {
  there = record {
    within = λ s l there. elim (cases_eq s slot) [
      | inl here ↦ let none = sym there ∙ gone s ∙ ap (λ b. cond b None (link_at links s)) (eq-eqb s slot here) in absurd (cc)
      | inr other ↦ marked.there.within s l (sym (gone s ∙ ap (λ b. cond b None (link_at links s)) (ne_eqb s slot other)) ∙ there)
    ];
  };
  marks = λ s p within. marked_as _ _ t s p (sym (same s p)) (marked.marks s p within);
}
  where
    same : (s : ℕ) (p : Prefix) → mark_at conf links2 t s p ≡ mark_at conf links t s p
    same s p = elim (cases_eq s slot) [
      | inl here ↦
          let none : peer_at conf s ≡ None = subst (λ x. peer_at conf x ≡ None) (sym here) nobody in
          ap (λ found. mark_of conf t.adj_in t.book s p found (link_at links2 s)) none ∙ sym (ap (λ found. mark_of conf t.adj_in t.book s p found (link_at links s)) none)
      | inr other ↦ ap (mark_of conf t.adj_in t.book s p (peer_at conf s)) (gone s ∙ ap (λ b. cond b None (link_at links s)) (ne_eqb s slot other))
    ]

-- a peer has another import policy
pub marked_importing : (conf conf2 : Configuration) (links : List (ℕ × Linked)) (t : RoutingState) (slot : ℕ) (name : Bor (List ℕ)) → conf2 ≡ conf_after conf (UseIn slot name) → AreMarked conf links t → AreMarked conf2 links t
marked_importing conf conf2 links t slot name is marked = subst (λ c. AreMarked c links t) (sym is) (record {
  there = marked.there;
  marks = λ s p within.
      marked_as _ _ t s p
      (sym (mark_kept conf (conf_after conf (UseIn slot name)) t s p (link_at links s) refl (option_map-changed conf slot (importing (name_of name.now)) exported_by (λ peer. refl) s)
      (λ route. export_action-UseIn conf s route slot name)))
      (marked.marks s p within);
})

-- a policy that no peer uses is dropped
pub marked_dropped : (closing : ℕ) (conf conf2 : Configuration) (links : List (ℕ × Linked)) (t : RoutingState) (name : Bor (List ℕ)) → first_refusal conf closing (DropPolicy name) ≡ None → conf2 ≡ conf_after conf (DropPolicy name) → AreMarked conf links t
    → AreMarked conf2 links t
marked_dropped closing conf conf2 links t name may is marked = subst (λ c. AreMarked c links t) (sym is) (record {
  there = marked.there;
  marks = λ s p within. marked_as _ _ t s p (sym (mark_kept conf (conf_after conf (DropPolicy name)) t s p (link_at links s) refl refl (λ route. export_action-DropPolicy conf s route closing name may))) (marked.marks s p within);
})

-- what is owed of a prefix without a best route, whatever export policies say
mark_unrouted : (conf conf2 : Configuration) (t : RoutingState) (slot : ℕ) (p : Prefix) (linked : Option Linked) → conf2.own ≡ conf.own → option_map exported_by (peer_at conf2 slot) ≡ option_map exported_by (peer_at conf slot)
    → best_at (rows_of t.book) p ≡ None → mark_of conf2 t.adj_in t.book slot p (peer_at conf2 slot) linked ≡ mark_of conf t.adj_in t.book slot p (peer_at conf slot) linked
mark_unrouted conf conf2 t slot p linked own peers none =
    mark_conf conf conf2 t.adj_in t.book slot p (peer_at conf slot) (peer_at conf2 slot) linked own peers
    (λ peer at. export_none conf2 (best_at (rows_of t.book)) t.adj_in peer p none ∙ sym (export_none conf (best_at (rows_of t.book)) t.adj_in peer p none))

-- export policies change, but for the slots of which this holds
marked_for : (done : ℕ → Bool) (conf conf2 : Configuration) (links : List (ℕ × Linked)) (t : RoutingState) → AreMarked conf links t → conf2.own ≡ conf.own → ((s : ℕ) → option_map exported_by (peer_at conf2 s) ≡ option_map exported_by (peer_at conf s))
    → ((s : ℕ) → done s ≡ true → (route : Route) → export_action conf2 s route ≡ export_action conf s route) → AreMarkedFor done conf2 links t
marked_for done conf conf2 links t marked own peers actions = record {
  there = marked.there;
  marks = λ s p within is. marked_as _ _ t s p (sym (either s p is)) (marked.marks s p within);
  none = λ s p within unlinked. none_unlinked conf links t t s p unlinked (marked.marks s p within);
}
  where
    either : (s : ℕ) (p : Prefix) → (done s ≡ true) ⊎ (best_at (rows_of t.book) p ≡ None) → mark_at conf2 links t s p ≡ mark_at conf links t s p
    either s p (inl is) = mark_kept conf conf2 t s p (link_at links s) own (peers s) (actions s is)
    either s p (inr none) = mark_unrouted conf conf2 t s p (link_at links s) own (peers s) none

-- a peer has another export policy
pub marked_exporting : (conf conf2 : Configuration) (links : List (ℕ × Linked)) (t : RoutingState) (slot : ℕ) (name : Bor (List ℕ)) → conf2 ≡ conf_after conf (UseOut slot name) → AreMarked conf links t → AreMarkedFor (is_other slot) conf2 links t
marked_exporting conf conf2 links t slot name is marked =
    subst (λ c. AreMarkedFor (is_other slot) c links t) (sym is)
    (marked_for (is_other slot) conf (conf_after conf (UseOut slot name)) links t marked refl (λ s. option_map-changed conf slot (exporting (name_of name.now)) exported_by (λ peer. refl) s)
    (λ s other route. export_action-UseOut conf s route slot name (other_is slot s other)))

-- a policy has other rules
pub marked_set : (conf conf2 : Configuration) (links : List (ℕ × Linked)) (t : RoutingState) (name : Bor (List ℕ)) (rules : Bor (List Rule)) → conf2 ≡ conf_after conf (SetPolicy name rules) → AreMarked conf links t
    → AreMarkedFor (λ s. not (exports_by conf2 s (name_of name.now))) conf2 links t
marked_set conf conf2 links t name rules is marked =
    subst (λ c. AreMarkedFor (λ s. not (exports_by c s (name_of name.now))) c links t) (sym is)
    (marked_for (λ s. not (exports_by conf s (name_of name.now))) conf (conf_after conf (SetPolicy name rules)) links t marked refl (λ s. refl)
    (λ s other route. export_action-SetPolicy conf s route name rules (not_so (exports_by conf s (name_of name.now)) other)))
  where
    not_so : (b : Bool) → not b ≡ true → b ≡ false
    not_so true is = absurd (cc)
    not_so false is = refl
