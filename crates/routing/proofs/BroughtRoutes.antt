use Rattle.std.proofs.Common.{◌≡◌, ◌≢◌, ◌&&◌, ℕ, Bool, true, false, List, Option, Some, None, Result, Ok, Err, IfOk, IfNone, OnErr, cond, refl, sym, ap, ◌∙◌, subst}
use Rattle.std.specs.Option.{IfSome, option_and_then}
use Rattle.std.specs.Ordering.{is_eq}
use Rattle.std.proofs.lemmas.Bool.{ne_eqb}
use Rattle.bgp_attr.specs.PathAttributes.{PathAttributes}
use Rattle.bgp_conf.specs.Configuration.{Configuration, peer_at}
use Rattle.bgp_conf.specs.declared.conf.ConfiguredPeer.{ConfiguredPeer}
use Rattle.bgp_fsm.specs.StateTests.{is_established}
use Rattle.decision.specs.BookContents.{is_prefix, rows_of}
use Rattle.decision.specs.declared.candidate.Candidate.{Candidate}
use Rattle.export_rules.specs.declared.export.ExportPeer.{ExportPeer}
use Rattle.net_prefix.specs.PrefixOrder.{prefix_cmp}
use Rattle.net_prefix.specs.declared.prefix.Prefix.{Prefix}
use Rattle.rib_in.specs.LatestRoutes.{RouteTable, is_route, route_at}
use Rattle.rib_out.specs.Alike.{IsListed}
use Rattle.rib_out.specs.Held.{asked_at, held_at}
use Rattle.rib_out.specs.Waiting.{IsAwaited}
use Rattle.routing.specs.Export.{export_in, export_peer_of, exported_at}
use Rattle.routing.specs.Linked.{Linked}
use Rattle.routing.specs.Marks.{AreMarked, mark_at, mark_for, mark_of, no_mark}
use Rattle.routing.specs.RoutingState.{RoutingState}
use Rattle.routing.specs.Tables.{best_at, link_at}
use Rattle.routing.proofs.Marking.{mark_alike, marked_still, off_prefix}
use Rattle.routing.proofs.Places.{same_from_is_prefix}
use Rattle.routing.proofs.RouteChanges.{is_route-parts}

-- Routes that come before they make candidates.

-- ---- the marks stay, since the best route of a prefix isn't one that makes no candidate
export_other : (conf : Configuration) (rows : Prefix → Option Candidate) (old new : RouteTable) (peer : ExportPeer) (p : Prefix) → ((c : Candidate) → rows p ≡ Some c → route_at new c.slot p ≡ route_at old c.slot p)
    → export_in conf rows new peer p ≡ export_in conf rows old peer p
export_other conf rows old new peer p same = by_best (rows p) refl
  where
    by_best : (o : Option Candidate) → rows p ≡ o → option_and_then (λ (c : Candidate). option_and_then (λ attrs. exported_at conf peer p c attrs) (route_at new c.slot p)) o
        ≡ option_and_then (λ (c : Candidate). option_and_then (λ attrs. exported_at conf peer p c attrs) (route_at old c.slot p)) o
    by_best None is = refl
    by_best (Some c) is = ap (option_and_then (λ attrs. exported_at conf peer p c attrs)) (same c is)

mark_other_of : (conf : Configuration) (t u : RoutingState) (slot : ℕ) (p : Prefix) (peer : Option ConfiguredPeer) (linked : Option Linked)
    → ((peer : ExportPeer) → export_in conf (best_at (rows_of u.book)) u.adj_in peer p ≡ export_in conf (best_at (rows_of t.book)) t.adj_in peer p) → mark_of conf u.adj_in u.book slot p peer linked ≡ mark_of conf t.adj_in t.book slot p peer linked
mark_other_of conf t u slot p None linked exports = refl
mark_other_of conf t u slot p (Some peer) None exports = refl
mark_other_of conf t u slot p (Some peer) (Some l) exports =
    ap (λ e. cond (is_established l.peer.session.state) (mark_for e (held_at l.adj_out p) (asked_at l.adj_out p)) no_mark) (exports (export_peer_of conf slot peer))

-- a route came to a prefix of which the best route is another slot's
pub record Comes (slot : ℕ) (prefix : Prefix) (attrs : PathAttributes) (t u : RoutingState) : Type 0 where
  pub alike : u.alike ≡ t.alike
  pub waiting : u.waiting ≡ t.waiting
  pub routes : (s : ℕ) (p : Prefix) → route_at u.adj_in s p ≡ cond (is_route slot prefix s p) (Some attrs) (route_at t.adj_in s p)
  pub rows : rows_of u.book ≡ rows_of t.book
  pub other : IfSome (best_at (rows_of t.book) prefix) (λ c. c.slot ≢ slot)

pub marked_come : (conf : Configuration) (links : List (ℕ × Linked)) (slot : ℕ) (prefix : Prefix) (attrs : PathAttributes) (t u : RoutingState) → AreMarked conf links t → Comes slot prefix attrs t u → AreMarked conf links u
marked_come conf links slot prefix attrs t u marked h = record {
  there = marked.there;
  marks = λ s p within. marked_still _ _ t u s p (marked.marks s p within) (subst (λ q. IsAwaited q s p (mark_at conf links t s p).owed) (sym h.waiting)) (λ o waits listed. subst (λ a. IsListed a s o p) (sym h.alike) listed) (sym (same_mark s p));
}
  where
    off : (p : Prefix) (c : Candidate) → best_at (rows_of t.book) p ≡ Some c → (b : Bool) → is_prefix prefix p ≡ b → is_route slot prefix c.slot p ≡ false
    off p c best false is = off_prefix slot c.slot prefix p is
    off p c best true is =
        let at = subst (λ q. IfSome (best_at (rows_of t.book) q) (λ c. c.slot ≢ slot)) (same_from_is_prefix prefix p is) h.other in
        let other : c.slot ≢ slot = subst (λ o. IfSome o (λ c. c.slot ≢ slot)) best at in
        is_route-parts slot prefix c.slot p ∙ ap (λ b. b && is_eq (prefix_cmp prefix p)) (ne_eqb c.slot slot other)

    same_mark : (s : ℕ) (p : Prefix) → mark_at conf links u s p ≡ mark_at conf links t s p
    same_mark s p =
        mark_other_of conf t u s p (peer_at conf s) (link_at links s)
        (λ peer.
        ap (λ r. export_in conf (best_at r) u.adj_in peer p) h.rows
        ∙ export_other conf (best_at (rows_of t.book)) t.adj_in u.adj_in peer p (λ c best. h.routes c.slot p ∙ ap (λ b. cond b (Some attrs) (route_at t.adj_in c.slot p)) (off p c best (is_prefix prefix p) refl)))

-- none came
marked_same : (conf : Configuration) (links : List (ℕ × Linked)) (t u : RoutingState) → AreMarked conf links t → u.alike ≡ t.alike → u.waiting ≡ t.waiting → ((s : ℕ) (p : Prefix) → route_at u.adj_in s p ≡ route_at t.adj_in s p)
    → rows_of u.book ≡ rows_of t.book → AreMarked conf links u
marked_same conf links t u marked alike waiting same rows = record {
  there = marked.there;
  marks = λ s p within.
      marked_still _ _ t u s p (marked.marks s p within) (subst (λ q. IsAwaited q s p (mark_at conf links t s p).owed) (sym waiting)) (λ o waits listed. subst (λ a. IsListed a s o p) (sym alike) listed)
      (sym (mark_alike conf links t u s p (ap (λ r. best_at r p) rows) (λ s. same s p)));
}

-- one came, or none
pub marked_brought : {R F : Type 0} (result : Result (Option R) F) (Back : R → Type 0) (conf : Configuration) (links : List (ℕ × Linked)) (slot : ℕ) (prefix : Prefix) (attrs : PathAttributes) (t u : RoutingState) → AreMarked conf links t
    → u.alike ≡ t.alike → u.waiting ≡ t.waiting
    → IfOk result (λ back. IfNone back ((s : ℕ) (p : Prefix) → route_at u.adj_in s p ≡ cond (is_route slot prefix s p) (Some attrs) (route_at t.adj_in s p)))
    → IfOk result (λ back. IfSome back Back) → ((r : R) → Back r → u.adj_in ≡ t.adj_in)
    → OnErr result ((s : ℕ) (p : Prefix) → route_at u.adj_in s p ≡ route_at t.adj_in s p)
    → rows_of u.book ≡ rows_of t.book → IfOk result (λ back. IfNone back (IfSome (best_at (rows_of t.book) prefix) (λ c. c.slot ≢ slot))) → AreMarked conf links u
marked_brought (Ok None) Back conf links slot prefix attrs t u marked alike waiting came back stays refused rows other =
    marked_come conf links slot prefix attrs t u marked (record { alike = alike; waiting = waiting; routes = came; rows = rows; other = other })
marked_brought (Ok (Some r)) Back conf links slot prefix attrs t u marked alike waiting came back stays refused rows other =
    marked_same conf links t u marked alike waiting (λ s p. ap (λ table. route_at table s p) (stays r back)) rows
marked_brought (Err why) Back conf links slot prefix attrs t u marked alike waiting came back stays refused rows other = marked_same conf links t u marked alike waiting refused rows
