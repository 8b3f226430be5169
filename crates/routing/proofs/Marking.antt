use Rattle.std.proofs.Common.{◌≡◌, ◌≢◌, ◌<◌, ◌≤◌, ◌+◌, ◌^◌, ◌==◌, ◌&&◌, ◌||◌, ◌⊎◌, not, nat_lt, ℕ, Bool, true, false, List, [], Option, Some, None, Result, Ok, Err, OnOk, OnErr, cond, refl, sym, ap, ◌∙◌, subst, inl, inr, arith}
use Rattle.std.specs.Borrow.{Bor}
use Rattle.std.specs.Option.{IsSome, is_some, option_and_then, option_copied}
use Rattle.std.specs.Ordering.{is_gt}
use Rattle.std.proofs.lemmas.Bool.{cases_eq, cases_lt, eq-eqb, eqb-true, lt-ltb, ltb-true, ne_eqb}
use Rattle.bgp_attr.specs.PathAttributes.{PathAttributes}
use Rattle.bgp_conf.specs.Configuration.{Configuration, peer_at}
use Rattle.bgp_conf.specs.declared.conf.ConfiguredPeer.{ConfiguredPeer}
use Rattle.bgp_fsm.specs.StateTests.{is_established}
use Rattle.decision.specs.BookContents.{BookState, is_prefix, offer_at, rows_of}
use Rattle.decision.specs.declared.candidate.Candidate.{Candidate}
use Rattle.export_rules.specs.declared.export.ExportPeer.{ExportPeer}
use Rattle.net_prefix.specs.PrefixOrder.{prefix_cmp, IsAbove}
use Rattle.net_prefix.specs.declared.prefix.Prefix.{Prefix}
use Rattle.rib_in.specs.LatestRoutes.{RouteTable, is_route, route_at}
use Rattle.rib_out.specs.Alike.{AlikeState, IsListed}
use Rattle.rib_out.specs.Held.{asked_at, held_at}
use Rattle.rib_out.specs.Waiting.{IsAwaited}
use Rattle.rib_out.specs.declared.marks.Owed.{Owed}
use Rattle.rib_out.specs.declared.marks.Owed.TheVariants.{Announcement}
use Rattle.routing.specs.Export.{export_in, export_peer_of, exported_at}
use Rattle.routing.specs.Linked.{Linked}
use Rattle.routing.specs.Marks.{AreMarked, AreMarkedBut, AreMarkedFor, IsMarked, IsUnmarked, Mark, mark_at, mark_for, mark_of, no_mark}
use Rattle.routing.specs.Places.{rank_of}
use Rattle.routing.specs.RoutingState.{RoutingState}
use Rattle.routing.specs.Tables.{best_at, link_at}
use Rattle.routing.proofs.Places.{above_from_rank, rank_from_above, reached, same_from_is_prefix, same_from_rank, IsPlace, none_between}
use Rattle.routing.proofs.RouteChanges.{is_route-parts}

-- What waits of each prefix for each peer, while tables change.

-- nothing has changed but what waits
abbrev pub KeepsTables : RoutingState → RoutingState → Type 0
KeepsTables t u = u ≡ record t { waiting = u.waiting; alike = u.alike }

-- what is listed of the prefix for the slot still is, where it waits to be announced
abbrev pub KeepsList : RoutingState → RoutingState → ℕ → Prefix → Type 0
KeepsList t u s p = (o : List ℕ) → IsAwaited u.waiting s p (Some Announcement) → IsListed t.alike s o p → IsListed u.alike s o p

-- what is listed still is
abbrev pub KeepsLists : RoutingState → RoutingState → Type 0
KeepsLists t u = (s : ℕ) (o : List ℕ) (p : Prefix) → IsListed t.alike s o p → IsListed u.alike s o p

-- a mark that stays
pub marked_still : (mark new : Mark) (t u : RoutingState) (s : ℕ) (p : Prefix) → IsMarked mark t s p → (IsAwaited t.waiting s p mark.owed → IsAwaited u.waiting s p mark.owed) → KeepsList t u s p → mark ≡ new → IsMarked new u s p
marked_still mark new t u s p h awaited keeps is = subst (λ m. IsMarked m u s p) is (record {
  waits = awaited h.waits;
  listed = λ announced. keeps mark.octets (subst (λ w. IsAwaited u.waiting s p w) announced (awaited h.waits)) (h.listed announced);
})

-- another mark of the same
pub marked_as : (mark new : Mark) (t : RoutingState) (s : ℕ) (p : Prefix) → mark ≡ new → IsMarked mark t s p → IsMarked new t s p
marked_as mark new t s p is h = subst (λ m. IsMarked m t s p) is h

-- where nothing waits
pub marked_none : (mark : Mark) (t : RoutingState) (s : ℕ) (p : Prefix) → IsAwaited t.waiting s p None → mark.owed ≡ None → IsMarked mark t s p
marked_none mark t s p none is = record { waits = subst (λ w. IsAwaited t.waiting s p w) (sym is) none; listed = λ announced. absurd (let never = sym is ∙ announced in cc) }

-- the tables stay, and the lists too, where only what waits has changed
pub tables_stay : (t u : RoutingState) → u ≡ record t { waiting = u.waiting } → KeepsTables t u
tables_stay t u rest = rest ∙ ap (λ a. record t { waiting = u.waiting; alike = a }) (sym (ap (λ (x : RoutingState). x.alike) rest))

pub lists_stay : (t u : RoutingState) → u ≡ record t { waiting = u.waiting } → KeepsLists t u
lists_stay t u rest s o p listed = subst (λ a. IsListed a s o p) (sym (ap (λ (x : RoutingState). x.alike) rest)) listed

-- without a slot nothing is owed
pub mark_unlinked_of : (conf : Configuration) (adj_in : RouteTable) (book : BookState) (slot : ℕ) (p : Prefix) (peer : Option ConfiguredPeer) → mark_of conf adj_in book slot p peer None ≡ no_mark
mark_unlinked_of conf adj_in book slot p None = refl
mark_unlinked_of conf adj_in book slot p (Some peer) = refl

pub mark_unlinked : (conf : Configuration) (links : List (ℕ × Linked)) (t : RoutingState) (slot : ℕ) (p : Prefix) → link_at links slot ≡ None → mark_at conf links t slot p ≡ no_mark
mark_unlinked conf links t slot p none = ap (mark_of conf t.adj_in t.book slot p (peer_at conf slot)) none ∙ mark_unlinked_of conf t.adj_in t.book slot p (peer_at conf slot)

pub none_unlinked : (conf : Configuration) (links : List (ℕ × Linked)) (t u : RoutingState) (slot : ℕ) (p : Prefix) → link_at links slot ≡ None → IsMarked (mark_at conf links t slot p) u slot p → IsAwaited u.waiting slot p None
none_unlinked conf links t u slot p none marked = subst (λ (m : Mark). IsAwaited u.waiting slot p m.owed) (mark_unlinked conf links t slot p none) marked.waits

-- nothing is exported of a prefix without a best route
pub export_none : (conf : Configuration) (loc_rib : Prefix → Option Candidate) (adj_in : RouteTable) (peer : ExportPeer) (p : Prefix) → loc_rib p ≡ None → export_in conf loc_rib adj_in peer p ≡ None
export_none conf loc_rib adj_in peer p none = ap (option_and_then (λ (c : Candidate). option_and_then (λ attrs. exported_at conf peer p c attrs) (route_at adj_in c.slot p))) none

not_announced : (b : Bool) (export held : Option (List ℕ)) (asked : Bool) → export ≡ None → (cond b (mark_for export held asked) no_mark).owed ≡ Some Announcement → ⊥
not_announced false export held asked none is = cc
not_announced true (Some octets) held asked none is = cc
not_announced true None None asked none is = cc
not_announced true None (Some held) asked none is = cc

-- so it doesn't wait to be announced
unrouted_of : (conf : Configuration) (t : RoutingState) (slot : ℕ) (p : Prefix) (peer : Option ConfiguredPeer) (linked : Option Linked) → best_at (rows_of t.book) p ≡ None
    → (mark_of conf t.adj_in t.book slot p peer linked).owed ≡ Some Announcement → ⊥
unrouted_of conf t slot p None linked none is = cc
unrouted_of conf t slot p (Some peer) None none is = cc
unrouted_of conf t slot p (Some peer) (Some l) none is =
    not_announced (is_established l.peer.session.state) (export_in conf (best_at (rows_of t.book)) t.adj_in (export_peer_of conf slot peer) p) (held_at l.adj_out p) (asked_at l.adj_out p)
    (export_none conf (best_at (rows_of t.book)) t.adj_in (export_peer_of conf slot peer) p none) is

-- where a prefix has the same best route and the same routes, the same is exported and owed
pub export_alike : (conf : Configuration) (t u : RoutingState) (peer : ExportPeer) (p : Prefix) → best_at (rows_of u.book) p ≡ best_at (rows_of t.book) p → ((s : ℕ) → route_at u.adj_in s p ≡ route_at t.adj_in s p)
    → export_in conf (best_at (rows_of u.book)) u.adj_in peer p ≡ export_in conf (best_at (rows_of t.book)) t.adj_in peer p
export_alike conf t u peer p best routes i = option_and_then (λ (c : Candidate). option_and_then (λ attrs. exported_at conf peer p c attrs) (routes c.slot i)) (best i)

mark_alike_of : (conf : Configuration) (t u : RoutingState) (slot : ℕ) (p : Prefix) (peer : Option ConfiguredPeer) (linked : Option Linked) → best_at (rows_of u.book) p ≡ best_at (rows_of t.book) p
    → ((s : ℕ) → route_at u.adj_in s p ≡ route_at t.adj_in s p) → mark_of conf u.adj_in u.book slot p peer linked ≡ mark_of conf t.adj_in t.book slot p peer linked
mark_alike_of conf t u slot p None linked best routes = refl
mark_alike_of conf t u slot p (Some peer) None best routes = refl
mark_alike_of conf t u slot p (Some peer) (Some l) best routes =
    ap (λ e. cond (is_established l.peer.session.state) (mark_for e (held_at l.adj_out p) (asked_at l.adj_out p)) no_mark) (export_alike conf t u (export_peer_of conf slot peer) p best routes)

pub mark_alike : (conf : Configuration) (links : List (ℕ × Linked)) (t u : RoutingState) (slot : ℕ) (p : Prefix) → best_at (rows_of u.book) p ≡ best_at (rows_of t.book) p
    → ((s : ℕ) → route_at u.adj_in s p ≡ route_at t.adj_in s p) → mark_at conf links u slot p ≡ mark_at conf links t slot p
mark_alike conf links t u slot p best routes = mark_alike_of conf t u slot p (peer_at conf slot) (link_at links slot) best routes

off_prefix_of : (a b : Bool) → b ≡ false → (a && b) ≡ false
off_prefix_of true b other = other
off_prefix_of false b other = refl

pub off_prefix : (slot s : ℕ) (prefix p : Prefix) → is_prefix prefix p ≡ false → is_route slot prefix s p ≡ false
off_prefix slot s prefix p other = is_route-parts slot prefix s p ∙ off_prefix_of (s == slot) (is_prefix prefix p) other

pub none_if : {X : Type 0} (o : Option X) → (IsSome o → ⊥) → o ≡ None
none_if None not = refl
none_if (Some x) not = absurd (not refl)

pub no_none : {X P : Type 0} (o : Option X) → o ≡ None → IsSome o → P
no_none o none there = absurd (let never = subst (λ x. IsSome x) none there in cc)

-- the routes of other prefixes stay
pub routes_off : (slot : ℕ) (prefix : Prefix) (what : Option PathAttributes) (old new : RouteTable) → ((s : ℕ) (p : Prefix) → route_at new s p ≡ cond (is_route slot prefix s p) what (route_at old s p))
    → (s : ℕ) (p : Prefix) → is_prefix prefix p ≡ false → route_at new s p ≡ route_at old s p
routes_off slot prefix what old new routes s p other = routes s p ∙ ap (λ b. cond b what (route_at old s p)) (off_prefix slot s prefix p other)

routes_of_rest : (t u : RoutingState) (p : Prefix) → KeepsTables t u → (s : ℕ) → route_at u.adj_in s p ≡ route_at t.adj_in s p
routes_of_rest t u p rest s = ap (λ (x : RoutingState). route_at x.adj_in s p) rest

-- of all prefixes but one
pub but_marked : (conf : Configuration) (links : List (ℕ × Linked)) (prefix : Prefix) (t : RoutingState) → AreMarked conf links t → AreMarkedBut prefix conf links t
but_marked conf links prefix t marked = record {
  there = marked.there;
  marks = λ slot p within other. marked.marks slot p within;
  none = λ slot within unlinked. none_unlinked conf links t t slot prefix unlinked (marked.marks slot prefix within);
}

-- which may be listed no more
pub but_unlisted : (conf : Configuration) (links : List (ℕ × Linked)) (prefix : Prefix) (t : RoutingState) (alike : AlikeState) → AreMarkedBut prefix conf links t
    → ((s : ℕ) (o : List ℕ) (p : Prefix) → is_prefix prefix p ≡ false → IsListed t.alike s o p → IsListed alike s o p) → AreMarkedBut prefix conf links (record t { alike = alike })
but_unlisted conf links prefix t alike h kept = record {
  there = h.there;
  marks = λ slot p within other. record {
    waits = (h.marks slot p within other).waits;
    listed = λ announced. kept slot (mark_at conf links t slot p).octets p other ((h.marks slot p within other).listed announced);
  };
  none = h.none;
}

-- the tables change at it
pub but_changed : (conf : Configuration) (links : List (ℕ × Linked)) (prefix : Prefix) (t u : RoutingState) → AreMarkedBut prefix conf links t → u.waiting ≡ t.waiting → u.alike ≡ t.alike
    → ((p : Prefix) → is_prefix prefix p ≡ false → best_at (rows_of u.book) p ≡ best_at (rows_of t.book) p) → ((s : ℕ) (p : Prefix) → is_prefix prefix p ≡ false → route_at u.adj_in s p ≡ route_at t.adj_in s p)
    → AreMarkedBut prefix conf links u
but_changed conf links prefix t u h same lists best routes = record {
  there = h.there;
  marks = λ slot p within other.
      marked_still _ _ t u slot p (h.marks slot p within other) (stays slot p (mark_at conf links t slot p).owed) (λ o waits listed. subst (λ a. IsListed a slot o p) (sym lists) listed) (sym (mark_alike conf links t u slot p (best p other) (λ s. routes s p other)));
  none = λ slot within unlinked. stays slot prefix None (h.none slot within unlinked);
}
  where
    stays : (s : ℕ) (p : Prefix) (w : Option Owed) → IsAwaited t.waiting s p w → IsAwaited u.waiting s p w
    stays s p w = subst (λ q. IsAwaited q s p w) (sym same)

-- what is owed of the prefix to one slot's peer is marked, and listed where it is announced
pub record Marks (slot : ℕ) (prefix : Prefix) (conf : Configuration) (links : List (ℕ × Linked)) (t u : RoutingState) : Type 0 where
  pub here : IsMarked (mark_at conf links t slot prefix) u slot prefix
  pub others : (s : ℕ) (p : Prefix) (w : Option Owed) → (s == slot && is_prefix prefix p) ≡ false → IsAwaited t.waiting s p w → IsAwaited u.waiting s p w
  pub listed : KeepsLists t u
  pub rest : KeepsTables t u

pub off_slot : (slot s : ℕ) (b : Bool) → s ≢ slot → (s == slot && b) ≡ false
off_slot slot s b other = ap (λ a. a && b) (ne_eqb s slot other)

marks_of_rest : (conf : Configuration) (links : List (ℕ × Linked)) (t u : RoutingState) (slot : ℕ) (p : Prefix) → KeepsTables t u → mark_at conf links u slot p ≡ mark_at conf links t slot p
marks_of_rest conf links t u slot p rest = ap (λ (x : RoutingState). mark_at conf links x slot p) rest

-- another slot or prefix is marked as it was
marked_off : (slot : ℕ) (prefix : Prefix) (conf : Configuration) (links : List (ℕ × Linked)) (t u : RoutingState) → Marks slot prefix conf links t u → (s : ℕ) (p : Prefix) → (s == slot && is_prefix prefix p) ≡ false
    → IsMarked (mark_at conf links t s p) t s p → IsMarked (mark_at conf links u s p) u s p
marked_off slot prefix conf links t u m s p off was = marked_still _ _ t u s p was (m.others s p (mark_at conf links t s p).owed off) (λ o waits. m.listed s o p) (sym (marks_of_rest conf links t u s p m.rest))

-- this one is marked
marked_on : (slot : ℕ) (prefix : Prefix) (conf : Configuration) (links : List (ℕ × Linked)) (t u : RoutingState) → Marks slot prefix conf links t u → IsMarked (mark_at conf links u slot prefix) u slot prefix
marked_on slot prefix conf links t u m = marked_as _ _ u slot prefix (sym (marks_of_rest conf links t u slot prefix m.rest)) m.here

-- where there is no slot, nothing waits
none_still : (slot : ℕ) (prefix : Prefix) (conf : Configuration) (links : List (ℕ × Linked)) (t u : RoutingState) → Marks slot prefix conf links t u → (s : ℕ) (p : Prefix) → link_at links s ≡ None → IsAwaited t.waiting s p None
    → IsAwaited u.waiting s p None
none_still slot prefix conf links t u m s p unlinked was = by_test (s == slot) refl (is_prefix prefix p) refl
  where
    by_test : (a : Bool) → (s == slot) ≡ a → (b : Bool) → is_prefix prefix p ≡ b → IsAwaited u.waiting s p None
    by_test true slots true prefixes =
        let same : s ≡ slot = eqb-true s slot slots in
        let at : prefix ≡ p = same_from_is_prefix prefix p prefixes in
        let gone : link_at links slot ≡ None = subst (λ x. link_at links x ≡ None) same unlinked in
        subst (λ x. IsAwaited u.waiting x p None) (sym same) (subst (λ q. IsAwaited u.waiting slot q None) at (none_unlinked conf links t u slot prefix gone m.here))
    by_test true slots false prefixes = m.others s p None (ap (λ a. a && is_prefix prefix p) slots ∙ prefixes) was
    by_test false slots b prefixes = m.others s p None (ap (λ a. a && is_prefix prefix p) slots) was

-- the slots below this one have their marks of the prefix
pub record PeersBelow (prefix : Prefix) (conf : Configuration) (links : List (ℕ × Linked)) (first : RoutingState) (n : ℕ) (t : RoutingState) : Type 0 where
  pub rest : KeepsTables first t
  pub but : AreMarkedBut prefix conf links t
  pub here : (s : ℕ) → s < n → IsMarked (mark_at conf links t s prefix) t s prefix

pub PeersBelow-none : (prefix : Prefix) (conf : Configuration) (links : List (ℕ × Linked)) (t : RoutingState) → AreMarkedBut prefix conf links t → PeersBelow prefix conf links t 0 t
PeersBelow-none prefix conf links t but = record { rest = refl; but = but; here = λ s under. absurd (omega (arith, under)) }

pub PeersBelow-more : (prefix : Prefix) (conf : Configuration) (links : List (ℕ × Linked)) (first t u : RoutingState) (n : ℕ) → PeersBelow prefix conf links first n t → Marks n prefix conf links t u → PeersBelow prefix conf links first (n + 1) u
PeersBelow-more prefix conf links first t u n h m = record {
  rest = m.rest ∙ ap (λ (x : RoutingState). record x { waiting = u.waiting; alike = u.alike }) h.rest;
  but = record {
    there = h.but.there;
    marks = λ s p within other. marked_off n prefix conf links t u m s p (off_prefix_of (s == n) (is_prefix prefix p) other) (h.but.marks s p within other);
    none = λ s within unlinked. none_still n prefix conf links t u m s prefix unlinked (h.but.none s within unlinked);
  };
  here = λ s under. elim (cases_eq s n) [
    | inl same ↦ subst (λ x. IsMarked (mark_at conf links u x prefix) u x prefix) (sym same) (marked_on n prefix conf links t u m)
    | inr other ↦ marked_off n prefix conf links t u m s prefix (off_slot n s (is_prefix prefix prefix) other) (h.here s (omega (arith, under, other)))
  ];
}

-- behind the last slot
pub PeersBelow-all : (prefix : Prefix) (conf : Configuration) (links : List (ℕ × Linked)) (first t : RoutingState) (n : ℕ) → ((s : ℕ) → n ≤ s → s < 64 → link_at links s ≡ None) → PeersBelow prefix conf links first n t → AreMarked conf links t
PeersBelow-all prefix conf links first t n all h = record {
  there = h.but.there;
  marks = λ s p within. by_prefix s p within (is_prefix prefix p) refl;
}
  where
    at_prefix : (s : ℕ) → s < 64 → IsMarked (mark_at conf links t s prefix) t s prefix
    at_prefix s within = elim (cases_lt s n) [
      | inl low ↦ h.here s low
      | inr high ↦ marked_none _ t s prefix (h.but.none s within (all s high within)) (ap (λ (m : Mark). m.owed) (mark_unlinked conf links t s prefix (all s high within)))
    ]

    by_prefix : (s : ℕ) (p : Prefix) → s < 64 → (b : Bool) → is_prefix prefix p ≡ b → IsMarked (mark_at conf links t s p) t s p
    by_prefix s p within true is = subst (λ q. IsMarked (mark_at conf links t s q) t s q) (same_from_is_prefix prefix p is) (at_prefix s within)
    by_prefix s p within false is = h.but.marks s p within is

both_true : (a b : Bool) → (a && b) ≡ true → (a ≡ true) × (b ≡ true)
both_true true b h = (refl, h)
both_true false b h = absurd (cc)

-- both name one route
pub the_route : (slot : ℕ) (prefix : Prefix) (s : ℕ) (p : Prefix) → is_route slot prefix s p ≡ true → (s ≡ slot) × (p ≡ prefix)
the_route slot prefix s p is =
    let parts = both_true (s == slot) _ (sym (is_route-parts slot prefix s p) ∙ is) in
    (eqb-true s slot parts.0, sym (same_from_is_prefix prefix p parts.1))

-- a route that is withdrawn where there is none
pub none_already : (slot : ℕ) (prefix : Prefix) (adj_in : RouteTable) → route_at adj_in slot prefix ≡ None → (s : ℕ) (p : Prefix) → route_at adj_in s p ≡ cond (is_route slot prefix s p) None (route_at adj_in s p)
none_already slot prefix adj_in none s p = already (is_route slot prefix s p) refl
  where
    already : (b : Bool) → is_route slot prefix s p ≡ b → route_at adj_in s p ≡ cond b None (route_at adj_in s p)
    already true is = let at = the_route slot prefix s p is in ap (λ x. route_at adj_in x p) at.0 ∙ ap (λ q. route_at adj_in slot q) at.1 ∙ none
    already false is = refl

pub no_candidate_already : (slot : ℕ) (prefix : Prefix) (book : BookState) → offer_at book slot prefix ≡ None → (s : ℕ) (p : Prefix) → offer_at book s p ≡ cond (is_route slot prefix s p) None (offer_at book s p)
no_candidate_already slot prefix book none s p = already (is_route slot prefix s p) refl
  where
    already : (b : Bool) → is_route slot prefix s p ≡ b → offer_at book s p ≡ cond b None (offer_at book s p)
    already true is = let at = the_route slot prefix s p is in ap (λ x. offer_at book x p) at.0 ∙ ap (λ q. offer_at book slot q) at.1 ∙ none
    already false is = refl

-- what is owed to one slot's peer is marked
pub mark_listed : (mark : Mark) (u : RoutingState) (slot : ℕ) (prefix : Prefix) (owed : Option Owed) → owed ≡ mark.owed → (owed ≡ Some Announcement → IsListed u.alike slot mark.octets prefix) → IsAwaited u.waiting slot prefix owed
    → IsMarked mark u slot prefix
mark_listed mark u slot prefix owed is listed awaited = record { waits = subst (λ w. IsAwaited u.waiting slot prefix w) is awaited; listed = λ announced. listed (is ∙ announced) }

-- a route that came, or was refused
pub routes_either : {T F : Type 0} (result : Result T F) (slot : ℕ) (prefix : Prefix) (what : Option PathAttributes) (old new : RouteTable) (P Q : Type 0)
    → OnOk result ((s : ℕ) (p : Prefix) → route_at new s p ≡ cond (is_route slot prefix s p) what (route_at old s p)) → OnErr result (((s : ℕ) (p : Prefix) → route_at new s p ≡ route_at old s p) × P × Q)
    → (s : ℕ) (p : Prefix) → is_prefix prefix p ≡ false → route_at new s p ≡ route_at old s p
routes_either (Ok done) slot prefix what old new P Q came refused = routes_off slot prefix what old new came
routes_either (Err why) slot prefix what old new P Q came refused = λ s p other. refused.0 s p

-- the prefixes of one slot, up to this one
pub record MarkedUpTo (done : ℕ → Bool) (conf : Configuration) (links : List (ℕ × Linked)) (slot : ℕ) (after : Option Prefix) (t : RoutingState) : Type 0 where
  pub others : (s : ℕ) (p : Prefix) → s < 64 → s ≢ slot → (done s ≡ true) ⊎ (best_at (rows_of t.book) p ≡ None) → IsMarked (mark_at conf links t s p) t s p
  pub none : (s : ℕ) (p : Prefix) → s < 64 → link_at links s ≡ None → IsAwaited t.waiting s p None
  pub below : (q : Prefix) → rank_of q < reached after → IsMarked (mark_at conf links t slot q) t slot q
  pub above : (q : Prefix) → reached after ≤ rank_of q → best_at (rows_of t.book) q ≡ None → IsMarked (mark_at conf links t slot q) t slot q

-- so it is, whatever was marked before
pub record SlotUpTo (conf : Configuration) (links : List (ℕ × Linked)) (slot : ℕ) (first : RoutingState) (after : Option Prefix) (t : RoutingState) : Type 0 where
  pub place : IsPlace after
  pub rest : KeepsTables first t
  pub marked : (done : ℕ → Bool) → AreMarkedFor done conf links first → MarkedUpTo done conf links slot after t

-- the slot's list begins anew
pub SlotUpTo-none : (conf : Configuration) (links : List (ℕ × Linked)) (slot : ℕ) (first : RoutingState) (alike : AlikeState) → slot < 64
    → ((s : ℕ) (o : List ℕ) (p : Prefix) → s ≢ slot → IsListed first.alike s o p → IsListed alike s o p) → SlotUpTo conf links slot first None (record first { alike = alike })
SlotUpTo-none conf links slot first alike within kept = record {
  place = tt;
  rest = refl;
  marked = λ done h. record {
    others = λ s p few other is. record {
      waits = (h.marks s p few is).waits;
      listed = λ announced. kept s (mark_at conf links first s p).octets p other ((h.marks s p few is).listed announced);
    };
    none = h.none;
    below = λ q under. absurd (omega (arith, under));
    above = λ q over none. record {
      waits = (h.marks slot q within (inr none)).waits;
      listed = λ announced. absurd (unrouted_of conf first slot q (peer_at conf slot) (link_at links slot) none announced);
    };
  };
}

apart_prefix : (p q : Prefix) → (p ≡ q → ⊥) → is_prefix p q ≡ false
apart_prefix p q other = by_test (is_prefix p q) refl
  where
    by_test : (b : Bool) → is_prefix p q ≡ b → b ≡ false
    by_test true is = absurd (other (same_from_is_prefix p q is))
    by_test false is = refl

-- the next prefix of Loc-RIB
MarkedUpTo-more : (done : ℕ → Bool) (conf : Configuration) (links : List (ℕ × Linked)) (slot : ℕ) (t u : RoutingState) (after : Option Prefix) (p : Prefix) → slot < 64
    → MarkedUpTo done conf links slot after t → IsAbove after p → ((q : Prefix) → IsAbove after q → IsSome (best_at (rows_of t.book) q) → is_gt (prefix_cmp p q) ≡ false)
    → Marks slot p conf links t u → MarkedUpTo done conf links slot (Some p) u
MarkedUpTo-more done conf links slot t u after p within h above least m = record {
  others = λ s q few other is. marked_off slot p conf links t u m s q (off_slot slot s (is_prefix p q) other) (h.others s q few other (still s q is));
  none = λ s q few unlinked. none_still slot p conf links t u m s q unlinked (h.none s q few unlinked);
  below = here;
  above = λ q over none. apart q (λ same. omega (arith, over, same)) (h.above q (omega (arith, over, rank_from_above after p above)) (best_still q none));
}
  where
    best_still : (q : Prefix) → best_at (rows_of u.book) q ≡ None → best_at (rows_of t.book) q ≡ None
    best_still q none = ap (λ (x : RoutingState). best_at (rows_of x.book) q) (sym m.rest) ∙ none

    still : (s : ℕ) (q : Prefix) → (done s ≡ true) ⊎ (best_at (rows_of u.book) q ≡ None) → (done s ≡ true) ⊎ (best_at (rows_of t.book) q ≡ None)
    still s q (inl is) = inl is
    still s q (inr none) = inr (best_still q none)

    -- another prefix is marked as it was
    apart : (q : Prefix) → (rank_of p ≡ rank_of q → ⊥) → IsMarked (mark_at conf links t slot q) t slot q → IsMarked (mark_at conf links u slot q) u slot q
    apart q other was = marked_off slot p conf links t u m slot q (off_prefix_of (slot == slot) (is_prefix p q) (apart_prefix p q (λ same. other (ap rank_of same)))) was

    -- a prefix between the last one and this has no best route
    was : (q : Prefix) → rank_of q < rank_of p → IsMarked (mark_at conf links t slot q) t slot q
    was q under = elim (cases_lt (rank_of q) (reached after)) [
      | inl already ↦ h.below q already
      | inr over ↦ h.above q over (none_between p q (best_at (rows_of t.book) q) (least q (above_from_rank after q over)) under)
    ]

    here : (q : Prefix) → rank_of q < reached (Some p) → IsMarked (mark_at conf links u slot q) u slot q
    here q under = elim (cases_lt (rank_of q) (rank_of p)) [
      | inl before ↦ apart q (λ same. omega (arith, before, same)) (was q before)
      | inr not_before ↦
          let at : p ≡ q = same_from_rank p q (omega (arith, under, not_before)) in
          subst (λ x. IsMarked (mark_at conf links u slot x) u slot x) at (marked_on slot p conf links t u m)
    ]

pub SlotUpTo-more : (conf : Configuration) (links : List (ℕ × Linked)) (slot : ℕ) (first t u : RoutingState) (after : Option Prefix) (p : Prefix) → slot < 64
    → SlotUpTo conf links slot first after t → IsAbove after p → ((q : Prefix) → IsAbove after q → IsSome (best_at (rows_of t.book) q) → is_gt (prefix_cmp p q) ≡ false) → rank_of p < 2 ^ 38
    → Marks slot p conf links t u → SlotUpTo conf links slot first (Some p) u
SlotUpTo-more conf links slot first t u after p within h above least place m = record {
  place = place;
  rest = m.rest ∙ ap (λ (x : RoutingState). record x { waiting = u.waiting; alike = u.alike }) h.rest;
  marked = λ done before. MarkedUpTo-more done conf links slot t u after p within (h.marked done before) above least m;
}

-- where no best route is above, the slot's marks are made
pub SlotUpTo-all : (conf : Configuration) (links : List (ℕ × Linked)) (slot : ℕ) (first t : RoutingState) (after : Option Prefix) → SlotUpTo conf links slot first after t → ((q : Prefix) → IsAbove after q → best_at (rows_of t.book) q ≡ None)
    → (done : ℕ → Bool) → AreMarkedFor done conf links first → AreMarkedFor (λ s. s == slot || done s) conf links t
SlotUpTo-all conf links slot first t after h none done before =
    let m = h.marked done before in
    record {
      there = before.there;
      marks = λ s p within is. elim (cases_eq s slot) [
        | inl same ↦ subst (λ x. IsMarked (mark_at conf links t x p) t x p) (sym same) (here m p)
        | inr other ↦ m.others s p within other (of_others s p other is)
      ];
      none = m.none;
    }
  where
    here : MarkedUpTo done conf links slot after t → (p : Prefix) → IsMarked (mark_at conf links t slot p) t slot p
    here m p = elim (cases_lt (rank_of p) (reached after)) [
      | inl already ↦ m.below p already
      | inr over ↦ m.above p over (none p (above_from_rank after p over))
    ]

    of_others : (s : ℕ) (p : Prefix) → s ≢ slot → ((s == slot || done s) ≡ true) ⊎ (best_at (rows_of t.book) p ≡ None) → (done s ≡ true) ⊎ (best_at (rows_of t.book) p ≡ None)
    of_others s p other (inl is) = inl (sym (ap (λ b. b || done s) (ne_eqb s slot other)) ∙ is)
    of_others s p other (inr no_best) = inr no_best

-- more slots need marks than are known to have them
pub marked_less : (most least : ℕ → Bool) (conf : Configuration) (links : List (ℕ × Linked)) (t : RoutingState) → ((s : ℕ) → s < 64 → least s ≡ true → most s ≡ true) → AreMarkedFor most conf links t → AreMarkedFor least conf links t
marked_less most least conf links t more h = record {
  there = h.there;
  marks = λ s p within is. h.marks s p within (in_most s p within is);
  none = h.none;
}
  where
    in_most : (s : ℕ) (p : Prefix) → s < 64 → (least s ≡ true) ⊎ (best_at (rows_of t.book) p ≡ None) → (most s ≡ true) ⊎ (best_at (rows_of t.book) p ≡ None)
    in_most s p within (inl is) = inl (more s within is)
    in_most s p within (inr none) = inr none

-- the marks of all slots that are there are made
pub all_marked : (done : ℕ → Bool) (conf : Configuration) (links : List (ℕ × Linked)) (t : RoutingState) → ((s : ℕ) → s < 64 → (done s ≡ true) ⊎ (link_at links s ≡ None)) → AreMarkedFor done conf links t → AreMarked conf links t
all_marked done conf links t all h = record {
  there = h.there;
  marks = λ s p within. by_slot s p within (all s within);
}
  where
    by_slot : (s : ℕ) (p : Prefix) → s < 64 → (done s ≡ true) ⊎ (link_at links s ≡ None) → IsMarked (mark_at conf links t s p) t s p
    by_slot s p within (inl is) = h.marks s p within (inl is)
    by_slot s p within (inr unlinked) = marked_none _ t s p (h.none s p within unlinked) (ap (λ (m : Mark). m.owed) (mark_unlinked conf links t s p unlinked))

-- whether another slot is meant
abbrev pub is_other : ℕ → ℕ → Bool
is_other slot s = not (s == slot)

pub this_or_other : (slot s : ℕ) → (s == slot || is_other slot s) ≡ true
this_or_other slot s = either (s == slot)
  where
    either : (b : Bool) → (b || not b) ≡ true
    either true = refl
    either false = refl

pub other_is : (slot s : ℕ) → is_other slot s ≡ true → s ≢ slot
other_is slot s is same = absurd (let never = sym (ap not (eq-eqb s slot same)) ∙ is in cc)

none_either : (b : Bool) → cond b (mark_for None None false) no_mark ≡ no_mark
none_either true = refl
none_either false = refl

-- of a prefix without a best route nothing is owed to a peer that holds nothing
fresh_none_of : (conf : Configuration) (t : RoutingState) (slot : ℕ) (q : Prefix) (peer : Option ConfiguredPeer) (linked : Option Linked) → ((l : Linked) → linked ≡ Some l → l.adj_out ≡ []) → best_at (rows_of t.book) q ≡ None
    → mark_of conf t.adj_in t.book slot q peer linked ≡ no_mark
fresh_none_of conf t slot q None linked fresh none = refl
fresh_none_of conf t slot q (Some peer) None fresh none = refl
fresh_none_of conf t slot q (Some peer) (Some l) fresh none = rw (none, fresh l refl) (none_either (is_established l.peer.session.state))

fresh_none : (conf : Configuration) (links : List (ℕ × Linked)) (t : RoutingState) (slot : ℕ) (q : Prefix) → ((l : Linked) → link_at links slot ≡ Some l → l.adj_out ≡ []) → best_at (rows_of t.book) q ≡ None
    → mark_at conf links t slot q ≡ no_mark
fresh_none conf links t slot q fresh none = fresh_none_of conf t slot q (peer_at conf slot) (link_at links slot) fresh none

-- a slot whose peer holds nothing, and for which nothing waits
pub marked_fresh : (conf : Configuration) (links : List (ℕ × Linked)) (slot : ℕ) (t : RoutingState) → ((l : Linked) → link_at links slot ≡ Some l → l.adj_out ≡ []) → IsUnmarked conf links slot t → AreMarkedFor (is_other slot) conf links t
marked_fresh conf links slot t fresh h = record {
  there = h.there;
  marks = λ s p within is. elim (cases_eq s slot) [
    | inl same ↦ subst (λ x. IsMarked (mark_at conf links t x p) t x p) (sym same) (here s p same is)
    | inr other ↦ h.others s p within other
  ];
  none = λ s p within unlinked. elim (cases_eq s slot) [
    | inl same ↦ subst (λ x. IsAwaited t.waiting x p None) (sym same) (h.none p)
    | inr other ↦ none_unlinked conf links t t s p unlinked (h.others s p within other)
  ];
}
  where
    here : (s : ℕ) (p : Prefix) → s ≡ slot → (is_other slot s ≡ true) ⊎ (best_at (rows_of t.book) p ≡ None) → IsMarked (mark_at conf links t slot p) t slot p
    here s p same (inl is) = absurd (other_is slot s is same)
    here s p same (inr none) = marked_none _ t slot p (h.none p) (ap (λ (m : Mark). m.owed) (fresh_none conf links t slot p fresh none))

-- the slots below this one are marked, where the others that are told routes by the policy are still to be marked
pub record ExportersBelow (conf : Configuration) (links : List (ℕ × Linked)) (done : ℕ → Bool) (first : RoutingState) (n : ℕ) (t : RoutingState) : Type 0 where
  pub rest : KeepsTables first t
  pub marked : AreMarkedFor (λ s. nat_lt s n || done s) conf links t

none_below : (s : ℕ) (b : Bool) → (nat_lt s 0 || b) ≡ true → b ≡ true
none_below s true is = refl
none_below s false is = absurd (below_zero s _ refl is)
  where
    below_zero : (s : ℕ) (b : Bool) → nat_lt s 0 ≡ b → (b || false) ≡ true → ⊥
    below_zero s true low is = absurd (let under : s < 0 = ltb-true s 0 low in omega (arith, under))
    below_zero s false low is = absurd (cc)

pub ExportersBelow-none : (conf : Configuration) (links : List (ℕ × Linked)) (done : ℕ → Bool) (t : RoutingState) → AreMarkedFor done conf links t → ExportersBelow conf links done t 0 t
ExportersBelow-none conf links done t h = record { rest = refl; marked = marked_less done (λ s. nat_lt s 0 || done s) conf links t (λ s few is. none_below s (done s) is) h }

pub ExportersBelow-more : (conf : Configuration) (links : List (ℕ × Linked)) (done : ℕ → Bool) (first t u : RoutingState) (n : ℕ) → ExportersBelow conf links done first n t → KeepsTables t u
    → AreMarkedFor (λ s. s == n || (nat_lt s n || done s)) conf links u → ExportersBelow conf links done first (n + 1) u
ExportersBelow-more conf links done first t u n h rest marked = record {
  rest = rest ∙ ap (λ (x : RoutingState). record x { waiting = u.waiting; alike = u.alike }) h.rest;
  marked = marked_less (λ s. s == n || (nat_lt s n || done s)) (λ s. nat_lt s (n + 1) || done s) conf links u (λ s few is. one_more s (nat_lt s (n + 1)) (done s) refl is) marked;
}
  where
    below : (s : ℕ) → s < n + 1 → (b : Bool) → (s == n || (nat_lt s n || b)) ≡ true
    below s under b = elim (cases_eq s n) [
      | inl same ↦ ap (λ x. x || (nat_lt s n || b)) (eq-eqb s n same)
      | inr other ↦ let low : s < n = omega (arith, under, other) in ap (λ x. x || (nat_lt s n || b)) (ne_eqb s n other) ∙ ap (λ x. x || b) (lt-ltb s n low)
    ]

    later : (s : ℕ) (a b : Bool) → (a || (b || true)) ≡ true
    later s true b = refl
    later s false true = refl
    later s false false = refl

    one_more : (s : ℕ) (a b : Bool) → nat_lt s (n + 1) ≡ a → (a || b) ≡ true → (s == n || (nat_lt s n || b)) ≡ true
    one_more s true b low is = below s (ltb-true s (n + 1) low) b
    one_more s false true low is = later s (s == n) (nat_lt s n)
    one_more s false false low is = absurd (cc)

-- a slot that needs no marks anew
pub marked_this : (done : ℕ → Bool) (conf : Configuration) (links : List (ℕ × Linked)) (t : RoutingState) (slot : ℕ) → done slot ≡ true → AreMarkedFor done conf links t → AreMarkedFor (λ s. s == slot || done s) conf links t
marked_this done conf links t slot here h = marked_less done (λ s. s == slot || done s) conf links t (λ s few is. elim (cases_eq s slot) [
  | inl same ↦ subst (λ x. done x ≡ true) (sym same) here
  | inr other ↦ sym (ap (λ b. b || done s) (ne_eqb s slot other)) ∙ is
]) h

-- so it is of one whose peer isn't told routes by the policy
pub done_unless : (low exports : Bool) → exports ≡ false → (low || not exports) ≡ true
done_unless true exports is = refl
done_unless false true is = absurd (cc)
done_unless false false is = refl

pub ExportersBelow-all : (conf : Configuration) (links : List (ℕ × Linked)) (done : ℕ → Bool) (first t : RoutingState) (n : ℕ) → ((s : ℕ) → n ≤ s → s < 64 → link_at links s ≡ None) → ExportersBelow conf links done first n t → AreMarked conf links t
ExportersBelow-all conf links done first t n all h = all_marked (λ s. nat_lt s n || done s) conf links t (λ s few. elim (cases_lt s n) [ inl low ↦ inl (ap (λ b. b || done s) (lt-ltb s n low)) | inr high ↦ inr (all s high few) ]) h.marked

-- what is lent of it is there
pub none_copied : {X : Type 0} (o : Option (Bor X)) (found : Option X) → is_some o ≡ false → option_copied o ≡ found → found ≡ None
none_copied None found none is = sym is
none_copied (Some x) found none is = absurd (cc)

pub some_copied : {X : Type 0} (o : Option (Bor X)) (found : Option X) → is_some o ≡ true → option_copied o ≡ found → IsSome found
some_copied None found some is = absurd (cc)
some_copied (Some x) found some is = rw (← is) refl
