use Rattle.std.proofs.Common.{◌≡◌, ◌≢◌, ℕ, Bool, List, [], Option, Some, None, false, refl, sym, ap, subst, inl, inr}
use Rattle.std.proofs.lemmas.Bool.{cases_eq}
use Rattle.bgp_conf.specs.Configuration.{Configuration, peer_at}
use Rattle.bgp_conf.specs.declared.conf.ConfiguredPeer.{ConfiguredPeer}
use Rattle.bgp_fsm.specs.StateTests.{is_established}
use Rattle.bgp_fsm.specs.declared.session.Effects.{Effects}
use Rattle.net_prefix.specs.declared.prefix.Prefix.{Prefix}
use Rattle.rib_out.specs.Alike.{IsListed}
use Rattle.rib_out.specs.Waiting.{IsAwaited}
use Rattle.rib_out.specs.declared.marks.Owed.{Owed}
use Rattle.routing.specs.Linked.{Linked}
use Rattle.routing.specs.Marks.{AreMarked, IsFollowed, IsMarked, IsUnmarked, Mark, mark_at, mark_of, no_mark}
use Rattle.routing.specs.RoutingState.{RoutingState}
use Rattle.routing.specs.Sent.{linked}
use Rattle.routing.specs.Tables.{link_at}
use Rattle.routing.proofs.Counting.{ends_all}
use Rattle.routing.proofs.LinkedPeers.{marked_in, sent_kept}
use Rattle.routing.proofs.Marking.{KeepsTables, all_marked, is_other, marked_none, marked_still, this_or_other}
use Rattle.routes.proofs.SlotMarks.{marked_asked}
use Rattle.routes.proofs.sessions.follow.Goals as goal

-- where the session neither leaves Established nor enters it, and its peer doesn't ask for all routes again, the marks stay
same_marks : (conf : Configuration) (links : List (ℕ × Linked)) (slot : ℕ) (effects : Effects) (asks : Bool) (t : RoutingState) → IsFollowed conf links slot effects asks t → effects.left ≡ false → effects.entered ≡ false → asks ≡ false → AreMarked conf links t
same_marks conf links slot effects asks t h left entered unasked = record {
  there = h.there;
  marks = λ s p low. elim (cases_eq s slot) [
    | inl is ↦ subst (λ n. IsMarked (mark_at conf links t n p) t n p) (sym is) (h.same left entered p (inl unasked))
    | inr other ↦ h.others s p low other
  ];
}

-- behind what ended or began for a slot, nothing waits for it
unmarked : (conf : Configuration) (links : List (ℕ × Linked)) (slot : ℕ) (effects : Effects) (asks : Bool) (t u : RoutingState) → IsFollowed conf links slot effects asks t → KeepsTables t u
    → ((p : Prefix) → IsAwaited u.waiting slot p None) → ((s : ℕ) (p : Prefix) (w : Option Owed) → s ≢ slot → IsAwaited t.waiting s p w → IsAwaited u.waiting s p w)
    → ((s : ℕ) (o : List ℕ) (p : Prefix) → s ≢ slot → IsListed t.alike s o p → IsListed u.alike s o p) → IsUnmarked conf links slot u
unmarked conf links slot effects asks t u h rest none others listed = record {
  there = h.there;
  others = λ s p few other.
      marked_still _ _ t u s p (h.others s p few other) (others s p (mark_at conf links t s p).owed other) (λ o waits. listed s o p other) (sym (ap (λ (x : RoutingState). mark_at conf links x s p) rest));
  none = none;
}

ended_of : (conf : Configuration) (t : RoutingState) (slot : ℕ) (p : Prefix) (peer : Option ConfiguredPeer) (linked : Option Linked) → ((l : Linked) → linked ≡ Some l → is_established l.peer.session.state ≡ false)
    → mark_of conf t.adj_in t.book slot p peer linked ≡ no_mark
ended_of conf t slot p None linked down = refl
ended_of conf t slot p (Some peer) None down = refl
ended_of conf t slot p (Some peer) (Some l) down = rw (down l refl) refl

-- a slot whose session isn't Established is owed nothing
marked_ended : (conf : Configuration) (links : List (ℕ × Linked)) (slot : ℕ) (t : RoutingState) → ((l : Linked) → link_at links slot ≡ Some l → is_established l.peer.session.state ≡ false) → IsUnmarked conf links slot t
    → AreMarked conf links t
marked_ended conf links slot t down h = record {
  there = h.there;
  marks = λ s p within. elim (cases_eq s slot) [
    | inl same ↦
        subst (λ x. IsMarked (mark_at conf links t x p) t x p) (sym same)
        (marked_none _ t slot p (h.none p) (ap (λ (m : Mark). m.owed) (ended_of conf t slot p (peer_at conf slot) (link_at links slot) down)))
    | inr other ↦ h.others s p within other
  ];
}

pub returns-then-effects-clause-chosen : goal.returns-then-effects-clause-chosen
returns-then-effects-clause-chosen g c = λ left. ends_all c.args.slot c.args.routing.now c.clear.new.self _ c.clear.ensures.rest c.drop_slot.ensures.chosen

pub returns-then-asks-clause-marked : goal.returns-then-asks-clause-marked
returns-then-asks-clause-marked g c =
    let before = marked_asked c.args.conf.now (linked c.args.links.now.entries c.args.routing.now.sent) c.args.slot c.args.effects.now c.args.asks c.args.routing.now c.requires c.if-effects.false c.if-effects-2.false in
    all_marked _ _ _ _ (λ s few. inl (this_or_other c.args.slot s)) (c.mark_slot.ensures.marked (is_other c.args.slot) before)

pub returns-else-asks-clause-marked : goal.returns-else-asks-clause-marked
returns-else-asks-clause-marked g c =
    same_marks c.args.conf.now (linked c.args.links.now.entries c.args.routing.now.sent) c.args.slot c.args.effects.now c.args.asks c.args.routing.now c.requires c.if-effects.false c.if-effects-2.false c.if-asks.false

pub drop_slot-requires : goal.drop_slot-requires
drop_slot-requires g c =
    let cleared = c.clear.ensures in
    let links = linked c.args.links.now.entries c.args.routing.now.sent in
    marked_in c.args.conf.now c.args.links.now.entries c.clear.new.self c.args.routing.now.sent (sent_kept c.args.routing.now c.clear.new.self cleared.rest)
    (marked_ended c.args.conf.now links c.args.slot c.clear.new.self (c.requires.left c.if-effects.true)
    (unmarked c.args.conf.now links c.args.slot c.args.effects.now c.args.asks c.args.routing.now c.clear.new.self c.requires cleared.rest cleared.none cleared.others cleared.listed))

pub enter-requires-clause-unmarked : goal.enter-requires-clause-unmarked
enter-requires-clause-unmarked g c =
    let cleared = c.clear-then-effects-2.ensures in
    let u = c.clear-then-effects-2.new.self in
    subst (λ sent. IsUnmarked c.args.conf.now (linked c.args.links.now.entries sent) c.args.slot u) (sym (sent_kept c.args.routing.now u cleared.rest))
    (unmarked c.args.conf.now (linked c.args.links.now.entries c.args.routing.now.sent) c.args.slot c.args.effects.now c.args.asks c.args.routing.now u c.requires cleared.rest cleared.none cleared.others cleared.listed)

pub enter-requires-clause-fresh : goal.enter-requires-clause-fresh
enter-requires-clause-fresh g c =
    let u = c.clear-then-effects-2.new.self in
    subst (λ sent. (l : Linked) → link_at (linked c.args.links.now.entries sent) c.args.slot ≡ Some l → l.adj_out ≡ []) (sym (sent_kept c.args.routing.now u c.clear-then-effects-2.ensures.rest))
    (c.requires.entered c.if-effects-2.true)
