use Rattle.std.proofs.Common.{◌≡◌, ◌≢◌, ◌<◌, ◌==◌, ◌&&◌, ◌||◌, ◌⊎◌, not, ℕ, Bool, true, false, List, [], Option, Some, None, cond, refl, sym, ap, ◌∙◌, subst, inl, inr}
use Rattle.std.specs.Bool.{OnFalse, OnTrue}
use Rattle.std.specs.Option.{IsSome}
use Rattle.std.proofs.lemmas.Slice.Eq.{bytes_eq-Decides}
use Rattle.std.specs.Str.{bytes_eq}
use Rattle.std.proofs.lemmas.Bool.{cases_eq, eq-eqb, ne_eqb}
use Rattle.bgp_conf.specs.Configuration.{Configuration, peer_at}
use Rattle.bgp_conf.specs.declared.conf.ConfiguredPeer.{ConfiguredPeer}
use Rattle.bgp_fsm.proofs.TableLaws.{entered_is, left_is}
use Rattle.bgp_fsm.specs.SessionTable.{effects_of, session_after}
use Rattle.bgp_fsm.specs.StateTests.{is_established}
use Rattle.bgp_fsm.specs.declared.input.Input.{Input}
use Rattle.bgp_fsm.specs.declared.session.Effects.{Effects}
use Rattle.bgp_fsm.specs.declared.session.Session.{Session}
use Rattle.bgp_peer.specs.Slot.{Slot}
use Rattle.decision.specs.BookContents.{BookState, rows_of}
use Rattle.net_prefix.specs.declared.prefix.Prefix.{Prefix}
use Rattle.rib_in.specs.LatestRoutes.{RouteTable}
use Rattle.rib_out.specs.Alike.{IsListed}
use Rattle.rib_out.specs.Held.{HeldRoute, all_asked, asked_at, held_at, is_among}
use Rattle.rib_out.specs.Waiting.{IsAwaited}
use Rattle.rib_out.specs.declared.marks.Owed.{Owed}
use Rattle.rib_out.specs.declared.marks.Owed.TheVariants.{Announcement}
use Rattle.rib_out.proofs.HeldTables.{held_at-all_asked}
use Rattle.routing.specs.Export.{export_in, export_peer_of}
use Rattle.routing.specs.Linked.{Linked, moved}
use Rattle.routing.specs.Marks.{AreMarked, AreMarkedFor, IsFollowed, IsMarked, Mark, mark_at, mark_for, mark_of, no_mark}
use Rattle.routing.specs.Packing.{IsNewTo}
use Rattle.routing.specs.Told.{IsTold}
use Rattle.routing.specs.RoutingState.{RoutingState}
use Rattle.routing.specs.Tables.{best_at, link_at}
use Rattle.routing.proofs.Marking.{KeepsTables, is_other, mark_unlinked, marked_as, marked_none, marked_still, no_none, none_unlinked, other_is}

-- What waits for a slot's peer, while its session and what it holds change.

some_once : {X : Type 0} {x y : X} → Some x ≡ Some y → x ≡ y
some_once is = cc

same_state : (was is : Bool) → (was && not is) ≡ false → (not was && is) ≡ false → is ≡ was
same_state true true stays still = refl
same_state true false stays still = absurd (cc)
same_state false true stays still = absurd (cc)
same_state false false stays still = refl

off_state : (was is : Bool) → (was && not is) ≡ true → is ≡ false
off_state true true left = absurd (cc)
off_state true false left = refl
off_state false is left = absurd (cc)

fresh_table : (left entered : Bool) (table : List (Prefix × HeldRoute)) → entered ≡ true → cond (left || entered) [] table ≡ []
fresh_table true entered table is = refl
fresh_table false true table is = refl
fresh_table false false table is = absurd (cc)

bytes_eq-refl : (octets : List ℕ) → bytes_eq octets octets ≡ true
bytes_eq-refl octets = (bytes_eq-Decides octets octets).1 refl

-- where a peer holds just what is exported, and hasn't asked for it again, nothing is owed
nothing_owed : (b : Bool) (export : Option (List ℕ)) → (cond b (mark_for export export false) no_mark).owed ≡ None
nothing_owed false export = refl
nothing_owed true None = refl
nothing_owed true (Some octets) = rw (bytes_eq-refl octets) refl

-- a slot whose session, and what its peer holds and has asked for again, are the same
pub mark_put_of : (conf : Configuration) (adj_in : RouteTable) (book : BookState) (slot : ℕ) (p : Prefix) (peer : Option ConfiguredPeer) (l m : Linked)
    → is_established m.peer.session.state ≡ is_established l.peer.session.state → held_at m.adj_out p ≡ held_at l.adj_out p → asked_at m.adj_out p ≡ asked_at l.adj_out p
    → mark_of conf adj_in book slot p peer (Some m) ≡ mark_of conf adj_in book slot p peer (Some l)
mark_put_of conf adj_in book slot p None l m state held asked = refl
mark_put_of conf adj_in book slot p (Some peer) l m state held asked = rw (state, held, asked) refl

owed_unasked : (b : Bool) (held : Option (List ℕ)) (asked again : Bool) → cond b (mark_for None held asked) no_mark ≡ cond b (mark_for None held again) no_mark
owed_unasked b None asked again = refl
owed_unasked b (Some held) asked again = refl

-- of a prefix without a best route the same is owed, whatever the peer has asked for again
mark_put_none : (conf : Configuration) (adj_in : RouteTable) (book : BookState) (slot : ℕ) (p : Prefix) (peer : Option ConfiguredPeer) (l m : Linked)
    → is_established m.peer.session.state ≡ is_established l.peer.session.state → held_at m.adj_out p ≡ held_at l.adj_out p → best_at (rows_of book) p ≡ None
    → mark_of conf adj_in book slot p peer (Some m) ≡ mark_of conf adj_in book slot p peer (Some l)
mark_put_none conf adj_in book slot p None l m state held none = refl
mark_put_none conf adj_in book slot p (Some peer) l m state held none =
    rw (none, state, held) (owed_unasked (is_established l.peer.session.state) (held_at l.adj_out p) (asked_at m.adj_out p) (asked_at l.adj_out p))

-- the slot becomes another
abbrev pub IsNow : ℕ → Linked → List (ℕ × Linked) → List (ℕ × Linked) → Type 0
IsNow slot l old new = (s : ℕ) → link_at new s ≡ cond (s == slot) (Some l) (link_at old s)

now_on : (slot : ℕ) (l : Linked) (old new : List (ℕ × Linked)) → IsNow slot l old new → link_at new slot ≡ Some l
now_on slot l old new put = put slot ∙ rw (eq-eqb slot slot refl) refl

pub now_off : (slot : ℕ) (l : Linked) (old new : List (ℕ × Linked)) → IsNow slot l old new → (s : ℕ) → s ≢ slot → link_at new s ≡ link_at old s
now_off slot l old new put s other = put s ∙ rw (ne_eqb s slot other) refl

pub mark_off : (conf : Configuration) (t : RoutingState) (slot : ℕ) (l : Linked) (old new : List (ℕ × Linked)) → IsNow slot l old new → (s : ℕ) (p : Prefix) → s ≢ slot → mark_at conf new t s p ≡ mark_at conf old t s p
mark_off conf t slot l old new put s p other = ap (mark_of conf t.adj_in t.book s p (peer_at conf s)) (now_off slot l old new put s other)

pub within_put : (slot : ℕ) (l m : Linked) (old new : List (ℕ × Linked)) → link_at old slot ≡ Some l → IsNow slot m old new → ((s : ℕ) (x : Linked) → link_at old s ≡ Some x → s < 64) → (s : ℕ) (x : Linked) → link_at new s ≡ Some x → s < 64
within_put slot l m old new linked put within s x there = elim (cases_eq s slot) [
  | inl same ↦ subst (λ y. y < 64) (sym same) (within slot l linked)
  | inr other ↦ within s x (sym (now_off slot m old new put s other) ∙ there)
]

-- octets come or are handed out
pub marked_put : (conf : Configuration) (t : RoutingState) (slot : ℕ) (l m : Linked) (old new : List (ℕ × Linked)) → AreMarked conf old t → link_at old slot ≡ Some l → m.peer.session ≡ l.peer.session → m.adj_out ≡ l.adj_out → IsNow slot m old new
    → AreMarked conf new t
marked_put conf t slot l m old new marked linked session adj_out put = record {
  there = record { within = within_put slot l m old new linked put marked.there.within };
  marks = λ s p within. marked_as _ _ t s p (sym (same s p)) (marked.marks s p within);
}
  where
    same : (s : ℕ) (p : Prefix) → mark_at conf new t s p ≡ mark_at conf old t s p
    same s p = elim (cases_eq s slot) [
      | inl here ↦
          subst (λ x. mark_at conf new t x p ≡ mark_at conf old t x p) (sym here)
          (ap (mark_of conf t.adj_in t.book slot p (peer_at conf slot)) (now_on slot m old new put)
          ∙ mark_put_of conf t.adj_in t.book slot p (peer_at conf slot) l m (ap (λ (x : Session). is_established x.state) session) (ap (λ a. held_at a p) adj_out) (ap (λ a. asked_at a p) adj_out)
          ∙ ap (mark_of conf t.adj_in t.book slot p (peer_at conf slot)) (sym linked))
      | inr other ↦ mark_off conf t slot m old new put s p other
    ]

-- a session has taken an input
pub followed : (now : ℕ) (conf : Configuration) (t : RoutingState) (slot : ℕ) (l : Linked) (input : Input) (asks : Bool) (old new : List (ℕ × Linked)) → AreMarked conf old t → link_at old slot ≡ Some l → IsNow slot (moved now l input) old new
    → (asks ≡ false → ((effects_of input l.peer.session).refreshed ≡ false) ⊎ (all_asked l.adj_out ≡ l.adj_out))
    → IsFollowed conf new slot (effects_of input l.peer.session) asks t
followed now conf t slot l input asks old new marked linked put news = record {
  within = marked.there.within slot l linked;
  linked = subst (λ o. IsSome o) (sym (now_on slot (moved now l input) old new put)) refl;
  there = record { within = within_put slot l (moved now l input) old new linked put marked.there.within };
  others = λ s p within other. marked_as _ _ t s p (sym (mark_off conf t slot (moved now l input) old new put s p other)) (marked.marks s p within);
  same = λ stays still p why.
      marked_as _ _ t slot p
      (ap (mark_of conf t.adj_in t.book slot p (peer_at conf slot)) linked ∙ sym (put_here stays still p why) ∙ ap (mark_of conf t.adj_in t.book slot p (peer_at conf slot)) (sym (now_on slot (moved now l input) old new put)))
      (marked.marks slot p (marked.there.within slot l linked));
  left = λ left x there. subst (λ (y : Linked). is_established y.peer.session.state ≡ false) (the_link x there) (ended left);
  entered = λ entered x there. subst (λ (y : Linked). y.adj_out ≡ []) (the_link x there) (fresh entered);
}
  where
    the_link : (x : Linked) → link_at new slot ≡ Some x → moved now l input ≡ x
    the_link x there = some_once (sym (now_on slot (moved now l input) old new put) ∙ there)

    lasts : (effects_of input l.peer.session).left ≡ false → (effects_of input l.peer.session).entered ≡ false → is_established (session_after now input l.peer.session).state ≡ is_established l.peer.session.state
    lasts stays still = same_state (is_established l.peer.session.state) (is_established (session_after now input l.peer.session).state) (sym (left_is now input l.peer.session) ∙ stays) (sym (entered_is now input l.peer.session) ∙ still)

    table_after : (effects_of input l.peer.session).left ≡ false → (effects_of input l.peer.session).entered ≡ false → (moved now l input).adj_out ≡ cond (effects_of input l.peer.session).refreshed (all_asked l.adj_out) l.adj_out
    table_after stays still = rw (stays, still) refl

    held_still : (p : Prefix) (asks : Bool) → held_at (cond asks (all_asked l.adj_out) l.adj_out) p ≡ held_at l.adj_out p
    held_still p true = held_at-all_asked l.adj_out p
    held_still p false = refl

    same_table : (again : Bool) → (again ≡ false) ⊎ (all_asked l.adj_out ≡ l.adj_out) → cond again (all_asked l.adj_out) l.adj_out ≡ l.adj_out
    same_table again (inl unasked) = ap (λ b. cond b (all_asked l.adj_out) l.adj_out) unasked
    same_table true (inr same) = same
    same_table false (inr same) = refl

    put_here : (effects_of input l.peer.session).left ≡ false → (effects_of input l.peer.session).entered ≡ false → (p : Prefix) → (asks ≡ false) ⊎ (best_at (rows_of t.book) p ≡ None)
        → mark_of conf t.adj_in t.book slot p (peer_at conf slot) (Some (moved now l input)) ≡ mark_of conf t.adj_in t.book slot p (peer_at conf slot) (Some l)
    put_here stays still p (inl unasked) =
        let table = table_after stays still ∙ same_table (effects_of input l.peer.session).refreshed (news unasked) in
        mark_put_of conf t.adj_in t.book slot p (peer_at conf slot) l (moved now l input) (lasts stays still) (ap (λ a. held_at a p) table) (ap (λ a. asked_at a p) table)
    put_here stays still p (inr none) =
        mark_put_none conf t.adj_in t.book slot p (peer_at conf slot) l (moved now l input) (lasts stays still)
        (ap (λ a. held_at a p) (table_after stays still) ∙ held_still p (effects_of input l.peer.session).refreshed) none

    ended : (effects_of input l.peer.session).left ≡ true → is_established (session_after now input l.peer.session).state ≡ false
    ended left = off_state (is_established l.peer.session.state) (is_established (session_after now input l.peer.session).state) (sym (left_is now input l.peer.session) ∙ left)

    fresh : (effects_of input l.peer.session).entered ≡ true → (moved now l input).adj_out ≡ []
    fresh entered =
        fresh_table (effects_of input l.peer.session).left (effects_of input l.peer.session).entered
        (cond (effects_of input l.peer.session).refreshed (all_asked l.adj_out) l.adj_out) entered

-- the slot's peer has asked for all routes again
pub marked_asked : (conf : Configuration) (links : List (ℕ × Linked)) (slot : ℕ) (effects : Effects) (asks : Bool) (t : RoutingState) → IsFollowed conf links slot effects asks t → effects.left ≡ false → effects.entered ≡ false → AreMarkedFor (is_other slot) conf links t
marked_asked conf links slot effects asks t h stays still = record {
  there = h.there;
  marks = λ s p within is. elim (cases_eq s slot) [
    | inl same ↦ subst (λ x. IsMarked (mark_at conf links t x p) t x p) (sym same) (here s p same is)
    | inr other ↦ h.others s p within other
  ];
  none = λ s p within unlinked. elim (cases_eq s slot) [
    | inl same ↦ no_none (link_at links slot) (ap (link_at links) (sym same) ∙ unlinked) h.linked
    | inr other ↦ none_unlinked conf links t t s p unlinked (h.others s p within other)
  ];
}
  where
    here : (s : ℕ) (p : Prefix) → s ≡ slot → (is_other slot s ≡ true) ⊎ (best_at (rows_of t.book) p ≡ None) → IsMarked (mark_at conf links t slot p) t slot p
    here s p same (inl is) = absurd (other_is slot s is same)
    here s p same (inr none) = h.same stays still p (inr none)

-- the slot's peer was told what is exported to it of these prefixes
pub marked_told : (conf : Configuration) (t u : RoutingState) (slot : ℕ) (named : List Prefix) (export : Option (List ℕ)) (l m : Linked) (old new : List (ℕ × Linked)) → AreMarked conf old t → link_at old slot ≡ Some l
    → IsTold named export l m → IsNow slot m old new
    → ((peer : ConfiguredPeer) (p : Prefix) → peer_at conf slot ≡ Some peer → is_among p named ≡ true → export_in conf (best_at (rows_of t.book)) t.adj_in (export_peer_of conf slot peer) p ≡ export)
    → KeepsTables t u → ((p : Prefix) → is_among p named ≡ true → IsAwaited u.waiting slot p None) → ((s : ℕ) (p : Prefix) (w : Option Owed) → (s == slot && is_among p named) ≡ false → IsAwaited t.waiting s p w → IsAwaited u.waiting s p w)
    → ((s : ℕ) (o : List ℕ) (p : Prefix) → (s == slot && is_among p named) ≡ false → IsAwaited u.waiting s p (Some Announcement) → IsListed t.alike s o p → IsListed u.alike s o p) → AreMarked conf new u
marked_told conf t u slot named export l m old new marked linked told put exported rest silent others listed = record {
  there = record { within = within_put slot l m old new linked put marked.there.within };
  marks = λ s p within. marked_as _ _ u s p (ap (λ (x : RoutingState). mark_at conf new x s p) (sym rest)) (here s p within);
}
  where
    of_told : (p : Prefix) → is_among p named ≡ true → (peer : Option ConfiguredPeer)
        → ((x : ConfiguredPeer) → peer ≡ Some x → export_in conf (best_at (rows_of t.book)) t.adj_in (export_peer_of conf slot x) p ≡ export)
        → (mark_of conf t.adj_in t.book slot p peer (Some m)).owed ≡ None
    of_told p among None is = refl
    of_told p among (Some x) is = rw (is x refl, told.held p, told.asked p, among) (nothing_owed (is_established m.peer.session.state) export)

    told_here : (p : Prefix) → is_among p named ≡ true → (mark_at conf new t slot p).owed ≡ None
    told_here p among = ap (λ x. (mark_of conf t.adj_in t.book slot p (peer_at conf slot) x).owed) (now_on slot m old new put) ∙ of_told p among (peer_at conf slot) (λ x is. exported x p is among)

    same_state_told : is_established m.peer.session.state ≡ is_established l.peer.session.state
    same_state_told = ap (λ (x : Slot). is_established x.session.state) told.peer

    of_other : (p : Prefix) → is_among p named ≡ false → mark_at conf old t slot p ≡ mark_at conf new t slot p
    of_other p other =
        ap (mark_of conf t.adj_in t.book slot p (peer_at conf slot)) linked
        ∙ sym (mark_put_of conf t.adj_in t.book slot p (peer_at conf slot) l m same_state_told (told.held p ∙ ap (λ b. cond b export (held_at l.adj_out p)) other)
        (told.asked p ∙ ap (λ b. cond b false (asked_at l.adj_out p)) other))
        ∙ ap (mark_of conf t.adj_in t.book slot p (peer_at conf slot)) (sym (now_on slot m old new put))

    off_slot : (s : ℕ) (p : Prefix) → s ≢ slot → (s == slot && is_among p named) ≡ false
    off_slot s p other = ap (λ b. b && is_among p named) (ne_eqb s slot other)

    off_named : (p : Prefix) → is_among p named ≡ false → (slot == slot && is_among p named) ≡ false
    off_named p is = ap (λ b. b && is_among p named) (eq-eqb slot slot refl) ∙ is

    by_among : (p : Prefix) → slot < 64 → (b : Bool) → is_among p named ≡ b → IsMarked (mark_at conf new t slot p) u slot p
    by_among p within true is = marked_none _ u slot p (silent p is) (told_here p is)
    by_among p within false is =
        marked_still _ _ t u slot p (marked.marks slot p within) (others slot p (mark_at conf old t slot p).owed (off_named p is)) (λ o waits. listed slot o p (off_named p is) waits) (of_other p is)

    here : (s : ℕ) (p : Prefix) → s < 64 → IsMarked (mark_at conf new t s p) u s p
    here s p within = elim (cases_eq s slot) [
      | inl same ↦ subst (λ x. IsMarked (mark_at conf new t x p) u x p) (sym same) (by_among p (subst (λ x. x < 64) same within) (is_among p named) refl)
      | inr other ↦
          marked_still _ _ t u s p (marked.marks s p within) (others s p (mark_at conf old t s p).owed (off_slot s p other)) (λ o waits. listed s o p (off_slot s p other) waits) (sym (mark_off conf t slot m old new put s p other))
    ]

-- where there is no slot, and nothing waits
pub marked_empty : (conf : Configuration) (links : List (ℕ × Linked)) (t : RoutingState) → links ≡ [] → ((s : ℕ) (p : Prefix) → IsAwaited t.waiting s p None) → AreMarked conf links t
marked_empty conf links t is none = record {
  there = record { within = λ s l there. let never = sym (unlinked s) ∙ there in absurd (cc) };
  marks = λ s p within. marked_none _ t s p (none s p) (ap (λ (m : Mark). m.owed) (mark_unlinked conf links t s p (unlinked s)));
}
  where
    unlinked : (s : ℕ) → link_at links s ≡ None
    unlinked s = ap (λ ls. link_at ls s) is

-- whether octets are new to a peer, by whether it has just these
abbrev pub HasJust : Bool → Option (List ℕ) → List ℕ → Bool → Type 0
HasJust just held octets asked = (just ≡ true → (held ≡ Some octets) × (asked ≡ false)) × ((held ≡ Some octets) × (asked ≡ false) → just ≡ true)

new_unless : (held : Option (List ℕ)) (octets : List ℕ) (asked : Bool) → HasJust false held octets asked → (held ≢ Some octets) ⊎ (asked ≡ true)
new_unless held octets true is = inr refl
new_unless held octets false is = inl (λ same. let never = is.1 (same, refl) in cc)

pub new_where : (just : Bool) (held : Option (List ℕ)) (octets : List ℕ) (asked : Bool) → HasJust just held octets asked → OnTrue (not just) ((held ≢ Some octets) ⊎ (asked ≡ true))
new_where true held octets asked is = tt
new_where false held octets asked is = new_unless held octets asked is

pub not_new_where : (just : Bool) (held : Option (List ℕ)) (octets : List ℕ) (asked : Bool) → HasJust just held octets asked → OnFalse (not just) ((held ≢ Some octets) ⊎ (asked ≡ true) → ⊥)
not_new_where true held octets asked is = λ news. let had = is.0 refl in elim news [ inl other ↦ other had.0 | inr again ↦ (let never = had.1 in cc) ]
not_new_where false held octets asked is = tt

pub on_true-as : (b : Bool) (P Q : Type 0) → OnTrue b P → (P → Q) → OnTrue b Q
on_true-as true P Q p to = to p
on_true-as false P Q p to = tt

pub on_false-as : (b : Bool) (P Q : Type 0) → OnFalse b P → (P → Q) → OnFalse b Q
on_false-as true P Q p to = tt
on_false-as false P Q p to = to p

-- so it is of a slot whose peer holds this
pub new_of : (b : Bool) (held : List (Prefix × HeldRoute)) (p : Prefix) (export : Option (List ℕ)) → OnTrue b ((held_at held p ≢ export) ⊎ (asked_at held p ≡ true)) → OnTrue b ((l : Linked) → l.adj_out ≡ held → IsNewTo l p export)
new_of true held p export news = λ l is. subst (λ a. (held_at a p ≢ export) ⊎ (asked_at a p ≡ true)) (sym is) news
new_of false held p export news = tt

pub not_new_of : (b : Bool) (held : List (Prefix × HeldRoute)) (p : Prefix) (export : Option (List ℕ)) → OnFalse b ((held_at held p ≢ export) ⊎ (asked_at held p ≡ true) → ⊥) → OnFalse b ((l : Linked) → l.adj_out ≡ held → IsNewTo l p export → ⊥)
not_new_of true held p export never = tt
not_new_of false held p export never = λ l is news. never (subst (λ a. (held_at a p ≢ export) ⊎ (asked_at a p ≡ true)) is news)
