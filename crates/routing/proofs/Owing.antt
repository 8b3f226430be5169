use Rattle.std.proofs.Common.{◌≡◌, ℕ, ◌&&◌, not, Bool, true, false, List, [], Option, Some, None, cond, refl, sym, ap, ◌∙◌}
use Rattle.std.specs.Option.{IsSome, option_and_then}
use Rattle.std.specs.Str.{bytes_eq}
use Rattle.bgp_conf.specs.Configuration.{Configuration, peer_at}
use Rattle.bgp_conf.specs.declared.conf.ConfiguredPeer.{ConfiguredPeer}
use Rattle.bgp_fsm.specs.StateTests.{is_established}
use Rattle.bgp_fsm.specs.declared.state.State.TheVariants.{Established}
use Rattle.decision.specs.BookContents.{rows_of}
use Rattle.net_prefix.specs.declared.payload.Vrp.{Vrp}
use Rattle.net_prefix.specs.declared.prefix.Prefix.{Prefix}
use Rattle.rib_out.specs.Alike.{AlikeState}
use Rattle.rib_out.specs.Held.{asked_at, held_at}
use Rattle.rib_out.specs.Waiting.{WaitingState}
use Rattle.rib_out.specs.declared.marks.Owed.{Owed}
use Rattle.rib_out.specs.declared.marks.Owed.TheVariants.{Announcement, Withdrawal}
use Rattle.routing.specs.Export.{export_in, export_peer_of}
use Rattle.routing.specs.Linked.{Linked}
use Rattle.routing.specs.Marks.{IsMarkedSo, IsNextOf, IsNextOwed, Mark, mark_at, mark_for, mark_of, no_mark, octets_of, owed_for}
use Rattle.routing.specs.Owing.{IsNext, IsServed, announced_of, withdrawn_of}
use Rattle.routing.specs.RoutesState.{RoutesState, export_of}
use Rattle.routing.specs.RoutingState.{RoutingState}
use Rattle.routing.specs.Tables.{best_at, link_at}
use Rattle.routing.proofs.WaitingLists.{not_established}

-- What a served peer is owed is what waits for its slot.

-- the tables, with what waits; what is held is that of the slots
abbrev pub routing_of : RoutesState → WaitingState → AlikeState → RoutingState
routing_of s waiting alike = record { adj_in = s.adj_in; book = s.book; chosen = s.chosen; sent = []; waiting = waiting; alike = alike }

-- the routes with these tables
abbrev pub state_of : Configuration → List Vrp → List (ℕ × Linked) → RoutingState → RoutesState
state_of conf payloads links t = record { conf = conf; payloads = payloads; links = links; adj_in = t.adj_in; book = t.book; chosen = t.chosen }

-- the export to a peer that is configured
pub export_found : (s : RoutesState) (slot : ℕ) (peer : ConfiguredPeer) (q : Prefix) → peer_at s.conf slot ≡ Some peer → export_of s slot q ≡ export_in s.conf (best_at (rows_of s.book)) s.adj_in (export_peer_of s.conf slot peer) q
export_found s slot peer q configured = ap (λ found. option_and_then (λ p. export_in s.conf (best_at (rows_of s.book)) s.adj_in (export_peer_of s.conf slot p) q) found) configured

-- the mark of a prefix for a served peer
pub mark_is : (s : RoutesState) (slot : ℕ) (peer : ConfiguredPeer) (l : Linked) (q : Prefix) → peer_at s.conf slot ≡ Some peer → link_at s.links slot ≡ Some l → l.peer.session.state ≡ Established
    → mark_of s.conf s.adj_in s.book slot q (peer_at s.conf slot) (link_at s.links slot) ≡ mark_for (export_of s slot q) (held_at l.adj_out q) (asked_at l.adj_out q)
mark_is s slot peer l q configured linked established =
    ap (λ found. mark_of s.conf s.adj_in s.book slot q found (link_at s.links slot)) configured
    ∙ ap (λ found. mark_of s.conf s.adj_in s.book slot q (Some peer) found) linked
    ∙ ap (λ state. cond (is_established state) (mark_for (export_in s.conf (best_at (rows_of s.book)) s.adj_in (export_peer_of s.conf slot peer) q) (held_at l.adj_out q) (asked_at l.adj_out q)) no_mark) established
    ∙ ap (λ e. mark_for e (held_at l.adj_out q) (asked_at l.adj_out q)) (sym (export_found s slot peer q configured))

-- what is owed to a served peer
pub owed_is : (s : RoutesState) (waiting : WaitingState) (alike : AlikeState) (slot : ℕ) (peer : ConfiguredPeer) (l : Linked) (q : Prefix) → peer_at s.conf slot ≡ Some peer → link_at s.links slot ≡ Some l → l.peer.session.state ≡ Established
    → (mark_at s.conf s.links (routing_of s waiting alike) slot q).owed ≡ owed_for (export_of s slot q) (held_at l.adj_out q) (asked_at l.adj_out q)
owed_is s waiting alike slot peer l q configured linked established = ap (λ (m : Mark). m.owed) (mark_is s slot peer l q configured linked established)

-- a withdrawal waits just where something is held and nothing is exported
withdrawal_some : (export held : Option (List ℕ)) (asked : Bool) → IsSome (withdrawn_of export held) → owed_for export held asked ≡ Some Withdrawal
withdrawal_some None None asked some = absurd (cc)
withdrawal_some None (Some held) asked some = refl
withdrawal_some (Some octets) held asked some = absurd (cc)

some_withdrawal : (export held : Option (List ℕ)) (asked : Bool) → owed_for export held asked ≡ Some Withdrawal → IsSome (withdrawn_of export held)
some_withdrawal None None asked is = absurd (cc)
some_withdrawal None (Some held) asked is = refl
some_withdrawal (Some octets) None asked is = absurd (cc)
some_withdrawal (Some octets) (Some held) asked is = never (bytes_eq held octets && not asked) is
  where
    never : (b : Bool) → cond b None (Some Announcement) ≡ Some Withdrawal → IsSome (withdrawn_of (Some octets) (Some held))
    never true is = absurd (cc)
    never false is = absurd (cc)

announcement_some : (export held : Option (List ℕ)) (asked : Bool) → IsSome (announced_of export held asked) → owed_for export held asked ≡ Some Announcement
announcement_some None held asked some = absurd (cc)
announcement_some (Some octets) None asked some = refl
announcement_some (Some octets) (Some held) asked some = by_test (bytes_eq held octets && not asked) some
  where
    by_test : (b : Bool) → IsSome (cond b None (Some octets)) → cond b None (Some Announcement) ≡ Some Announcement
    by_test true some = absurd (cc)
    by_test false some = refl

pub some_announcement : (export held : Option (List ℕ)) (asked : Bool) → owed_for export held asked ≡ Some Announcement → IsSome (announced_of export held asked)
some_announcement None None asked is = absurd (cc)
some_announcement None (Some held) asked is = absurd (cc)
some_announcement (Some octets) None asked is = refl
some_announcement (Some octets) (Some held) asked is = by_test (bytes_eq held octets && not asked) is
  where
    by_test : (b : Bool) → cond b None (Some Announcement) ≡ Some Announcement → IsSome (cond b None (Some octets))
    by_test true is = absurd (cc)
    by_test false is = refl

not_some : {X : Type 0} (o : Option X) → (IsSome o → ⊥) → o ≡ None
not_some None not = refl
not_some (Some x) not = absurd (not refl)

-- the next prefix of which this is owed
next_by : {X : Type 0} (there : Prefix → Option X) (There : Prefix → Type 0) (after result : Option Prefix) → ((q : Prefix) → IsSome (there q) → There q) → ((q : Prefix) → There q → IsSome (there q)) → IsNextOf There after result → IsNext there after result
next_by there There after None from to h = λ q over. not_some (there q) (λ some. h q over (from q some))
next_by there There after (Some p) from to h = (to p h.0, h.1, λ q over some. h.2 q over (from q some))

pub next_withdrawn : (s : RoutesState) (waiting : WaitingState) (alike : AlikeState) (slot : ℕ) (peer : ConfiguredPeer) (l : Linked) (after result : Option Prefix) → peer_at s.conf slot ≡ Some peer → link_at s.links slot ≡ Some l
    → l.peer.session.state ≡ Established → IsNextOwed s.conf s.links (routing_of s waiting alike) slot Withdrawal after result → IsNext (λ q. withdrawn_of (export_of s slot q) (held_at l.adj_out q)) after result
next_withdrawn s waiting alike slot peer l after result configured linked established h =
    next_by (λ q. withdrawn_of (export_of s slot q) (held_at l.adj_out q)) _ after result
    (λ q some. owed_is s waiting alike slot peer l q configured linked established ∙ withdrawal_some (export_of s slot q) (held_at l.adj_out q) (asked_at l.adj_out q) some)
    (λ q is. some_withdrawal (export_of s slot q) (held_at l.adj_out q) (asked_at l.adj_out q) (sym (owed_is s waiting alike slot peer l q configured linked established) ∙ is)) h

pub next_announced : (s : RoutesState) (waiting : WaitingState) (alike : AlikeState) (slot : ℕ) (peer : ConfiguredPeer) (l : Linked) (after result : Option Prefix) → peer_at s.conf slot ≡ Some peer → link_at s.links slot ≡ Some l
    → l.peer.session.state ≡ Established → IsNextOwed s.conf s.links (routing_of s waiting alike) slot Announcement after result → IsNext (λ q. announced_of (export_of s slot q) (held_at l.adj_out q) (asked_at l.adj_out q)) after result
next_announced s waiting alike slot peer l after result configured linked established h =
    next_by (λ q. announced_of (export_of s slot q) (held_at l.adj_out q) (asked_at l.adj_out q)) _ after result
    (λ q some. owed_is s waiting alike slot peer l q configured linked established ∙ announcement_some (export_of s slot q) (held_at l.adj_out q) (asked_at l.adj_out q) some)
    (λ q is. some_announcement (export_of s slot q) (held_at l.adj_out q) (asked_at l.adj_out q) (sym (owed_is s waiting alike slot peer l q configured linked established) ∙ is)) h

-- what is exported to whoever the peer is
pub exported_to : (s : RoutesState) (slot : ℕ) (p : Prefix) (export : Option (List ℕ)) → export_of s slot p ≡ export
    → (peer : ConfiguredPeer) → peer_at s.conf slot ≡ Some peer → export_in s.conf (best_at (rows_of s.book)) s.adj_in (export_peer_of s.conf slot peer) p ≡ export
exported_to s slot p export is peer configured = sym (export_found s slot peer p configured) ∙ is

pub some_of : {X : Type 0} (o : Option X) → IsSome o → (x : X) × (o ≡ Some x)
some_of None some = absurd (cc)
some_of (Some x) some = (x, refl)

-- nothing is owed to a slot without a configured peer whose session is Established
unserved_of : (s : RoutesState) (slot : ℕ) (q : Prefix) (peer : Option ConfiguredPeer) (linked : Option Linked) → ((x : ConfiguredPeer) (l : Linked) → peer ≡ Some x → linked ≡ Some l → l.peer.session.state ≡ Established → ⊥)
    → mark_of s.conf s.adj_in s.book slot q peer linked ≡ no_mark
unserved_of s slot q None linked never = refl
unserved_of s slot q (Some peer) None never = refl
unserved_of s slot q (Some peer) (Some l) never = rw (not_established l.peer.session.state (λ e. absurd (never peer l refl refl e))) refl

pub none_next : (s : RoutesState) (waiting : WaitingState) (alike : AlikeState) (slot : ℕ) (owed : Owed) (after result : Option Prefix) → (IsServed s.conf s.links slot → ⊥)
    → IsNextOwed s.conf s.links (routing_of s waiting alike) slot owed after result → result ≡ None
none_next s waiting alike slot owed after None unserved h = refl
none_next s waiting alike slot owed after (Some p) unserved h =
    let none = unserved_of s slot p (peer_at s.conf slot) (link_at s.links slot) (λ x l configured linked established. unserved (x, l, configured, linked, established)) in
    absurd (let never = sym h.0 ∙ ap (λ (m : Mark). m.owed) none in cc)

-- what is due to be announced to a served peer is owed to it with its octets
pub announced_so : (s : RoutesState) (waiting : WaitingState) (alike : AlikeState) (slot : ℕ) (peer : ConfiguredPeer) (l : Linked) (octets : List ℕ) (q : Prefix) → peer_at s.conf slot ≡ Some peer → link_at s.links slot ≡ Some l
    → l.peer.session.state ≡ Established → export_of s slot q ≡ Some octets → owed_for (export_of s slot q) (held_at l.adj_out q) (asked_at l.adj_out q) ≡ Some Announcement
    → IsMarkedSo (mark_at s.conf s.links (routing_of s waiting alike) slot q) octets
announced_so s waiting alike slot peer l octets q configured linked established exported announced =
    let is = mark_is s slot peer l q configured linked established in (
      ap (λ (m : Mark). m.owed) is ∙ announced,
      ap (λ (m : Mark). m.octets) is ∙ ap octets_of exported,
    )

-- the peer to which something is exported
pub peer_told : (s : RoutesState) (slot : ℕ) (q : Prefix) (octets : List ℕ) → export_of s slot q ≡ Some octets → (peer : ConfiguredPeer) × (peer_at s.conf slot ≡ Some peer)
peer_told s slot q octets exported = by_peer (peer_at s.conf slot) refl exported
  where
    by_peer : (found : Option ConfiguredPeer) → peer_at s.conf slot ≡ found
        → option_and_then (λ p. export_in s.conf (best_at (rows_of s.book)) s.adj_in (export_peer_of s.conf slot p) q) found ≡ Some octets → (peer : ConfiguredPeer) × (peer_at s.conf slot ≡ Some peer)
    by_peer None is exported = absurd (cc)
    by_peer (Some peer) is exported = (peer, is)
