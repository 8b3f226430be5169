use Rattle.std.proofs.Common.{◌≡◌, ℕ, Bool, true, false, List, [], ◌∷◌, Some, None, length, drop, cond, refl, sym, ap, ◌∙◌}
use Rattle.std.specs.Option.{option_and_then}
use Rattle.net_prefix.specs.declared.transport.Transport.TheVariants.{Open as Connected}
use Rattle.bgp_fsm.specs.SessionTable.{session_after, effects_of}
use Rattle.bgp_fsm.specs.StateTests.{is_established, is_message}
use Rattle.bgp_fsm.specs.Transports.{transport_of}
use Rattle.bgp_fsm.specs.declared.input.Input.{Input}
use Rattle.bgp_fsm.specs.declared.input.Input.TheVariants.{Start, Disable, Remove, Up, Fail, NoMemory, Expires}
use Rattle.bgp_fsm.specs.declared.session.Session.{Session}
use Rattle.bgp_fsm.specs.declared.state.State.{State}
use Rattle.bgp_fsm.proofs.TableLaws.{enters_by_message, stays_established, fail_ends, no_memory_closes, stood_before}
use Rattle.bgp_msg.specs.MessageStream.{Item, WholeMessage, FaultyHeader, completed}
use Rattle.bgp_msg.specs.declared.frame.MessageType.TheVariants.{Open as OpenType, Update as UpdateType, Notification as NotificationType, Keepalive as KeepaliveType, RouteRefresh as RouteRefreshType}
use Rattle.bgp_peer.specs.Agreement.{holding}
use Rattle.bgp_peer.specs.SentMessages.{given, sent, ring_of}
use Rattle.bgp_peer.specs.SessionInputs.{Event, Terms, Signalled, Octet, terms_of, item_at, input_of, moment_of, session}
use Rattle.bgp_peer.specs.Refreshes.{asks_again_if}
use Rattle.bgp_peer.specs.Slot.{kept, Slot, pushed}
use Rattle.bgp_peer.proofs.Agreeing.{stands, agrees-signal, agrees-octet, agrees-input, quiet_octet, item_octet, item_of_rest}
use Rattle.bgp_peer.proofs.Rows.{kept_whole}
use Rattle.net_prefix.specs.declared.prefix.Prefix.{Prefix}
use Rattle.routing.specs.Updates.{word_if}
use Rattle.routing.specs.Heard.{update_heard}
use Rattle.runs.specs.AdjRibIn.{route}
use Rattle.runs.specs.Agreement.{LinkAgrees}
use Rattle.runs.specs.Held.{told_in}
use Rattle.routing.specs.Linked.{Linked, moved}
use Rattle.runs.proofs.Histories.{route_moved, route_stays, held_moved}
use Rattle.runs.proofs.Refreshing.{asked_moved, asked_stays, item_asks, signal_asks_nothing}
use Rattle.runs.proofs.SentPrefixes.{told_in-nil, told_in-said}

-- What each thing that happens to a slot makes of its routes and of what its peer holds.

pub unheard : (state : State) (terms : Terms) (item : Item) → is_established state ≡ false → update_heard state terms item ≡ None
unheard state terms (FaultyHeader fault) other = refl
unheard state terms (WholeMessage OpenType body) other = refl
unheard state terms (WholeMessage UpdateType body) other = rw other refl
unheard state terms (WholeMessage NotificationType body) other = refl
unheard state terms (WholeMessage KeepaliveType body) other = refl
unheard state terms (WholeMessage RouteRefreshType body) other = refl

-- the routes of a slot

-- an octet that completes no item changes no route
pub route_octet : (h : List Event) (octet : ℕ) (p : Prefix) → item_at h octet ≡ None → route (Octet octet ∷ h) p ≡ route h p
route_octet h octet p none =
    ap (λ (s : Session). cond (is_established s.state) (word_if (option_and_then (update_heard (session h).state (terms_of h)) (item_at h octet)) p (route h p)) None) (quiet_octet h octet none).0
    ∙ ap (λ item. cond (is_established (session h).state) (word_if (option_and_then (update_heard (session h).state (terms_of h)) item) p (route h p)) None) none
    ∙ route_stays h p

-- an item makes this of the routes
pub route_item : (h : List Event) (octet : ℕ) (item : Item) (p : Prefix) → item_at h octet ≡ Some item
    → route (Octet octet ∷ h) p ≡ cond (effects_of (input_of (session h).state (terms_of h) item) (session h)).left None (word_if (update_heard (session h).state (terms_of h) item) p (route h p))
route_item h octet item p some =
    route_moved (moment_of h) h (Octet octet) (input_of (session h).state (terms_of h) item) (update_heard (session h).state (terms_of h) item) p (item_octet h octet item some).0
    (ap (λ found. option_and_then (update_heard (session h).state (terms_of h)) found) some) (unheard (session h).state (terms_of h) item)

-- what the peer holds

-- an input that is no message leaves of what was queued all, where Established lasts, or where no connection comes up or fails
kept_on : (now : ℕ) (input : Input) (s : Session) (octets : List ℕ) → is_message input ≡ false → (input ≡ Up → is_established s.state ≡ false) → is_established s.state ≡ true → is_established (session_after now input s).state ≡ true
    → kept input octets ≡ octets
kept_on now Up s octets is other was on = let not_so = other refl in absurd (cc)
kept_on now Fail s octets is other was on = let ends = fail_ends now s in absurd (cc)
kept_on now input s octets is other was on = refl

not_both : {X : Type 0} (b : Bool) → b ≡ true → b ≡ false → X
not_both b on off = absurd (cc)

-- a standing connection that isn't Established was none before
was_silent : (now : ℕ) (input : Input) (s : Session) → transport_of (session_after now input s) ≡ Connected → is_established (session_after now input s).state ≡ false → (b : Bool) → is_established s.state ≡ b → b ≡ false
was_silent now input s stands other false is = refl
was_silent now input s stands other true is = not_both (is_established (session_after now input s).state) (stays_established now input s stands is) other

kept_silent : (now : ℕ) (input : Input) (s : Session) (octets : List ℕ) (p : Prefix) → is_message input ≡ false
    → (transport_of s ≡ Connected → is_established s.state ≡ false → told_in octets p ≡ None)
    → transport_of (session_after now input s) ≡ Connected → is_established (session_after now input s).state ≡ false → told_in (kept input octets) p ≡ None
kept_silent now Start s octets p is silent stands other = silent (stood_before now Start s (λ e. cc) stands) (was_silent now Start s stands other _ refl)
kept_silent now Disable s octets p is silent stands other = silent (stood_before now Disable s (λ e. cc) stands) (was_silent now Disable s stands other _ refl)
kept_silent now Remove s octets p is silent stands other = silent (stood_before now Remove s (λ e. cc) stands) (was_silent now Remove s stands other _ refl)
kept_silent now (Expires timer) s octets p is silent stands other = silent (stood_before now (Expires timer) s (λ e. cc) stands) (was_silent now (Expires timer) s stands other _ refl)
kept_silent now Up s octets p is silent stands other = told_in-nil p
kept_silent now Fail s octets p is silent stands other = told_in-nil p
kept_silent now NoMemory s octets p is silent stands other = absurd (no_memory_closes now s stands)
kept_silent now input s octets p is silent stands other = absurd (cc)

-- an input that is no message
pub link_signalled : (h : List Event) (l : Linked) (input : Input) → is_message input ≡ false → (input ≡ Up → is_established (session h).state ≡ false)
    → LinkAgrees h l → LinkAgrees (Signalled input ∷ h) (moved (moment_of h) l input)
link_signalled h l input is other a =
    let said_none : (p : Prefix) → told_in (sent (Signalled input ∷ h)) p ≡ told_in (kept input (sent h)) p =
    λ p. told_in-said (kept input (sent h)) (effects_of input (session h)).message (drop (length (kept input (given h))) (kept input (sent h))) p (kept_whole input (sent h) a.peer.whole) in
    record {
      peer = agrees-signal h l.peer input is a.peer;
      held = λ p. rw a.peer.session
          (held_moved (moment_of h) (session h) input l.adj_out (sent h) (sent (Signalled input ∷ h)) p (a.held p)
          (λ was on. said_none p ∙ ap (λ octets. told_in octets p) (kept_on (moment_of h) input (session h) (sent h) is other was on))
          (λ was on. not_both (is_message input) (enters_by_message (moment_of h) input (session h) was on) is));
      asked = λ p. rw a.peer.session (asked_moved (moment_of h) h (Signalled input) input l.adj_out p refl (sym (signal_asks_nothing input (session h) is)) refl (a.held p) (a.asked p));
      silent = λ connected new p. said_none p ∙ kept_silent (moment_of h) input (session h) (sent h) p is (λ k was. a.silent k was p) connected new;
    }

-- a slot with another session, rest and ring
abbrev pub with_peer : Linked → Slot → Linked
with_peer l peer = record { peer = peer; adj_out = l.adj_out }

-- an octet that completes no item
pub link_octet : (h : List Event) (l : Linked) (octet : ℕ) → transport_of l.peer.session ≡ Connected → completed l.peer.rest octet ≡ None
    → LinkAgrees h l → LinkAgrees (Octet octet ∷ h) (with_peer l (pushed l.peer (octet ∷ [])))
link_octet h l octet connected none a =
    let no_item = item_of_rest h l.peer octet None connected none a.peer in
    let quiet = quiet_octet h octet no_item in
    record {
      peer = agrees-octet h l.peer octet connected none a.peer;
      held = λ p. rw (quiet.0, quiet.1) (a.held p);
      asked = λ p. a.asked p ∙ sym (asked_stays h (Octet octet) p quiet.0 (ap (asks_again_if (session h).state) no_item) refl);
      silent = λ k new p. rw quiet.1 (a.silent (rw quiet.0 at k) (rw quiet.0 at new) p);
    }

-- an octet that completes an item
pub link_item : (h : List Event) (l : Linked) (part : List ℕ) (octet : ℕ) (item : Item) → transport_of l.peer.session ≡ Connected → completed part octet ≡ Some item
    → LinkAgrees h (with_peer l (holding part l.peer))
    → LinkAgrees (Octet octet ∷ h) (moved (moment_of h) l (input_of l.peer.session.state (terms_of h) item))
link_item h l part octet item connected some a =
    let whole = item_of_rest h (holding part l.peer) octet (Some item) connected some a.peer in
    let next = item_octet h octet item whole in
    let here : transport_of (session h) ≡ Connected = stands h (holding part l.peer) a.peer connected in
    let told : (p : Prefix) → told_in (sent (Octet octet ∷ h)) p ≡ told_in (sent h) p =
    λ p. ap (λ octets. told_in octets p) next.1 ∙ told_in-said (sent h) (effects_of (input_of (session h).state (terms_of h) item) (session h)).message (ring_of h) p a.peer.whole in
    record {
      peer = agrees-input h l.peer part octet item connected some a.peer;
      held = λ p. rw (a.peer.session, next.0)
          (held_moved (moment_of h) (session h) (input_of (session h).state (terms_of h) item) l.adj_out (sent h) (sent (Octet octet ∷ h)) p (a.held p)
          (λ was on. told p) (λ was on. told p ∙ a.silent here was p));
      asked = λ p. rw a.peer.session (asked_moved (moment_of h) h (Octet octet) (input_of (session h).state (terms_of h) item) l.adj_out p next.0 (item_asks h octet (terms_of h) item whole) refl (a.held p) (a.asked p));
      silent = λ k new p.
          told p
          ∙ a.silent here (was_silent (moment_of h) (input_of (session h).state (terms_of h) item) (session h) (rw next.0 at k) (rw next.0 at new) _ refl) p;
    }
