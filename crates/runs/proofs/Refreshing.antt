use Rattle.std.proofs.Common.{◌≡◌, ◌&&◌, ◌||◌, ℕ, Bool, true, false, not, List, [], ◌∷◌, Option, Some, None, is_some, cond, refl, sym, ap, ◌∙◌, arith}
use Rattle.std.proofs.lemmas.Grind.{common_steps}
use Rattle.bgp_fsm.proofs.TableLaws.{left_is, entered_is}
use Rattle.bgp_fsm.specs.SessionTable.{session_after, effects_of}
use Rattle.bgp_fsm.specs.StateTests.{awaits_open, is_established, is_message}
use Rattle.bgp_fsm.specs.declared.input.Input.{Input}
use Rattle.bgp_fsm.specs.declared.input.Input.TheVariants.{RouteRefresh, UnexpectedOpen, Update}
use Rattle.bgp_fsm.specs.declared.session.Session.{Session}
use Rattle.bgp_fsm.specs.declared.state.State.{State}
use Rattle.bgp_attr.specs.AttributeFaults.{Fault as UpdateFault}
use Rattle.bgp_msg.specs.MessageFaults.{open_fault}
use Rattle.bgp_msg.specs.MessageStream.{Item, WholeMessage, FaultyHeader}
use Rattle.bgp_msg.specs.UpdateMeaning.{update_fault}
use Rattle.bgp_msg.specs.declared.fault.OpenFault.{OpenFault}
use Rattle.bgp_msg.specs.declared.frame.MessageType.TheVariants.{Open as OpenType, Update as UpdateType, Notification as NotificationType, Keepalive as KeepaliveType, RouteRefresh as RouteRefreshType}
use Rattle.bgp_peer.specs.Refreshes.{asks_again, asks_again_if, refreshes}
use Rattle.bgp_peer.specs.SentMessages.{sent}
use Rattle.bgp_peer.specs.SessionInputs.{Event, Octet, Terms, expected_of, input_of, item_at, kind_of, open_input, session, update_input}
use Rattle.net_prefix.specs.declared.prefix.Prefix.{Prefix}
use Rattle.rib_out.specs.Held.{HeldRoute, all_asked, asked_at, held_at}
use Rattle.rib_out.proofs.HeldTables.{asked_at-all_asked}
use Rattle.routing.specs.Linked.{adj_out_after}
use Rattle.runs.specs.Held.{held, told_in}
use Rattle.runs.specs.Refreshes.{answers, asked}

-- What a slot's peer has asked for again, as one thing after another happens to it.

-- an input by which all routes are asked for again
abbrev is_refresh : Input → Bool
is_refresh (RouteRefresh asks) = asks
is_refresh input = false

refreshed_is : (input : Input) (s : Session) → (effects_of input s).refreshed ≡ (is_established s.state && is_refresh input)
refreshed_is input s = grind (arith, common_steps)

and_false : (b : Bool) → (b && false) ≡ false
and_false true = refl
and_false false = refl

and_true : (b : Bool) → (b && true) ≡ b
and_true true = refl
and_true false = refl

no_signal : (input : Input) → is_message input ≡ false → is_refresh input ≡ false
no_signal (RouteRefresh asks) other = absurd (cc)
no_signal input other = refl

-- an input that is no message asks for nothing
pub signal_asks_nothing : (input : Input) (s : Session) → is_message input ≡ false → (effects_of input s).refreshed ≡ false
signal_asks_nothing input s other = refreshed_is input s ∙ ap (λ b. is_established s.state && b) (no_signal input other) ∙ and_false (is_established s.state)

no_open : (awaits : Bool) (terms : Terms) (body : List ℕ) (fault : Option OpenFault) → is_refresh (cond awaits (open_input terms body fault) UnexpectedOpen) ≡ false
no_open true terms body None = refl
no_open true terms body (Some fault) = refl
no_open false terms body fault = refl

no_update : (up : Bool) (fault : Option UpdateFault) → is_refresh (cond up (update_input fault) Update) ≡ false
no_update true None = refl
no_update true (Some fault) = refl
no_update false fault = refl

-- an item of the stream does where the session table says so
item_refreshes : (state : State) (terms : Terms) (item : Item) → asks_again state item ≡ (is_established state && is_refresh (input_of state terms item))
item_refreshes state terms (FaultyHeader fault) = sym (and_false (is_established state))
item_refreshes state terms (WholeMessage OpenType body) =
    sym (ap (λ b. is_established state && b) (no_open (awaits_open state) terms body (open_fault body (expected_of terms))) ∙ and_false (is_established state))
item_refreshes state terms (WholeMessage UpdateType body) =
    sym (ap (λ b. is_established state && b) (no_update (is_established state) (update_fault (kind_of terms) body)) ∙ and_false (is_established state))
item_refreshes state terms (WholeMessage NotificationType body) = sym (and_false (is_established state))
item_refreshes state terms (WholeMessage KeepaliveType body) = sym (and_false (is_established state))
item_refreshes state terms (WholeMessage RouteRefreshType body) = refl

pub item_asks : (h : List Event) (octet : ℕ) (terms : Terms) (item : Item) → item_at h octet ≡ Some item
    → refreshes h (Octet octet) ≡ (effects_of (input_of (session h).state terms item) (session h)).refreshed
item_asks h octet terms item is =
    ap (asks_again_if (session h).state) is ∙ item_refreshes (session h).state terms item ∙ sym (refreshed_is (input_of (session h).state terms item) (session h))

-- outside Established nothing is asked for
pub not_asked : (h : List Event) (p : Prefix) → is_established (session h).state ≡ false → asked h p ≡ false
not_asked [] p other = refl
not_asked (e ∷ h) p other = rw other refl

kept_by : (is : Bool) (before : Bool) → (is ≡ false → before ≡ false) → (is && (before && true)) ≡ before
kept_by true before none = and_true before
kept_by false before none = sym (none refl)

-- what leaves the session, asks for nothing and tells of nothing leaves what was asked for
pub asked_stays : (h : List Event) (e : Event) (p : Prefix) → session (e ∷ h) ≡ session h → refreshes h e ≡ false → answers e p ≡ false → asked (e ∷ h) p ≡ asked h p
asked_stays h e p same asks quiet =
    ap (λ (s : Session). is_established s.state && cond (refreshes h e) (is_some (held h p)) (asked h p && not (answers e p))) same
    ∙ ap (λ b. is_established (session h).state && cond b (is_some (held h p)) (asked h p && not (answers e p))) asks
    ∙ ap (λ b. is_established (session h).state && (asked h p && not b)) quiet
    ∙ kept_by (is_established (session h).state) (asked h p) (not_asked h p)

-- nor does anything that comes without a session change it
pub asked_quiet : (h : List Event) (e : Event) (p : Prefix) → session (e ∷ h) ≡ session h → is_established (session h).state ≡ false → asked (e ∷ h) p ≡ asked h p
asked_quiet h e p same other = not_asked (e ∷ h) p (ap (λ (s : Session). is_established s.state) same ∙ other) ∙ sym (not_asked h p other)

again_at : (asks : Bool) (table : List (Prefix × HeldRoute)) (p : Prefix) → asked_at (cond asks (all_asked table) table) p ≡ cond asks (is_some (held_at table p)) (asked_at table p)
again_at true table p = asked_at-all_asked table p
again_at false table p = refl

none_at : (asks : Bool) (held : Option (List ℕ)) (before : Bool) → held ≡ None → before ≡ false → cond asks (is_some held) before ≡ false
none_at true held before none not_before = ap is_some none
none_at false held before none not_before = not_before

asked_by : (was is asks : Bool) (table : List (Prefix × HeldRoute)) (p : Prefix) → (was ≡ false → held_at table p ≡ None) → (was ≡ false → asked_at table p ≡ false)
    → asked_at (cond ((was && not is) || (not was && is)) [] (cond asks (all_asked table) table)) p ≡ (is && cond asks (is_some (held_at table p)) (asked_at table p))
asked_by true true asks table p none not_before = again_at asks table p
asked_by true false asks table p none not_before = refl
asked_by false true asks table p none not_before = sym (none_at asks (held_at table p) (asked_at table p) (none refl) (not_before refl))
asked_by false false asks table p none not_before = again_at asks table p ∙ none_at asks (held_at table p) (asked_at table p) (none refl) (not_before refl)

-- what the peer has asked for behind an event that is this input and tells of nothing
pub asked_moved : (now : ℕ) (h : List Event) (e : Event) (input : Input) (table : List (Prefix × HeldRoute)) (p : Prefix) → session (e ∷ h) ≡ session_after now input (session h)
    → refreshes h e ≡ (effects_of input (session h)).refreshed → answers e p ≡ false → held_at table p ≡ held h p → asked_at table p ≡ asked h p
    → asked_at (adj_out_after (effects_of input (session h)) table) p ≡ asked (e ∷ h) p
asked_moved now h e input table p next asks quiet held_is asked_is =
    let is : Bool = is_established (session_after now input (session h)).state in
    let first : asked_at (adj_out_after (effects_of input (session h)) table) p ≡ (is && cond (effects_of input (session h)).refreshed (is_some (held_at table p)) (asked_at table p)) =
    rw (left_is now input (session h), entered_is now input (session h)) (asked_by (is_established (session h).state) is (effects_of input (session h)).refreshed table p
    (λ other. held_is ∙ ap (λ b. cond b (told_in (sent h) p) None) other) (λ other. asked_is ∙ not_asked h p other)) in
    first
    ∙ ap (λ o. is && cond (effects_of input (session h)).refreshed (is_some o) (asked_at table p)) held_is
    ∙ ap (λ b. is && cond (effects_of input (session h)).refreshed (is_some (held h p)) b) asked_is
    ∙ ap (λ b. is && cond b (is_some (held h p)) (asked h p)) (sym asks)
    ∙ ap (λ b. is && cond (refreshes h e) (is_some (held h p)) b) (sym (and_true (asked h p)))
    ∙ ap (λ b. is && cond (refreshes h e) (is_some (held h p)) (asked h p && not b)) (sym quiet)
    ∙ ap (λ (s : Session). is_established s.state && cond (refreshes h e) (is_some (held h p)) (asked h p && not (answers e p))) (sym next)
