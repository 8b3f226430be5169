use Rattle.std.proofs.Common.{◌≡◌, ◌≢◌, ◌↔◌, ◌&&◌, ◌||◌, ◌⊎◌, ℕ, Bool, true, false, not, List, [], ◌∷◌, Option, Some, None, is_some, cond, refl, sym, ap, ◌∙◌, subst, inl, inr, arith}
use Rattle.std.specs.Option.{IsSome}
use Rattle.std.proofs.lemmas.Grind.{common_steps}
use Rattle.std.specs.List.{list_any}
use Rattle.bgp_conf.specs.Configuration.{peer_at}
use Rattle.bgp_conf.specs.declared.conf.ConfiguredPeer.{ConfiguredPeer}
use Rattle.bgp_fsm.specs.SessionTable.{session_after, effects_of}
use Rattle.bgp_fsm.specs.StateTests.{is_established}
use Rattle.bgp_fsm.specs.declared.input.Input.{Input}
use Rattle.bgp_fsm.specs.declared.session.Session.{Session}
use Rattle.bgp_msg.specs.MessageSpelling.{front_prefixes, update_parts}
use Rattle.bgp_msg.specs.MessageStream.{Item, WholeMessage, FaultyHeader, messages}
use Rattle.bgp_msg.specs.declared.frame.MessageType.TheVariants.{Open, Update, Notification, Keepalive, RouteRefresh}
use Rattle.bgp_peer.proofs.Agreeing.{item_octet}
use Rattle.bgp_peer.specs.Refreshes.{asks_again_if, refreshes}
use Rattle.bgp_peer.specs.SessionInputs.{Event, Configured, Signalled, Octet, Queued, Handed, Ticked, input_of, item_at, moment_of, session, terms_of}
use Rattle.net_prefix.specs.declared.prefix.Prefix.{Prefix}
use Rattle.rib_out.proofs.HeldTables.{held_if_asked}
use Rattle.bgp_attr.specs.PathAttributes.{PathAttributes}
use Rattle.routing.specs.Linked.{Linked}
use Rattle.routing.specs.Tables.{link_at}
use Rattle.routing.specs.Updates.{is_among}
use Rattle.runs.proofs.Refreshing.{asked_stays, item_asks, not_asked}
use Rattle.runs.proofs.SlotStates.{vacant_from}
use Rattle.runs.specs.Agreement.{Agrees, IsOwedIn, Names, SlotAgrees}
use Rattle.runs.specs.Held.{held, told, told_by, told_from, told_in}
use Rattle.runs.specs.Refreshes.{answers, asked, named, named_by, names_in}
use Rattle.runs.specs.Runs.{Run, history}
use Rattle.runs.specs.SpeakerState.{SpeakerState}
use Rattle.runs.specs.declared.config.Config.{Config}

-- a ROUTE-REFRESH leaves the session Established
refreshed_stays : (now : ℕ) (input : Input) (s : Session) → (effects_of input s).refreshed ≡ true → is_established (session_after now input s).state ≡ true
refreshed_stays now input s is = grind (arith, common_steps)

asked_then : (h : List Event) (e : Event) (p : Prefix) → is_established (session (e ∷ h)).state ≡ true → refreshes h e ≡ true → asked (e ∷ h) p ≡ is_some (held h p)
asked_then h e p up is = rw (up, is) refl

refresh_octet : (h : List Event) (octet : ℕ) (p : Prefix) (found : Option Item) → item_at h octet ≡ found → refreshes h (Octet octet) ≡ true → asked (Octet octet ∷ h) p ≡ is_some (held h p)
refresh_octet h octet p None at is = let never = sym (ap (asks_again_if (session h).state) at) ∙ is in absurd (cc)
refresh_octet h octet p (Some item) at is =
    asked_then h (Octet octet) p
    (ap (λ (s : Session). is_established s.state) (item_octet h octet item at).0
    ∙ refreshed_stays (moment_of h) (input_of (session h).state (terms_of h) item) (session h) (sym (item_asks h octet (terms_of h) item at) ∙ is)) is

-- a refresh asks for what is held
pub refresh_asks : (h : List Event) (e : Event) (p : Prefix) → refreshes h e ≡ true → asked (e ∷ h) p ≡ is_some (held h p)
refresh_asks h (Configured terms times) p is = absurd (cc)
refresh_asks h (Signalled input) p is = absurd (cc)
refresh_asks h (Octet octet) p is = refresh_octet h octet p (item_at h octet) refl is
refresh_asks h (Queued update) p is = absurd (cc)
refresh_asks h (Handed octets) p is = absurd (cc)
refresh_asks h (Ticked now) p is = absurd (cc)

and_never : (a b : Bool) → (a && (b && false)) ≡ false
and_never true true = refl
and_never true false = refl
and_never false b = refl

-- an UPDATE answers for what it names, and for nothing else
pub named_answered : (h : List Event) (update : List ℕ) (p : Prefix) → names_in update p ≡ true → asked (Queued update ∷ h) p ≡ false
named_answered h update p is =
    ap (λ b. is_established (session h).state && (asked h p && not b)) is ∙ and_never (is_established (session h).state) (asked h p)

pub others_stay : (h : List Event) (update : List ℕ) (p : Prefix) → names_in update p ≡ false → asked (Queued update ∷ h) p ≡ asked h p
others_stay h update p other = asked_stays h (Queued update) p refl refl other

and_false : (a b : Bool) → b ≡ false → (a && b) ≡ false
and_false true b is = is
and_false false b is = refl

cond_same : (b x y : Bool) → x ≡ false → y ≡ false → cond b x y ≡ false
cond_same true x y one two = one
cond_same false x y one two = two

none_held : (h : List Event) (p : Prefix) → is_established (session h).state ≡ false → held h p ≡ None
none_held h p other = rw other refl

-- entering Established nothing is asked for
pub none_asked : (h : List Event) (e : Event) (p : Prefix) → is_established (session h).state ≡ false → asked (e ∷ h) p ≡ false
none_asked h e p other =
    and_false (is_established (session (e ∷ h)).state) _ (cond_same (refreshes h e) _ _ (ap is_some (none_held h p other)) (ap (λ b. b && not (answers e p)) (not_asked h p other)))

-- ---- naming, by what is told

either : (a b : Bool) → (a || b) ≡ true → (a ≡ true) ⊎ (b ≡ true)
either true b is = inl refl
either false b is = inr is

named_tells : (announced withdrawn : Bool) (attributes : List ℕ) (before other : Option (List ℕ)) → (announced || withdrawn) ≡ true
    → cond announced (Some attributes) (cond withdrawn None before) ≡ cond announced (Some attributes) (cond withdrawn None other)
named_tells true withdrawn attributes before other is = refl
named_tells false true attributes before other is = refl
named_tells false false attributes before other is = absurd (cc)

unnamed_tells : (announced withdrawn : Bool) (attributes : List ℕ) (before : Option (List ℕ)) → (announced || withdrawn) ≡ false
    → cond announced (Some attributes) (cond withdrawn None before) ≡ before
unnamed_tells true withdrawn attributes before other = absurd (cc)
unnamed_tells false true attributes before other = absurd (cc)
unnamed_tells false false attributes before other = refl

parts_named : (parts : Option (List ℕ × List ℕ × List ℕ)) (p : Prefix) (before other : Option (List ℕ)) → named_by parts p ≡ true → told_by parts p before ≡ told_by parts p other
parts_named None p before other is = absurd (cc)
parts_named (Some parts) p before other is = named_tells (is_among p (front_prefixes parts.2).0) (is_among p (front_prefixes parts.0).0) parts.1 before other is

parts_unnamed : (parts : Option (List ℕ × List ℕ × List ℕ)) (p : Prefix) (before : Option (List ℕ)) → named_by parts p ≡ false → told_by parts p before ≡ before
parts_unnamed None p before other = refl
parts_unnamed (Some parts) p before other = unnamed_tells (is_among p (front_prefixes parts.2).0) (is_among p (front_prefixes parts.0).0) parts.1 before other

item_named : (item : Item) (p : Prefix) (before other : Option (List ℕ)) → named item p ≡ true → told item p before ≡ told item p other
item_named (FaultyHeader fault) p before other is = absurd (cc)
item_named (WholeMessage Open body) p before other is = absurd (cc)
item_named (WholeMessage Update body) p before other is = parts_named (update_parts body) p before other is
item_named (WholeMessage Notification body) p before other is = absurd (cc)
item_named (WholeMessage Keepalive body) p before other is = absurd (cc)
item_named (WholeMessage RouteRefresh body) p before other is = absurd (cc)

item_unnamed : (item : Item) (p : Prefix) (before : Option (List ℕ)) → named item p ≡ false → told item p before ≡ before
item_unnamed (FaultyHeader fault) p before other = refl
item_unnamed (WholeMessage Open body) p before other = refl
item_unnamed (WholeMessage Update body) p before other = parts_unnamed (update_parts body) p before other
item_unnamed (WholeMessage Notification body) p before other = refl
item_unnamed (WholeMessage Keepalive body) p before other = refl
item_unnamed (WholeMessage RouteRefresh body) p before other = refl

items_named : (items : List Item) (p : Prefix) (before other : Option (List ℕ)) → list_any (λ item. named item p) items ≡ true → told_from before items p ≡ told_from other items p
items_named [] p before other is = absurd (cc)
items_named (item ∷ items) p before other is = elim (either (named item p) (list_any (λ x. named x p) items) is) [
  | inl here ↦ ap (λ o. told_from o items p) (item_named item p before other here)
  | inr later ↦ items_named items p (told item p before) (told item p other) later
]

neither : (a b : Bool) → (a || b) ≡ false → (a ≡ false) × (b ≡ false)
neither true b is = absurd (cc)
neither false b is = (refl, is)

items_unnamed : (items : List Item) (p : Prefix) (before : Option (List ℕ)) → list_any (λ item. named item p) items ≡ false → told_from before items p ≡ before
items_unnamed [] p before other = refl
items_unnamed (item ∷ items) p before other =
    let parts = neither (named item p) (list_any (λ x. named x p) items) other in
    items_unnamed items p (told item p before) parts.1 ∙ item_unnamed item p before parts.0

-- what names a prefix tells of it whatever was told before
pub names_are : (octets : List ℕ) (p : Prefix) → names_in octets p ≡ true ↔ Names octets p
names_are octets p = (λ is before. items_named (messages octets) p before None is, λ names. by_test (names_in octets p) refl names)
  where
    by_test : (b : Bool) → names_in octets p ≡ b → Names octets p → b ≡ true
    by_test true is names = refl
    by_test false other names =
        let never : Some [] ≡ None = sym (items_unnamed (messages octets) p (Some []) other) ∙ names (Some []) ∙ items_unnamed (messages octets) p None other in absurd (cc)

-- ---- of a run

asked_slot : (config : Config) (found : Option ConfiguredPeer) (linked : Option Linked) (routes : Prefix → Option PathAttributes) (h : List Event) (p : Prefix) → SlotAgrees config found linked routes h → asked h p ≡ true → IsSome (held h p)
asked_slot config found None routes h p a is =
    let down = not_asked h p (ap is_established (a.vacant (vacant_from h (sym a.there))).0) in absurd (cc)
asked_slot config found (Some l) routes h p a is =
    let link = a.link l refl in
    subst (λ o. IsSome o) (link.held p) (held_if_asked l.adj_out p (link.asked p ∙ is))

-- what is asked for is held
pub asked_held : (config : Config) (r : Run) (s : SpeakerState) (slot : ℕ) (p : Prefix) → Agrees config r s → asked (history config slot r) p ≡ true → IsSome (held (history config slot r) p)
asked_held config r s slot p a is = asked_slot config (peer_at s.conf slot) (link_at s.links slot) _ (history config slot r) p (a.holds.slots slot) is

-- what repeats what is held answers a refresh
pub repeats_asked : (config : Config) (r : Run) (slot : ℕ) (update : List ℕ) (p : Prefix) → IsOwedIn config r slot update → Names update p → held (history config slot r) p ≡ told_in update p → asked (history config slot r) p ≡ true
repeats_asked config r slot update p owed names same = elim (owed.each p names).news [
  | inl other ↦ absurd (other same)
  | inr is ↦ is
]
