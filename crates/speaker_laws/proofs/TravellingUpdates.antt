-- What a peer is told are attributes that may travel.
use Rattle.std.proofs.Common.{◌≡◌, ◌⊎◌, ◌==◌, ℕ, Bool, true, false, cond, inl, inr, List, [], ◌∷◌, ◌++◌, Option, Some, None, MatchOption, drop, length, sym, ap, subst, ◌∙◌, append-nil}
use Rattle.std.specs.Bool.{⊤}
use Rattle.std.specs.Option.{option_and_then}
use Rattle.bgp_attr.specs.AttributeFaults.{Fault}
use Rattle.bgp_attr.specs.PathAttributes.{PathAttributes, originated}
use Rattle.bgp_attr.specs.TravellingAttributes.{AreTravelling, MayAllTravel}
use Rattle.bgp_attr.specs.declared.peer.PeerKind.{PeerKind}
use Rattle.bgp_attr.proofs.Travelling.{kept_all_travel}
use Rattle.bgp_conf.specs.Configuration.{Configuration, is_network}
use Rattle.bgp_conf.specs.declared.command.Command.{Command}
use Rattle.bgp_conf.specs.declared.command.Command.TheVariants.{AddPeer, RemovePeer, Enable, Disable, SetPolicy, DropPolicy, UseIn, UseOut, Network, NoNetwork, Reach, NoReach, Filter, NoFilter, Assert, NoAssert}
use Rattle.bgp_fsm.specs.SessionTable.{effects_of}
use Rattle.bgp_fsm.specs.StateTests.{is_established}
use Rattle.bgp_fsm.specs.TimerMoments.{has_ended}
use Rattle.bgp_fsm.specs.declared.input.Input.{Input}
use Rattle.bgp_fsm.specs.declared.input.Input.TheVariants.{Disable as Disabled, Remove as Removed, Start, Up, Fail, NoMemory, Expires}
use Rattle.bgp_fsm.specs.declared.session.Outgoing.{Outgoing}
use Rattle.bgp_fsm.specs.declared.session.Session.{Session}
use Rattle.bgp_fsm.specs.declared.state.State.{State}
use Rattle.bgp_fsm.specs.declared.timers.Timer.{Timer}
use Rattle.bgp_msg.specs.MessageSpelling.{front_prefixes, update_parts}
use Rattle.bgp_msg.specs.MessageStream.{Item, IsMessage, WholeMessage, FaultyHeader, messages, unread}
use Rattle.bgp_msg.specs.UpdateMeaning.{UpdateBody, update_fault, update_in, update_of_parts}
use Rattle.bgp_msg.specs.declared.frame.MessageType.TheVariants.{Open as OpenType, Update as UpdateType, Notification as NotificationType, Keepalive as KeepaliveType, RouteRefresh as RouteRefreshType}
use Rattle.bgp_msg.proofs.StreamPieces.{messages-nil, unread-anew, unread-nil}
use Rattle.bgp_msg.proofs.Streams.{message-then}
use Rattle.bgp_peer.specs.SentMessages.{given, sent, with_said}
use Rattle.bgp_peer.specs.SessionInputs.{Event, Terms, Configured, Signalled, Octet, Queued, Handed, Ticked, after, ending, endings, inputs_of, item_at, kind_of, moment_of, onto, session, terms_of, timers}
use Rattle.bgp_peer.specs.Slot.{kept, said}
use Rattle.bgp_peer.proofs.Rows.{said_whole}
use Rattle.decision.specs.declared.candidate.TheConstants.{LOCAL_SLOT}
use Rattle.export_rules.specs.declared.export.ExportPeer.{ExportPeer}
use Rattle.export_rules.proofs.Travelling.{export_travels}
use Rattle.net_prefix.specs.declared.prefix.Prefix.{Prefix}
use Rattle.bgp_conf.specs.PeerPolicies.{export_action}
use Rattle.routing.specs.Heard.{update_heard}
use Rattle.runs.specs.AdjRibIn.{brought, route}
use Rattle.routing.specs.Updates.{is_among, sound_update, word_if}
use Rattle.runs.specs.Agreement.{Agrees, AreOwed, IsOwed, IsOwedIn, IsThrifty, Names, route_under, tables_after}
use Rattle.routing.specs.Export.{IsExport, export_peer_of, selected_of}
use Rattle.runs.specs.Held.{held, told_by, told_from, told_in}
use Rattle.runs.specs.Queueing.{Queue, Service, Starves, Tells}
use Rattle.runs.specs.Runs.{Call, Run, Up_call, Fail_call, Bytes_call, Starved_call, Tick_call, Command_call, Take_call, Cache_up_call, Cache_fail_call, Cache_bytes_call, Cache_starved_call, Cache_take_call, called, commanded, configuration_of, history, queued_on, served_by, turn}
use Rattle.runs.specs.SpeakerState.{SpeakerState}
use Rattle.routing.specs.Tables.{network_route}
use Rattle.runs.specs.declared.config.Config.{Config}
use Rattle.runs.proofs.SentPrefixes.{said_tells_nothing, told_in-append, told_in-nil}

-- ---- the routes that peers announce

abbrev TravelIn : Option PathAttributes → Type 0
TravelIn found = MatchOption found ⊤ (λ attrs. MayAllTravel attrs.unknown)

abbrev UpdateTravels : Option UpdateBody → Type 0
UpdateTravels found = MatchOption found ⊤ (λ update. MayAllTravel update.attrs.unknown)

travel_if : (b : Bool) (found other : Option PathAttributes) → TravelIn found → TravelIn other → TravelIn (cond b found other)
travel_if true found other one two = one
travel_if false found other one two = two

parts_travel : (kind : PeerKind) (parts : Option (List ℕ × List ℕ × List ℕ)) → MayAllTravel (update_of_parts kind parts).attrs.unknown
parts_travel kind None = kept_all_travel kind []
parts_travel kind (Some parts) = kept_all_travel kind parts.1

body_travels : (kind : PeerKind) (body : List ℕ) → MayAllTravel (update_in kind body).attrs.unknown
unfolding update_in
body_travels kind body = parts_travel kind (update_parts body)

sound_travels : (kind : PeerKind) (body : List ℕ) (fault : Option Fault) → UpdateTravels (sound_update kind body fault)
sound_travels kind body None = body_travels kind body
sound_travels kind body (Some fault) = tt

sound_if : (b : Bool) (found : Option UpdateBody) → UpdateTravels found → UpdateTravels (cond b found None)
sound_if true found travels = travels
sound_if false found travels = tt

heard_travels : (state : State) (terms : Terms) (item : Item) → UpdateTravels (update_heard state terms item)
heard_travels state terms (FaultyHeader fault) = tt
heard_travels state terms (WholeMessage OpenType body) = tt
heard_travels state terms (WholeMessage UpdateType body) =
    sound_if (is_established state) (sound_update (kind_of terms) body (update_fault (kind_of terms) body)) (sound_travels (kind_of terms) body (update_fault (kind_of terms) body))
heard_travels state terms (WholeMessage NotificationType body) = tt
heard_travels state terms (WholeMessage KeepaliveType body) = tt
heard_travels state terms (WholeMessage RouteRefreshType body) = tt

item_travels : (state : State) (terms : Terms) (item : Option Item) → UpdateTravels (option_and_then (update_heard state terms) item)
item_travels state terms None = tt
item_travels state terms (Some item) = heard_travels state terms item

brought_travels : (h : List Event) (e : Event) → UpdateTravels (brought h e)
brought_travels h (Configured terms times) = tt
brought_travels h (Signalled input) = tt
brought_travels h (Octet octet) = item_travels (session h).state (terms_of h) (item_at h octet)
brought_travels h (Queued update) = tt
brought_travels h (Handed octets) = tt
brought_travels h (Ticked now) = tt

word_travels : (update : Option UpdateBody) (prefix : Prefix) (before : Option PathAttributes) → UpdateTravels update → TravelIn before → TravelIn (word_if update prefix before)
word_travels None prefix before travels was = was
word_travels (Some update) prefix before travels was =
    travel_if (is_among prefix update.announced) (Some update.attrs) (cond (is_among prefix update.withdrawn) None before) travels (travel_if (is_among prefix update.withdrawn) None before tt was)

route_travels : (h : List Event) (prefix : Prefix) → TravelIn (route h prefix)
route_travels [] prefix = tt
route_travels (e ∷ h) prefix =
    travel_if (is_established (session (e ∷ h)).state) (word_if (brought h e) prefix (route h prefix)) None (word_travels (brought h e) prefix (route h prefix) (brought_travels h e) (route_travels h prefix)) tt

network_if : (b : Bool) → TravelIn (cond b (Some originated) None)
network_if true = tt
network_if false = tt

under_travels : (conf : Configuration) (histories : ℕ → List Event) (s : ℕ) (prefix : Prefix) → TravelIn (route_under conf histories s prefix)
under_travels conf histories s prefix =
    travel_if (s == LOCAL_SLOT) (network_route conf prefix) (route (histories s) prefix) (network_if (is_network conf prefix)) (route_travels (histories s) prefix)

travels_at : (found : Option PathAttributes) (attrs : PathAttributes) → found ≡ Some attrs → TravelIn found → MayAllTravel attrs.unknown
travels_at found attrs is travels = subst TravelIn is travels

-- what is exported of a best route
pub exports_travel : (config : Config) (r : Run) (peer : ExportPeer) (prefix : Prefix) (octets : List ℕ) → IsExport (tables_after config r) peer prefix (Some octets) → AreTravelling octets
exports_travel config r peer prefix octets (inl one) =
    let conf : Configuration = configuration_of config r in
    export_travels one.0 one.1 peer (export_action conf peer.slot (selected_of conf.own prefix one.0 one.1)) octets
    (travels_at (route_under conf (λ t. history config t r) one.0.slot prefix) one.1 one.3 (under_travels conf (λ t. history config t r) one.0.slot prefix)) (sym one.4)
exports_travel config r peer prefix octets (inr none) = absurd (let never = none.1 in cc)

-- ---- what is queued adds nothing else

abbrev AddsTravelling : List ℕ → Type 0
AddsTravelling more =
    (unread more ≡ []) × ((before : Option (List ℕ)) (p : Prefix) (octets : List ℕ) → told_from before (messages more) p ≡ Some octets → (before ≡ Some octets) ⊎ AreTravelling octets)

abbrev IsToldBy : List ℕ → Prefix → Option (List ℕ × List ℕ × List ℕ) → Type 0
IsToldBy update p parts = (before : Option (List ℕ)) → told_from before (messages update) p ≡ told_by parts p before

abbrev NamedTravels : List ℕ → Prefix → Type 0
NamedTravels update p = Names update p → (octets : List ℕ) → told_in update p ≡ Some octets → AreTravelling octets

added_if : (announced withdrawn : Bool) (update attributes : List ℕ) (p : Prefix) (before : Option (List ℕ)) (octets : List ℕ)
    → ((b : Option (List ℕ)) → told_from b (messages update) p ≡ cond announced (Some attributes) (cond withdrawn None b)) → NamedTravels update p
    → cond announced (Some attributes) (cond withdrawn None before) ≡ Some octets → (before ≡ Some octets) ⊎ AreTravelling octets
added_if true withdrawn update attributes p before octets tells named is = inr (named (λ b. tells b ∙ sym (tells None)) octets (tells None ∙ is))
added_if false true update attributes p before octets tells named is = absurd cc
added_if false false update attributes p before octets tells named is = inl is

added_by : (parts : Option (List ℕ × List ℕ × List ℕ)) (update : List ℕ) (p : Prefix) (before : Option (List ℕ)) (octets : List ℕ) → IsToldBy update p parts → NamedTravels update p
    → told_by parts p before ≡ Some octets → (before ≡ Some octets) ⊎ AreTravelling octets
added_by None update p before octets tells named is = inl is
added_by (Some parts) update p before octets tells named is =
    added_if (is_among p (front_prefixes parts.2).0) (is_among p (front_prefixes parts.0).0) update parts.1 p before octets tells named is

one_message : (update body : List ℕ) → IsMessage update UpdateType body → (messages update ≡ WholeMessage UpdateType body ∷ []) × (unread update ≡ [])
one_message update body is =
    let next = message-then update [] UpdateType body is in (
      ap messages (sym (append-nil update)) ∙ next.0 ∙ ap (λ items. WholeMessage UpdateType body ∷ items) messages-nil,
      ap unread (sym (append-nil update)) ∙ next.1 ∙ unread-nil,
    )

pub owed_adds : (config : Config) (r : Run) (s : ℕ) (update : List ℕ) → IsOwedIn config r s update → AddsTravelling update
owed_adds config r s update owed =
    let one = one_message update owed.is_update.0 owed.is_update.1 in
    let tells : (p : Prefix) → IsToldBy update p (update_parts owed.is_update.0) = λ p before. ap (λ items. told_from before items p) one.0 in
    let peer : ExportPeer = export_peer_of (configuration_of config r) s owed.peer in
    let named : (p : Prefix) → NamedTravels update p = λ p names octets is.
    exports_travel config r peer p octets (subst (λ (export : Option (List ℕ)). IsExport (tables_after config r) peer p export) is (owed.each p names).is_export) in
    (one.1, λ before p octets is. added_by (update_parts owed.is_update.0) update p before octets (tells p) (named p) (sym (tells p before) ∙ is))

pub owed_travels : (config : Config) (r : Run) (s : ℕ) (update : List ℕ) → IsOwedIn config r s update
    → (before : Option (List ℕ)) (p : Prefix) (octets : List ℕ) → told_from before (messages update) p ≡ Some octets → (before ≡ Some octets) ⊎ AreTravelling octets
owed_travels config r s update owed = (owed_adds config r s update owed).1

-- ---- and so does nothing that is sent

record TellsTravelling (octets : List ℕ) : Type 0 where
  whole : unread octets ≡ []
  each : (p : Prefix) (attributes : List ℕ) → told_in octets p ≡ Some attributes → AreTravelling attributes

none_told : TellsTravelling []
none_told = record { whole = unread-nil; each = λ p attributes is. absurd (let never = sym (told_in-nil p) ∙ is in cc) }

either_travels : (octets attributes : List ℕ) (p : Prefix) → TellsTravelling octets → (told_in octets p ≡ Some attributes) ⊎ AreTravelling attributes → AreTravelling attributes
either_travels octets attributes p t (inl before) = t.each p attributes before
either_travels octets attributes p t (inr travels) = travels

told_more : (octets more : List ℕ) → TellsTravelling octets → AddsTravelling more → TellsTravelling (octets ++ more)
told_more octets more t adds =
    record {
      whole = unread-anew octets more t.whole ∙ adds.0;
      each = λ p attributes is. either_travels octets attributes p t (adds.1 (told_in octets p) p attributes (sym (told_in-append octets more p t.whole) ∙ is));
    }

said_adds : (message : Option Outgoing) (ring : List ℕ) → AddsTravelling (said message ring)
said_adds message ring = (said_whole message ring, λ before p octets is. inl (sym (said_tells_nothing message ring before p) ∙ is))

rows_add : (now : ℕ) (inputs : List Input) (s : Session) (given sent : List ℕ) → TellsTravelling sent → TellsTravelling (with_said now inputs s given sent)
rows_add now [] s given sent t = t
rows_add now (input ∷ inputs) s given sent t =
    told_more (with_said now inputs s given sent) (said (effects_of input (after now inputs s)).message (drop (length given) (with_said now inputs s given sent)))
    (rows_add now inputs s given sent t) (said_adds (effects_of input (after now inputs s)).message (drop (length given) (with_said now inputs s given sent)))

kept_told : (input : Input) (octets : List ℕ) → TellsTravelling octets → TellsTravelling (kept input octets)
kept_told Up octets t = none_told
kept_told Fail octets t = none_told
kept_told input octets t = t

-- each UPDATE that is queued in a history adds nothing else
abbrev AllAdd : List Event → Type 0
AllAdd [] = ⊤
AllAdd (Configured terms times ∷ h) = AllAdd h
AllAdd (Signalled input ∷ h) = AllAdd h
AllAdd (Octet octet ∷ h) = AllAdd h
AllAdd (Queued update ∷ h) = AddsTravelling update × AllAdd h
AllAdd (Handed octets ∷ h) = AllAdd h
AllAdd (Ticked now ∷ h) = AllAdd h

sent_travels : (h : List Event) → AllAdd h → TellsTravelling (sent h)
sent_travels [] all = none_told
sent_travels (Configured terms times ∷ h) all = rows_add (moment_of (Configured terms times ∷ h)) (inputs_of h (Configured terms times)) (session h) (given (Configured terms times ∷ h)) [] none_told
sent_travels (Signalled input ∷ h) all =
    rows_add (moment_of (Signalled input ∷ h)) (inputs_of h (Signalled input)) (session h) (given (Signalled input ∷ h)) (kept input (sent h)) (kept_told input (sent h) (sent_travels h all))
sent_travels (Octet octet ∷ h) all = rows_add (moment_of (Octet octet ∷ h)) (inputs_of h (Octet octet)) (session h) (given (Octet octet ∷ h)) (sent h) (sent_travels h all)
sent_travels (Queued update ∷ h) all =
    rows_add (moment_of (Queued update ∷ h)) (inputs_of h (Queued update)) (session h) (given (Queued update ∷ h)) (sent h ++ update) (told_more (sent h) update (sent_travels h all.1) all.0)
sent_travels (Handed octets ∷ h) all = rows_add (moment_of (Handed octets ∷ h)) (inputs_of h (Handed octets)) (session h) (given (Handed octets ∷ h)) (sent h) (sent_travels h all)
sent_travels (Ticked now ∷ h) all = rows_add (moment_of (Ticked now ∷ h)) (inputs_of h (Ticked now)) (session h) (given (Ticked now ∷ h)) (sent h) (sent_travels h all)

-- ---- a history of a run

add_if : (b : Bool) (h g : List Event) → AllAdd h → AllAdd g → AllAdd (cond b h g)
add_if true h g one two = one
add_if false h g one two = two

onto_adds : (octets : List ℕ) (h : List Event) → AllAdd h → AllAdd (onto octets h)
onto_adds [] h all = all
onto_adds (octet ∷ octets) h all = onto_adds octets (Octet octet ∷ h) all

endings_add : (timers : List Timer) (now : ℕ) (h : List Event) → AllAdd h → AllAdd (endings timers now h)
endings_add [] now h all = all
endings_add (timer ∷ timers) now h all = endings_add timers now (ending timer now h) (add_if (has_ended timer now (session h).timers) (Signalled (Expires timer) ∷ h) h all all)

commanded_adds : (config : Config) (s : ℕ) (command : Command) (h : List Event) → AllAdd h → AllAdd (commanded config s command h)
commanded_adds config s (AddPeer slot peer) h all = add_if (s == slot) _ h all all
commanded_adds config s (RemovePeer slot) h all = add_if (s == slot) (Signalled Removed ∷ h) h all all
commanded_adds config s (Enable slot) h all = add_if (s == slot) (Signalled Start ∷ h) h all all
commanded_adds config s (Disable slot) h all = add_if (s == slot) (Signalled Disabled ∷ h) h all all
commanded_adds config s (SetPolicy name rules) h all = all
commanded_adds config s (DropPolicy name) h all = all
commanded_adds config s (UseIn slot name) h all = all
commanded_adds config s (UseOut slot name) h all = all
commanded_adds config s (Network prefix) h all = all
commanded_adds config s (NoNetwork prefix) h all = all
commanded_adds config s (Reach prefix cost) h all = all
commanded_adds config s (NoReach prefix) h all = all
commanded_adds config s (Filter prefix asn) h all = all
commanded_adds config s (NoFilter prefix asn) h all = all
commanded_adds config s (Assert prefix max_len asn) h all = all
commanded_adds config s (NoAssert prefix max_len asn) h all = all

called_adds : (config : Config) (s : ℕ) (call : Call) (h : List Event) → AllAdd h → AllAdd (called config s call h)
called_adds config s (Up_call slot) h all = add_if (s == slot) (Signalled Up ∷ h) h all all
called_adds config s (Fail_call slot) h all = add_if (s == slot) (Signalled Fail ∷ h) h all all
called_adds config s (Bytes_call slot octets) h all = add_if (s == slot) (onto octets h) h (onto_adds octets h all) all
called_adds config s (Starved_call slot before octet behind) h all =
    add_if (s == slot) (onto behind (Signalled NoMemory ∷ onto before h)) h (onto_adds behind (Signalled NoMemory ∷ onto before h) (onto_adds before h all)) all
called_adds config s (Tick_call now) h all = endings_add timers now (Ticked now ∷ h) all
called_adds config s (Command_call command) h all = commanded_adds config s command h all
called_adds config s (Take_call slot octets) h all = add_if (s == slot) (Handed octets ∷ h) h all all
called_adds config s Cache_up_call h all = all
called_adds config s Cache_fail_call h all = all
called_adds config s (Cache_bytes_call octets) h all = all
called_adds config s (Cache_starved_call before octet behind) h all = all
called_adds config s (Cache_take_call octets) h all = all

service_adds : (config : Config) (r : Run) (s : ℕ) (service : Service) (h : List Event) → IsOwed config r s service → AllAdd h → AllAdd (served_by service ∷ h)
service_adds config r s (Tells update) h owed all = (owed_adds config r s update owed, all)
service_adds config r s Starves h owed all = all

queue_adds : (config : Config) (call : Call) (r : Run) (s : ℕ) (queue : Queue) (h : List Event) → AreOwed config call r queue → AllAdd h → AllAdd (queued_on s queue h)
queue_adds config call r s [] h owed all = all
queue_adds config call r s (now ∷ queue) h owed all =
    let before : AllAdd (queued_on s queue h) = queue_adds config call r s queue h owed.1 all in
    add_if (s == now.0) (served_by now.1 ∷ queued_on s queue h) (queued_on s queue h) (service_adds config (turn call queue ∷ r) now.0 now.1 (queued_on s queue h) owed.0 before) before

run_adds : (config : Config) (r : Run) (s : ℕ) → IsThrifty config r → AllAdd (history config s r)
run_adds config [] s thrifty = tt
run_adds config (now ∷ r) s thrifty = queue_adds config now.call r s now.queued (called config s now.call (history config s r)) thrifty.1 (called_adds config s now.call (history config s r) (run_adds config r s thrifty.2))

held_if : (b : Bool) (octets attributes : List ℕ) (p : Prefix) → TellsTravelling octets → cond b (told_in octets p) None ≡ Some attributes → AreTravelling attributes
held_if true octets attributes p t is = t.each p attributes is
held_if false octets attributes p t is = absurd cc

-- what a peer holds
pub held_travels : (config : Config) (r : Run) (s : SpeakerState) (slot : ℕ) (prefix : Prefix) (octets : List ℕ) → Agrees config r s → held (history config slot r) prefix ≡ Some octets → AreTravelling octets
held_travels config r s slot prefix octets agrees is =
    let h : List Event = history config slot r in
    held_if (is_established (session h).state) (sent h) octets prefix (sent_travels h (run_adds config r slot agrees.thrifty)) is
