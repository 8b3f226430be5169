use Rattle.std.proofs.Common.{◌≡◌, ◌≤◌, ◌<◌, ◌+◌, ◌&&◌, ◌||◌, ◌⊎◌, ℕ, zero, suc, Bool, true, false, not, List, [], ◌∷◌, ◌++◌, length, Option, Some, None, is_some, cond, refl, sym, ap, ◌∙◌, subst, inl, inr, arith}
use Rattle.std.specs.Option.{IsSome, option_and_then}
use Rattle.std.proofs.lemmas.Bool.{cases_eq}
use Rattle.std.proofs.lemmas.Grind.{common_steps}
use Rattle.bgp_attr.specs.PathAttributes.{PathAttributes}
use Rattle.bgp_attr.specs.AttributeFaults.{Fault}
use Rattle.bgp_attr.specs.declared.peer.PeerKind.{PeerKind}
use Rattle.bgp_fsm.proofs.TableLaws.{left_is}
use Rattle.bgp_fsm.specs.SessionTable.{effects_of, session_after}
use Rattle.bgp_fsm.specs.StateTests.{is_established}
use Rattle.bgp_fsm.specs.declared.input.Input.{Input}
use Rattle.bgp_fsm.specs.declared.input.Input.TheVariants.{Update as UpdateInput}
use Rattle.bgp_fsm.specs.declared.session.Session.{Session}
use Rattle.bgp_msg.specs.MessageStream.{Item, WholeMessage, FaultyHeader}
use Rattle.bgp_msg.specs.UpdateMeaning.{UpdateBody, update_fault}
use Rattle.bgp_msg.specs.declared.frame.MessageType.TheVariants.{Open, Update, Notification, Keepalive, RouteRefresh}
use Rattle.bgp_peer.proofs.Agreeing.{item_octet}
use Rattle.bgp_peer.specs.SessionInputs.{Event, Terms, Octet, Signalled, input_of, item_at, kind_of, moment_of, onto, session, terms_of, update_input}
use Rattle.net_prefix.specs.declared.payload.Vrp.{Vrp}
use Rattle.net_prefix.specs.declared.prefix.Prefix.{Prefix}
use Rattle.origin_valid.specs.Touched.{is_touched}
use Rattle.rib_in.specs.LatestRoutes.{route_at}
use Rattle.routing.specs.Heard.{update_heard}
use Rattle.runs.specs.AdjRibIn.{brought, route}
use Rattle.routing.specs.Updates.{is_among, sound_update, word_if}
use Rattle.bgp_conf.specs.Configuration.{is_network}
use Rattle.runs.proofs.KnownPrefixes.{IsKnown, network_among}
use Rattle.runs.specs.Choices.{is_known, named_to, announced_in, announced_to, choices_by, choices_on, is_routed, routes_held}
use Rattle.routing.specs.Chosen.{announced_if, how_many, named_if, AreDifferent}
use Rattle.speaker.specs.Chosen.{Chooses}
use Rattle.runs.specs.Runs.{Run, configuration_of, history}
use Rattle.runs.specs.SpeakerState.{SpeakerState}
use Rattle.runs.specs.declared.config.Config.{Config}
use Rattle.routing.proofs.Counting.{among_all, different_as}
use Rattle.routing.proofs.NamedPrefixes.{IsOne, most_of, among_behind}

-- ---- a prefix with a route was announced
word_some : (a w : Bool) (attrs : PathAttributes) (before : Option PathAttributes) → IsSome (cond a (Some attrs) (cond w None before)) → (a ≡ true) ⊎ IsSome before
word_some true w attrs before there = inl refl
word_some false true attrs before there = absurd (cc)
word_some false false attrs before there = inr there

heard_some : (update : Option UpdateBody) (p : Prefix) (before : Option PathAttributes) → IsSome (word_if update p before) → (is_among p (announced_if update) ≡ true) ⊎ IsSome before
heard_some None p before there = inr there
heard_some (Some update) p before there = word_some (is_among p update.announced) (is_among p update.withdrawn) update.attrs before there

some_if : (b : Bool) (o : Option PathAttributes) → IsSome (cond b o None) → IsSome o
some_if true o there = there
some_if false o there = absurd (cc)

pub routed_announced : (h : List Event) (p : Prefix) → IsSome (route h p) → is_among p (announced_in h) ≡ true
routed_announced [] p there = absurd (cc)
routed_announced (e ∷ h) p there =
    elim (heard_some (brought h e) p (route h p) (some_if (is_established (session (e ∷ h)).state) (word_if (brought h e) p (route h p)) there)) [
      | inl now ↦ among_all p (announced_if (brought h e)) (announced_in h) now
      | inr before ↦ among_behind p (announced_if (brought h e)) (announced_in h) (routed_announced h p before)
    ]

pub most_routes : (h : List Event) (ps : List Prefix) → AreDifferent (λ p. IsSome (route h p)) ps → length ps ≤ routes_held h
most_routes h ps different = most_of (λ p. is_some (route h p)) (announced_in h) ps (different_as (λ p. IsSome (route h p)) (IsOne (λ p. is_some (route h p)) (announced_in h)) ps (λ p there. (there, routed_announced h p there)) different)

or_first : (a b : Bool) → a ≡ true → (a || b) ≡ true
or_first true b is = refl
or_first false b is = absurd (cc)

or_second : (a b : Bool) → b ≡ true → (a || b) ≡ true
or_second true b is = refl
or_second false b is = is

-- ---- all slots
slot_routed : (config : Config) (r : Run) (p : Prefix) (n s : ℕ) → s < n → IsSome (route (history config s r) p) → IsOne (is_routed config r n) (announced_to config r n) p
slot_routed config r p zero s low there = absurd (omega (arith, low))
slot_routed config r p (suc n) s low there =
    elim (cases_eq s n) [
      | inl same ↦
          let here = subst (λ t. IsSome (route (history config t r) p)) same there in
          (or_first (is_some (route (history config n r) p)) (is_routed config r n p) here, among_all p (announced_in (history config n r)) (announced_to config r n) (routed_announced (history config n r) p here))
      | inr other ↦
          let later = slot_routed config r p n s (omega (arith, low, other)) there in
          (or_second (is_some (route (history config n r) p)) (is_routed config r n p) later.0, among_behind p (announced_in (history config n r)) (announced_to config r n) later.1)
    ]

-- a known prefix is one of those that are counted
known_one : (config : Config) (r : Run) (p : Prefix) → IsKnown config r p → IsOne (is_known config r) (named_to config r) p
known_one config r p (inl there) =
    let one = slot_routed config r p 64 there.0 there.1 there.2 in
    (or_first (is_routed config r 64 p) (is_network (configuration_of config r) p) one.0, among_behind p (configuration_of config r).networks (announced_to config r 64) one.1)
known_one config r p (inr local) =
    (or_second (is_routed config r 64 p) (is_network (configuration_of config r) p) local, among_all p (configuration_of config r).networks (announced_to config r 64) (network_among p (configuration_of config r).networks local))

pub most_known : (config : Config) (r : Run) (ps : List Prefix) → AreDifferent (IsKnown config r) ps → length ps ≤ how_many (is_known config r) (named_to config r)
most_known config r ps different = most_of (is_known config r) (named_to config r) ps (different_as (IsKnown config r) (IsOne (is_known config r) (named_to config r)) ps (known_one config r) different)

-- of them those that a change of the payloads concerns
pub most_touched : (config : Config) (r : Run) (before after : List Vrp) (ps : List Prefix)
    → AreDifferent (λ p. (is_touched before after p ≡ true) × IsKnown config r p) ps → length ps ≤ how_many (λ p. is_known config r p && is_touched before after p) (named_to config r)
most_touched config r before after ps different =
    let holds : Prefix → Bool = λ p. is_known config r p && is_touched before after p in
    most_of holds (named_to config r) ps
    (different_as (λ p. (is_touched before after p ≡ true) × IsKnown config r p) (IsOne holds (named_to config r)) ps
    (λ p there. let one = known_one config r p there.1 in (and_both (is_known config r p) (is_touched before after p) one.0 there.0, one.1)) different)
  where
    and_both : (a b : Bool) → a ≡ true → b ≡ true → (a && b) ≡ true
    and_both true b is so = so
    and_both false b is so = absurd (cc)

-- ---- what happens to a slot
ended_few : (h : List Event) (e : Event) → is_established (session (e ∷ h)).state ≡ false → named_if (brought h e) + routes_held h ≤ choices_by h e
ended_few h e is = rw is (omega arith)

none_left : (was is : Bool) → true ≡ (was && not is) → is ≡ false
none_left true true h = absurd (cc)
none_left true false h = refl
none_left false is h = absurd (cc)

-- an input that no octet brings
pub signal_few : (slot : ℕ) (h : List Event) (input : Input) (s : Session) (old new : SpeakerState) → s ≡ session h → ((p : Prefix) → route_at old.adj_in slot p ≡ route h p)
    → Chooses slot (effects_of input s).left old new → new.chosen ≤ old.chosen + choices_by h (Signalled input)
signal_few slot h input s old new is routes chooses = by_test (effects_of input s).left refl
  where
    by_test : (left : Bool) → (effects_of input s).left ≡ left → new.chosen ≤ old.chosen + choices_by h (Signalled input)
    by_test false stays = let same = chooses.stays stays in omega (arith, same)
    by_test true left =
        let all = chooses.ends left in
        let few = most_routes h all.0 (different_as (λ p. IsSome (route_at old.adj_in slot p)) (λ p. IsSome (route h p)) all.0 (λ p there. subst (λ o. IsSome o) (routes p) there) all.1) in
        let most = all.2 in
        let ended = none_left (is_established s.state) (is_established (session_after (moment_of h) input s).state) (sym left ∙ left_is (moment_of h) input s) in
        let over = ended_few h (Signalled input) (subst (λ (x : Session). is_established (session_after (moment_of h) input x).state ≡ false) is ended) in
        omega (arith, few, most, over)

stays_up : (s : Session) → is_established s.state ≡ true → (effects_of UpdateInput s).left ≡ false
stays_up s is = grind (arith, common_steps)

sound_stays : (kind : PeerKind) (body : List ℕ) (fault : Option Fault) (update : UpdateBody) (s : Session) → is_established s.state ≡ true → sound_update kind body fault ≡ Some update → (effects_of (update_input fault) s).left ≡ false
sound_stays kind body None update s is some = stays_up s is
sound_stays kind body (Some fault) update s is some = absurd (cc)

heard_case : (kind : PeerKind) (b : Bool) (body : List ℕ) (fault : Option Fault) (update : UpdateBody) (s : Session) → is_established s.state ≡ b → cond b (sound_update kind body fault) None ≡ Some update
    → (effects_of (cond b (update_input fault) UpdateInput) s).left ≡ false
heard_case kind true body fault update s is some = sound_stays kind body fault update s is some
heard_case kind false body fault update s is some = absurd (cc)

-- a session whose UPDATE is heard stays
heard_stays : (s : Session) (terms : Terms) (item : Item) (update : UpdateBody) → update_heard s.state terms item ≡ Some update → (effects_of (input_of s.state terms item) s).left ≡ false
heard_stays s terms (FaultyHeader fault) update some = absurd (cc)
heard_stays s terms (WholeMessage Open body) update some = absurd (cc)
heard_stays s terms (WholeMessage Update body) update some = heard_case (kind_of terms) (is_established s.state) body (update_fault (kind_of terms) body) update s refl some
heard_stays s terms (WholeMessage Notification body) update some = absurd (cc)
heard_stays s terms (WholeMessage Keepalive body) update some = absurd (cc)
heard_stays s terms (WholeMessage RouteRefresh body) update some = absurd (cc)

not_so : {X : Type 0} (b : Bool) → b ≡ true → b ≡ false → X
not_so b on off = absurd (cc)

-- a message that an octet completes
pub item_few : (h : List Event) (octet : ℕ) (item : Item) (ended : List Prefix) → item_at h octet ≡ Some item
    → AreDifferent (λ p. IsSome (word_if (update_heard (session h).state (terms_of h) item) p (route h p))) ended
    → ((effects_of (input_of (session h).state (terms_of h) item) (session h)).left ≡ false → ended ≡ [])
    → named_if (update_heard (session h).state (terms_of h) item) + length ended ≤ choices_by h (Octet octet)
item_few h octet item ended some different none = by_test (effects_of (input_of (session h).state (terms_of h) item) (session h)).left refl
  where
    same : brought h (Octet octet) ≡ update_heard (session h).state (terms_of h) item
    same = ap (λ found. option_and_then (update_heard (session h).state (terms_of h)) found) some

    by_update : (found : Option UpdateBody) → update_heard (session h).state (terms_of h) item ≡ found → (effects_of (input_of (session h).state (terms_of h) item) (session h)).left ≡ true → length ended ≤ routes_held h
    by_update None is left = most_routes h ended (subst (λ (u : Option UpdateBody). AreDifferent (λ p. IsSome (word_if u p (route h p))) ended) is different)
    by_update (Some update) is left = not_so (effects_of (input_of (session h).state (terms_of h) item) (session h)).left left (heard_stays (session h) (terms_of h) item update is)

    by_test : (left : Bool) → (effects_of (input_of (session h).state (terms_of h) item) (session h)).left ≡ left → named_if (update_heard (session h).state (terms_of h) item) + length ended ≤ choices_by h (Octet octet)
    by_test false stays = let no = ap length (none stays) in let named = ap named_if same in omega (arith, no, named)
    by_test true left =
        let over = none_left (is_established (session h).state) (is_established (session_after (moment_of h) (input_of (session h).state (terms_of h) item) (session h)).state)
        (sym left ∙ left_is (moment_of h) (input_of (session h).state (terms_of h) item) (session h)) in
        let few = by_update (update_heard (session h).state (terms_of h) item) refl left in
        let all = ended_few h (Octet octet) (ap (λ (s : Session). is_established s.state) (item_octet h octet item some).0 ∙ over) in
        let named = ap named_if same in
        omega (arith, few, all, named)

-- ---- octets, one after another
pub choices_append : (a b : List ℕ) (h : List Event) → choices_on (a ++ b) h ≡ choices_on a h + choices_on b (onto a h)
choices_append [] b h = omega arith
choices_append (octet ∷ a) b h = let later = choices_append a b (Octet octet ∷ h) in omega (arith, later)

pub choices_last : (a : List ℕ) (octet : ℕ) (h : List Event) → choices_on (a ++ octet ∷ []) h ≡ choices_on a h + choices_by (onto a h) (Octet octet)
choices_last a octet h = let all = choices_append a (octet ∷ []) h in omega (arith, all)
