use Rattle.std.proofs.Common.{◌≡◌, ◌≢◌, ◌≤◌, ◌+◌, ◌==◌, ◌&&◌, ◌⊎◌, ℕ, Bool, true, false, [], Option, Some, None, cond, inl, inr, refl, ap, ◌∙◌, subst, arith}
use Rattle.std.proofs.lemmas.Bool.{cases_eq, eq-eqb}
use Rattle.std.specs.Option.{IsSome, option_map, option_and_then}
use Rattle.bgp_attr.specs.PathAttributes.{PathAttributes}
use Rattle.bgp_fsm.specs.SessionTable.{effects_of}
use Rattle.bgp_fsm.specs.declared.input.Input.{Input}
use Rattle.bgp_fsm.specs.declared.input.Input.TheVariants.{NoMemory}
use Rattle.bgp_fsm.specs.declared.state.State.TheVariants.{Established}
use Rattle.bgp_msg.specs.MessageStream.{Item}
use Rattle.bgp_msg.specs.UpdateMeaning.{UpdateBody}
use Rattle.bgp_peer.specs.SessionInputs.{Terms, input_of}
use Rattle.decision.specs.BookContents.{offer_at}
use Rattle.net_prefix.specs.declared.prefix.Prefix.{Prefix}
use Rattle.rib_in.specs.LatestRoutes.{RouteTable, route_at}
use Rattle.routing.specs.Updates.{is_among, word_if}
use Rattle.routing.specs.Heard.{IsHeard, update_heard}
use Rattle.routing.specs.Chosen.{Ends, named_if}
use Rattle.speaker.specs.Chosen.{Chooses, ChoosesHeard}
use Rattle.routing.specs.Linked.{Linked, moved}
use Rattle.speaker.specs.Moves.{KeepsKept, KeepsRest, Moves, TakesItem}
use Rattle.runs.specs.SpeakerState.{SpeakerState}
use Rattle.routing.specs.Tables.{link_at}
use Rattle.routing.proofs.Counting.{different_as}
use Rattle.speaker.proofs.KeptOffers.{moves_keep}

-- The message at the front of a slot's rest.

pub some_same : {X : Type 0} (o : Option X) (x y : X) → Some x ≡ o → o ≡ Some y → x ≡ y
some_same o x y a b = cc

pub rises_once : (a b c : ℕ) → b ≡ a → b ≤ c → a ≤ c
rises_once a b c same first = omega (arith, same, first)

pub rises_twice : (a b c d : ℕ) → b ≡ a → b ≤ c → c ≤ d → a ≤ d
rises_twice a b c d same first later = omega (arith, same, first, later)

pub rest_kept : (a b c : SpeakerState) → KeepsRest a b → KeepsRest b c → KeepsRest a c
rest_kept a b c h k = record { config = k.config ∙ h.config; moment = k.moment ∙ h.moment; conf = k.conf ∙ h.conf; cache = k.cache ∙ h.cache; payloads = k.payloads ∙ h.payloads; chosen_before = k.chosen_before ∙ h.chosen_before }

-- how often a best route was chosen for a message, its UPDATE's routes and those of a session that it ends
heard_chosen : (slot : ℕ) (update : Option UpdateBody) (left : Bool) (old mid new : SpeakerState) → IsHeard slot update old.adj_in mid.adj_in → mid.chosen ≤ old.chosen + named_if update → Chooses slot left mid new
    → ChoosesHeard slot update left old new
heard_chosen slot update true old mid new routes few chooses =
    let all = chooses.ends refl in
    let most = all.2 in
    record {
      ended = all.0;
      routed = different_as (λ p. IsSome (route_at mid.adj_in slot p)) (λ p. IsSome (word_if update p (route_at old.adj_in slot p))) all.0
          (λ p there. subst (λ o. IsSome o) (routes slot p ∙ rw (eq-eqb slot slot refl) refl) there) all.1;
      none = λ stays. absurd (cc);
      chosen = omega (arith, few, most);
    }
heard_chosen slot update false old mid new routes few chooses =
    let same = chooses.stays refl in
    record { ended = []; routed = tt; none = λ stays. refl; chosen = omega (arith, few, same) }

takes_input : (slot : ℕ) (terms : Terms) (l : Linked) (item : Item) (heard : Input) (old mid new : SpeakerState)
    → heard ≡ input_of l.peer.session.state terms item → IsHeard slot (update_heard l.peer.session.state terms item) old.adj_in mid.adj_in
    → mid.chosen ≤ old.chosen + named_if (update_heard l.peer.session.state terms item)
    → KeepsKept old mid → KeepsRest old mid → ((s : ℕ) → link_at mid.links s ≡ link_at old.links s) → link_at mid.links slot ≡ Some l → Moves slot l heard mid new
    → Chooses slot (effects_of heard l.peer.session).left mid new
    → TakesItem slot terms l (Some item) old new
takes_input slot terms l item heard old mid new is routes few kept keeps links linked moves chooses =
    let F : Input → Type 0 = λ i. Moves slot l i mid new in
    let here = subst F is moves in
    let C : Input → Type 0 = λ i. Chooses slot (effects_of i l.peer.session).left mid new in (
      λ s. here.links s ∙ ap (λ other. cond (s == slot) (Some (moved mid.moment l (input_of l.peer.session.state terms item))) other) (links s)
          ∙ ap (λ now. cond (s == slot) (Some (moved now l (input_of l.peer.session.state terms item))) (link_at old.links s)) keeps.moment,
      λ s prefix. here.routes s prefix ∙ ap (λ r. cond ((effects_of (input_of l.peer.session.state terms item) l.peer.session).left && s == slot) None r) (routes s prefix),
      λ before. moves_keep slot l (input_of l.peer.session.state terms item) mid new linked here (kept before),
      rest_kept old mid new keeps here.rest,
      heard_chosen slot (update_heard l.peer.session.state terms item) (effects_of (input_of l.peer.session.state terms item) l.peer.session).left old mid new routes few (subst C is chooses),
    )

-- an item is taken
pub takes : (slot : ℕ) (terms : Terms) (l : Linked) (found : Option Item) (heard : Input) (old mid new : SpeakerState)
    → Some heard ≡ option_map (input_of l.peer.session.state terms) found → IsHeard slot (option_and_then (update_heard l.peer.session.state terms) found) old.adj_in mid.adj_in
    → mid.chosen ≤ old.chosen + named_if (option_and_then (update_heard l.peer.session.state terms) found)
    → KeepsKept old mid → KeepsRest old mid → ((s : ℕ) → link_at mid.links s ≡ link_at old.links s) → link_at mid.links slot ≡ Some l → Moves slot l heard mid new
    → Chooses slot (effects_of heard l.peer.session).left mid new
    → TakesItem slot terms l found old new
takes slot terms l None heard old mid new is routes few kept keeps links linked moves chooses = absurd (cc)
takes slot terms l (Some item) heard old mid new is routes few kept keeps links linked moves chooses = takes_input slot terms l item heard old mid new (cc) routes few kept keeps links linked moves chooses

heard_none : (b : Bool) (r : Option PathAttributes) → cond b r r ≡ r
heard_none true r = refl
heard_none false r = refl

-- there is none yet
pub takes_none : (slot : ℕ) (terms : Terms) (l : Linked) (found : Option Item) (old new : SpeakerState)
    → None ≡ option_map (input_of l.peer.session.state terms) found
    → IsHeard slot (option_and_then (update_heard l.peer.session.state terms) found) old.adj_in new.adj_in
    → new.chosen ≤ old.chosen + named_if (option_and_then (update_heard l.peer.session.state terms) found) → old.chosen ≤ new.chosen
    → KeepsKept old new → KeepsRest old new → ((s : ℕ) → link_at new.links s ≡ link_at old.links s) → TakesItem slot terms l found old new
takes_none slot terms l (Some item) old new is routes few rises kept keeps links = absurd (cc)
takes_none slot terms l None old new is routes few rises kept keeps links = (links, λ s prefix. routes s prefix ∙ heard_none (s == slot) (route_at old.adj_in s prefix), kept, keeps, omega (arith, few, rises))

-- memory is refused to the UPDATE of an Established session: of its routes nothing is left, whatever was taken of it
pub starves : (slot : ℕ) (l : Linked) (old mid new : SpeakerState) → l.peer.session.state ≡ Established
    → ((s : ℕ) → link_at mid.links s ≡ link_at old.links s) → ((s : ℕ) (p : Prefix) → s ≢ slot → route_at mid.adj_in s p ≡ route_at old.adj_in s p)
    → ((s : ℕ) (p : Prefix) → s ≢ slot → offer_at mid.book s p ≡ offer_at old.book s p) → KeepsRest old mid → Moves slot l NoMemory mid new → Moves slot l NoMemory old new
starves slot l old mid new up links routes offers rest moves = record {
  links = λ s. moves.links s ∙ ap (λ x. cond (s == slot) (Some (moved mid.moment l NoMemory)) x) (links s)
      ∙ ap (λ now. cond (s == slot) (Some (moved now l NoMemory)) (link_at old.links s)) rest.moment;
  routes = λ s p. moves.routes s p ∙ gone (effects_of NoMemory l.peer.session).left left s (route_at mid.adj_in s p) (route_at old.adj_in s p) (routes s p);
  offers = λ s p. moves.offers s p ∙ gone (effects_of NoMemory l.peer.session).left left s (offer_at mid.book s p) (offer_at old.book s p) (offers s p);
  rest = rest_kept old mid new rest moves.rest;
}
  where
    left : (effects_of NoMemory l.peer.session).left ≡ true
    left = rw up refl

    gone : {X : Type 0} (b : Bool) → b ≡ true → (s : ℕ) (x y : Option X) → (s ≢ slot → x ≡ y) → cond (b && s == slot) None x ≡ cond (b && s == slot) None y
    gone b is s x y same = elim (cases_eq s slot) [ inl here ↦ rw (is, here, eq-eqb slot slot refl) refl | inr other ↦ rw (same other) refl ]

-- how often a best route was chosen for it: for the routes of its session alone
pub refused_chosen : (slot : ℕ) (left : Bool) (had : RouteTable) (count : ℕ) (mid new : SpeakerState) → left ≡ true → ((s : ℕ) (p : Prefix) → route_at mid.adj_in s p ≡ route_at had s p) → mid.chosen ≡ count
    → Chooses slot left mid new → Ends slot had count new.chosen
refused_chosen slot left had count mid new is routes none chooses =
    let all = chooses.ends is in
    let most = all.2 in
    (all.0, different_as (λ p. IsSome (route_at mid.adj_in slot p)) (λ p. IsSome (route_at had slot p)) all.0 (λ p. subst (λ o. IsSome o) (routes slot p)) all.1, omega (arith, none, most))
