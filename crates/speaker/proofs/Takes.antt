use Rattle.std.proofs.Common.{◌≡◌, ◌≤◌, ◌<◌, ◌==◌, inl, inr, ℕ, List, [], ◌∷◌, ◌++◌, Option, Some, None, length, take, drop, min, cond, refl, sym, ap, ◌∙◌, subst, arith}
use Rattle.std.specs.Option.{option_map}
use Rattle.std.proofs.lemmas.Bool.{cases_eq, eq-eqb, ne_eqb}
use Rattle.std.proofs.lemmas.List.{length-take}
use Rattle.std.proofs.Math.Seq.{take-append_seam}
use Rattle.bgp_conf.specs.Configuration.{peer_at}
use Rattle.runs.specs.Choices.{choices_in}
use Rattle.bgp_peer.specs.SessionInputs as happens
use Rattle.bgp_peer.specs.SessionInputs.{Handed}
use Rattle.bgp_peer.specs.Slot.{handed}
use Rattle.rib_in.specs.LatestRoutes.{route_at}
use Rattle.runs.specs.Agreement.{Holds, Agrees, Passes, QueuesAll, SlotAgrees, tables_after}
use Rattle.routing.specs.Linked.{Linked}
use Rattle.routing.specs.LocRib.{IsLocRib}
use Rattle.speaker.specs.Moves.{Hands}
use Rattle.runs.specs.Queueing.{Queue, starved_in}
use Rattle.runs.specs.Runs.{cache_history, Run, turn, Take_call, configuration_of, history, moment_after}
use Rattle.speaker.specs.Serving.{IsServedAt}
use Rattle.runs.specs.SpeakerState.{SpeakerState, tables_of}
use Rattle.routing.specs.Tables.{link_at, peer_route_at}
use Rattle.runs.specs.declared.config.Config.{Config}
use Rattle.speaker.proofs.Calls.{tables_same}
use Rattle.speaker.proofs.Events.{begun, holds_begun, put_agrees}
use Rattle.speaker.proofs.KeptOffers.{hands_keep, in_force_kept}
use Rattle.speaker.proofs.Passing.{passes_first, agrees_served}
use Rattle.runs.proofs.SlotEvents.{with_peer}
use Rattle.runs.proofs.SlotOctets.{agrees_handed}
use Rattle.runs.proofs.PeerRoutes.{agrees_routes}

-- Octets that are handed out.

holds_handed : (config : Config) (r : Run) (slot : ℕ) (l : Linked) (count : ℕ) (old new : SpeakerState) → Holds config r old → link_at old.links slot ≡ Some l → Hands slot l count old new → old.chosen ≤ old.chosen_before
    → Holds config (turn (Take_call slot (take count l.peer.ring)) [] ∷ r) new
holds_handed config r slot l count old new h linked hands so_far =
    let low : slot < 64 = h.kept.below slot l.peer.session (ap (option_map (λ (x : Linked). x.peer.session)) linked) in
    let before : SlotAgrees config (peer_at old.conf slot) (Some l) (route_at old.adj_in slot) (history config slot r) = agrees_routes config (peer_at old.conf slot) (Some l) old.adj_in slot (history config slot r) low (subst (λ x. SlotAgrees config (peer_at old.conf slot) x (peer_route_at old.adj_in slot) (history config slot r)) linked (h.slots slot)) in
    let here = agrees_handed config (peer_at old.conf slot) l (route_at old.adj_in slot) (history config slot r) count before in
    let on : history config slot (turn (Take_call slot (take count l.peer.ring)) [] ∷ r) ≡ Handed (take count l.peer.ring) ∷ history config slot r = rw (eq-eqb slot slot refl) refl in
    let H : List happens.Event → Type 0 = λ x. SlotAgrees config (peer_at old.conf slot) (Some (with_peer l (handed l.peer count))) (route_at new.adj_in slot) x in
    let same = hands.chosen in
    let same_before = hands.rest.chosen_before in
    let after : Run = turn (Take_call slot (take count l.peer.ring)) [] ∷ r in
    put_agrees config (configuration_of config r) (configuration_of config after) (moment_after r) (moment_after after) (cache_history r) (cache_history after) (λ t. history config t r) (λ t. history config t after) (choices_in config r) (choices_in config after)
    slot (with_peer l (handed l.peer count)) old new h refl refl refl (hands_keep slot l count old new linked hands) hands.rest hands.links
    (λ t other p. ap (λ table. route_at table t p) hands.routes) (λ t other. rw (ne_eqb t slot other) refl)
    (omega (arith, so_far, same, same_before)) low
    (subst H (sym on) (rw hands.routes here))

handed_session : (slot t : ℕ) (l : Linked) (count : ℕ) (f : ℕ → Option Linked) → f slot ≡ Some l
    → option_map (λ x. x.peer.session) (cond (t == slot) (Some (with_peer l (handed l.peer count))) (f t)) ≡ option_map (λ x. x.peer.session) (f t)
handed_session slot t l count f linked =
    elim (cases_eq t slot) [
      | inl same ↦ rw (same, eq-eqb slot slot refl, linked) refl
      | inr other ↦ rw (ne_eqb t slot other) refl
    ]

tables_handed : (slot : ℕ) (l : Linked) (count : ℕ) (old new : SpeakerState) → link_at old.links slot ≡ Some l → Hands slot l count old new → tables_of old ≡ tables_of new
tables_handed slot l count old new linked hands = λ i. record {
  conf = sym hands.rest.conf i;
  payloads = sym (in_force_kept old new hands.rest.conf hands.rest.payloads) i;
  sessions = λ t. sym (ap (λ x. option_map (λ y. y.peer.session) x) (hands.links t) ∙ handed_session slot t l count (link_at old.links) linked) i;
  routes = λ t p. route_at (sym hands.routes i) t p;
}

-- the octets of the buffer are the ring's
first_octets : (count : ℕ) (ring buf new : List ℕ) → count ≡ min (length buf) (length ring) → new ≡ take count ring ++ drop count buf → take count new ≡ take count ring
first_octets count ring buf new is octets =
    let whole : length (take count ring) ≡ count = length-take count ring ∙ (omega (arith, is)) in
    ap (λ x. take count x) octets ∙ ap (λ n. take n (take count ring ++ drop count buf)) (sym whole) ∙ take-append_seam (take count ring) (drop count buf)

-- a take that has handed octets out and queued nothing yet
passes_handed : (config : Config) (r : Run) (slot : ℕ) (l : Linked) (count : ℕ) (old mid : SpeakerState) → Agrees config r old → link_at old.links slot ≡ Some l → Hands slot l count old mid → old.chosen ≤ old.chosen_before
    → Passes config (Take_call slot (take count l.peer.ring)) r [] mid
passes_handed config r slot l count old mid a linked hands so_far =
    let before : IsLocRib (tables_after config r) mid.loc_rib = rw hands.loc_rib a.loc_rib in
    let tables = tables_same config r old.conf old.payloads (link_at old.links) old.adj_in (sym a.holds.conf) a.holds.payloads a.holds.slots a.holds.networks ∙ tables_handed slot l count old mid linked hands in
    passes_first config (Take_call slot (take count l.peer.ring)) r mid (holds_handed config r slot l count old mid a.holds linked hands so_far) (subst (λ t. IsLocRib t mid.loc_rib) tables before)

-- the count of the take begins
agrees_begun : (config : Config) (r : Run) (s : SpeakerState) → Agrees config r s → Agrees config r (begun s)
agrees_begun config r s a = record { holds = holds_begun config r s a.holds; loc_rib = a.loc_rib; settled = a.settled; thrifty = a.thrifty }

hands_begun : (slot : ℕ) (l : Linked) (count : ℕ) (old mid : SpeakerState) → Hands slot l count old mid → Hands slot l count (begun old) (begun mid)
hands_begun slot l count old mid hands = record {
  links = hands.links;
  routes = hands.routes;
  book = hands.book;
  loc_rib = hands.loc_rib;
  chosen = hands.chosen;
  rest = record { config = hands.rest.config; moment = hands.rest.moment; conf = hands.rest.conf; cache = hands.rest.cache; payloads = hands.rest.payloads; chosen_before = hands.chosen };
}

-- a take with what it did at its end
pub taken_agrees : (config : Config) (r : Run) (slot : ℕ) (l : Linked) (count starved : ℕ) (buf filled : List ℕ) (old mid new : SpeakerState) → Agrees config r old → link_at old.links slot ≡ Some l
    → count ≡ min (length buf) (length l.peer.ring) → filled ≡ take count l.peer.ring ++ drop count buf → Hands slot l count old mid
    → QueuesAll starved (begun mid) new → ((s : ℕ) → s < 64 → IsServedAt new s)
    → (queue : Queue) × (starved_in queue ≡ starved) × Agrees config (turn (Take_call slot (take count filled)) queue ∷ r) new
taken_agrees config r slot l count starved buf filled old mid new a linked is octets hands queues served =
    let queued = queues config (Take_call slot (take count l.peer.ring)) r (passes_handed config r slot l count (begun old) (begun mid) (agrees_begun config r old a) linked (hands_begun slot l count old mid hands) (omega arith)) in
    rw (first_octets count l.peer.ring buf filled is octets)
    (queued.0, queued.2, agrees_served config (Take_call slot (take count l.peer.ring)) r queued.0 new queued.1 tt a.thrifty served)

-- there is such a slot
pub link_there : (found : Option Linked) → (found ≡ None → ⊥) → (l : Linked) × (found ≡ Some l)
link_there None none = absurd (none refl)
link_there (Some l) none = (l, refl)
