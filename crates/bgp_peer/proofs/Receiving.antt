-- Octets up to the end of the item at the front of a stream.
use Rattle.std.proofs.Common.{◌≡◌, ◌+◌, ◌-◌, ◌≤◌, ◌<◌, ℕ, List, [], ◌∷◌, ◌++◌, Some, None, inl, inr, length, take, min, refl, sym, subst, ◌∙◌, arith, append_assoc, append-nil, length-append}
use Rattle.std.proofs.lemmas.List.{take_all}
use Rattle.net_prefix.specs.declared.transport.Transport.TheVariants.{Open as Connected}
use Rattle.bgp_msg.specs.declared.frame.Frame.{Frame}
use Rattle.bgp_msg.specs.declared.frame.Step.{Step}
use Rattle.bgp_msg.specs.declared.frame.Step.TheVariants.{Need, Message, Faulty}
use Rattle.bgp_msg.specs.MessageSpelling.{told_length}
use Rattle.bgp_msg.specs.MessageFaults.{header_fault}
use Rattle.bgp_msg.specs.MessageStream.{Item, IsMessage, Wants, Tells, meaning, completed, needed_of}
use Rattle.bgp_msg.proofs.Streams.{meaning-wants, meaning-message, at_header, message-then, wants-then, fault-then, told_length-append, header_fault-append}
use Rattle.bgp_msg.proofs.StreamPieces.{read_alone}
use Rattle.bgp_msg.proofs.ReaderAnswers.{answer_is_message}
use Rattle.bgp_fsm.specs.declared.input.Input.{Input}
use Rattle.bgp_fsm.specs.declared.session.Session.{Session}
use Rattle.bgp_fsm.specs.Transports.{transport_of}
use Rattle.bgp_peer.specs.Slot.{Slot, taken_input, IsInOrder, IsWholeRest, HoldsOnly, item_of_step}
use Rattle.bgp_peer.specs.SessionInputs.{Event, Octet, moment_of, onto, terms_of, input_of}
use Rattle.bgp_peer.specs.Agreement.{PeerAgrees, IsHearing, holding}
use Rattle.bgp_peer.proofs.Connections.{connected_wants}
use Rattle.bgp_peer.proofs.Rests.{needed-short, needed-long, wanted-take}
use Rattle.bgp_peer.proofs.Agreeing.{stands, agrees-octet, agrees-input}

-- where more than one octet is wanted, one octet leaves all but one wanted
pub needed-push :
    (part : List ℕ) (octet : ℕ) → Wants part → 1 < needed_of part
    → Wants (part ++ octet ∷ []) × (needed_of (part ++ octet ∷ []) + 1 ≡ needed_of part)
needed-push part octet (inl short) more =
    let longer : length (part ++ octet ∷ []) ≡ length part + 1 = length-append part (octet ∷ []) in
    let needed : needed_of part ≡ 19 - length part = needed-short part short in
    let still : length (part ++ octet ∷ []) < 19 = omega (arith, longer, needed, more) in
    (inl still, omega (arith, longer, needed, needed-short (part ++ octet ∷ []) still, still))
needed-push part octet (inr h) more =
    let longer : length (part ++ octet ∷ []) ≡ length part + 1 = length-append part (octet ∷ []) in
    let needed : needed_of part ≡ told_length part - length part = needed-long part h.0 h.1 in
    let whole : 19 ≤ length (part ++ octet ∷ []) = omega (arith, longer, h.0) in
    let sound : header_fault (part ++ octet ∷ []) ≡ None = header_fault-append part (octet ∷ []) h.0 ∙ h.1 in
    let told : told_length (part ++ octet ∷ []) ≡ told_length part = told_length-append part (octet ∷ []) h.0 in
    let still : length (part ++ octet ∷ []) < told_length (part ++ octet ∷ []) = omega (arith, longer, told, needed, more) in
    (inr (whole, sound, still), omega (arith, longer, told, needed, needed-long (part ++ octet ∷ []) whole sound, still))

-- something of a history and a rest, but that the item that the last octet completes isn't taken yet
pub record Hears (Holds : List Event → List ℕ → Type 0) (h : List Event) (rest : List ℕ) (item : Item) : Type 0 where
  pub octet : ℕ
  pub before : List Event
  pub part : List ℕ
  pub history_is : h ≡ Octet octet ∷ before
  pub rest_is : rest ≡ part ++ octet ∷ []
  pub whole : completed part octet ≡ Some item
  pub holds : Holds before part

-- octets have come: nothing stands whole at the front, or the item that the last of them completes
abbrev pub HasHeard : (List Event → List ℕ → Type 0) → List Event → List ℕ → Type 0
HasHeard Holds h rest = (meaning rest ≡ None → Holds h rest) × ((item : Item) → meaning rest ≡ Some item → Hears Holds h rest item)

heard-nothing : (Holds : List Event → List ℕ → Type 0) (h : List Event) (rest : List ℕ) → Wants rest → Holds h rest → HasHeard Holds h rest
heard-nothing Holds h rest wants holds =
    let none : meaning rest ≡ None = meaning-wants rest wants in
    (λ e. holds, λ item some. cc)

-- what an octet that completes nothing keeps, octets that are wanted keep
pub heard-wanted :
    (Holds : List Event → List ℕ → Type 0) (h : List Event) (rest octets : List ℕ)
    → ((x : List Event) (part : List ℕ) (octet : ℕ) → completed part octet ≡ None → Holds x part → Holds (Octet octet ∷ x) (part ++ octet ∷ []))
    → Wants rest → length octets ≤ needed_of rest → Holds h rest → HasHeard Holds (onto octets h) (rest ++ octets)
heard-wanted Holds h rest [] next wants few holds = subst (λ x. HasHeard Holds h x) (sym (append-nil rest)) (heard-nothing Holds h rest wants holds)
heard-wanted Holds h rest (octet ∷ []) next wants few holds = (
  λ none. next h rest octet none holds,
  λ item some. record {
    octet = octet;
    before = h;
    part = rest;
    history_is = refl;
    rest_is = refl;
    whole = some;
    holds = holds;
  },
)
heard-wanted Holds h rest (octet ∷ behind ∷ octets) next wants few holds =
    let more : 1 < needed_of rest = omega (arith, few) in
    let step = needed-push rest octet wants more in
    let none : meaning (rest ++ octet ∷ []) ≡ None = meaning-wants (rest ++ octet ∷ []) step.0 in
    let fewer : length (behind ∷ octets) ≤ needed_of (rest ++ octet ∷ []) = omega (arith, few, step.1) in
    subst (λ x. HasHeard Holds (onto (behind ∷ octets) (Octet octet ∷ h)) x) (append_assoc rest (octet ∷ []) (behind ∷ octets))
    (heard-wanted Holds (Octet octet ∷ h) (rest ++ octet ∷ []) (behind ∷ octets) next step.0 fewer (next h rest octet none holds))

-- a slot whose connection stands wants more octets
pub wants-agreed : (h : List Event) (p : Slot) → PeerAgrees h p → transport_of p.session ≡ Connected → Wants p.rest
wants-agreed h p a connected =
    let standing = stands h p a connected in
    subst Wants (sym (a.rest standing)) (connected_wants h standing)

-- octets that are wanted come
pub agrees-push :
    (h : List Event) (p : Slot) (octets : List ℕ) (count : ℕ) → count ≡ min (needed_of p.rest) (length octets) → PeerAgrees h p → transport_of p.session ≡ Connected
    → HasHeard (λ x rest. PeerAgrees x (holding rest p)) (onto (take count octets) h) (p.rest ++ take count octets)
agrees-push h p octets count wanted a connected =
    heard-wanted (λ x rest. PeerAgrees x (holding rest p)) h p.rest (take count octets) (λ x part octet none before. agrees-octet x (holding part p) octet connected none before)
    (wants-agreed h p a connected) (wanted-take p.rest octets count wanted) a

pub hears-push : (h : List Event) (p : Slot) (item : Item) → transport_of p.session ≡ Connected → Hears (λ x rest. PeerAgrees x (holding rest p)) h p.rest item → IsHearing h item p
hears-push h p item connected k = record {
  octet = k.octet;
  before = k.before;
  part = k.part;
  history_is = k.history_is;
  rest_is = k.rest_is;
  whole = k.whole;
  connected = connected;
  agrees = k.holds;
}

-- the item is taken
pub agrees-hearing :
    (h : List Event) (p : Slot) (item : Item) (input : Input) → IsHearing h item p → input ≡ input_of p.session.state (terms_of h) item
    → PeerAgrees h (taken_input (moment_of h) p input)
agrees-hearing h p item input hearing is =
    let taken : PeerAgrees (Octet hearing.octet ∷ hearing.before) (taken_input (moment_of hearing.before) p (input_of p.session.state (terms_of hearing.before) item)) =
    agrees-input hearing.before p hearing.part hearing.octet item hearing.connected hearing.whole hearing.agrees in
    let so : PeerAgrees h (taken_input (moment_of h) p (input_of p.session.state (terms_of h) item)) =
    subst (λ (x : List Event). PeerAgrees x (taken_input (moment_of x) p (input_of p.session.state (terms_of x) item))) (sym hearing.history_is) taken in
    subst (λ (x : Input). PeerAgrees h (taken_input (moment_of h) p x)) (sym is) so

-- a message that uses the whole rest is the rest
whole_answer : (rest : List ℕ) (frame : Frame) (used : ℕ) → Tells rest (Message frame used) → used ≡ length rest → IsMessage rest frame.kind frame.body.now
whole_answer rest frame used h whole =
    subst (λ (x : List ℕ). IsMessage x frame.kind frame.body.now) (take_all used rest (omega (arith, whole))) (answer_is_message rest frame used h)

-- a reader's answer is the item that the rest is
pub front-item :
    (s : Session) (rest ring : List ℕ) (capacity : ℕ) (step : Step) → Tells rest step → IsWholeRest rest step → IsInOrder s rest ring capacity → meaning rest ≡ item_of_step step
front-item s rest ring capacity Need h whole o = meaning-wants rest h
front-item s rest ring capacity (Message frame used) h whole o =
    meaning-message rest frame.kind frame.body.now (whole_answer rest frame used h whole)
front-item s rest ring capacity (Faulty fault) h whole o = at_header rest fault (o.header_alone fault h.0 h.1) h.1

-- and all that it holds
pub front-only : (rest : List ℕ) (step : Step) → Tells rest step → IsWholeRest rest step → HoldsOnly rest step
front-only rest Need h whole = wants-then rest h
front-only rest (Message frame used) h whole =
    read_alone rest frame.kind frame.body.now (λ more. message-then rest more frame.kind frame.body.now (whole_answer rest frame used h whole))
front-only rest (Faulty fault) h whole = fault-then rest fault h.0 h.1
