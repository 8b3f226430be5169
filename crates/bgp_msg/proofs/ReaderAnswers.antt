use Rattle.std.proofs.Common.{◌≡◌, ◌≤◌, ◌<◌, ◌+◌, ◌-◌, ℕ, List, ◌++◌, length, take, drop, get_or, All, ap, sym, subst, ◌∙◌, arith, append_assoc, length-append}
use Rattle.std.proofs.lemmas.List.{take-append-drop, drop-take, get_or-take, length-take}
use Rattle.bgp_msg.specs.declared.frame.Frame.{Frame}
use Rattle.bgp_msg.specs.declared.frame.Step.{Step}
use Rattle.bgp_msg.specs.declared.frame.Step.TheVariants.{Need, Message, Faulty}
use Rattle.bgp_msg.specs.MessageStream.{IsMessage, Tells, IsFront, IsSpelled, messages, unread}
use Rattle.bgp_msg.proofs.Streams.{message_at_front, message-then, wants-then, fault-then, header_fault-append}
use Rattle.bgp_msg.proofs.Spellings.{spelled}

-- A reader's answer, and the stream.

-- the octets that a message uses are that message
pub answer_is_message : (octets : List ℕ) (frame : Frame) (used : ℕ) → Tells octets (Message frame used) → IsMessage (take used octets) frame.kind frame.body.now
answer_is_message octets frame used h =
    let front = message_at_front octets frame.kind (omega (arith, h.0, h.2)) h.7 h.6 (omega (arith, h.5, h.2)) in
    let all : 19 + (used - 19) ≡ used = omega (arith, h.0) in
    let same : frame.body.now ≡ drop 19 (take used octets) = h.4 ∙ sym (drop-take 19 (used - 19) octets) ∙ ap (λ (n : ℕ). drop 19 (take n octets)) all in
    let named : IsMessage (take used octets) frame.kind (drop 19 (take used octets)) = subst (λ (n : ℕ). IsMessage (take n octets) frame.kind (drop 19 (take n octets))) (sym h.5) front in
    subst (λ (x : List ℕ). IsMessage (take used octets) frame.kind x) (sym same) named

small_front : (octets : List ℕ) (n : ℕ) → All (λ octet. octet < 256) octets → All (λ octet. octet < 256) (take n octets)
small_front octets n small = λ k d within.
    let fewer : length (take n octets) ≤ n = omega (arith, length-take n octets) in
    let inside : length (take n octets) ≤ length octets = omega (arith, length-take n octets) in
    let same : get_or (take n octets) k d ≡ get_or octets k d = get_or-take n octets k d (omega (arith, within, fewer)) in
    subst (λ (x : ℕ). x < 256) (sym same) (small k d (omega (arith, within, inside)))

-- the answer is the front of the stream
pub is_front : (octets : List ℕ) (step : Step) → Tells octets step → IsFront octets step
is_front octets Need h = wants-then octets h
is_front octets (Message frame used) h = λ more.
    let all : octets ++ more ≡ take used octets ++ (drop used octets ++ more) =
    ap (λ (x : List ℕ). x ++ more) (sym (take-append-drop used octets)) ∙ append_assoc (take used octets) (drop used octets) more in
    let found = message-then (take used octets) (drop used octets ++ more) frame.kind frame.body.now (answer_is_message octets frame used h) in
    (ap messages all ∙ found.0, ap unread all ∙ found.1)
is_front octets (Faulty fault) h = λ more.
    fault-then (octets ++ more) fault (omega (arith, length-append octets more, h.0)) (header_fault-append octets more h.0 ∙ h.1)

-- and its message is spelled so
pub spelled_so : (octets : List ℕ) (step : Step) → All (λ octet. octet < 256) octets → Tells octets step → IsSpelled octets step
spelled_so octets Need small h = tt
spelled_so octets (Message frame used) small h =
    spelled (take used octets) frame.kind frame.body.now
    (small_front octets used small)
    (answer_is_message octets frame used h)
spelled_so octets (Faulty fault) small h = tt
