-- Octets that are wanted don't take the rest beyond the item at its front.
use Rattle.std.proofs.Common.{◌≡◌, ◌-◌, ◌≤◌, ◌<◌, ℕ, List, [], ◌++◌, Option, Some, None, ◌⊎◌, inl, inr, length, take, min, arith, length-append, refl, sym, ap, subst, ◌∙◌, append-nil}
use Rattle.std.proofs.lemmas.Bool.{le-ltb, lt-ltb, cases_lt}
use Rattle.std.proofs.lemmas.Grind.{common_steps}
use Rattle.std.proofs.lemmas.List.{nil_from_length, length-take}
use Rattle.bgp_msg.specs.declared.fault.HeaderFault.{HeaderFault}
use Rattle.bgp_msg.specs.MessageSpelling.{told_length}
use Rattle.bgp_msg.specs.MessageFaults.{header_fault}
use Rattle.bgp_msg.specs.MessageStream.{needed_of}
use Rattle.bgp_msg.proofs.Streams.{told_length-append, told_length-lawful, header_fault-append, some_is_not_none}
use Rattle.bgp_fsm.specs.declared.session.Session.{Session}
use Rattle.bgp_peer.specs.Slot.{IsInOrder}

-- what is wanted, by cases: of a header, behind a header without a fault, behind a faulty one
pub needed-short : (octets : List ℕ) → length octets < 19 → needed_of octets ≡ 19 - length octets
needed-short octets short = rw (lt-ltb (length octets) 19 short) refl

pub needed-long : (octets : List ℕ) → 19 ≤ length octets → header_fault octets ≡ None → needed_of octets ≡ told_length octets - length octets
needed-long octets whole sound = rw (le-ltb (length octets) 19 whole, sound) refl

needed-fault : (octets : List ℕ) (fault : HeaderFault) → 19 ≤ length octets → header_fault octets ≡ Some fault → needed_of octets ≡ 0
needed-fault octets fault whole faulty = rw (le-ltb (length octets) 19 whole, faulty) refl

pub wanted-take : (rest octets : List ℕ) (count : ℕ) → count ≡ min (needed_of rest) (length octets) → length (take count octets) ≤ needed_of rest
wanted-take rest octets count wanted = grind (arith, common_steps, wanted, length-take count octets)

-- how far octets that are wanted reach: to the end of the header, to the end of its message, or nowhere
abbrev Reaches : List ℕ → List ℕ → Type 0
Reaches rest octets =
    (length (rest ++ octets) ≤ 19)
    ⊎ (((19 ≤ length rest) × (header_fault rest ≡ None) × (length (rest ++ octets) ≤ told_length rest))
    ⊎ (octets ≡ []))

reaches_by_fault :
    (rest octets : List ℕ) (found : Option HeaderFault) → header_fault rest ≡ found → 19 ≤ length rest
    → (header_fault rest ≡ None → length rest ≤ told_length rest) → length octets ≤ needed_of rest → Reaches rest octets
reaches_by_fault rest octets None sound long within few =
    inr (inl (long, sound, omega (arith, length-append rest octets, within sound, few, needed-long rest long sound)))
reaches_by_fault rest octets (Some fault) faulty long within few =
    inr (inr (nil_from_length octets (omega (arith, few, needed-fault rest fault long faulty))))

reaches :
    (rest octets : List ℕ) → (length rest < 19) ⊎ (19 ≤ length rest)
    → (19 ≤ length rest → header_fault rest ≡ None → length rest ≤ told_length rest) → length octets ≤ needed_of rest → Reaches rest octets
reaches rest octets (inl short) within few = inl (omega (arith, length-append rest octets, few, needed-short rest short, short))
reaches rest octets (inr long) within few = reaches_by_fault rest octets _ refl long (within long) few

-- so the rest stays within the message at its front
one_message-push :
    (rest octets : List ℕ) → Reaches rest octets → (19 ≤ length rest → header_fault rest ≡ None → length rest ≤ told_length rest)
    → 19 ≤ length (rest ++ octets) → header_fault (rest ++ octets) ≡ None → length (rest ++ octets) ≤ told_length (rest ++ octets)
one_message-push rest octets (inl short) within whole sound = omega (arith, short, (told_length-lawful _ sound).0)
one_message-push rest octets (inr (inl h)) within whole sound = omega (arith, h.2, told_length-append rest octets h.0)
one_message-push rest octets (inr (inr none)) within whole sound =
    subst (λ (x : List ℕ). 19 ≤ length x → header_fault x ≡ None → length x ≤ told_length x) (sym (ap (λ x. rest ++ x) none ∙ append-nil rest)) within whole sound

-- and a faulty header stays alone
header_alone-push :
    (rest octets : List ℕ) (fault : HeaderFault) → Reaches rest octets → ((fault : HeaderFault) → 19 ≤ length rest → header_fault rest ≡ Some fault → length rest ≡ 19)
    → 19 ≤ length (rest ++ octets) → header_fault (rest ++ octets) ≡ Some fault → length (rest ++ octets) ≡ 19
header_alone-push rest octets fault (inl short) alone whole faulty = omega (arith, short, whole)
header_alone-push rest octets fault (inr (inl h)) alone whole faulty =
    absurd (some_is_not_none _ fault faulty (header_fault-append rest octets h.0 ∙ h.1))
header_alone-push rest octets fault (inr (inr none)) alone whole faulty =
    subst (λ (x : List ℕ). (fault : HeaderFault) → 19 ≤ length x → header_fault x ≡ Some fault → length x ≡ 19) (sym (ap (λ x. rest ++ x) none ∙ append-nil rest)) alone fault whole faulty

pub in_order-push :
    (s : Session) (rest octets ring : List ℕ) (capacity count : ℕ) → count ≡ min (needed_of rest) (length octets) → IsInOrder s rest ring capacity
    → IsInOrder s (rest ++ take count octets) ring capacity
in_order-push s rest octets ring capacity count wanted o =
    let far : Reaches rest (take count octets) = reaches rest (take count octets) (cases_lt (length rest) 19) o.one_message (wanted-take rest octets count wanted) in
    record {
      capacity_is = o.capacity_is;
      fits = o.fits;
      can_be_told = o.can_be_told;
      one_message = one_message-push rest (take count octets) far o.one_message;
      header_alone = λ fault. header_alone-push rest (take count octets) fault far o.header_alone;
    }
