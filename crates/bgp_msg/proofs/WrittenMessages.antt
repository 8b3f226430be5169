use Rattle.std.proofs.Common.{◌≡◌, ◌≢◌, ◌≤◌, ◌<◌, ◌+◌, ◌*◌, ◌/◌, ◌%◌, ◌^◌, nat_lt, ◌==◌, ◌||◌, not, get_or, ◌∷◌, ℕ, Bool, true, false, List, [], ◌++◌, length, take, drop, Some, None, refl, ap, sym, subst, ◌∙◌, arith, append_assoc, append-nil, length-append}
use Rattle.std.specs.Option.{option_map, option_and_then}
use Rattle.std.proofs.lemmas.Bool.{le-ltb, le-leb, eq-eqb, ne_eqb, or_from}
use Rattle.std.proofs.lemmas.List.{take_at, drop_at, length-take}
use Rattle.std.proofs.lemmas.Grind.{common_steps}
use Rattle.std.specs.Int.{w16, w32, to_be_bytes, from_be_bytes}
use Rattle.bgp_msg.specs.declared.frame.MessageType.{MessageType}
use Rattle.bgp_msg.specs.declared.frame.MessageType.TheVariants.{Open, Update, Notification, Keepalive}
use Rattle.bgp_msg.specs.declared.open_message.Expected.{Expected}
use Rattle.bgp_msg.specs.MessageSpelling.{Part, is_lawful_length, header_of, message_of, marker, own_capability_octets, open_of, open_body, update_of, update_body, update_parts, update_parts_behind, counted_at, parts_within, parameters_at, capabilities_at, asn_at, first_asn}
use Rattle.bgp_msg.specs.MessageFaults.{has_other_parameter, hold_time_at, identifier_at, open_fault}
use Rattle.bgp_msg.specs.MessageStream.{IsMessage, IsReadFirst}
use Rattle.bgp_msg.specs.Notifications.{NotificationBody, notification_body, notification_of}
use Rattle.bgp_msg.proofs.Streams.{message-then}
use Rattle.bgp_msg.proofs.Spellings.{spelling_is_message}

-- What the writers write is read again.

pub written_first : (kind : MessageType) (body : List ℕ) → is_lawful_length kind (19 + length body) ≡ true → 19 + length body ≤ 4096 → IsReadFirst (message_of kind body) kind body
written_first kind body may fits = λ more. message-then (message_of kind body) more kind body (spelling_is_message kind body may fits)

keepalive_is : message_of Keepalive [] ≡ header_of Keepalive 19
unfolding message_of
keepalive_is = append-nil (header_of Keepalive 19)

pub keepalive_first : IsReadFirst (header_of Keepalive 19) Keepalive []
keepalive_first = subst (λ (x : List ℕ). IsReadFirst x Keepalive []) keepalive_is (written_first Keepalive [] refl (omega arith))

notification_is : (told : NotificationBody) → message_of Notification (notification_body told) ≡ notification_of told
unfolding message_of notification_body notification_of
notification_is told =
    ap (λ (n : ℕ). header_of Notification n ++ told.code ∷ told.subcode ∷ take 4075 told.octets) (omega arith)

notification_fits : (told : NotificationBody) → (21 ≤ 19 + length (notification_body told)) × (19 + length (notification_body told) ≤ 4096)
unfolding notification_body
notification_fits told =
    let short : length (take 4075 told.octets) ≤ 4075 = grind (arith, common_steps, length-take 4075 told.octets) in
    (omega arith, omega (arith, short))

pub notification_first : (told : NotificationBody) → IsReadFirst (notification_of told) Notification (notification_body told)
notification_first told =
    let fits = notification_fits told in
    subst (λ (x : List ℕ). IsReadFirst x Notification (notification_body told)) (notification_is told)
    (written_first Notification (notification_body told) (le-leb 21 (19 + length (notification_body told)) fits.0) fits.1)

open_is : (multiprotocol : Bool) (asn hold_time identifier : ℕ) → message_of Open (open_body multiprotocol asn hold_time identifier) ≡ open_of multiprotocol asn hold_time identifier
unfolding message_of open_of open_body header_of marker
open_is true asn hold_time identifier = refl
open_is false asn hold_time identifier = refl

open_length : (multiprotocol : Bool) (asn hold_time identifier : ℕ) → length (open_body multiprotocol asn hold_time identifier) ≡ 12 + own_capability_octets multiprotocol
unfolding open_body
open_length true asn hold_time identifier = refl
open_length false asn hold_time identifier = refl

open_lawful : (multiprotocol : Bool) (asn hold_time identifier : ℕ) → is_lawful_length Open (19 + length (open_body multiprotocol asn hold_time identifier)) ≡ true
unfolding open_body
open_lawful true asn hold_time identifier = refl
open_lawful false asn hold_time identifier = refl

open_fits : (multiprotocol : Bool) → 19 + (12 + own_capability_octets multiprotocol) ≤ 4096
open_fits true = omega arith
open_fits false = omega arith

pub open_first : (multiprotocol : Bool) (asn hold_time identifier : ℕ) → IsReadFirst (open_of multiprotocol asn hold_time identifier) Open (open_body multiprotocol asn hold_time identifier)
open_first multiprotocol asn hold_time identifier =
    let body = open_body multiprotocol asn hold_time identifier in
    let may = open_lawful multiprotocol asn hold_time identifier in
    subst (λ (x : List ℕ). IsReadFirst x Open body) (open_is multiprotocol asn hold_time identifier) (written_first Open body may (omega (arith, open_length multiprotocol asn hold_time identifier, open_fits multiprotocol)))

pub open_hold_time : (multiprotocol : Bool) (asn hold_time identifier : ℕ) → hold_time < 2 ^ 16 → hold_time_at (open_body multiprotocol asn hold_time identifier) ≡ hold_time
unfolding open_body
open_hold_time true asn hold_time identifier small = omega arith
open_hold_time false asn hold_time identifier small = omega arith

pub open_identifier : (multiprotocol : Bool) (asn hold_time identifier : ℕ) → identifier < 2 ^ 32 → identifier_at (open_body multiprotocol asn hold_time identifier) ≡ identifier
unfolding open_body
open_identifier true asn hold_time identifier small = omega arith
open_identifier false asn hold_time identifier small = omega arith

four_octets : (asn : ℕ) → asn < 2 ^ 32 → from_be_bytes w32 (to_be_bytes w32 asn) ≡ asn
four_octets asn small = omega arith

-- the capabilities in the one optional parameter of an OPEN
abbrev told : Bool → ℕ → List Part
told true asn = record { kind = 1; value = 0 ∷ 1 ∷ 0 ∷ 1 ∷ [] } ∷ record { kind = 65; value = to_be_bytes w32 asn } ∷ record { kind = 2; value = [] } ∷ []
told false asn = record { kind = 65; value = to_be_bytes w32 asn } ∷ record { kind = 2; value = [] } ∷ []

told_asn : (multiprotocol : Bool) (asn : ℕ) → asn < 2 ^ 32 → first_asn (told multiprotocol asn) ≡ Some asn
told_asn true asn small = ap (λ (n : ℕ). Some n) (four_octets asn small)
told_asn false asn small = ap (λ (n : ℕ). Some n) (four_octets asn small)

open_capabilities : (multiprotocol : Bool) (asn hold_time identifier : ℕ) → capabilities_at (open_body multiprotocol asn hold_time identifier) ≡ Some (told multiprotocol asn)
unfolding open_body parts_within
open_capabilities true asn hold_time identifier = refl
open_capabilities false asn hold_time identifier = refl

open_parameters : (multiprotocol : Bool) (asn hold_time identifier : ℕ) → has_other_parameter (parameters_at (open_body multiprotocol asn hold_time identifier)) ≡ false
unfolding open_body parts_within
open_parameters true asn hold_time identifier = refl
open_parameters false asn hold_time identifier = refl

pub open_asn : (multiprotocol : Bool) (asn hold_time identifier : ℕ) → asn < 2 ^ 32 → asn_at (open_body multiprotocol asn hold_time identifier) ≡ Some asn
open_asn multiprotocol asn hold_time identifier small =
    ap (option_and_then first_asn) (open_capabilities multiprotocol asn hold_time identifier) ∙ told_asn multiprotocol asn small

open_front : (multiprotocol : Bool) (asn hold_time identifier : ℕ) → (nat_lt (length (open_body multiprotocol asn hold_time identifier)) 10 ≡ false) × (not (get_or (open_body multiprotocol asn hold_time identifier) 0 0 == 4) ≡ false)
unfolding open_body
open_front true asn hold_time identifier = (refl, refl)
open_front false asn hold_time identifier = (refl, refl)

faultless_by_tests :
    (body : List ℕ) (asn hold_time identifier : ℕ) (capabilities : List Part) (expected : Expected)
    → (nat_lt (length body) 10 ≡ false) × (not (get_or body 0 0 == 4) ≡ false) → capabilities_at body ≡ Some capabilities
    → has_other_parameter (parameters_at body) ≡ false → first_asn capabilities ≡ Some asn → hold_time_at body ≡ hold_time → identifier_at body ≡ identifier
    → (asn == expected.peer_asn.0) ≡ true → (identifier == 0 || identifier == expected.own_identifier) ≡ false → (hold_time == 1 || hold_time == 2) ≡ false
    → open_fault body expected ≡ None
unfolding open_fault
faultless_by_tests body asn hold_time identifier capabilities expected front capabilities_are types asn_is hold_time_is identifier_is same lawful acceptable =
    rw (front.0, front.1, capabilities_are, types, asn_is, identifier_is, hold_time_is, same, lawful, acceptable) refl

pub open_faultless :
    (multiprotocol : Bool) (asn hold_time identifier : ℕ) (expected : Expected) → asn < 2 ^ 32 → hold_time < 2 ^ 16 → identifier < 2 ^ 32
    → expected.peer_asn.0 ≡ asn → identifier ≢ 0 → identifier ≢ expected.own_identifier → hold_time ≢ 1 → hold_time ≢ 2
    → open_fault (open_body multiprotocol asn hold_time identifier) expected ≡ None
open_faultless multiprotocol asn hold_time identifier expected small small_time small_identifier same some other not_one not_two =
    faultless_by_tests (open_body multiprotocol asn hold_time identifier) asn hold_time identifier (told multiprotocol asn) expected
    (open_front multiprotocol asn hold_time identifier)
    (open_capabilities multiprotocol asn hold_time identifier)
    (open_parameters multiprotocol asn hold_time identifier)
    (told_asn multiprotocol asn small)
    (open_hold_time multiprotocol asn hold_time identifier small_time)
    (open_identifier multiprotocol asn hold_time identifier small_identifier)
    (eq-eqb asn expected.peer_asn.0 (sym same))
    (or_from (identifier == 0) (identifier == expected.own_identifier) (ne_eqb identifier 0 some) (ne_eqb identifier expected.own_identifier other))
    (or_from (hold_time == 1) (hold_time == 2) (ne_eqb hold_time 1 not_one) (ne_eqb hold_time 2 not_two))

pub update_length : (withdrawn attributes announced : List ℕ) → length (update_body withdrawn attributes announced) ≡ 4 + length withdrawn + length attributes + length announced
unfolding update_body
update_length withdrawn attributes announced = simp length-append (omega arith)

regroup : (h a b c d e : List ℕ) → ((((h ++ a) ++ b) ++ c) ++ d) ++ e ≡ h ++ (a ++ (b ++ (c ++ (d ++ e))))
regroup h a b c d e = simp append_assoc

pub update_is : (withdrawn attributes announced : List ℕ) → message_of Update (update_body withdrawn attributes announced) ≡ update_of withdrawn attributes announced
unfolding message_of update_of update_body
update_is withdrawn attributes announced =
    let body = update_body withdrawn attributes announced in
    let count : 19 + length (update_body withdrawn attributes announced) ≡ 23 + length withdrawn + length attributes + length announced = omega (arith, update_length withdrawn attributes announced) in
    ap (λ (n : ℕ). header_of Update n ++ body) count
    ∙ sym (regroup (header_of Update (23 + length withdrawn + length attributes + length announced)) (to_be_bytes w16 (length withdrawn)) withdrawn (to_be_bytes w16 (length attributes)) attributes announced)

pub update_is_message :
    (withdrawn attributes announced : List ℕ) → 23 + length withdrawn + length attributes + length announced ≤ 4096
    → IsMessage (update_of withdrawn attributes announced) Update (update_body withdrawn attributes announced)
update_is_message withdrawn attributes announced fits =
    let body = update_body withdrawn attributes announced in
    let count = update_length withdrawn attributes announced in
    let may : is_lawful_length Update (19 + length (update_body withdrawn attributes announced)) ≡ true = le-leb 23 _ (omega (arith, count)) in
    subst (λ (x : List ℕ). IsMessage x Update body) (update_is withdrawn attributes announced) (spelling_is_message Update body may (omega (arith, count, fits)))

pub update_first :
    (withdrawn attributes announced : List ℕ) → 23 + length withdrawn + length attributes + length announced ≤ 4096
    → IsReadFirst (update_of withdrawn attributes announced) Update (update_body withdrawn attributes announced)
update_first withdrawn attributes announced fits = λ more.
    message-then (update_of withdrawn attributes announced) more Update (update_body withdrawn attributes announced) (update_is_message withdrawn attributes announced fits)

two_octets : (n : ℕ) → n < 2 ^ 16 → n / 256 % 256 * 256 + n % 256 ≡ n
two_octets n small = omega arith

counted : (octets more : List ℕ) → length octets < 2 ^ 16 → counted_at (to_be_bytes w16 (length octets) ++ (octets ++ more)) ≡ Some (octets, more)
counted octets more small =
    let told : length octets / 256 % 256 * 256 + length octets % 256 ≡ length octets = two_octets (length octets) small in
    let fits : nat_lt (length (octets ++ more)) (length octets) ≡ false = le-ltb (length (octets ++ more)) (length octets) (omega (arith, length-append octets more)) in
    let front : take (length octets) (octets ++ more) ≡ octets = take_at octets more (length octets) refl in
    let back : drop (length octets) (octets ++ more) ≡ more = drop_at octets more (length octets) refl in
    rw (told, fits, front, back) refl

pub update_has_parts :
    (withdrawn attributes announced : List ℕ) → 23 + length withdrawn + length attributes + length announced ≤ 4096
    → update_parts (update_body withdrawn attributes announced) ≡ Some (withdrawn, attributes, announced)
unfolding update_body
update_has_parts withdrawn attributes announced fits =
    let rest = to_be_bytes w16 (length attributes) ++ (attributes ++ announced) in
    let first : counted_at (update_body withdrawn attributes announced) ≡ Some (withdrawn, rest) = counted withdrawn rest (omega (arith, fits)) in
    let second : counted_at rest ≡ Some (attributes, announced) = counted attributes announced (omega (arith, fits)) in
    ap update_parts_behind first ∙ ap (option_map (λ (found : List ℕ × List ℕ). (withdrawn, found.0, found.1))) second
