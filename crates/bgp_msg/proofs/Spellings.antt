use Rattle.std.proofs.Common.{◌≡◌, ◌≤◌, ◌<◌, ◌+◌, ◌*◌, ◌==◌, ℕ, Bool, true, false, not, nat_lt, if◌then◌else◌, List, [], ◌∷◌, ◌++◌, ◌/◌, ◌%◌, length, take, drop, replicate, get_or, length-drop, All, Option, Some, None, refl, ap, sym, ◌∙◌, arith, append_assoc}
use Rattle.std.proofs.lemmas.Bool.{le-ltb, eqb-true, and_parts}
use Rattle.std.proofs.lemmas.Bool.Decides.{nat_tests}
use Rattle.std.proofs.lemmas.List.{take-append-drop, length-take-le, drop_more}
use Rattle.std.specs.Int.{w16, to_be_bytes}
use Rattle.std.specs.List.{list_all}
use Rattle.bgp_msg.specs.declared.frame.MessageType.{MessageType}
use Rattle.bgp_msg.specs.declared.frame.MessageType.TheVariants.{Open, Update, Notification, Keepalive, RouteRefresh}
use Rattle.bgp_msg.specs.MessageSpelling.{kind_at, kind_octet, is_lawful_length, told_length, has_marker, marker, header_of, message_of}
use Rattle.bgp_msg.specs.MessageFaults.{header_fault}
use Rattle.bgp_msg.specs.MessageStream.{IsMessage}

-- How a message is spelled.

-- the tests of a header by its parts
sound_by_parts :
    (octets : List ℕ) (kind : MessageType) → has_marker octets ≡ true → 19 ≤ told_length octets → told_length octets ≤ 4096
    → kind_at (get_or octets 18 0) ≡ Some kind → is_lawful_length kind (told_length octets) ≡ true → header_fault octets ≡ None
unfolding header_fault
sound_by_parts octets kind marked least most kind_is may =
    let short : nat_lt (told_length octets) 19 ≡ false = le-ltb (told_length octets) 19 least in
    let long : nat_lt 4096 (told_length octets) ≡ false = le-ltb 4096 (told_length octets) most in
    rw (marked, short, long, kind_is, may) refl

-- the octet of a type is read as that type, and no other octet is
kind_at-octet : (kind : MessageType) → kind_at (kind_octet kind) ≡ Some kind
kind_at-octet Open = refl
kind_at-octet Update = refl
kind_at-octet Notification = refl
kind_at-octet Keepalive = refl
kind_at-octet RouteRefresh = refl

kind_octet-at : (octet : ℕ) (kind : MessageType) → kind_at octet ≡ Some kind → octet ≡ kind_octet kind
kind_octet-at octet kind h = grind (arith, nat_tests)

-- a marker is 16 times 255
all_255 : (octets : List ℕ) → list_all (λ octet. octet == 255) octets ≡ true → octets ≡ replicate (length octets) 255
all_255 [] h = refl
all_255 (octet ∷ octets) h =
    let both = and_parts (octet == 255) (list_all (λ o. o == 255) octets) h in
    let first : octet ≡ 255 = eqb-true octet 255 both.0 in
    let others = all_255 octets both.1 in
    cc

is_marker : (octets : List ℕ) → 19 ≤ length octets → has_marker octets ≡ true → take 16 octets ≡ marker
unfolding has_marker marker
is_marker octets whole h =
    let sixteen : length (take 16 octets) ≡ 16 = length-take-le 16 octets (omega arith) in
    all_255 (take 16 octets) h ∙ ap (λ (n : ℕ). replicate n 255) sixteen

-- the two octets of a length
two_octets : (high low : ℕ) → high < 256 → low < 256 → to_be_bytes w16 (high * 256 + low) ≡ high ∷ low ∷ []
two_octets high low small_high small_low =
    let first : (high * 256 + low) / 256 % 256 ≡ high = omega arith in
    let second : (high * 256 + low) % 256 ≡ low = omega arith in
    rw (first, second) refl

header_parts : (octets : List ℕ) → 19 ≤ length octets → drop 16 octets ≡ get_or octets 16 0 ∷ get_or octets 17 0 ∷ get_or octets 18 0 ∷ drop 19 octets
header_parts octets whole =
    drop_more octets 16 0 (omega arith)
    ∙ ap (λ (x : List ℕ). get_or octets 16 0 ∷ x) (drop_more octets 17 0 (omega arith) ∙ ap (λ (x : List ℕ). get_or octets 17 0 ∷ x) (drop_more octets 18 0 (omega arith)))

passes : {F : Type 0} (b : Bool) (x : F) (others : Option F) → (if not b then Some x else others) ≡ None → b ≡ true
passes true x others none = refl
passes false x others none = absurd cc

marked_if_sound : (octets : List ℕ) → header_fault octets ≡ None → has_marker octets ≡ true
unfolding header_fault
marked_if_sound octets none = passes (has_marker octets) _ _ none

-- a message is its parts one after another
message_from_parts :
    (front rest body : List ℕ) (high low octet : ℕ) (kind : MessageType) → front ≡ marker
    → to_be_bytes w16 (19 + length body) ≡ high ∷ low ∷ [] → octet ≡ kind_octet kind → body ≡ rest
    → front ++ (high ∷ low ∷ octet ∷ rest) ≡ message_of kind body
unfolding message_of header_of
message_from_parts front rest body high low octet kind marked told kind_is body_is =
    ap (λ (x : List ℕ). x ++ (high ∷ low ∷ octet ∷ rest)) marked
    ∙ ap (λ (x : ℕ). marker ++ (high ∷ low ∷ x ∷ rest)) kind_is
    ∙ ap (λ (x : List ℕ). marker ++ (high ∷ low ∷ kind_octet kind ∷ x)) (sym body_is)
    ∙ sym (append_assoc (marker ++ (high ∷ low ∷ [])) (kind_octet kind ∷ []) body ∙ append_assoc marker (high ∷ low ∷ []) (kind_octet kind ∷ body))
    ∙ ap (λ (x : List ℕ). ((marker ++ x) ++ kind_octet kind ∷ []) ++ body) (sym told)

pub spelled : (octets : List ℕ) (kind : MessageType) (body : List ℕ) → All (λ octet. octet < 256) octets → IsMessage octets kind body → octets ≡ message_of kind body
spelled octets kind body small h =
    let parts : take 16 octets ++ drop 16 octets ≡ octets = take-append-drop 16 octets in
    let marked : take 16 octets ≡ marker = is_marker octets h.whole_header (marked_if_sound octets h.sound) in
    let high : get_or octets 16 0 < 256 = small 16 0 (omega (arith, h.whole_header)) in
    let low : get_or octets 17 0 < 256 = small 17 0 (omega (arith, h.whole_header)) in
    let count : 19 + length body ≡ told_length octets = omega (arith, ap length h.body_is, length-drop 19 octets, h.length_is, h.whole_header) in
    let told : to_be_bytes w16 (19 + length body) ≡ get_or octets 16 0 ∷ get_or octets 17 0 ∷ [] = ap (to_be_bytes w16) count ∙ two_octets _ _ high low in
    let kind_is : get_or octets 18 0 ≡ kind_octet kind = kind_octet-at (get_or octets 18 0) kind h.kind_is in
    sym parts ∙ ap (λ (x : List ℕ). take 16 octets ++ x) (header_parts octets h.whole_header)
    ∙ message_from_parts (take 16 octets) (drop 19 octets) body _ _ _ kind marked told kind_is h.body_is

long_spelling : (kind : MessageType) (body : List ℕ) → length (message_of kind body) ≡ 19 + length body
unfolding message_of header_of marker
long_spelling kind body = omega arith

told_in_spelling : (kind : MessageType) (body : List ℕ) → 19 + length body ≤ 4096 → told_length (message_of kind body) ≡ 19 + length body
unfolding message_of header_of marker
told_in_spelling kind body fits = omega arith

spelling_is_sound : (kind : MessageType) (body : List ℕ) → is_lawful_length kind (19 + length body) ≡ true → 19 + length body ≤ 4096 → header_fault (message_of kind body) ≡ None
unfolding message_of header_of marker has_marker
spelling_is_sound kind body may fits =
    let told = told_in_spelling kind body fits in
    sound_by_parts (message_of kind body) kind refl (omega (arith, told)) (omega (arith, told, fits)) (kind_at-octet kind) (ap (is_lawful_length kind) told ∙ may)

pub spelling_is_message : (kind : MessageType) (body : List ℕ) → is_lawful_length kind (19 + length body) ≡ true → 19 + length body ≤ 4096 → IsMessage (message_of kind body) kind body
unfolding message_of header_of marker
spelling_is_message kind body may fits = record {
  whole_header = omega (arith, long_spelling kind body);
  sound = spelling_is_sound kind body may fits;
  kind_is = kind_at-octet kind;
  length_is = long_spelling kind body ∙ sym (told_in_spelling kind body fits);
  body_is = refl;
}
