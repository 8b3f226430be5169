use Rattle.std.proofs.Common.{◌≡◌, ◌⊎◌, inl, inr, ℕ, Bool, true, false, if◌then◌else◌, List, [], ◌∷◌, length, Option, Some, None, refl, ap, sym, subst, ◌∙◌, ◌<◌, ◌≤◌, ◌+◌, ◌*◌, ◌^◌, suc, nat_lt, take, drop, get_or, All, MatchOption, arith}
use Rattle.std.specs.Option.{option_map}
use Rattle.std.proofs.lemmas.Bool.{eq-eqb, cases_lt}
use Rattle.std.proofs.lemmas.List.{get_or-take, get_or-drop, get_or_past, length-take}
use Rattle.net_prefix.specs.declared.prefix.Prefix.{Prefix}
use Rattle.bgp_attr.specs.PathAttributes.{PathAttributes, missing_of}
use Rattle.bgp_attr.specs.AttributeFaults.{Fault, InvalidNetworkField, or_else, attributes_fault, fault_among}
use Rattle.bgp_attr.specs.AttributeReading.{attributes_in}
use Rattle.bgp_attr.specs.AttributeSpelling.{SpellsAttributes}
use Rattle.bgp_attr.specs.ReceivedAttributes.{AreOctets, split_of, split_within}
use Rattle.bgp_attr.specs.declared.attribute_type.AttributeType.{AttributeType}
use Rattle.bgp_attr.specs.declared.peer.PeerKind.{PeerKind}
use Rattle.bgp_msg.specs.MessageSpelling.{ArePrefixes, front_prefixes, are_prefixes_in, prefixes_in, update_parts, update_parts_behind, counted_at, wire_form, update_body}
use Rattle.bgp_msg.specs.UpdateMeaning.{UpdateBody, AreParts, IsUpdate, prefixes_fault, missing_fault, parts_fault, fault_of_parts, update_of_parts, said_by, update_fault, update_in}
use Rattle.bgp_msg.proofs.PrefixLists.{prefixes_in-are, prefixes-are, prefixes_in-parts, wire_form-are}
use Rattle.bgp_msg.proofs.WrittenMessages.{update_has_parts}

-- What a body spells is what is read.

-- octets that are prefixes have no fault, and are read as they
faultless_prefixes : (octets : List ℕ) (test : Bool) → are_prefixes_in octets ≡ test → (if test then None else Some InvalidNetworkField) ≡ None → prefixes_in octets ≡ Some (front_prefixes octets).0
faultless_prefixes octets true are none = rw are refl
faultless_prefixes octets false are none = absurd cc

prefixes_if_faultless : (octets : List ℕ) → prefixes_fault octets ≡ None → ArePrefixes octets (front_prefixes octets).0
prefixes_if_faultless octets none = prefixes-are octets _ (faultless_prefixes octets _ refl none)

sound_prefixes : (octets : List ℕ) (prefixes : List Prefix) → ArePrefixes octets prefixes → (prefixes_fault octets ≡ None) × (prefixes ≡ (front_prefixes octets).0)
sound_prefixes octets prefixes h =
    let parts = prefixes_in-parts octets prefixes (prefixes_in-are octets prefixes h) in
    (rw (eq-eqb _ _ parts.1) refl, sym parts.0)

-- a missing attribute
complete_parts : (announced : List ℕ) (missing : Option AttributeType) → missing_fault announced missing ≡ None → (announced ≡ []) ⊎ (missing ≡ None)
complete_parts [] missing none = inl refl
complete_parts (octet ∷ announced) None none = inr refl
complete_parts (octet ∷ announced) (Some kind) none = absurd cc

nothing_missing : (announced : List ℕ) (missing : Option AttributeType) → (announced ≡ []) ⊎ (missing ≡ None) → missing_fault announced missing ≡ None
nothing_missing announced missing (inl none) = rw none refl
nothing_missing [] missing (inr none) = refl
nothing_missing (octet ∷ announced) missing (inr none) = rw none refl

-- where the first of faults is none, all are
or_else-none : (fault other : Option Fault) → or_else fault other ≡ None → (fault ≡ None) × (other ≡ None)
or_else-none None other none = (refl, none)
or_else-none (Some fault) other none = absurd cc

all_there :
    (kind : PeerKind) (announced attributes : List ℕ) (attrs : PathAttributes) → attrs ≡ attributes_in kind attributes
    → (announced ≡ []) ⊎ (missing_of kind attrs ≡ None) → (announced ≡ []) ⊎ (missing_of kind (attributes_in kind attributes) ≡ None)
all_there kind announced attributes attrs is (inl none) = inl none
all_there kind announced attributes attrs is (inr none) = inr (ap (missing_of kind) (sym is) ∙ none)

same_update : (update other : UpdateBody) → update.withdrawn ≡ other.withdrawn → update.attrs ≡ other.attrs → update.announced ≡ other.announced → update ≡ other
same_update update other withdrawn attrs announced = λ i. record { withdrawn = withdrawn i; attrs = attrs i; announced = announced i }

-- what attributes are spelled is read, as a law of theirs says
abbrev AreRead : Type 0
AreRead = (kind : PeerKind) (octets : List ℕ) (attrs : PathAttributes) → SpellsAttributes kind octets attrs → (attributes_fault kind octets ≡ None) × (attributes_in kind octets ≡ attrs)

abbrev AreSpelled : Type 0
AreSpelled = (kind : PeerKind) (octets : List ℕ) → AreOctets octets → attributes_fault kind octets ≡ None → SpellsAttributes kind octets (attributes_in kind octets)

said_parts :
    AreRead → (kind : PeerKind) (withdrawn attributes announced : List ℕ) (update : UpdateBody) → AreParts kind withdrawn attributes announced update
    → (parts_fault kind (withdrawn, attributes, announced) ≡ None) × (said_by kind (withdrawn, attributes, announced) ≡ update)
said_parts law kind withdrawn attributes announced update h =
    let first = sound_prefixes withdrawn update.withdrawn h.withdrawn_are in
    let last = sound_prefixes announced update.announced h.announced_are in
    let attrs = law kind attributes update.attrs h.attributes_are in
    let missing : missing_fault announced (missing_of kind (attributes_in kind attributes)) ≡ None = nothing_missing announced _ (all_there kind announced attributes update.attrs (sym attrs.1) h.complete) in
    (rw (first.0, attrs.0, missing, last.0) refl, same_update (said_by kind (withdrawn, attributes, announced)) update (sym first.1) attrs.1 (sym last.1))

spelled_parts :
    AreSpelled → (kind : PeerKind) (withdrawn attributes announced : List ℕ) → AreOctets attributes → parts_fault kind (withdrawn, attributes, announced) ≡ None
    → AreParts kind withdrawn attributes announced (said_by kind (withdrawn, attributes, announced))
spelled_parts law kind withdrawn attributes announced octets none =
    let first = or_else-none (prefixes_fault withdrawn) _ none in
    let second = or_else-none (attributes_fault kind attributes) _ first.1 in
    let third = or_else-none (missing_fault announced (missing_of kind (attributes_in kind attributes))) _ second.1 in
    let fourth = or_else-none (prefixes_fault announced) _ third.1 in
    record {
      withdrawn_are = prefixes_if_faultless withdrawn first.0;
      attributes_are = law kind attributes octets second.0;
      announced_are = prefixes_if_faultless announced fourth.0;
      complete = complete_parts announced _ third.0;
    }

pub said_from_spelled : AreRead → (kind : PeerKind) (body : List ℕ) (update : UpdateBody) → IsUpdate kind body update → (update_fault kind body ≡ None) × (update_in kind body ≡ update)
unfolding update_fault update_in
said_from_spelled law kind body update h =
    let said = said_parts law kind h.0 h.1 h.2 update h.4 in
    (ap (fault_of_parts kind) h.3 ∙ said.0, ap (update_of_parts kind) h.3 ∙ said.1)

-- the parts of octets are octets
abbrev pair_of : List ℕ → List ℕ → List ℕ × List ℕ
pair_of first second = (first, second)

octets-drop : (n : ℕ) (xs : List ℕ) → AreOctets xs → AreOctets (drop n xs)
octets-drop n xs h = λ i. rw (get_or-drop n xs i 0) (h (n + i))

by_place : (n : ℕ) (xs : List ℕ) (i : ℕ) → AreOctets xs → (i < n) ⊎ (n ≤ i) → get_or (take n xs) i 0 < 256
by_place n xs i h (inl within) = rw (get_or-take n xs i 0 within) (h i)
by_place n xs i h (inr past) =
    let few : length (take n xs) ≤ i = omega (arith, length-take n xs, past) in
    rw (get_or_past (take n xs) i 0 few) (omega arith)

octets-take : (n : ℕ) (xs : List ℕ) → AreOctets xs → AreOctets (take n xs)
octets-take n xs h = λ i. by_place n xs i h (cases_lt i n)

abbrev with_withdrawn : List ℕ → List ℕ × List ℕ → List ℕ × List ℕ × List ℕ
with_withdrawn withdrawn rest = (withdrawn, rest.0, rest.1)

counted_by_fit :
    (n : ℕ) (rest : List ℕ) (cut : Bool) (parts : List ℕ × List ℕ) → AreOctets rest
    → (if cut then None else Some (pair_of (take n rest) (drop n rest))) ≡ Some parts → AreOctets parts.0 × AreOctets parts.1
counted_by_fit n rest true parts h e = absurd cc
counted_by_fit n rest false parts h e =
    let same : pair_of (take n rest) (drop n rest) ≡ parts = cc in
    (subst AreOctets (ap (λ (x : List ℕ × List ℕ). x.0) same) (octets-take n rest h), subst AreOctets (ap (λ (x : List ℕ × List ℕ). x.1) same) (octets-drop n rest h))

counted_octets : (octets : List ℕ) (parts : List ℕ × List ℕ) → AreOctets octets → counted_at octets ≡ Some parts → AreOctets parts.0 × AreOctets parts.1
counted_octets [] parts h e = absurd cc
counted_octets (high ∷ []) parts h e = absurd cc
counted_octets (high ∷ low ∷ rest) parts h e = counted_by_fit (high * 256 + low) rest (nat_lt (length rest) (high * 256 + low)) parts (λ i. h (suc (suc i))) e

second_octets :
    (withdrawn rest : List ℕ) (found : Option (List ℕ × List ℕ)) (first attributes announced : List ℕ) → AreOctets rest → counted_at rest ≡ found
    → option_map (with_withdrawn withdrawn) found ≡ Some (first, attributes, announced) → AreOctets attributes
second_octets withdrawn rest None first attributes announced h is e = absurd cc
second_octets withdrawn rest (Some parts) first attributes announced h is e =
    let same : with_withdrawn withdrawn parts ≡ (first, attributes, announced) = cc in
    subst AreOctets (ap (λ (x : List ℕ × List ℕ × List ℕ). x.1) same) (counted_octets rest parts h is).0

parts_octets :
    (found : Option (List ℕ × List ℕ)) (withdrawn attributes announced : List ℕ) → MatchOption found (Unit {0}) (λ parts. AreOctets parts.1)
    → update_parts_behind found ≡ Some (withdrawn, attributes, announced) → AreOctets attributes
parts_octets None withdrawn attributes announced h e = absurd cc
parts_octets (Some first) withdrawn attributes announced h e = second_octets first.0 first.1 _ withdrawn attributes announced h refl e

behind_octets : (body : List ℕ) (found : Option (List ℕ × List ℕ)) → AreOctets body → counted_at body ≡ found → MatchOption found (Unit {0}) (λ parts. AreOctets parts.1)
behind_octets body None h is = tt
behind_octets body (Some parts) h is = (counted_octets body parts h is).1

attributes_octets : (body : List ℕ) (found : List ℕ × List ℕ × List ℕ) → AreOctets body → update_parts body ≡ Some found → AreOctets found.1
attributes_octets body found h e = parts_octets (counted_at body) found.0 found.1 found.2 (behind_octets body _ h refl) e

spelled_by_parts :
    AreSpelled → (kind : PeerKind) (body : List ℕ) (found : Option (List ℕ × List ℕ × List ℕ)) → update_parts body ≡ found
    → AreOctets body → fault_of_parts kind found ≡ None → IsUpdate kind body (update_of_parts kind found)
spelled_by_parts law kind body None parts octets none = absurd cc
spelled_by_parts law kind body (Some found) parts octets none =
    (found.0, found.1, found.2, parts, spelled_parts law kind found.0 found.1 found.2 (attributes_octets body found octets parts) none)

pub spelled_from_said : AreSpelled → (kind : PeerKind) (body : List ℕ) → AreOctets body → update_fault kind body ≡ None → IsUpdate kind body (update_in kind body)
unfolding update_fault update_in
spelled_from_said law kind body octets none = spelled_by_parts law kind body _ refl octets none

-- no attributes have no fault
pub no_attributes : (kind : PeerKind) → attributes_fault kind [] ≡ None
unfolding attributes_fault split_of split_within fault_among
no_attributes kind = refl

-- what is written is said
wire_complete : (announced : List Prefix) (missing : Option AttributeType) → (announced ≡ []) ⊎ (missing ≡ None) → (wire_form announced ≡ []) ⊎ (missing ≡ None)
wire_complete announced missing (inl none) = inl (ap wire_form none)
wire_complete announced missing (inr none) = inr none

pub written_says :
    (kind : PeerKind) (withdrawn announced : List Prefix) (attributes : List ℕ) → All (λ prefix. prefix.bits < 2 ^ 32) withdrawn
    → All (λ prefix. prefix.bits < 2 ^ 32) announced → 23 + length (wire_form withdrawn) + length attributes + length (wire_form announced) ≤ 4096
    → attributes_fault kind attributes ≡ None → (announced ≡ []) ⊎ (missing_of kind (attributes_in kind attributes) ≡ None)
    → (update_fault kind (update_body (wire_form withdrawn) attributes (wire_form announced)) ≡ None)
    × (update_in kind (update_body (wire_form withdrawn) attributes (wire_form announced)) ≡ record { withdrawn = withdrawn; attrs = attributes_in kind attributes; announced = announced })
unfolding update_fault update_in
written_says kind withdrawn announced attributes small_withdrawn small_announced fits none complete =
    let parts = update_has_parts (wire_form withdrawn) attributes (wire_form announced) fits in
    let first = sound_prefixes (wire_form withdrawn) withdrawn (wire_form-are withdrawn small_withdrawn) in
    let last = sound_prefixes (wire_form announced) announced (wire_form-are announced small_announced) in
    let missing : missing_fault (wire_form announced) (missing_of kind (attributes_in kind attributes)) ≡ None = nothing_missing (wire_form announced) _ (wire_complete announced _ complete) in
    let said : UpdateBody = record { withdrawn = withdrawn; attrs = attributes_in kind attributes; announced = announced } in
    let faultless : parts_fault kind (wire_form withdrawn, attributes, wire_form announced) ≡ None = rw (first.0, none, missing, last.0) refl in
    (ap (fault_of_parts kind) parts ∙ faultless, ap (update_of_parts kind) parts ∙ same_update (said_by kind (wire_form withdrawn, attributes, wire_form announced)) said (sym first.1) refl (sym last.1))
