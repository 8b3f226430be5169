use Rattle.std.proofs.Common.{◌≡◌, ◌≢◌, ℕ, Bool, true, false, List, [], ◌∷◌, Option, Some, None, is_none, cond, refl, inl, arith}
use Rattle.std.specs.Option.{IsSome}
use Rattle.bgp_attr.specs.AsPath.{PathSegment}
use Rattle.bgp_attr.specs.AttributeFaults.{Fault, attributes_fault, or_else}
use Rattle.bgp_attr.specs.AttributeReading.{NeedMemory, attributes_in}
use Rattle.bgp_attr.specs.PathAttributes.{missing_of}
use Rattle.bgp_attr.specs.declared.attribute_type.AttributeType.{AttributeType}
use Rattle.bgp_attr.specs.declared.attribute_type.AttributeType.TheVariants.{Origin, AsPath}
use Rattle.bgp_attr.specs.declared.peer.PeerKind.{PeerKind}
use Rattle.bgp_msg.specs.MessageSpelling.{front_prefixes, update_parts}
use Rattle.bgp_msg.specs.UpdateMeaning.{fault_before_memory, fault_of_parts, missing_fault, prefixes_fault, update_fault, update_in, update_of_parts}
use Rattle.routing.specs.Updates.{NeedsMemory}
use Rattle.bgp_msg.proofs.PrefixLists.{prefixes_in-parts, wire_form-read}

-- What an UPDATE that is queued tells of prefixes, read back.

pub no_prefixes : (front_prefixes []).0 ≡ []
no_prefixes = (prefixes_in-parts [] [] (wire_form-read [] (λ k d h. absurd (omega arith)))).0

-- A faultless UPDATE that announces a prefix has an AS_PATH.

path_by : (no_origin : Bool) (path : Option (List PathSegment)) (behind : Option AttributeType) → cond no_origin (Some Origin) (cond (is_none path) (Some AsPath) behind) ≡ None → IsSome path
path_by true path behind none = absurd (cc)
path_by false None behind none = absurd (cc)
path_by false (Some path) behind none = refl

or_none : (a b : Option Fault) → or_else a b ≡ None → (a ≡ None) × (b ≡ None)
or_none None b none = (refl, none)
or_none (Some fault) b none = absurd (cc)

nothing_lacks : (octets : List ℕ) (missing : Option AttributeType) → missing_fault octets missing ≡ None → (front_prefixes octets).0 ≢ [] → missing ≡ None
nothing_lacks [] missing none some = absurd (some no_prefixes)
nothing_lacks (octet ∷ octets) None none some = refl
nothing_lacks (octet ∷ octets) (Some lacks) none some = absurd (cc)

needs_by : (kind : PeerKind) (found : Option (List ℕ × List ℕ × List ℕ)) → fault_of_parts kind found ≡ None → (update_of_parts kind found).announced ≢ []
    → (fault_before_memory kind found ≡ None) × NeedMemory (update_of_parts kind found).attrs
needs_by kind None none some = absurd (cc)
needs_by kind (Some parts) none some =
    let withdrawn = or_none (prefixes_fault parts.0) _ none in
    let attributes = or_none (attributes_fault kind parts.1) _ withdrawn.1 in
    let missing = or_none (missing_fault parts.2 (missing_of kind (attributes_in kind parts.1))) _ attributes.1 in (
      rw (withdrawn.0, attributes.0) refl,
      inl (path_by (is_none (attributes_in kind parts.1).origin) (attributes_in kind parts.1).as_path _ (nothing_lacks parts.2 (missing_of kind (attributes_in kind parts.1)) missing.0 some)),
    )

pub needs : (kind : PeerKind) (body : List ℕ) → update_fault kind body ≡ None → (update_in kind body).announced ≢ [] → NeedsMemory kind body
unfolding update_fault update_in
needs kind body none some = needs_by kind (update_parts body) none some
