-- The latest route of a peer to each prefix: Adj-RIB-In (RFC 4271 section 3.2).
use Rattle.std.specs.Prelude.{◌≡◌, ◌&&◌, ◌||◌, ℕ, Bool, not, false, List, Option, Some, None, if◌then◌else◌}
use Rattle.std.specs.List.{list_any}
use Rattle.std.specs.Ordering.{is_eq}
use Rattle.bgp_attr.specs.AttributeFaults.{Fault}
use Rattle.bgp_attr.specs.AttributeReading.{NeedMemory}
use Rattle.bgp_attr.specs.PathAttributes.{PathAttributes}
use Rattle.bgp_attr.specs.declared.peer.PeerKind.{PeerKind}
use Rattle.bgp_msg.specs.MessageSpelling.{update_parts}
use Rattle.bgp_msg.specs.UpdateMeaning.{UpdateBody, fault_before_memory, update_in}
use Rattle.net_prefix.specs.PrefixOrder.{prefix_cmp}
use Rattle.net_prefix.specs.declared.prefix.Prefix.{Prefix}

-- the prefix is one of these
abbrev pub is_among : Prefix → List Prefix → Bool
is_among prefix prefixes = list_any (λ p. is_eq (prefix_cmp p prefix)) prefixes

-- an UPDATE that withdraws and announces these withdraws the prefix, and doesn't announce it as well
abbrev pub is_only_withdrawn : List Prefix → List Prefix → Prefix → Bool
is_only_withdrawn withdrawn announced prefix = is_among prefix withdrawn && not (is_among prefix announced)

-- what an UPDATE says of a prefix, or what was said before where it doesn't name it; a prefix both withdrawn and
-- announced is announced (RFC 4271 section 4.3)
abbrev pub word_of : UpdateBody → Prefix → Option PathAttributes → Option PathAttributes
word_of update prefix before =
    if is_among prefix update.announced then Some update.attrs else (if is_among prefix update.withdrawn then None else before)

-- the same of an UPDATE that may be there
abbrev pub word_if : Option UpdateBody → Prefix → Option PathAttributes → Option PathAttributes
word_if None prefix before = before
word_if (Some update) prefix before = word_of update prefix before

-- the UPDATE, where there is one, withdraws or announces the prefix
abbrev pub is_named_if : Option UpdateBody → Prefix → Bool
is_named_if None prefix = false
is_named_if (Some update) prefix = is_among prefix update.withdrawn || is_among prefix update.announced

-- memory is taken for an UPDATE that has an AS_PATH or unknown attributes that are passed on, and no fault in its
-- lengths, withdrawn prefixes and attributes
abbrev pub NeedsMemory : PeerKind → List ℕ → Type 0
NeedsMemory kind body = (fault_before_memory kind (update_parts body) ≡ None) × NeedMemory (update_in kind body).attrs

-- an UPDATE without a fault
abbrev pub sound_update : PeerKind → List ℕ → Option Fault → Option UpdateBody
sound_update kind body None = Some (update_in kind body)
sound_update kind body (Some fault) = None
