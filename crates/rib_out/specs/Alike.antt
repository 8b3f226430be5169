-- The prefixes that wait to be announced to each slot, by the octets of attributes that they are announced with (own).
use Rattle.std.specs.Prelude.{ℕ, ◌≡◌, Bool, true, List, [], slice_index_or}
use Rattle.std.specs.BTreeSet.{BTreeSet, contains}
use Rattle.std.specs.Hash.DefaultHasher as sip
use Rattle.std.specs.Ordering.{nat_cmp, ordering_then}
use Rattle.std.specs.declared.cmp.Ordering.{Ordering}
use Rattle.net_prefix.specs.PrefixOrder.{prefix_cmp}
use Rattle.net_prefix.specs.declared.prefix.Prefix.{Prefix}
use Rattle.rib_out.specs.Slots.{has_slot}
use Rattle.rib_out.specs.declared.slot_list.Alike.{Alike}

-- the list of each slot, and the slots whose list is whole
pub record AlikeState : Type 0 where
  pub lists : List (BTreeSet Alike)
  pub whole : ℕ

-- no prefixes
abbrev pub no_list : BTreeSet Alike
no_list = record { keys = [] }

-- the number of some octets
unfoldable pub octets_number : List ℕ → ℕ
octets_number octets = sip.finish (sip.write sip.initial octets)

-- a prefix by a number
abbrev pub alike : ℕ → Prefix → Alike
alike number prefix = record { number = number; prefix = prefix }

-- the order of what is listed: by number, then by prefix
abbrev pub alike_cmp : Alike → Alike → Ordering
alike_cmp a b = ordering_then (nat_cmp a.number b.number) (prefix_cmp a.prefix b.prefix)

-- whether the prefix is in the list by a number
abbrev pub has_alike : BTreeSet Alike → Alike → Bool
has_alike list a = contains alike_cmp list a

-- whether the prefix is listed for the slot by a number
abbrev pub is_entry : AlikeState → ℕ → Alike → Bool
is_entry lists slot a = has_alike (slice_index_or lists.lists slot no_list) a

-- whether the prefix is listed for the slot with octets of the same number
abbrev pub is_listed : AlikeState → ℕ → List ℕ → Prefix → Bool
is_listed lists slot octets prefix = is_entry lists slot (alike (octets_number octets) prefix)

-- it is, where the slot's list is whole
abbrev pub IsListed : AlikeState → ℕ → List ℕ → Prefix → Type 0
IsListed lists slot octets prefix = has_slot lists.whole slot ≡ true → is_listed lists slot octets prefix ≡ true
