-- What is found on the way down a trie.
use Rattle.std.specs.Prelude.{List, [], ◌∷◌, Option, None, Some, filter, ◌≡◌, MatchOption}
use Rattle.std.specs.Borrow.{Bor}
use Rattle.std.specs.Ordering.{is_lt}
use Rattle.net_prefix.specs.PrefixOrder.{prefix_cmp}
use Rattle.net_prefix.specs.declared.prefix.Prefix.{Prefix}
use Rattle.prefix_trie.specs.Shape.{Shape}

-- the first entry, if there is one
abbrev pub first_of : {V : Type 0} → List (Prefix × V) → Option (Prefix × V)
first_of [] = None
first_of (e ∷ es) = Some e

-- the first prefix, if there is one
abbrev pub first_key : {V : Type 0} → List (Prefix × V) → Option Prefix
first_key [] = None
first_key (e ∷ es) = Some e.0

-- the entries above a prefix
abbrev pub all_above : {V : Type 0} → Prefix → List (Prefix × V) → List (Prefix × V)
all_above p entries = filter (λ e. is_lt (prefix_cmp p e.0)) entries

-- the entries above a prefix, or all
abbrev pub all_after : {V : Type 0} → Option Prefix → List (Prefix × V) → List (Prefix × V)
all_after None entries = entries
all_after (Some p) entries = all_above p entries

-- a value that is lent, as its entry
abbrev pub seen : {V : Type 0} → Prefix × Bor V → Prefix × V
seen item = (item.0, item.1.now)

-- the entries of a part of a trie that is lent, if one is: those above a prefix, or all
abbrev pub left_in : {V : Type 0} → Option (Bor (Shape V)) → Option Prefix → List (Prefix × V)
left_in None last = []
left_in (Some part) last = all_after last part.now.entries

-- the first of the entries above a prefix, or of all, behind which come those above it; or there is none
abbrev pub IsNext : {V : Type 0} → Option (Prefix × Bor V) → Option Prefix → List (Prefix × V) → Type 0
IsNext next last entries = MatchOption next (all_after last entries ≡ []) (λ item. all_after last entries ≡ seen item ∷ all_above item.0 entries)
