-- The entries that cover a prefix, and those that it covers (RFC 6811 section 2).
use Rattle.std.specs.Prelude.{ℕ, ◌+◌, ◌*◌, ◌/◌, ◌==◌, ◌&&◌, ◌||◌, Bool, not, List, [], Option, None, Some, filter, length, nat_le}
use Rattle.std.specs.List.{list_any, range_with_len}
use Rattle.std.specs.Borrow.{Bor}
use Rattle.net_prefix.specs.Cover.{block_size}
use Rattle.net_prefix.specs.declared.prefix.Prefix.{Prefix}
use Rattle.prefix_trie.specs.Nodes.{depth}
use Rattle.prefix_trie.specs.Shape.{Shape}

-- whether the first prefix covers the second
abbrev pub covers : Prefix → Prefix → Bool
covers p q = nat_le p.len q.len && (p.bits / block_size p.len == q.bits / block_size p.len)

-- the entries whose prefixes cover the prefix
abbrev pub all_covering : {V : Type 0} → Prefix → List (Prefix × V) → List (Prefix × V)
all_covering prefix entries = filter (λ e. covers e.0 prefix) entries

-- the entries whose prefixes it covers
abbrev pub all_covered : {V : Type 0} → Prefix → List (Prefix × V) → List (Prefix × V)
all_covered prefix entries = filter (λ e. covers prefix e.0) entries

-- whether both prefixes have this many bits, and the same ones
abbrev pub share_bits : ℕ → Prefix → Prefix → Bool
share_bits len p q = len == 0 || (nat_le len p.len && (nat_le len q.len && (p.bits / block_size len == q.bits / block_size len)))

-- whether they share this many bits, and no more
abbrev pub part_behind : ℕ → Prefix → Prefix → Bool
part_behind len p q = share_bits len p q && not (share_bits (len + 1) p q)

-- how many nodes there are on the way to a prefix: a trie, seen from its entries, has one there for each length behind
-- which some of them part from the prefix, whether it has a value or only two sides
unfoldable pub nodes_towards : {V : Type 0} → Prefix → List (Prefix × V) → ℕ
nodes_towards prefix entries = length (filter (λ len. list_any (λ e. part_behind len prefix e.0) entries) (range_with_len 0 (prefix.len + 1)))

-- whether the prefix lies in the block of this length and number
abbrev pub lies_in : ℕ → ℕ → Prefix → Bool
lies_in len number p = nat_le len p.len && (p.bits / block_size len == number)

-- whether a trie with these entries has a node at that block: one of them is there, or both its halves have some
abbrev pub is_node : {V : Type 0} → ℕ → ℕ → List (Prefix × V) → Bool
is_node len number entries =
    list_any (λ e. e.0.len == len && (e.0.bits / block_size len == number)) entries
    || (list_any (λ e. lies_in (len + 1) (2 * number) e.0) entries && list_any (λ e. lies_in (len + 1) (2 * number + 1) e.0) entries)

-- how many nodes of such a trie cover the prefix
unfoldable pub nodes_covering : {V : Type 0} → Prefix → List (Prefix × V) → ℕ
nodes_covering prefix entries = length (filter (λ len. is_node len (prefix.bits / block_size len) entries) (range_with_len 0 (prefix.len + 1)))

-- a walk to the entries that cover a prefix: those still to come, how many nodes were looked at so far, and how many
-- are still to be looked at
pub record CoverWalk (V : Type 0) : Type 0 where
  pub left : List (Prefix × V)
  pub visited : ℕ
  pub nodes_left : ℕ

-- the entries that cover a prefix in a part of a trie that is lent, if one is
abbrev pub covering_in : {V : Type 0} → Prefix → Option (Bor (Shape V)) → List (Prefix × V)
covering_in prefix None = []
covering_in prefix (Some part) = all_covering prefix part.now.entries

-- the nodes on the way to the prefix there
abbrev pub nodes_in : {V : Type 0} → Prefix → Option (Bor (Shape V)) → ℕ
nodes_in prefix None = 0
nodes_in prefix (Some part) = nodes_towards prefix part.now.entries

-- how many lengths such a part may still have
abbrev pub depth_in : {V : Type 0} → Option (Bor (Shape V)) → ℕ
depth_in None = 0
depth_in (Some part) = depth part.now.root
