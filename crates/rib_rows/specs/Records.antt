-- All that is kept of each prefix: its routes with the candidates that they make, and what the peers hold of it.
use Rattle.std.specs.Prelude.{ℕ, ◌≡◌, true, false, All, List, Option, Some, None, IfSome, if◌then◌else◌}
use Rattle.std.specs.Map.{values_of}
use Rattle.std.specs.Option.{option_and_then}
use Rattle.net_prefix.specs.declared.prefix.Prefix.{Prefix}
use Rattle.prefix_trie.specs.TrieMap.{IsRising}
use Rattle.rib_out.specs.Held.{HeldRoute}
use Rattle.holdings.specs.Bounded.{IsCompact}
use Rattle.holdings.specs.Holdings.{HoldingsState, IsReady, held_by, holds_any}
use Rattle.prefix_table.specs.Picked.{picked}
use Rattle.rib_rows.specs.PrefixRows.{IsRow, PrefixRow, RowTable}

-- all that is kept of a prefix: its row, where there are routes, and what the peers hold
pub record PrefixRecord : Type 0 where
  pub row : Option PrefixRow
  pub sent : HoldingsState

-- the records by prefix
abbrev pub RecordTable : Type 0
RecordTable = List (Prefix × PrefixRecord)

-- the rows
abbrev pub routed : RecordTable → RowTable
routed table = picked (λ r. r.row) table

-- what the peers hold of a prefix, where some peer holds anything
abbrev pub sent_in : PrefixRecord → Option HoldingsState
sent_in r = if holds_any r.sent then Some r.sent else None

-- what the peers hold of all prefixes
abbrev pub sent_of : RecordTable → List (Prefix × HoldingsState)
sent_of table = picked sent_in table

-- a row is one of a prefix with routes
abbrev pub IsSound : PrefixRecord → Type 0
IsSound r = IfSome r.row IsRow

-- and there is one, or some peer holds the prefix; no attributes are kept that no peer holds
pub record IsRecord (r : PrefixRecord) : Type 0 where
  pub row : IfSome r.row IsRow
  pub needed : r.row ≡ None → holds_any r.sent ≡ true
  pub compact : IsCompact r.sent.holdings

-- what holds of the records
abbrev pub AreRecords : RecordTable → Type 0
AreRecords table = IsRising table × All IsRecord (values_of table)

-- what holds of them where nobody may need some
abbrev pub AreSound : RecordTable → Type 0
AreSound table = IsRising table × All IsSound (values_of table)

-- the row of a prefix, if there is one
abbrev pub row_of : Option PrefixRecord → Option PrefixRow
row_of o = option_and_then (λ r. r.row) o

-- what a slot's peer holds of a prefix
abbrev pub held_of : Option PrefixRecord → ℕ → Option HeldRoute
held_of o slot = option_and_then (λ r. held_by r.sent slot) o

-- somebody needs the record of a prefix, if there is one, and all attributes in it
abbrev pub IsNeeded : Option PrefixRecord → Type 0
IsNeeded o = IfSome o (λ r. (r.row ≡ None → holds_any r.sent ≡ true) × IsCompact r.sent.holdings)

-- a slot that holds these octets of a prefix from now on takes no memory
abbrev pub IsPrepared : List ℕ → Option PrefixRecord → Type 0
IsPrepared octets None = ⊥
IsPrepared octets (Some r) = IsReady octets r.sent

-- a route that a peer was sent once more, and one that it asks for again
abbrev pub renewed : HeldRoute → HeldRoute
renewed route = record { octets = route.octets; asked = false }

abbrev pub asked_again : HeldRoute → HeldRoute
asked_again route = record { octets = route.octets; asked = true }
