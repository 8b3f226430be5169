-- What a table becomes once a borrow of one of its values ends.
use Rattle.std.specs.Prelude.{◌≡◌, Option, Some}
use Rattle.std.specs.Option.{OnSome}
use Rattle.std.specs.Borrow.{LendsSo, Fml, RattleType, MutBor}
use Rattle.std.specs.declared.alloc.Allocator.{Ghosts}
use Rattle.net_prefix.specs.declared.prefix.Prefix.{Prefix}
use Rattle.prefix_table.specs.Tables.{IsPut, TableState}
use Rattle.prefix_table.specs.contracts.table.PrefixTable.{the_row}

-- the prefix has the last value that is written through r, and each other one what it had; with no r all stays
abbrev pub lends_value : (V A : RattleType) (alloc : Ghosts A.Denot) → MutBor (TableState V.Denot) → Prefix → Option (MutBor V.Denot) → Fml
lends_value V A alloc s prefix r = LendsSo (the_row V A alloc) V s r (λ n w. OnSome r (IsPut s.now.entries n.entries prefix (Some w))) (λ n. n.entries ≡ s.now.entries)
