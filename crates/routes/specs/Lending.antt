-- The payloads, lent to what follows a cache.
use Rattle.std.specs.Prelude.{List}
use Rattle.std.specs.Borrow.{Lends, Fml, RattleType, MutBor}
use Rattle.std.specs.declared.alloc.Allocator as allocator
use Rattle.std.specs.declared.clone.Clone as cloned
use Rattle.decision.specs.declared.book.Book as books
use Rattle.net_prefix.specs.declared.payload.Vrp.{Vrp}
use Rattle.origin_valid.specs.contracts.payload_trie.PayloadTrie as trie
use Rattle.routing.specs.RoutesState.{RoutesState, with_payloads}
use Rattle.routes.specs.contracts.routes.Routes.{the_row}

-- once the borrow ends, the routes have the payloads that were left behind it, and all else stays
abbrev pub lends_payloads : (A B : RattleType) (alloc : allocator.Ghosts A.Denot) (clone : cloned.Ghosts A.Denot) (book : books.Ghosts B.Denot A.Denot) → MutBor RoutesState → MutBor (List Vrp) → Fml
lends_payloads A B alloc clone book s r = Lends (the_row A B alloc clone book) (trie.the_row A alloc) s r (with_payloads s.now)
