use Rattle.std.specs.Io.KnownBytes.{Consumes}
use Rattle.payload_lists.proofs.front.read_front.Given as goal

abbrev pub invariant-loop : goal.invariant-loop
invariant-loop g l = Consumes (g.L.Read.remaining l.fn.list) (g.L.Read.remaining l.list) l.front.items
