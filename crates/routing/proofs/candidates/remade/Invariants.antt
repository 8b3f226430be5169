use Rattle.loc_rib.specs.SentTables.{SentTable}
use Rattle.routing.specs.Sent.{linked}
use Rattle.routing.specs.Tables.{payloads_under, tables}
use Rattle.routing.proofs.RemadeOffers.{RemadeBelow}
use Rattle.routing.proofs.candidates.remade.Given as goal

abbrev pub invariant-loop-slot : goal.invariant-loop-slot
invariant-loop-slot g l = (sent : SentTable) → RemadeBelow (tables l.fn.conf (payloads_under l.fn.conf l.fn.payloads) (linked l.fn.links.entries sent) l.fn.ribs.adj_in) l.fn.prefix l.slot l.changes.items
