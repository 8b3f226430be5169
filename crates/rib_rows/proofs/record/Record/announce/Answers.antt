use Rattle.rib_rows.proofs.RowSteps.{apart_same}
use Rattle.rib_rows.specs.PrefixRows.{offer_of}
use Rattle.rib_rows.proofs.record.Record.announce.Goals as goal

pub offer-requires-clause-apart : goal.offer-requires-clause-apart
offer-requires-clause-apart g c =
    apart_same c.args.slot c.args.candidate (offer_of c.args.self.now.row) (offer_of c.put.new.self.row) c.put.ensures.offers c.requires.apart
