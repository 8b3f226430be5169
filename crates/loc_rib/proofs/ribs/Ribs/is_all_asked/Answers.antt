use Rattle.std.proofs.Common.{sym, ◌∙◌}
use Rattle.rib_rows.specs.Records.{sent_of}
use Rattle.loc_rib.proofs.SentTables.{asked_once, sent_rising}
use Rattle.loc_rib.specs.SentTables.{sent_to}
use Rattle.loc_rib.proofs.ribs.Ribs.is_all_asked.Goals as goal

pub returns : goal.returns
returns g c = λ is.
    let es = c.self.inside.rows.entries in
    rw (← c.self.view_is)
    (asked_once (sent_to (sent_of es) c.args.slot) (sent_rising es c.self.invariant.0.0 c.args.slot) ((c.self.invariant.1 c.args.slot).all (sym c.is_all_asked.ensures ∙ is)))
