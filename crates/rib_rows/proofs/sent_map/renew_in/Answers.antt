use Rattle.std.proofs.Common.{◌==◌, if◌then◌else◌, option_map, sym, ap, ◌∙◌}
use Rattle.rib_rows.proofs.RecordTables.{others_found, record_found, record_kept, records_put, same_rows, through_lent}
use Rattle.rib_rows.proofs.SentSteps.{held_put, lent_found}
use Rattle.rib_rows.specs.Records.{renewed, row_of}
use Rattle.rib_rows.proofs.sent_map.renew_in.Goals as goal

pub returns-clause-rows : goal.returns-clause-rows
returns-clause-rows g c =
    let was = c.in-Some.record.now in
    let now = c.renew.new.self in
    let had = lent_found c.get_mut.result c.in-Some.record c.in-Some.is _ c.get_mut.ensures.value in
    records_put (through_lent c.get_mut.result c.in-Some.record _ c.in-Some.is (c.get_mut.follows.holds now)) c.requires.rows
    (record_kept was now (record_found c.args.rows.now.entries c.args.prefix was c.requires.rows had) c.renew.ensures.row c.renew.ensures.any c.renew.ensures.stays)

pub returns-clause-routed : goal.returns-clause-routed
returns-clause-routed g c =
    let now = c.renew.new.self in
    let had = lent_found c.get_mut.result c.in-Some.record c.in-Some.is _ c.get_mut.ensures.value in
    same_rows (through_lent c.get_mut.result c.in-Some.record _ c.in-Some.is (c.get_mut.follows.holds now)) (c.renew.ensures.row ∙ ap row_of (sym had))

pub returns-clause-others : goal.returns-clause-others
returns-clause-others g c =
    others_found (through_lent c.get_mut.result c.in-Some.record _ c.in-Some.is (c.get_mut.follows.holds c.renew.new.self))

pub returns-clause-held : goal.returns-clause-held
returns-clause-held g c =
    held_put (λ s o. if s == c.args.slot then option_map renewed o else o) c.args.rows.now.entries _ c.args.prefix c.in-Some.record.now c.renew.new.self
    (through_lent c.get_mut.result c.in-Some.record _ c.in-Some.is (c.get_mut.follows.holds c.renew.new.self))
    (lent_found c.get_mut.result c.in-Some.record c.in-Some.is _ c.get_mut.ensures.value) c.renew.ensures.held
