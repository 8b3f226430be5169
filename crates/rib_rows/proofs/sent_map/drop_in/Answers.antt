use Rattle.std.proofs.Common.{◌==◌, if◌then◌else◌, None, sym, ap, ◌∙◌}
use Rattle.rib_rows.proofs.RecordTables.{held_unneeded, now_found, others_found, put_twice, record_found, record_needed, records_put, row_unneeded, same_rows, sound_kept, through_lent}
use Rattle.rib_rows.proofs.SentSteps.{held_put, lent_found}
use Rattle.rib_rows.specs.Records.{held_of, row_of}
use Rattle.rib_rows.proofs.sent_map.drop_in.Goals as goal

pub returns-then-not-is_needed-clause-rows : goal.returns-then-not-is_needed-clause-rows
returns-then-not-is_needed-clause-rows g c =
    records_put (put_twice (through_lent c.get_mut.result c.in-Some.record _ c.in-Some.is (c.get_mut.follows.holds c.drop_slot.new.self)) c.remove.ensures.put) c.requires.rows tt

pub returns-then-not-is_needed-clause-others : goal.returns-then-not-is_needed-clause-others
returns-then-not-is_needed-clause-others g c =
    others_found (put_twice (through_lent c.get_mut.result c.in-Some.record _ c.in-Some.is (c.get_mut.follows.holds c.drop_slot.new.self)) c.remove.ensures.put)

pub returns-then-not-is_needed-clause-routed : goal.returns-then-not-is_needed-clause-routed
returns-then-not-is_needed-clause-routed g c =
    let now = c.drop_slot.new.self in
    let had = lent_found c.get_mut.result c.in-Some.record c.in-Some.is _ c.get_mut.ensures.value in
    same_rows (put_twice (through_lent c.get_mut.result c.in-Some.record _ c.in-Some.is (c.get_mut.follows.holds now)) c.remove.ensures.put)
    (sym (row_unneeded now c.is_needed.result c.is_needed.ensures c.if-not-is_needed.true) ∙ c.drop_slot.ensures.row ∙ ap row_of (sym had))

pub returns-then-not-is_needed-clause-held : goal.returns-then-not-is_needed-clause-held
returns-then-not-is_needed-clause-held g c = λ s.
    let now = c.drop_slot.new.self in
    let had = lent_found c.get_mut.result c.in-Some.record c.in-Some.is _ c.get_mut.ensures.value in
    ap (λ o. held_of o s) (now_found (put_twice (through_lent c.get_mut.result c.in-Some.record _ c.in-Some.is (c.get_mut.follows.holds now)) c.remove.ensures.put))
    ∙ sym (held_unneeded now c.is_needed.result c.is_needed.ensures c.if-not-is_needed.true s) ∙ c.drop_slot.ensures.held s ∙ ap (λ o. if s == c.args.slot then None else held_of o s) (sym had)

pub returns-else-not-is_needed-clause-rows : goal.returns-else-not-is_needed-clause-rows
returns-else-not-is_needed-clause-rows g c =
    let was = c.in-Some.record.now in
    let now = c.drop_slot.new.self in
    let had = lent_found c.get_mut.result c.in-Some.record c.in-Some.is _ c.get_mut.ensures.value in
    records_put (through_lent c.get_mut.result c.in-Some.record _ c.in-Some.is (c.get_mut.follows.holds now)) c.requires.rows
    (record_needed now c.is_needed.result (sound_kept was now (record_found c.args.rows.now.entries c.args.prefix was c.requires.rows had).row c.drop_slot.ensures.row) c.is_needed.ensures c.if-not-is_needed.false c.drop_slot.ensures.compact)

pub returns-else-not-is_needed-clause-others : goal.returns-else-not-is_needed-clause-others
returns-else-not-is_needed-clause-others g c = others_found (through_lent c.get_mut.result c.in-Some.record _ c.in-Some.is (c.get_mut.follows.holds c.drop_slot.new.self))

pub returns-else-not-is_needed-clause-routed : goal.returns-else-not-is_needed-clause-routed
returns-else-not-is_needed-clause-routed g c =
    let had = lent_found c.get_mut.result c.in-Some.record c.in-Some.is _ c.get_mut.ensures.value in
    same_rows (through_lent c.get_mut.result c.in-Some.record _ c.in-Some.is (c.get_mut.follows.holds c.drop_slot.new.self)) (c.drop_slot.ensures.row ∙ ap row_of (sym had))

pub returns-else-not-is_needed-clause-held : goal.returns-else-not-is_needed-clause-held
returns-else-not-is_needed-clause-held g c =
    held_put (λ s o. if s == c.args.slot then None else o) c.args.rows.now.entries _ c.args.prefix c.in-Some.record.now c.drop_slot.new.self
    (through_lent c.get_mut.result c.in-Some.record _ c.in-Some.is (c.get_mut.follows.holds c.drop_slot.new.self))
    (lent_found c.get_mut.result c.in-Some.record c.in-Some.is _ c.get_mut.ensures.value) c.drop_slot.ensures.held
