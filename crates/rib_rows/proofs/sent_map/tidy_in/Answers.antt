use Rattle.std.proofs.Common.{sym, ap, subst, ◌∙◌}
use Rattle.std.specs.Option.{IfSome}
use Rattle.rib_rows.proofs.RecordTables.{each_found, held_unneeded, now_found, others_found, put_twice, record_needed, row_unneeded, same_rows, sound_kept, sound_put, through_lent}
use Rattle.rib_rows.proofs.SentSteps.{held_put, lent_found}
use Rattle.rib_rows.specs.Records.{IsNeeded, IsSound, held_of, row_of}
use Rattle.rib_rows.proofs.sent_map.tidy_in.Goals as goal

pub returns-then-not-is_needed-clause-rows : goal.returns-then-not-is_needed-clause-rows
returns-then-not-is_needed-clause-rows g c =
    let now = c.tidy.new.self in
    sound_put (put_twice (through_lent c.get_mut.result c.in-Some.record _ c.in-Some.is (c.get_mut.follows.holds now)) c.remove.ensures.put) c.requires tt

pub returns-then-not-is_needed-clause-routed : goal.returns-then-not-is_needed-clause-routed
returns-then-not-is_needed-clause-routed g c =
    let now = c.tidy.new.self in
    let had = lent_found c.get_mut.result c.in-Some.record c.in-Some.is _ c.get_mut.ensures.value in
    same_rows (put_twice (through_lent c.get_mut.result c.in-Some.record _ c.in-Some.is (c.get_mut.follows.holds now)) c.remove.ensures.put) (sym (row_unneeded now c.is_needed.result c.is_needed.ensures c.if-not-is_needed.true) ∙ c.tidy.ensures.row ∙ ap row_of (sym had))

pub returns-then-not-is_needed-clause-held : goal.returns-then-not-is_needed-clause-held
returns-then-not-is_needed-clause-held g c = λ s.
    let now = c.tidy.new.self in
    let had = lent_found c.get_mut.result c.in-Some.record c.in-Some.is _ c.get_mut.ensures.value in
    ap (λ o. held_of o s)
    (now_found (put_twice (through_lent c.get_mut.result c.in-Some.record _ c.in-Some.is (c.get_mut.follows.holds now)) c.remove.ensures.put))
    ∙ sym (held_unneeded now c.is_needed.result c.is_needed.ensures c.if-not-is_needed.true s) ∙ c.tidy.ensures.held s ∙ ap (λ o. held_of o s) (sym had)

pub returns-else-not-is_needed-clause-rows : goal.returns-else-not-is_needed-clause-rows
returns-else-not-is_needed-clause-rows g c =
    let was = c.in-Some.record.now in
    let now = c.tidy.new.self in
    let had = lent_found c.get_mut.result c.in-Some.record c.in-Some.is _ c.get_mut.ensures.value in
    sound_put (through_lent c.get_mut.result c.in-Some.record _ c.in-Some.is (c.get_mut.follows.holds now)) c.requires
    (sound_kept was now (subst (λ o. IfSome o IsSound) had (each_found IsSound c.args.rows.now.entries c.requires.1 c.args.prefix)) c.tidy.ensures.row)

pub returns-else-not-is_needed-clause-routed : goal.returns-else-not-is_needed-clause-routed
returns-else-not-is_needed-clause-routed g c =
    let now = c.tidy.new.self in
    let had = lent_found c.get_mut.result c.in-Some.record c.in-Some.is _ c.get_mut.ensures.value in
    same_rows (through_lent c.get_mut.result c.in-Some.record _ c.in-Some.is (c.get_mut.follows.holds now)) (c.tidy.ensures.row ∙ ap row_of (sym had))

pub returns-then-not-is_needed-clause-others : goal.returns-then-not-is_needed-clause-others
returns-then-not-is_needed-clause-others g c =
    others_found (put_twice (through_lent c.get_mut.result c.in-Some.record _ c.in-Some.is (c.get_mut.follows.holds c.tidy.new.self)) c.remove.ensures.put)

pub returns-else-not-is_needed-clause-others : goal.returns-else-not-is_needed-clause-others
returns-else-not-is_needed-clause-others g c =
    others_found (through_lent c.get_mut.result c.in-Some.record _ c.in-Some.is (c.get_mut.follows.holds c.tidy.new.self))

pub returns-else-not-is_needed-clause-held : goal.returns-else-not-is_needed-clause-held
returns-else-not-is_needed-clause-held g c =
    held_put (λ s o. o) c.args.rows.now.entries _ c.args.prefix c.in-Some.record.now c.tidy.new.self
    (through_lent c.get_mut.result c.in-Some.record _ c.in-Some.is (c.get_mut.follows.holds c.tidy.new.self))
    (lent_found c.get_mut.result c.in-Some.record c.in-Some.is _ c.get_mut.ensures.value) c.tidy.ensures.held

pub returns-else-not-is_needed-clause-needed : goal.returns-else-not-is_needed-clause-needed
returns-else-not-is_needed-clause-needed g c =
    let was = c.in-Some.record.now in
    let now = c.tidy.new.self in
    let had = lent_found c.get_mut.result c.in-Some.record c.in-Some.is _ c.get_mut.ensures.value in
    let sound = sound_kept was now (subst (λ o. IfSome o IsSound) had (each_found IsSound c.args.rows.now.entries c.requires.1 c.args.prefix)) c.tidy.ensures.row in
    subst IsNeeded (sym (now_found (through_lent c.get_mut.result c.in-Some.record _ c.in-Some.is (c.get_mut.follows.holds now)))) ((record_needed now c.is_needed.result sound c.is_needed.ensures c.if-not-is_needed.false c.tidy.ensures.compact).needed, c.tidy.ensures.compact)
