use Rattle.std.proofs.Common.{◌==◌, false, if◌then◌else◌, Some, sym, ap, subst, ◌∙◌}
use Rattle.std.specs.Option.{IfSome}
use Rattle.rib_rows.proofs.RecordTables.{each_found, now_found, others_found, same_rows, sound_kept, sound_put, through_lent}
use Rattle.rib_rows.proofs.SentSteps.{held_put, lent_found}
use Rattle.rib_rows.specs.Records.{IsNeeded, IsPrepared, IsSound, row_of}
use Rattle.rib_rows.proofs.sent_map.hold_in.Goals as goal

pub returns-clause-rows : goal.returns-clause-rows
returns-clause-rows g c =
    let was = c.in-Some.record.now in
    let now = c.hold.new.self in
    let had = lent_found c.get_mut.result c.in-Some.record c.in-Some.is _ c.get_mut.ensures.value in
    sound_put (through_lent c.get_mut.result c.in-Some.record _ c.in-Some.is (c.get_mut.follows.holds now)) c.requires.rows
    (sound_kept was now (subst (λ o. IfSome o IsSound) had (each_found IsSound c.args.rows.now.entries c.requires.rows.1 c.args.prefix)) c.hold.ensures.row)

pub returns-clause-routed : goal.returns-clause-routed
returns-clause-routed g c =
    let now = c.hold.new.self in
    let had = lent_found c.get_mut.result c.in-Some.record c.in-Some.is _ c.get_mut.ensures.value in
    same_rows (through_lent c.get_mut.result c.in-Some.record _ c.in-Some.is (c.get_mut.follows.holds now)) (c.hold.ensures.row ∙ ap row_of (sym had))

pub returns-clause-others : goal.returns-clause-others
returns-clause-others g c =
    others_found (through_lent c.get_mut.result c.in-Some.record _ c.in-Some.is (c.get_mut.follows.holds c.hold.new.self))

pub returns-clause-held : goal.returns-clause-held
returns-clause-held g c =
    held_put (λ s o. if s == c.args.slot then Some (record { octets = c.args.sent.now; asked = false }) else o) c.args.rows.now.entries _ c.args.prefix c.in-Some.record.now c.hold.new.self
    (through_lent c.get_mut.result c.in-Some.record _ c.in-Some.is (c.get_mut.follows.holds c.hold.new.self))
    (lent_found c.get_mut.result c.in-Some.record c.in-Some.is _ c.get_mut.ensures.value) c.hold.ensures.held

pub returns-clause-ready : goal.returns-clause-ready
returns-clause-ready g c =
    subst (IsPrepared c.args.sent.now) (sym (now_found (through_lent c.get_mut.result c.in-Some.record _ c.in-Some.is (c.get_mut.follows.holds c.hold.new.self)))) c.hold.ensures.ready

pub returns-clause-needed : goal.returns-clause-needed
returns-clause-needed g c =
    subst IsNeeded (sym (now_found (through_lent c.get_mut.result c.in-Some.record _ c.in-Some.is (c.get_mut.follows.holds c.hold.new.self)))) ((λ none. c.hold.ensures.any), c.hold.ensures.compact)
