use Rattle.std.proofs.Common.{◌≡◌, Some, OnErr, OnOk, sym, ap, subst, ◌∙◌}
use Rattle.std.specs.Option.{IfSome, option_copied_mut}
use Rattle.prefix_table.specs.Tables.{IsPut}
use Rattle.prefix_trie.specs.TrieMap.{found}
use Rattle.rib_rows.proofs.RecordTables.{each_found, needed_kept, now_found, others_found, same_put, same_rows, sound_kept, sound_put, through_lent}
use Rattle.rib_rows.proofs.RowSteps.{through_err}
use Rattle.rib_rows.proofs.SentSteps.{fresh_held, fresh_rows, fresh_sound, held_put, lent_found}
use Rattle.rib_rows.specs.Records.{IsNeeded, IsPrepared, IsSound, row_of}
use Rattle.rib_rows.proofs.sent_map.ready_in.Goals as goal

pub returns-in-Some-clause-rows : goal.returns-in-Some-clause-rows
returns-in-Some-clause-rows g c =
    let had = lent_found c.get_mut.result c.in-Some.record c.in-Some.is _ c.get_mut.ensures.value in
    sound_put (through_lent c.get_mut.result c.in-Some.record _ c.in-Some.is (c.get_mut.follows.holds c.make_ready.new.self)) c.requires
    (sound_kept c.in-Some.record.now c.make_ready.new.self (subst (λ o. IfSome o IsSound) had (each_found IsSound c.args.rows.now.entries c.requires.1 c.args.prefix)) c.make_ready.ensures.row)

pub returns-in-Some-clause-others : goal.returns-in-Some-clause-others
returns-in-Some-clause-others g c = others_found (through_lent c.get_mut.result c.in-Some.record _ c.in-Some.is (c.get_mut.follows.holds c.make_ready.new.self))

pub returns-in-Some-clause-routed : goal.returns-in-Some-clause-routed
returns-in-Some-clause-routed g c =
    let had = lent_found c.get_mut.result c.in-Some.record c.in-Some.is _ c.get_mut.ensures.value in
    same_rows (through_lent c.get_mut.result c.in-Some.record _ c.in-Some.is (c.get_mut.follows.holds c.make_ready.new.self)) (c.make_ready.ensures.row ∙ ap row_of (sym had))

pub returns-in-Some-clause-held : goal.returns-in-Some-clause-held
returns-in-Some-clause-held g c =
    held_put (λ s o. o) c.args.rows.now.entries _ c.args.prefix c.in-Some.record.now c.make_ready.new.self
    (through_lent c.get_mut.result c.in-Some.record _ c.in-Some.is (c.get_mut.follows.holds c.make_ready.new.self))
    (lent_found c.get_mut.result c.in-Some.record c.in-Some.is _ c.get_mut.ensures.value) c.make_ready.ensures.held

pub returns-in-Some-clause-ready : goal.returns-in-Some-clause-ready
returns-in-Some-clause-ready g c =
    subst (λ o. OnOk c.make_ready.result (IsPrepared c.args.sent.now o)) (sym (now_found (through_lent c.get_mut.result c.in-Some.record _ c.in-Some.is (c.get_mut.follows.holds c.make_ready.new.self)))) c.make_ready.ensures.ready

pub returns-in-Some-clause-kept : goal.returns-in-Some-clause-kept
returns-in-Some-clause-kept g c = λ ready.
    let had = lent_found c.get_mut.result c.in-Some.record c.in-Some.is _ c.get_mut.ensures.value in
    let stays = c.make_ready.ensures.kept (subst (IsPrepared c.args.sent.now) had ready) in
    (same_put (through_lent c.get_mut.result c.in-Some.record _ c.in-Some.is (c.get_mut.follows.holds c.make_ready.new.self)) (ap (λ r. Some r) stays.0 ∙ sym had), stays.1)

pub returns-in-Some-clause-refused : goal.returns-in-Some-clause-refused
returns-in-Some-clause-refused g c =
    let was = c.in-Some.record.now in
    let now = c.make_ready.new.self in
    let had = lent_found c.get_mut.result c.in-Some.record c.in-Some.is _ c.get_mut.ensures.value in
    let put = through_lent c.get_mut.result c.in-Some.record _ c.in-Some.is (c.get_mut.follows.holds now) in
    through_err c.make_ready.result _ _ c.make_ready.ensures.refused
    (λ compact needed. subst IsNeeded (sym (now_found put)) (needed_kept was now (subst IsNeeded had needed) c.make_ready.ensures.row c.make_ready.ensures.any compact))

pub returns-clause-rows : goal.returns-clause-rows
returns-clause-rows g c =
    let same = c.get_mut.follows.holds-at-none in
    let r = c.make_ready-2.new.self in
    fresh_sound c.insert.result c.args.rows.now.entries c.insert.new.self.entries c.args.prefix r
    (record { row = c.make_ready-2.ensures.row ∙ c.new-record.ensures.row; sent = c.make_ready-2.ensures.any ∙ c.new-record.ensures.sent })
    (sym c.get_mut.ensures.value ∙ ap option_copied_mut c.in_default.is)
    (subst (λ es. OnOk c.insert.result (IsPut es c.insert.new.self.entries c.args.prefix (Some r))) same c.insert.ensures.put)
    (subst (λ es. OnErr c.insert.result (c.insert.new.self.entries ≡ es)) same c.insert.ensures.err) c.requires

pub returns-clause-routed : goal.returns-clause-routed
returns-clause-routed g c =
    let same = c.get_mut.follows.holds-at-none in
    let r = c.make_ready-2.new.self in
    fresh_rows c.insert.result c.args.rows.now.entries c.insert.new.self.entries c.args.prefix r
    (record { row = c.make_ready-2.ensures.row ∙ c.new-record.ensures.row; sent = c.make_ready-2.ensures.any ∙ c.new-record.ensures.sent })
    (sym c.get_mut.ensures.value ∙ ap option_copied_mut c.in_default.is)
    (subst (λ es. OnOk c.insert.result (IsPut es c.insert.new.self.entries c.args.prefix (Some r))) same c.insert.ensures.put)
    (subst (λ es. OnErr c.insert.result (c.insert.new.self.entries ≡ es)) same c.insert.ensures.err)

pub returns-clause-held : goal.returns-clause-held
returns-clause-held g c =
    let same = c.get_mut.follows.holds-at-none in
    let r = c.make_ready-2.new.self in
    fresh_held c.insert.result c.args.rows.now.entries c.insert.new.self.entries c.args.prefix r
    (record { row = c.make_ready-2.ensures.row ∙ c.new-record.ensures.row; sent = c.make_ready-2.ensures.any ∙ c.new-record.ensures.sent })
    (sym c.get_mut.ensures.value ∙ ap option_copied_mut c.in_default.is)
    (subst (λ es. OnOk c.insert.result (IsPut es c.insert.new.self.entries c.args.prefix (Some r))) same c.insert.ensures.put)
    (subst (λ es. OnErr c.insert.result (c.insert.new.self.entries ≡ es)) same c.insert.ensures.err)

pub returns-clause-kept : goal.returns-clause-kept
returns-clause-kept g c = λ ready. absurd (subst (IsPrepared c.args.sent.now) (sym c.get_mut.ensures.value ∙ ap option_copied_mut c.in_default.is) ready)

pub returns-clause-refused : goal.returns-clause-refused
returns-clause-refused g c =
    let same = c.get_mut.follows.holds-at-none in
    through_err c.insert.result _ _ (subst (λ es. OnErr c.insert.result (c.insert.new.self.entries ≡ es)) same c.insert.ensures.err)
    (λ stays needed. subst (λ es. IsNeeded (found es c.args.prefix)) (sym stays) needed)
