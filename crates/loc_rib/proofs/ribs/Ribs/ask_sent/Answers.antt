use Rattle.std.proofs.Common.{sym, ◌∙◌}
use Rattle.rib_rows.specs.Records.{sent_of}
use Rattle.loc_rib.proofs.SentTables.{ask_marks, ask_skipped, rest_same, sent_asked}
use Rattle.loc_rib.proofs.ribs.Ribs.ask_sent.Goals as goal

pub returns-then-is_all_asked-clause-sent : goal.returns-then-is_all_asked-clause-sent
returns-then-is_all_asked-clause-sent g c =
    rw (← c.self.view_is)
    (ask_skipped c.self.inside.rows.entries c.self.invariant.0.0 c.args.slot c.self.inside.marks.holders c.self.inside.marks.askers c.self.inside.marks.all_asked c.self.invariant.1
    (sym c.is_all_asked.ensures ∙ c.if-is_all_asked.true))

pub invariant_of-self : goal.invariant_of-self
invariant_of-self g c =
    let old = c.self.inside.rows.entries in
    let new = c.ask_in.new.rows.entries in
    let rising = c.self.invariant.0.0 in
    let also = c.ask_in.ensures.rows.0 in (
      c.ask_in.ensures.rows,
      ask_marks (sent_of old) (sent_of new) c.args.slot c.self.inside.marks.holders c.self.inside.marks.askers c.self.inside.marks.all_asked c.ask.new.self.holders c.ask.new.self.askers c.ask.new.self.all_asked c.self.invariant.1
          (sent_asked old new rising also c.args.slot c.ask_in.ensures.held) c.ask.ensures.holders c.ask.ensures.askers c.ask.ensures.all_asked,
    )

pub returns-clause-sent : goal.returns-clause-sent
returns-clause-sent g c =
    let old = c.self.inside.rows.entries in
    let new = c.ask_in.new.rows.entries in
    let rising = c.self.invariant.0.0 in
    let also = c.ask_in.ensures.rows.0 in
    rw (← c.self.view_is) (sent_asked old new rising also c.args.slot c.ask_in.ensures.held)

pub returns-clause-rest : goal.returns-clause-rest
returns-clause-rest g c =
    let old = c.self.inside.rows.entries in
    let new = c.ask_in.new.rows.entries in
    let rising = c.self.invariant.0.0 in
    let also = c.ask_in.ensures.rows.0 in
    rw (← c.self.view_is) (rest_same old new rising also c.self.inside.meter.count c.ask_in.ensures.routed)
