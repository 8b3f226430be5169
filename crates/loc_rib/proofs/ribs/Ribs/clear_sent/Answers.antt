use Rattle.rib_rows.specs.Records.{sent_of}
use Rattle.loc_rib.proofs.SentTables.{clear_marks, rest_same, sent_cleared}
use Rattle.loc_rib.proofs.ribs.Ribs.clear_sent.Goals as goal

pub invariant_of-self : goal.invariant_of-self
invariant_of-self g c =
    let old = c.self.inside.rows.entries in
    let new = c.clear_in.new.rows.entries in
    let rising = c.self.invariant.0.0 in
    let also = c.clear_in.ensures.rows.0 in (
      c.clear_in.ensures.rows,
      clear_marks (sent_of old) (sent_of new) c.args.slot c.self.inside.marks.holders c.self.inside.marks.askers c.self.inside.marks.all_asked c.clear.new.self.holders c.clear.new.self.askers c.clear.new.self.all_asked c.self.invariant.1
          (sent_cleared old new rising also c.args.slot c.clear_in.ensures.held) c.clear.ensures.holders c.clear.ensures.askers c.clear.ensures.all_asked,
    )

pub returns-clause-sent : goal.returns-clause-sent
returns-clause-sent g c =
    let old = c.self.inside.rows.entries in
    let new = c.clear_in.new.rows.entries in
    let rising = c.self.invariant.0.0 in
    let also = c.clear_in.ensures.rows.0 in
    rw (← c.self.view_is) (sent_cleared old new rising also c.args.slot c.clear_in.ensures.held)

pub returns-clause-rest : goal.returns-clause-rest
returns-clause-rest g c =
    let old = c.self.inside.rows.entries in
    let new = c.clear_in.new.rows.entries in
    let rising = c.self.invariant.0.0 in
    let also = c.clear_in.ensures.rows.0 in
    rw (← c.self.view_is) (rest_same old new rising also c.self.inside.meter.count c.clear_in.ensures.routed)
