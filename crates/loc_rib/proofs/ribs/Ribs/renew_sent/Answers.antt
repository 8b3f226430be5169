use Rattle.std.proofs.Common.{Bool, option_map}
use Rattle.net_prefix.specs.declared.prefix.Prefix.{Prefix}
use Rattle.rib_out.specs.Held.{is_among}
use Rattle.rib_rows.specs.Records.{renewed, sent_of}
use Rattle.loc_rib.proofs.SentTables.{put_others, renew_asked, renew_held, rest_same, send_marks, sent_rising}
use Rattle.loc_rib.proofs.ribs.Ribs.renew_sent.Goals as goal

pub invariant_of-self : goal.invariant_of-self
invariant_of-self g c =
    let old = c.self.inside.rows.entries in
    let new = c.renew_all.new.rows.entries in
    let rising = c.self.invariant.0.0 in
    let also = c.renew_all.ensures.rows.0 in
    let told : Prefix → Bool = λ q. is_among q c.args.prefixes.now in (
      c.renew_all.ensures.rows,
      send_marks (sent_of old) (sent_of new) c.args.slot c.self.inside.marks.holders c.self.inside.marks.askers c.self.inside.marks.all_asked c.send.new.self.holders c.send.new.self.askers c.send.new.self.all_asked c.self.invariant.1
          (put_others old new rising also c.args.slot told (option_map renewed) c.renew_all.ensures.held) (sent_rising new also c.args.slot) told (renew_asked old new rising also c.args.slot c.args.prefixes.now c.renew_all.ensures.held) c.send.ensures.holders c.send.ensures.askers c.send.ensures.all_asked,
    )

pub returns-clause-held : goal.returns-clause-held
returns-clause-held g c =
    let old = c.self.inside.rows.entries in
    let new = c.renew_all.new.rows.entries in
    let rising = c.self.invariant.0.0 in
    let also = c.renew_all.ensures.rows.0 in
    rw (← c.self.view_is) (renew_held old new rising also c.args.slot c.args.prefixes.now c.renew_all.ensures.held)

pub returns-clause-asked : goal.returns-clause-asked
returns-clause-asked g c =
    let old = c.self.inside.rows.entries in
    let new = c.renew_all.new.rows.entries in
    let rising = c.self.invariant.0.0 in
    let also = c.renew_all.ensures.rows.0 in
    rw (← c.self.view_is) (renew_asked old new rising also c.args.slot c.args.prefixes.now c.renew_all.ensures.held)

pub returns-clause-others : goal.returns-clause-others
returns-clause-others g c =
    let old = c.self.inside.rows.entries in
    let new = c.renew_all.new.rows.entries in
    let rising = c.self.invariant.0.0 in
    let also = c.renew_all.ensures.rows.0 in
    let told : Prefix → Bool = λ q. is_among q c.args.prefixes.now in
    rw (← c.self.view_is) (put_others old new rising also c.args.slot told (option_map renewed) c.renew_all.ensures.held)

pub returns-clause-rest : goal.returns-clause-rest
returns-clause-rest g c =
    rw (← c.self.view_is) (rest_same c.self.inside.rows.entries c.renew_all.new.rows.entries c.self.invariant.0.0 c.renew_all.ensures.rows.0 c.self.inside.meter.count c.renew_all.ensures.routed)
