use Rattle.std.proofs.Common.{Bool, None}
use Rattle.net_prefix.specs.declared.prefix.Prefix.{Prefix}
use Rattle.rib_out.specs.Held.{is_among}
use Rattle.rib_rows.specs.Records.{sent_of}
use Rattle.loc_rib.proofs.SentTables.{put_asked, put_held, put_others, rest_same, sent_rising, withdraw_marks}
use Rattle.loc_rib.proofs.ribs.Ribs.withdraw_sent.Goals as goal

pub invariant_of-self : goal.invariant_of-self
invariant_of-self g c =
    let old = c.self.inside.rows.entries in
    let new = c.drop_all.new.rows.entries in
    let rising = c.self.invariant.0.0 in
    let also = c.drop_all.ensures.rows.0 in
    let told : Prefix → Bool = λ q. is_among q c.args.prefixes.now in (
      c.drop_all.ensures.rows,
      withdraw_marks (sent_of old) (sent_of new) c.args.slot c.self.inside.marks.holders c.self.inside.marks.askers c.self.inside.marks.all_asked c.self.invariant.1
          (put_others old new rising also c.args.slot told (λ o. None) c.drop_all.ensures.held) (sent_rising new also c.args.slot) told (put_asked old new rising also c.args.slot told (λ o. None) c.drop_all.ensures.held) (put_held old new rising also c.args.slot told (λ o. None) c.drop_all.ensures.held),
    )

pub returns-clause-held : goal.returns-clause-held
returns-clause-held g c =
    let old = c.self.inside.rows.entries in
    let new = c.drop_all.new.rows.entries in
    let rising = c.self.invariant.0.0 in
    let also = c.drop_all.ensures.rows.0 in
    let told : Prefix → Bool = λ q. is_among q c.args.prefixes.now in
    rw (← c.self.view_is) (put_held old new rising also c.args.slot told (λ o. None) c.drop_all.ensures.held)

pub returns-clause-asked : goal.returns-clause-asked
returns-clause-asked g c =
    let old = c.self.inside.rows.entries in
    let new = c.drop_all.new.rows.entries in
    let rising = c.self.invariant.0.0 in
    let also = c.drop_all.ensures.rows.0 in
    let told : Prefix → Bool = λ q. is_among q c.args.prefixes.now in
    rw (← c.self.view_is) (put_asked old new rising also c.args.slot told (λ o. None) c.drop_all.ensures.held)

pub returns-clause-others : goal.returns-clause-others
returns-clause-others g c =
    let old = c.self.inside.rows.entries in
    let new = c.drop_all.new.rows.entries in
    let rising = c.self.invariant.0.0 in
    let also = c.drop_all.ensures.rows.0 in
    let told : Prefix → Bool = λ q. is_among q c.args.prefixes.now in
    rw (← c.self.view_is) (put_others old new rising also c.args.slot told (λ o. None) c.drop_all.ensures.held)

pub returns-clause-rest : goal.returns-clause-rest
returns-clause-rest g c =
    rw (← c.self.view_is) (rest_same c.self.inside.rows.entries c.drop_all.new.rows.entries c.self.invariant.0.0 c.drop_all.ensures.rows.0 c.self.inside.meter.count c.drop_all.ensures.routed)
