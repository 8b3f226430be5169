use Rattle.std.proofs.Common.{subst}
use Rattle.export_rules.specs.Export.{Tells}
use Rattle.export_rules.proofs.Accepted.{told_accepted}
use Rattle.export_rules.proofs.export.export_of.Goals as goal

pub returns-clause-accepted : goal.returns-clause-accepted
returns-clause-accepted g c =
    told_accepted c.write.result c.write.new.out.items c.args.route.now c.args.attrs.now c.args.peer.now c.args.action c.are_numbers.ensures c.is_sound.ensures
    (subst (Tells c.write.result c.write.new.out.items) (c.in-Some.ensures c.args.attrs.now) c.write.ensures.written)
