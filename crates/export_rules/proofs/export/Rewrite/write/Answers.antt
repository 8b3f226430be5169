use Rattle.std.proofs.Common.{subst}
use Rattle.bgp_attr.specs.AttributeSpelling.{attributes_spelling}
use Rattle.bgp_attr.specs.PathAttributes.{PathAttributes}
use Rattle.export_rules.specs.Export.{Tells, fitting}
use Rattle.export_rules.proofs.Travelling.{rewritten_travels}
use Rattle.export_rules.proofs.export.Rewrite.write.Goals as goal

pub returns-clause-travelling : goal.returns-clause-travelling
returns-clause-travelling g c =
    rewritten_travels c.write_fitting.result c.write_fitting.new.out.items c.args.self.now c.args.attrs.now c.rewritten.ensures.travelling
    (subst (λ (sent : PathAttributes). Tells c.write_fitting.result c.write_fitting.new.out.items (fitting (attributes_spelling sent))) c.rewritten.ensures.value c.write_fitting.ensures.fitting)
