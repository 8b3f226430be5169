use Rattle.bgp_attr.specs.KeptUnknown.{list_kept}
use Rattle.bgp_attr.proofs.UnknownLists.{passed_on_put}
use Rattle.bgp_attr.proofs.unknown.UnknownAttributes.keep.Goals as goal

pub invariant_of-self : goal.invariant_of-self
invariant_of-self g c =
    passed_on_put c.args.code c.args.value.now (list_kept c.self.inside.attributes) (list_kept c.put_in_list.new.list) c.put_in_list.result c.requires.passed_on c.requires.short c.self.invariant
    c.put_in_list.ensures.kept c.put_in_list.ensures.refused
