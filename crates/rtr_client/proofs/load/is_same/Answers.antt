use Rattle.std.proofs.Common.{◌∙◌, sym, ap, refl}
use Rattle.std.specs.Cmp.Lexicographic.{lists_ties}
use Rattle.std.specs.Ordering.{is_eq}
use Rattle.net_prefix.specs.PayloadOrder.{payload_cmp}
use Rattle.rtr_client.proofs.load.is_same.Goals as goal

pub returns : goal.returns
returns g c = c.is_eq.ensures ∙ ap is_eq c.cmp.ensures ∙ sym (lists_ties payload_cmp (λ x y. refl) c.args.set.now.keys c.args.other.now.keys)
