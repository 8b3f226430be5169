use Rattle.std.proofs.Common.{◌||◌, ap, ◌∙◌}
use Rattle.net_prefix.specs.PayloadSets.{has}
use Rattle.local_exceptions.specs.ExceptionSets.{ExceptionSets}
use Rattle.local_exceptions.proofs.Kept.{is_under}
use Rattle.local_exceptions.proofs.exceptions.Exceptions.under.Goals as goal

pub returns : goal.returns
returns g c =
    is_under c.args.self.now c.args.set.now.keys c.in_ok-after.after.keys c.put_all.new.set.keys c.in_ok-after.ensures
    (λ q. c.in_ok-put_all.ensures q ∙ ap (λ (e : ExceptionSets). has c.in_ok-after.after.keys q || has e.asserted q) c.self.view_is)
