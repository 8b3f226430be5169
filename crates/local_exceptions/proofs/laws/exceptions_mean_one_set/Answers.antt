use Rattle.std.proofs.Common.{sym, ◌∙◌}
use Rattle.net_prefix.proofs.PayloadSets.{same_set}
use Rattle.local_exceptions.proofs.laws.exceptions_mean_one_set.Goals as goal

pub returns : goal.returns
returns c = λ e set a b rising_a rising_b is_a is_b. same_set a b rising_a rising_b (λ q. is_a q ∙ sym (is_b q))
