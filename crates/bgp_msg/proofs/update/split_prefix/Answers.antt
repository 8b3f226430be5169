use Rattle.std.proofs.Common.{◌∙◌, ap, sym, Some, List, ℕ}
use Rattle.bgp_msg.proofs.PrefixLists.{prefix_at-begins, prefix_at-none}
use Rattle.bgp_msg.proofs.update.split_prefix.Goals as goal

pub returns-in-Ok-clause-prefix : goal.returns-in-Ok-clause-prefix
returns-in-Ok-clause-prefix c =
    prefix_at-begins _ c.in-Ok.prefix _ c.in-Ok.ensures.answer ∙ ap (λ (x : List ℕ). Some (c.in-Ok.prefix, x)) (sym c.split_at.ensures.back)

pub returns-in-Err-clause-prefix : goal.returns-in-Err-clause-prefix
returns-in-Err-clause-prefix c = prefix_at-none _ _ c.in-Err.ensures.answer
