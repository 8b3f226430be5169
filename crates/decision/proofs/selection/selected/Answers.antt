use Rattle.std.proofs.Common.{List, slice_get, ap, ◌∙◌}
use Rattle.decision.specs.declared.candidate.Candidate.{Candidate}
use Rattle.decision.specs.Selection.{unbeaten, has_fewer_ases, has_lower_origin, has_lower_med, is_external_alone, has_lower_cost, has_lower_identifier, has_lower_address}
use Rattle.decision.specs.Steps.{left_of}
use Rattle.decision.proofs.Best.{fold_first}
use Rattle.decision.proofs.selection.selected.Goals as goal

pub returns : goal.returns
returns c =
    c.first.ensures ∙ fold_first (left_of c.lowest-left-6.result)
    ∙ ap (λ (left : List Candidate). slice_get left 0)
    (c.lowest-left-6.ensures.left ∙ ap (unbeaten has_lower_address)
    (c.lowest-left-5.ensures.left ∙ ap (unbeaten has_lower_identifier)
    (c.lowest-left-4.ensures.left ∙ ap (unbeaten has_lower_cost)
    (c.lowest-left-3.ensures.left ∙ ap (unbeaten is_external_alone)
    (c.lowest_med-left.ensures.left ∙ ap (unbeaten has_lower_med)
    (c.lowest-left-2.ensures.left ∙ ap (unbeaten has_lower_origin)
    (c.lowest-left.ensures.left ∙ ap (unbeaten has_fewer_ases) c.preferred-left.ensures.left)))))))
