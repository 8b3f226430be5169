use Rattle.std.proofs.Common.{◌∙◌, ◌||◌, ap}
use Rattle.std.proofs.lemmas.Result.{IfOk-weaker}
use Rattle.net_prefix.specs.PayloadSets.{has}
use Rattle.vrp_delta.specs.Delta.{is_left}
use Rattle.vrp_delta.proofs.PayloadMembers.{same_from_clone}
use Rattle.vrp_delta.proofs.delta.changed.Goals as goal

pub returns : goal.returns
returns g c =
    let left = (c.in_ok-left.ensures).4 (λ x y k. same_from_clone x y k) in
    IfOk-weaker c.bitor.result _ _
    (λ after holds payload. let all = holds.4 (λ x y k. same_from_clone x y k) payload in
    all ∙ ap (λ b. b || has c.delta.inside.announced.keys payload) (left payload)
    ∙ ap (λ change. is_left c.args.set.now.keys change payload || has change.announced payload) c.delta.view_is)
    c.bitor.ensures
