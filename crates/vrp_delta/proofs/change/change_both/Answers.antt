use Rattle.std.proofs.Common.{ap, sym, ◌∙◌}
use Rattle.net_prefix.specs.PayloadSets.{has}
use Rattle.vrp_delta.specs.Delta.{Change}
use Rattle.vrp_delta.proofs.Changing.{changed_alike, undone}
use Rattle.vrp_delta.proofs.change.change_both.Goals as goal

pub returns-in-Ok-clause-follows : goal.returns-in-Ok-clause-follows
returns-in-Ok-clause-follows g c =
    let announced = ap (λ (d : Change). d.announced) c.delta.view_is in
    let withdrawn = ap (λ (d : Change). d.withdrawn) c.delta.view_is in
    changed_alike c.args.set.now.keys c.put_all.new.set.keys c.take_out_all.new.set.keys _ _ c.delta.inside.announced.keys c.delta.inside.withdrawn.keys c.args.delta.now
    c.requires.change announced withdrawn c.requires.follows c.in-Ok.ensures.rises c.take_out_all.ensures.rises
    c.in_ok-put_all.ensures.ok c.take_out_all.ensures.left c.in-Ok.ensures.ok

pub returns-in-Err-clause-err : goal.returns-in-Err-clause-err
returns-in-Err-clause-err g c =
    let announced = ap (λ (d : Change). d.announced) c.delta.view_is in
    undone c.args.set.now.keys c.put_all.new.set.keys c.take_out_all-in-Err.new.set.keys c.delta.inside.announced.keys
    c.put_all.ensures.rose c.take_out_all-in-Err.ensures.rises
    (λ q h. c.requires.change.announces_unknown q (ap (λ keys. has keys q) (sym announced) ∙ h))
    c.in_ok-put_all.ensures.ok c.take_out_all-in-Err.ensures.left

pub returns-in-Err-clause-follows : goal.returns-in-Err-clause-follows
returns-in-Err-clause-follows g c =
    let announced = ap (λ (d : Change). d.announced) c.delta.view_is in
    c.in-Err.ensures.err ∙ c.requires.follows
    ∙ sym (undone c.args.set.now.keys c.put_all.new.set.keys c.take_out_all-in-Err.new.set.keys c.delta.inside.announced.keys
    c.put_all.ensures.rose c.take_out_all-in-Err.ensures.rises
    (λ q h. c.requires.change.announces_unknown q (ap (λ keys. has keys q) (sym announced) ∙ h))
    c.in_ok-put_all.ensures.ok c.take_out_all-in-Err.ensures.left)
