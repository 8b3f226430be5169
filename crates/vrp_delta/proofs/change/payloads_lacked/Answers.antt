use Rattle.std.proofs.Common.{◌∙◌, ◌&&◌, not, Bool, true, false, ◌≡◌, refl, sym}
use Rattle.std.proofs.lemmas.Result.{IfOk-weaker}
use Rattle.net_prefix.proofs.PayloadSets.{payload_cmp_total, same_set, sorted-filter}
use Rattle.net_prefix.specs.PayloadSets.{has}
use Rattle.vrp_delta.specs.Delta.{lacked}
use Rattle.vrp_delta.proofs.PayloadMembers.{has-lacked, same_from_clone}
use Rattle.vrp_delta.proofs.change.payloads_lacked.Goals as goal

turned : (a b : Bool) → (a && b) ≡ (b && a)
turned true true = refl
turned true false = refl
turned false true = refl
turned false false = refl

pub returns : goal.returns
returns g c =
    let set = c.args.set.now.keys in
    let other = c.args.other.now.keys in
    IfOk-weaker c.sub.result _ _
    (λ found holds. same_set found.keys (lacked set other) holds.3.1 (sorted-filter payload_cmp_total (λ p. not (has other p)) set c.len.ensures.ordered)
    (λ q. holds.4 (λ x y k. same_from_clone x y k) q ∙ turned (has set q) (not (has other q)) ∙ sym (has-lacked set other q)))
    c.sub.ensures
