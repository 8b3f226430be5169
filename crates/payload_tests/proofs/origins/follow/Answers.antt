use Rattle.std.proofs.Common.{◌≡◌, ◌&&◌, Bool, true, false, not, List, Result, Ok, Err, OnOk, refl, sym, ◌∙◌}
use Rattle.std.proofs.lemmas.Bool.{and_parts}
use Rattle.net_prefix.specs.PayloadSets.{IsPayloadSet, has}
use Rattle.net_prefix.specs.declared.payload.Vrp.{Vrp}
use Rattle.net_prefix.proofs.PayloadSets.{payload_cmp_total, same_set, sorted-filter}
use Rattle.vrp_delta.specs.Delta.{IsApplied, change_between}
use Rattle.vrp_delta.specs.Keeping.{IsChangeOf}
use Rattle.vrp_delta.proofs.PayloadMembers.{has-after_change, has-lacked}
use Rattle.payload_tests.proofs.origins.follow.Goals as goal

negated : (b : Bool) → not b ≡ true → b ≡ false
negated true h = absurd cc
negated false h = refl

fits : (old new : List Vrp) → IsPayloadSet old → IsPayloadSet new → IsChangeOf old (change_between old new)
fits old new old_rises new_rises = record {
  withdrawn_rises = sorted-filter payload_cmp_total (λ payload. not (has new payload)) old old_rises;
  announced_rises = sorted-filter payload_cmp_total (λ payload. not (has old payload)) new new_rises;
  withdraws_known = λ q h. (and_parts (not (has new q)) (has old q) (sym (has-lacked old new q) ∙ h)).1;
  announces_unknown = λ q h. negated (has old q) (and_parts (not (has old q)) (has new q) (sym (has-lacked new old q) ∙ h)).0;
}

reached : {X E : Type 0} (r : Result X E) (old new after : List Vrp) → IsPayloadSet new → OnOk r (IsApplied old (change_between old new) after) → OnOk r (IsPayloadSet after) → OnOk r (after ≡ new)
reached (Ok x) old new after new_rises applied rises = same_set after new rises new_rises (λ q. applied q ∙ has-after_change old new q)
reached (Err e) old new after new_rises applied rises = tt

pub change-requires : goal.change-requires
change-requires g c =
    rw (c.requires, c.in_ok-delta.ensures) (fits c.args.old.now.keys c.args.new.now.keys c.len.ensures.ordered c.len-2.ensures.ordered)

pub returns-clause-ok : goal.returns-clause-ok
returns-clause-ok g c =
    reached c.change.result c.args.old.now.keys c.args.new.now.keys c.change.new.self c.len-2.ensures.ordered
    (rw (c.requires, c.in_ok-delta.ensures) at c.change.ensures.ok) c.change.ensures.rises
