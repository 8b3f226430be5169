use Rattle.std.proofs.Common.{◌≡◌, ◌∙◌, List, ap, sym, subst}
use Rattle.net_prefix.specs.declared.payload.Vrp.{Vrp}
use Rattle.net_prefix.specs.PayloadSets.{IsPayloadSet}
use Rattle.net_prefix.proofs.PayloadSets.{remove_key-out}
use Rattle.vrp_delta.specs.Delta.{Change}
use Rattle.vrp_delta.specs.Staged.{left}
use Rattle.vrp_delta.proofs.Staged.{left-again}
use Rattle.vrp_delta.proofs.delta.Delta.leave.Goals as goal

pub returns-then-remove-clause-ok : goal.returns-then-remove-clause-ok
returns-then-remove-clause-ok g c =
    let p = c.args.payload in
    let withdrawn = c.self.inside.withdrawn.keys in
    let announced = c.self.inside.announced.keys in
    let rises : IsPayloadSet announced = subst (λ (load : Change). IsPayloadSet load.announced) (sym c.self.view_is) c.requires in
    let now : List Vrp → Change = λ keys. record { withdrawn = withdrawn; announced = keys } in
    subst (λ (load : Change). now c.remove.new.self.keys ≡ left p load) c.self.view_is
    (ap now (c.remove.ensures.keys ∙ remove_key-out announced p rises) ∙ sym (left-again p (now announced) (sym c.remove.ensures.test ∙ c.if-remove.true)))
