use Rattle.std.proofs.Common.{◌≡◌, ◌∙◌, ap, sym, subst}
use Rattle.rtr_codec.specs.ClientState.{Client, in_force, payloads_of}
use Rattle.vrp_delta.specs.Delta.{change_between}
use Rattle.rtr_client.specs.Book.{Book}
use Rattle.rtr_client.specs.Following.{Following}
use Rattle.rtr_client.proofs.Books.{told-change}
use Rattle.rtr_client.proofs.client.Client.step.Goals as goal

pub returns-clause-changed : goal.returns-clause-changed
returns-clause-changed g c =
    let old = c.forget.new.self in
    let new = c.serve-acts.new.payloads in
    let told = told-change old new (ap (λ (b : Book). b.changed) c.forget.ensures) c.serve-acts.ensures.told in
    subst (λ (f : Following). c.settle.new.payloads.changed ≡ change_between (in_force f.client) (payloads_of c.settle.new.payloads.base)) c.self.view_is
    (c.settle.ensures.changed ∙ told
    ∙ ap (λ (b : Book). change_between (payloads_of b.base) (payloads_of new.base)) c.forget.ensures
    ∙ ap (λ (client : Client). change_between (payloads_of c.self.inside.payloads.base) (in_force client)) (sym c.settle.ensures.client))
