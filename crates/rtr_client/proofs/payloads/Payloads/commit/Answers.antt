use Rattle.std.proofs.Common.{◌≡◌, true, subst}
use Rattle.std.proofs.lemmas.Result.{on_err_weaker}
use Rattle.rtr_codec.specs.ClientState.{payloads_of}
use Rattle.rtr_client.specs.Book.{Book}
use Rattle.rtr_client.specs.Following.{has_more}
use Rattle.rtr_client.proofs.Books.{more_wants}
use Rattle.rtr_client.proofs.payloads.Payloads.commit.Goals as goal

pub returns-clause-needs : goal.returns-clause-needs
returns-clause-needs g c =
    on_err_weaker c.put_in_force.result
    (λ more. more_wants c.args.self.now.serially c.args.self.now.loaded (payloads_of c.args.self.now.base)
    (subst (λ (b : Book). has_more b.loaded (payloads_of b.base) ≡ true) c.in_ok-rebase.ensures.ok more))
    c.put_in_force.ensures.needs
