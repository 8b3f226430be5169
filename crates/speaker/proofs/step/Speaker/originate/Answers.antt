use Rattle.std.proofs.Common.{refl, inl, inr}
use Rattle.std.proofs.lemmas.Result.{err_from_is_err_and}
use Rattle.bgp_conf.specs.Configuration.{is_network}
use Rattle.speaker.proofs.Commands.{holds_network, holds_there}
use Rattle.speaker.proofs.RoutesSeen.{announces, as_before, network_there, true_or_false}
use Rattle.speaker.proofs.step.Speaker.originate.Goals as goal

pub returns-in_err-originate-clause-err : goal.returns-in_err-originate-clause-err
returns-in_err-originate-clause-err g c =
    let failed = err_from_is_err_and c.from_residual.result c.from_residual.ensures.1 in
    rw (failed.1, ← c.self.view_is) (as_before c.self.inside.config c.self.inside.moment c.self.inside.cache c.self.inside.chosen_before c.self.inside.routes c.originate.new.self c.in_err-originate.ensures.err)

pub returns-clause-ok : goal.returns-clause-ok
returns-clause-ok g c = λ config r holds.
    let here = rw (← c.self.view_is) at holds in
    let did = c.in_ok-originate.ensures in
    rw c.requires.originates (elim (true_or_false (is_network c.self.inside.routes.conf c.args.prefix)) [
      | inl there ↦ (holds_there config r c.args.prefix _ _ here (network_there c.self.inside.config c.self.inside.moment c.self.inside.cache c.self.inside.chosen_before c.chosen-before.result c.self.inside.routes c.originate.new.self _ (did.there there) did.conf c.chosen-before.ensures) (λ p. rw did.conf at did.networks p) there, refl)
      | inr none ↦ (holds_network config r c.args.prefix _ _ _ here refl (λ p. rw did.conf at did.networks p) (announces c.self.inside.config c.self.inside.moment c.self.inside.cache c.self.inside.chosen_before c.chosen-before.result c.args.prefix c.self.inside.routes c.originate.new.self did.conf (did.comes none) c.chosen-before.ensures), refl)
    ])
