use Rattle.std.proofs.Common.{[], sym, subst, ◌∙◌}
use Rattle.runs.specs.Agreement.{Agrees}
use Rattle.speaker.proofs.ListedEvents.{agrees_new, own_told, some_number}
use Rattle.speaker.proofs.step.Speaker.new.Goals as goal

pub returns-in-Ok-clause-agrees : goal.returns-in-Ok-clause-agrees
returns-in-Ok-clause-agrees g c =
    subst (λ s. Agrees c.args.config [] s) (sym c.in-Ok.ensures) (agrees_new c.args.config (some_number c.args.config.asn.0 (own_told c.args.config (sym c.is_out_of_range.ensures ∙ c.if-is_out_of_range.false))))
