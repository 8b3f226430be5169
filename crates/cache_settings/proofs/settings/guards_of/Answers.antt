use Rattle.toml.specs.View.{table_view}
use Rattle.settings_keys.proofs.Faults.{passes_on}
use Rattle.cache_settings.specs.ToldSettings.{AreGuards}
use Rattle.cache_settings.proofs.settings.guards_of.Goals as goal

pub returns-in_err-min_payloads : goal.returns-in_err-min_payloads
returns-in_err-min_payloads c =
    passes_on _ (AreGuards (table_view c.args.table.now)) c.from_residual.result _ c.from_residual.ensures.1 c.in_err-min_payloads.ensures (λ none b told. none b.min_payloads told.min_payloads)

pub returns-in_err-max_payloads : goal.returns-in_err-max_payloads
returns-in_err-max_payloads c =
    passes_on _ (AreGuards (table_view c.args.table.now)) c.from_residual-in_err-max_payloads.result _ c.from_residual-in_err-max_payloads.ensures.1 c.in_err-max_payloads.ensures (λ none b told. none b.max_payloads told.max_payloads)

pub returns-in_err-max_shrink : goal.returns-in_err-max_shrink
returns-in_err-max_shrink c =
    passes_on _ (AreGuards (table_view c.args.table.now)) c.from_residual-in_err-max_shrink.result _ c.from_residual-in_err-max_shrink.ensures.1 c.in_err-max_shrink.ensures (λ none b told. none b.max_shrink told.max_shrink)
