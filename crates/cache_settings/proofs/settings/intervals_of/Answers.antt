use Rattle.toml.specs.View.{table_view}
use Rattle.settings_keys.proofs.Faults.{passes_on}
use Rattle.cache_settings.specs.ToldSettings.{AreIntervals}
use Rattle.cache_settings.proofs.settings.intervals_of.Goals as goal

pub returns-in_err-refresh-clause-told : goal.returns-in_err-refresh-clause-told
returns-in_err-refresh-clause-told c =
    passes_on _ (AreIntervals (table_view c.args.table.now)) c.from_residual.result _ c.from_residual.ensures.1 c.in_err-refresh.ensures (λ none b told. none b.refresh told.refresh)

pub returns-in_err-retry-clause-told : goal.returns-in_err-retry-clause-told
returns-in_err-retry-clause-told c =
    passes_on _ (AreIntervals (table_view c.args.table.now)) c.from_residual-in_err-retry.result _ c.from_residual-in_err-retry.ensures.1 c.in_err-retry.ensures (λ none b told. none b.retry told.retry)

pub returns-in_err-expire-clause-told : goal.returns-in_err-expire-clause-told
returns-in_err-expire-clause-told c =
    passes_on _ (AreIntervals (table_view c.args.table.now)) c.from_residual-in_err-expire.result _ c.from_residual-in_err-expire.ensures.1 c.in_err-expire.ensures (λ none b told. none b.expire told.expire)
