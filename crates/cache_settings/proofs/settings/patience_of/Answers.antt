use Rattle.toml.specs.View.{table_view}
use Rattle.settings_keys.proofs.Faults.{passes_on}
use Rattle.cache_settings.specs.ToldSettings.{IsPatience, IsSeconds}
use Rattle.cache_settings.proofs.Told.{nothing_or_usual}
use Rattle.cache_settings.proofs.settings.patience_of.Goals as goal

pub returns-in_err-seconds_of-clause-told : goal.returns-in_err-seconds_of-clause-told
returns-in_err-seconds_of-clause-told c =
    passes_on _ (IsPatience (table_view c.args.table.now) c.args.intervals) c.from_residual.result _ c.from_residual.ensures.1 c.in_err-seconds_of.ensures.told
    (λ none b told. nothing_or_usual IsSeconds 60 _ none b.first told.first)

pub returns-in_err-seconds_of-2-clause-told : goal.returns-in_err-seconds_of-2-clause-told
returns-in_err-seconds_of-2-clause-told c =
    passes_on _ (IsPatience (table_view c.args.table.now) c.args.intervals) c.from_residual-in_err-seconds_of-2.result _ c.from_residual-in_err-seconds_of-2.ensures.1 c.in_err-seconds_of-2.ensures.told
    (λ none b told. nothing_or_usual IsSeconds c.args.intervals.expire _ none b.idle told.idle)
