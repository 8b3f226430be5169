use Rattle.settings_keys.proofs.Faults.{read_as, unread}
use Rattle.settings_keys.specs.Keys.{IsTableOf}
use Rattle.cache_settings.specs.ToldSettings.{IsToldBy}
use Rattle.cache_settings.proofs.settings.CacheSettings.read.Goals as goal

pub returns-in_err-table-clause-told : goal.returns-in_err-table-clause-told
returns-in_err-table-clause-told c =
    unread (IsTableOf c.args.octets.now) _ c.from_residual.result _ c.from_residual.ensures.1 c.in_err-table.ensures.table (λ none s told. none told.0 told.1)

pub returns-clause-told : goal.returns-clause-told
returns-clause-told c = read_as IsToldBy _ _ c.of.result c.in_ok-table.ensures.table c.of.ensures.told
