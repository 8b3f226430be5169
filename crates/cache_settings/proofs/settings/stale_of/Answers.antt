use Rattle.std.proofs.Common.{subst}
use Rattle.std.specs.Prelude.{codes}
use Rattle.toml.specs.Data.{get_member}
use Rattle.toml.specs.View.{table_view}
use Rattle.settings_keys.proofs.Faults.{at_fault, passes_on}
use Rattle.settings_keys.specs.Keys.{IsToldOrUsual}
use Rattle.cache_settings.specs.ToldSettings.{IsStale, IsStaleWord}
use Rattle.cache_settings.specs.declared.settings.Stale.{Stale}
use Rattle.cache_settings.specs.declared.settings.Stale.TheVariants.{Serve}
use Rattle.cache_settings.proofs.Told.{no_age, no_word}
use Rattle.cache_settings.proofs.settings.stale_of.Goals as goal

pub returns-in_err-stale : goal.returns-in_err-stale
returns-in_err-stale c =
    passes_on _ (IsStale (table_view c.args.table.now) c.args.max_age) c.from_residual.result _ c.from_residual.ensures.1 c.in_err-stale.ensures (no_word _ _)

pub returns-in_err-needs_age : goal.returns-in_err-needs_age
returns-in_err-needs_age c =
    at_fault (IsStale (table_view c.args.table.now) c.args.max_age) c.from_residual-in_err-needs_age.result _ c.from_residual-in_err-needs_age.ensures.1 c.in_err-needs_age.ensures.0
    (no_age (table_view c.args.table.now) c.args.max_age
    (subst (λ (stale : Stale). IsToldOrUsual IsStaleWord Serve (get_member (codes "stale") (table_view c.args.table.now)) stale) c.in_err-needs_age.ensures.1 c.in_ok-stale.ensures) c.in_err-needs_age.ensures.2)
