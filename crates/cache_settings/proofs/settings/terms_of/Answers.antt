use Rattle.toml.specs.View.{table_view}
use Rattle.settings_keys.proofs.Faults.{passes_on}
use Rattle.cache_settings.proofs.Told.{no_patience, no_stale}
use Rattle.cache_settings.specs.ToldSettings.{AreTerms}
use Rattle.cache_settings.proofs.settings.terms_of.Goals as goal

pub returns-in_err-session-clause-told : goal.returns-in_err-session-clause-told
returns-in_err-session-clause-told c =
    passes_on _ (AreTerms (table_view c.args.table.now)) c.from_residual.result _ c.from_residual.ensures.1 c.in_err-session.ensures (λ none b told. none b.session told.session)

pub returns-in_err-other_session-clause-told : goal.returns-in_err-other_session-clause-told
returns-in_err-other_session-clause-told c =
    passes_on _ (AreTerms (table_view c.args.table.now)) c.from_residual-in_err-other_session.result _ c.from_residual-in_err-other_session.ensures.1 c.in_err-other_session.ensures (λ none b told. none b.other_session told.other_session)

pub returns-in_err-intervals-clause-told : goal.returns-in_err-intervals-clause-told
returns-in_err-intervals-clause-told c =
    passes_on _ (AreTerms (table_view c.args.table.now)) c.from_residual-in_err-intervals.result _ c.from_residual-in_err-intervals.ensures.1 c.in_err-intervals.ensures.told (λ none b told. none b.intervals told.intervals)

pub returns-in_err-patience-clause-told : goal.returns-in_err-patience-clause-told
returns-in_err-patience-clause-told c =
    passes_on _ (AreTerms (table_view c.args.table.now)) c.from_residual-in_err-patience.result _ c.from_residual-in_err-patience.ensures.1 c.in_err-patience.ensures.told (no_patience _ c.in_ok-intervals.intervals c.in_ok-intervals.ensures.told)

pub returns-in_err-guards-clause-told : goal.returns-in_err-guards-clause-told
returns-in_err-guards-clause-told c =
    passes_on _ (AreTerms (table_view c.args.table.now)) c.from_residual-in_err-guards.result _ c.from_residual-in_err-guards.ensures.1 c.in_err-guards.ensures (λ none b told. none b.guards told.guards)

pub returns-in_err-reread-clause-told : goal.returns-in_err-reread-clause-told
returns-in_err-reread-clause-told c =
    passes_on _ (AreTerms (table_view c.args.table.now)) c.from_residual-in_err-reread.result _ c.from_residual-in_err-reread.ensures.1 c.in_err-reread.ensures.told (λ none b told. none b.reread told.reread)

pub returns-in_err-max_age-clause-told : goal.returns-in_err-max_age-clause-told
returns-in_err-max_age-clause-told c =
    passes_on _ (AreTerms (table_view c.args.table.now)) c.from_residual-in_err-max_age.result _ c.from_residual-in_err-max_age.ensures.1 c.in_err-max_age.ensures.told (λ none b told. none b.max_age told.max_age)

pub returns-in_err-stale-clause-told : goal.returns-in_err-stale-clause-told
returns-in_err-stale-clause-told c =
    passes_on _ (AreTerms (table_view c.args.table.now)) c.from_residual-in_err-stale.result _ c.from_residual-in_err-stale.ensures.1 c.in_err-stale.ensures (no_stale _ c.in_ok-max_age.max_age c.in_ok-max_age.ensures.told)

pub returns-in_err-log-clause-told : goal.returns-in_err-log-clause-told
returns-in_err-log-clause-told c =
    passes_on _ (AreTerms (table_view c.args.table.now)) c.from_residual-in_err-log.result _ c.from_residual-in_err-log.ensures.1 c.in_err-log.ensures (λ none b told. none b.log told.log)

pub returns-in_err-status-clause-told : goal.returns-in_err-status-clause-told
returns-in_err-status-clause-told c =
    passes_on _ (AreTerms (table_view c.args.table.now)) c.from_residual-in_err-status.result _ c.from_residual-in_err-status.ensures.1 c.in_err-status.ensures.told (λ none b told. none b.status told.status)
