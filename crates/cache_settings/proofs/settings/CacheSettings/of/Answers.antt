use Rattle.std.proofs.Common.{string_bytes}
use Rattle.toml.specs.View.{table_view}
use Rattle.settings_keys.proofs.Faults.{at_fault, in_memory, passes_on, passes_on_in_memory, starves, unknown_key}
use Rattle.cache_settings.specs.ToldSettings.{IsToldBy, terms_of}
use Rattle.cache_settings.proofs.settings.CacheSettings.of.Goals as goal

pub returns-in_err-only_known-clause-told : goal.returns-in_err-only_known-clause-told
returns-in_err-only_known-clause-told c =
    let needs = IsToldBy (table_view c.args.table.now) in
    unknown_key needs c.from_residual.result _ _ c.from_residual.ensures.1 c.in_err-only_known.ensures (λ s told. told.keys)

pub returns-in_err-listen-clause-told : goal.returns-in_err-listen-clause-told
returns-in_err-listen-clause-told c =
    let needs = IsToldBy (table_view c.args.table.now) in
    in_memory needs _ (passes_on _ needs c.from_residual-in_err-listen.result _ c.from_residual-in_err-listen.ensures.1 c.in_err-listen.ensures (λ none s told. none s.listen told.listen))

pub returns-in_err-path-clause-told : goal.returns-in_err-path-clause-told
returns-in_err-path-clause-told c =
    let needs = IsToldBy (table_view c.args.table.now) in
    in_memory needs _ (at_fault needs c.from_residual-in_err-path.result _ c.from_residual-in_err-path.ensures.1 c.in_err-path.ensures.0 (λ s told. c.in_err-path.ensures.1 (string_bytes s.csv) told.csv))

pub returns-in_err-csv-clause-told : goal.returns-in_err-csv-clause-told
returns-in_err-csv-clause-told c =
    let needs = IsToldBy (table_view c.args.table.now) in
    starves needs c.from_residual-in_err-csv.result c.from_residual-in_err-csv.ensures.1

pub returns-in_err-terms-clause-told : goal.returns-in_err-terms-clause-told
returns-in_err-terms-clause-told c =
    let needs = IsToldBy (table_view c.args.table.now) in
    in_memory needs _ (passes_on _ needs c.from_residual-in_err-terms.result _ c.from_residual-in_err-terms.ensures.1 c.in_err-terms.ensures.told (λ none s told. none (terms_of s) told.terms))

pub returns-in_err-slurm-clause-told : goal.returns-in_err-slurm-clause-told
returns-in_err-slurm-clause-told c =
    let needs = IsToldBy (table_view c.args.table.now) in
    passes_on_in_memory _ needs c.from_residual-in_err-slurm.result _ c.from_residual-in_err-slurm.ensures.1 c.in_err-slurm.ensures (λ none s told. none s.slurm told.slurm)

pub returns-in_err-metrics-clause-told : goal.returns-in_err-metrics-clause-told
returns-in_err-metrics-clause-told c =
    let needs = IsToldBy (table_view c.args.table.now) in
    in_memory needs _ (passes_on _ needs c.from_residual-in_err-metrics.result _ c.from_residual-in_err-metrics.ensures.1 c.in_err-metrics.ensures (λ none s told. none s.metrics told.metrics))
