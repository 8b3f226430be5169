use Rattle.std.proofs.Common.{string_bytes}
use Rattle.toml.specs.View.{table_view}
use Rattle.speaker_settings.specs.ToldSettings.{IsToldBy}
use Rattle.settings_keys.proofs.Faults.{at_fault, in_memory, passes_on, passes_on_in_memory, starves, unknown_key}
use Rattle.speaker_settings.proofs.settings.SpeakerSettings.of.Goals as goal

pub returns-in_err-only_known-clause-told : goal.returns-in_err-only_known-clause-told
returns-in_err-only_known-clause-told c =
    let needs = IsToldBy (table_view c.args.table.now) in
    unknown_key needs c.from_residual.result _ _ c.from_residual.ensures.1 c.in_err-only_known.ensures (λ s told. told.keys)

pub returns-in_err-asn-clause-told : goal.returns-in_err-asn-clause-told
returns-in_err-asn-clause-told c =
    let needs = IsToldBy (table_view c.args.table.now) in
    in_memory needs _ (passes_on _ needs c.from_residual-in_err-asn.result _ c.from_residual-in_err-asn.ensures.1 c.in_err-asn.ensures (λ none s told. none s.asn told.asn))

pub returns-in_err-identifier-clause-told : goal.returns-in_err-identifier-clause-told
returns-in_err-identifier-clause-told c =
    let needs = IsToldBy (table_view c.args.table.now) in
    in_memory needs _ (passes_on _ needs c.from_residual-in_err-identifier.result _ c.from_residual-in_err-identifier.ensures.1 c.in_err-identifier.ensures (λ none s told. none s.identifier told.identifier))

pub returns-in_err-path-clause-told : goal.returns-in_err-path-clause-told
returns-in_err-path-clause-told c =
    let needs = IsToldBy (table_view c.args.table.now) in
    in_memory needs _ (at_fault needs c.from_residual-in_err-path.result _ c.from_residual-in_err-path.ensures.1 c.in_err-path.ensures.0 (λ s told. c.in_err-path.ensures.1 (string_bytes s.commands) told.commands))

pub returns-in_err-commands-clause-told : goal.returns-in_err-commands-clause-told
returns-in_err-commands-clause-told c =
    let needs = IsToldBy (table_view c.args.table.now) in
    starves needs c.from_residual-in_err-commands.result c.from_residual-in_err-commands.ensures.1

pub returns-in_err-slurm-clause-told : goal.returns-in_err-slurm-clause-told
returns-in_err-slurm-clause-told c =
    let needs = IsToldBy (table_view c.args.table.now) in
    passes_on_in_memory _ needs c.from_residual-in_err-slurm.result _ c.from_residual-in_err-slurm.ensures.1 c.in_err-slurm.ensures (λ none s told. none s.slurm told.slurm)

pub returns-in_err-cache-clause-told : goal.returns-in_err-cache-clause-told
returns-in_err-cache-clause-told c =
    let needs = IsToldBy (table_view c.args.table.now) in
    in_memory needs _ (passes_on _ needs c.from_residual-in_err-cache.result _ c.from_residual-in_err-cache.ensures.1 c.in_err-cache.ensures (λ none s told. none s.cache told.cache))

pub returns-in_err-multiprotocol-clause-told : goal.returns-in_err-multiprotocol-clause-told
returns-in_err-multiprotocol-clause-told c =
    let needs = IsToldBy (table_view c.args.table.now) in
    in_memory needs _ (passes_on _ needs c.from_residual-in_err-multiprotocol.result _ c.from_residual-in_err-multiprotocol.ensures.1 c.in_err-multiprotocol.ensures (λ none s told. none s.multiprotocol told.multiprotocol))

pub returns-in_err-listen-clause-told : goal.returns-in_err-listen-clause-told
returns-in_err-listen-clause-told c =
    let needs = IsToldBy (table_view c.args.table.now) in
    in_memory needs _ (passes_on _ needs c.from_residual-in_err-listen.result _ c.from_residual-in_err-listen.ensures.1 c.in_err-listen.ensures (λ none s told. none s.listen told.listen))

pub returns-in_err-control-clause-told : goal.returns-in_err-control-clause-told
returns-in_err-control-clause-told c =
    let needs = IsToldBy (table_view c.args.table.now) in
    passes_on_in_memory _ needs c.from_residual-in_err-control.result _ c.from_residual-in_err-control.ensures.1 c.in_err-control.ensures (λ none s told. none s.control told.control)

pub returns-in_err-send_hold-clause-told : goal.returns-in_err-send_hold-clause-told
returns-in_err-send_hold-clause-told c =
    let needs = IsToldBy (table_view c.args.table.now) in
    in_memory needs _ (passes_on _ needs c.from_residual-in_err-send_hold.result _ c.from_residual-in_err-send_hold.ensures.1 c.in_err-send_hold.ensures.told (λ none s told. none s.send_hold told.send_hold))

pub returns-in_err-open_wait-clause-told : goal.returns-in_err-open_wait-clause-told
returns-in_err-open_wait-clause-told c =
    let needs = IsToldBy (table_view c.args.table.now) in
    in_memory needs _ (passes_on _ needs c.from_residual-in_err-open_wait.result _ c.from_residual-in_err-open_wait.ensures.1 c.in_err-open_wait.ensures.told (λ none s told. none s.open_wait told.open_wait))

pub returns-in_err-log-clause-told : goal.returns-in_err-log-clause-told
returns-in_err-log-clause-told c =
    let needs = IsToldBy (table_view c.args.table.now) in
    in_memory needs _ (passes_on _ needs c.from_residual-in_err-log.result _ c.from_residual-in_err-log.ensures.1 c.in_err-log.ensures (λ none s told. none s.log told.log))

pub returns-in_err-status-clause-told : goal.returns-in_err-status-clause-told
returns-in_err-status-clause-told c =
    let needs = IsToldBy (table_view c.args.table.now) in
    in_memory needs _ (passes_on _ needs c.from_residual-in_err-status.result _ c.from_residual-in_err-status.ensures.1 c.in_err-status.ensures.told (λ none s told. none s.status told.status))

pub returns-in_err-metrics-clause-told : goal.returns-in_err-metrics-clause-told
returns-in_err-metrics-clause-told c =
    let needs = IsToldBy (table_view c.args.table.now) in
    in_memory needs _ (passes_on _ needs c.from_residual-in_err-metrics.result _ c.from_residual-in_err-metrics.ensures.1 c.in_err-metrics.ensures (λ none s told. none s.metrics told.metrics))

pub returns-in_err-cache_retry-clause-told : goal.returns-in_err-cache_retry-clause-told
returns-in_err-cache_retry-clause-told c =
    let needs = IsToldBy (table_view c.args.table.now) in
    in_memory needs _ (passes_on _ needs c.from_residual-in_err-cache_retry.result _ c.from_residual-in_err-cache_retry.ensures.1 c.in_err-cache_retry.ensures (λ none s told. none s.cache_retry told.cache_retry))

pub returns-in_err-wait_for_cache-clause-told : goal.returns-in_err-wait_for_cache-clause-told
returns-in_err-wait_for_cache-clause-told c =
    let needs = IsToldBy (table_view c.args.table.now) in
    in_memory needs _ (passes_on _ needs c.from_residual-in_err-wait_for_cache.result _ c.from_residual-in_err-wait_for_cache.ensures.1 c.in_err-wait_for_cache.ensures.told (λ none s told. none s.wait_for_cache told.wait_for_cache))

pub returns-in_err-peers-clause-told : goal.returns-in_err-peers-clause-told
returns-in_err-peers-clause-told c =
    let needs = IsToldBy (table_view c.args.table.now) in
    passes_on_in_memory _ needs c.from_residual-in_err-peers.result _ c.from_residual-in_err-peers.ensures.1 c.in_err-peers.ensures.told (λ none s told. none s.peers told.peers)

pub returns-in_err-timers-clause-told : goal.returns-in_err-timers-clause-told
returns-in_err-timers-clause-told c =
    let needs = IsToldBy (table_view c.args.table.now) in
    passes_on_in_memory _ needs c.from_residual-in_err-timers.result _ c.from_residual-in_err-timers.ensures.1 c.in_err-timers.ensures (λ none s told. none s.timers told.timers)
