use Rattle.toml.specs.View.{view}
use Rattle.settings_keys.proofs.Faults.{in_memory, passes_on}
use Rattle.speaker_settings.specs.ToldSettings.{IsSlotTimers}
use Rattle.speaker_settings.proofs.Timers.{no_hold_of_timers, no_retry_of_timers, no_slot_of_timers}
use Rattle.speaker_settings.proofs.settings.slot_timers_of.Goals as goal

pub returns-in_err-slot : goal.returns-in_err-slot
returns-in_err-slot c =
    let needs = IsSlotTimers (view c.args.entry.now) in
    in_memory needs c.from_residual.result (passes_on _ needs c.from_residual.result _ c.from_residual.ensures.1 c.in_err-slot.ensures (no_slot_of_timers _ _ (rw c.in-Some.is at c.as_table.ensures)))

pub returns-in_err-connect_retry : goal.returns-in_err-connect_retry
returns-in_err-connect_retry c =
    let needs = IsSlotTimers (view c.args.entry.now) in
    in_memory needs c.from_residual-in_err-connect_retry.result
    (passes_on _ needs c.from_residual-in_err-connect_retry.result _ c.from_residual-in_err-connect_retry.ensures.1 c.in_err-connect_retry.ensures (no_retry_of_timers _ _ (rw c.in-Some.is at c.as_table.ensures)))

pub returns-in_err-idle_hold : goal.returns-in_err-idle_hold
returns-in_err-idle_hold c =
    let needs = IsSlotTimers (view c.args.entry.now) in
    in_memory needs c.from_residual-in_err-idle_hold.result
    (passes_on _ needs c.from_residual-in_err-idle_hold.result _ c.from_residual-in_err-idle_hold.ensures.1 c.in_err-idle_hold.ensures (no_hold_of_timers _ _ (rw c.in-Some.is at c.as_table.ensures)))
