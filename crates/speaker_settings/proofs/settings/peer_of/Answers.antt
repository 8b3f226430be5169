use Rattle.toml.specs.View.{view}
use Rattle.settings_keys.proofs.Faults.{in_memory, passes_on, unknown_key}
use Rattle.speaker_settings.specs.ToldSettings.{IsPeer}
use Rattle.speaker_settings.proofs.Told.{no_other_keys, no_remote_of_peer, no_slot_of_peer}
use Rattle.speaker_settings.proofs.settings.peer_of.Goals as goal

pub returns-in_err-only_known : goal.returns-in_err-only_known
returns-in_err-only_known c =
    let needs = IsPeer (view c.args.entry.now) in
    unknown_key needs c.from_residual.result _ _ c.from_residual.ensures.1 c.in_err-only_known.ensures (λ peer told. no_other_keys _ _ peer (rw c.in-Some.is at c.as_table.ensures) told)

pub returns-in_err-slot : goal.returns-in_err-slot
returns-in_err-slot c =
    let needs = IsPeer (view c.args.entry.now) in
    in_memory needs c.from_residual-in_err-slot.result (passes_on _ needs c.from_residual-in_err-slot.result _ c.from_residual-in_err-slot.ensures.1 c.in_err-slot.ensures (no_slot_of_peer _ _ (rw c.in-Some.is at c.as_table.ensures)))

pub returns-in_err-remote : goal.returns-in_err-remote
returns-in_err-remote c =
    let needs = IsPeer (view c.args.entry.now) in
    in_memory needs c.from_residual-in_err-remote.result (passes_on _ needs c.from_residual-in_err-remote.result _ c.from_residual-in_err-remote.ensures.1 c.in_err-remote.ensures (no_remote_of_peer _ _ (rw c.in-Some.is at c.as_table.ensures)))
