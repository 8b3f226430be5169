use Rattle.std.proofs.Common.{Global, Option, String, ap, not, ◌∙◌}
use Rattle.toml.specs.Data.{get_member}
use Rattle.toml.specs.View.{table_view}
use Rattle.settings_keys.proofs.Faults.{at_fault, in_memory, nothing_if_there}
use Rattle.settings_keys.specs.Keys.{IsToldIfThere}
use Rattle.speaker_settings.specs.ToldSettings.{IsTextOf}
use Rattle.speaker_settings.proofs.Told.{no_string}
use Rattle.speaker_settings.proofs.settings.path_if_told.Goals as goal

pub returns-in_err-path : goal.returns-in_err-path
returns-in_err-path c =
    let found = get_member c.args.key.now (table_view c.args.table.now) in
    let needs : Option (String Global) → Type 0 = λ told. IsToldIfThere IsTextOf found told in
    in_memory needs c.from_residual.result
    (at_fault needs c.from_residual.result _ c.from_residual.ensures.1 c.in_err-path.ensures.0
    (nothing_if_there IsTextOf c.value_at.result found c.value_at.ensures (c.is_none.ensures ∙ ap not c.if-is_none.false) (no_string found c.in_err-path.ensures.1)))
