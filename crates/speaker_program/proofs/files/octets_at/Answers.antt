use Rattle.std.proofs.Common.{inl, ℕ, Vec}
use Rattle.std.specs.Global.{Global}
use Rattle.speaker_program.specs.Files.{AreOctetsAt}
use Rattle.speaker_program.proofs.OpenedLines.{lost_so, octets_answered}
use Rattle.speaker_program.proofs.files.octets_at.Goals as goal

pub returns-in_err-file : goal.returns-in_err-file
returns-in_err-file g c = lost_so g.P.OpensFiles.opened g.P.OpensFiles.refused (λ (octets : Vec ℕ Global). AreOctetsAt g.P.OpensFiles.opened c.args.path.now octets.items) c.args.path.now c.from_residual.result c.in_err-file.field-0.0 c.from_residual.ensures.1 (inl c.in_err-file.ensures.error)

pub returns : goal.returns
returns g c = octets_answered g.P.OpensFiles.opened g.P.OpensFiles.refused c.octets_of.result _ _ c.in_ok-file.ensures.file c.octets_of.ensures
