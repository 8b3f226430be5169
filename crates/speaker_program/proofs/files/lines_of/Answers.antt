use Rattle.std.proofs.Common.{inl}
use Rattle.std.specs.Io.Buffered.{reader_remaining}
use Rattle.speaker_program.proofs.OpenedLines.{lines_answered, lost_so}
use Rattle.speaker_program.proofs.files.lines_of.Goals as goal

pub returns-in_err-file : goal.returns-in_err-file
returns-in_err-file g c = lost_so g.P.OpensFiles.opened g.P.OpensFiles.refused (λ lines. g.P.OpensFiles.opened c.args.path.now (reader_remaining g.P.File.Read.remaining lines)) c.args.path.now c.from_residual.result c.in_err-file.field-0.0 c.from_residual.ensures.1 (inl c.in_err-file.ensures.error)

pub returns : goal.returns
returns g c =
    lines_answered g.P.OpensFiles.opened g.P.OpensFiles.refused g.P.File.Read.remaining c.new.result _ c.in_ok-file.file c.in_ok-file.ensures.file c.new.ensures.inner c.new.ensures.empty c.new.ensures.capacity
