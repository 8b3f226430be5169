use Rattle.std.proofs.Common.{subst, sym}
use Rattle.speaker_program.specs.Checked.{IsCheckedBy}
use Rattle.speaker_program.proofs.EndedWell.{on_ok_of}
use Rattle.speaker_program.proofs.checking.answer.Goals as goal

pub returns-in-Help-clause-checked : goal.returns-in-Help-clause-checked
returns-in-Help-clause-checked g c = on_ok_of c.map_err.result (subst (IsCheckedBy g.P.OpensFiles.opened) (sym c.in-Help.is) tt)

pub returns-in-Version-clause-checked : goal.returns-in-Version-clause-checked
returns-in-Version-clause-checked g c = on_ok_of c.map_err-in-Version.result (subst (IsCheckedBy g.P.OpensFiles.opened) (sym c.in-Version.is) tt)
