use Rattle.std.proofs.Common.{◌≡◌, List, ℕ, sym, ◌∙◌}
use Rattle.std.specs.Prelude.{⊤}
use Rattle.std.specs.declared.io.Error.{Error as IoError}
use Rattle.speaker_program.proofs.EndedWell.{failed_so, one_aside, zero_is_well}
use Rattle.speaker_program.specs.Checked.{IsChecked, IsUncheckedBy}
use Rattle.speaker_program.specs.Files.{AreOctetsAt, IsLost}
use Rattle.speaker_program.specs.Unbegun.{IsUnchecked}
use Rattle.speaker_program.specs.declared.fault.SpeakerFault.TheVariants.{Output}
use Rattle.speaker_program.proofs.bgp_main.main_bgp.Goals as goal

pub returns-in-None-clause-checks : goal.returns-in-None-clause-checks
returns-in-None-clause-checks g c = λ aside asks zero. absurd (c.in-None.ensures aside asks)

pub returns-in-None-clause-unchecked : goal.returns-in-None-clause-unchecked
returns-in-None-clause-unchecked g c = λ aside asks bad. absurd (c.in-None.ensures aside asks)

pub returns-in-Some-clause-words : goal.returns-in-Some-clause-words
returns-in-Some-clause-words g c = λ none asked. absurd (asked c.in-Some.aside c.in-Some.ensures)

pub returns-in-Some-clause-output : goal.returns-in-Some-clause-output
returns-in-Some-clause-output g c = λ none asked. absurd (asked c.in-Some.aside c.in-Some.ensures)

pub returns-in-Some-clause-serves : goal.returns-in-Some-clause-serves
returns-in-Some-clause-serves g c = λ asked zero. absurd (asked c.in-Some.aside c.in-Some.ensures)

pub returns-in-Some-clause-fails : goal.returns-in-Some-clause-fails
returns-in-Some-clause-fails g c = λ asked bad. absurd (asked c.in-Some.aside c.in-Some.ensures)

pub returns-in-Some-clause-checks : goal.returns-in-Some-clause-checks
returns-in-Some-clause-checks g c = λ aside asks zero.
    one_aside (IsChecked (AreOctetsAt g.P.OpensFiles.opened) g.P.OpensFiles.opened) ⊤ c.args.words.now c.in-Some.aside aside c.in-Some.ensures asks (zero_is_well c.answer.result (sym c.conclude.ensures.status ∙ zero) c.answer.ensures.checked)

pub returns-in-Some-clause-unchecked : goal.returns-in-Some-clause-unchecked
returns-in-Some-clause-unchecked g c = λ aside asks bad.
    let failed = failed_so (IsUncheckedBy g.P.OpensFiles.opened g.P.OpensFiles.refused c.in-Some.aside) c.answer.result c.conclude.result c.conclude.ensures.status bad c.answer.ensures.unchecked in (
      failed.0,
      failed.1,
      one_aside (λ (path : List ℕ). IsUnchecked g.P.OpensFiles.opened (IsLost g.P.OpensFiles.opened g.P.OpensFiles.refused) (AreOctetsAt g.P.OpensFiles.opened) (IsLost g.P.OpensFiles.opened g.P.OpensFiles.refused) path failed.0) ((error : IoError) × (failed.0 ≡ Output error)) c.args.words.now
          c.in-Some.aside aside c.in-Some.ensures asks failed.2,
    )
