use Rattle.std.proofs.Common.{List, ℕ, rules, subst, sym}
use Rattle.std.specs.Io.Buffered.{reader_remaining}
use Rattle.speaker_program.proofs.EndedWell.{checked_as, opened_as}
use Rattle.speaker_program.proofs.Failures.{unchecked_as}
use Rattle.speaker_program.proofs.ServedWords.{if_err_so, on_ok_so}
use Rattle.speaker_program.specs.Files.{AreOctetsAt, IsLost}
use Rattle.speaker_program.proofs.checking.check_files.Goals as goal

pub returns-clause-checked : goal.returns-clause-checked
returns-clause-checked g c =
    on_ok_so c.check.result
    (λ is.
    checked_as _ _ _ _ c.args.path.now is
    (λ octets given.
    let gives = given.1 in
    let read : AreOctetsAt g.P.OpensFiles.opened gives.0.now (given.0).items = (let met = gives.1 in search rules) in
    subst (λ (octets : List ℕ). AreOctetsAt g.P.OpensFiles.opened c.args.path.now octets) (sym given.2) (subst (λ (path : List ℕ). AreOctetsAt g.P.OpensFiles.opened path (given.0).items) gives.2 read))
    (λ path text told.
    let lines : g.P.OpensFiles.opened told.1.shown.now (reader_remaining g.P.File.Read.remaining told.0) = (let gives = told.1.says.met in search rules) in
    opened_as g.P.OpensFiles.opened told.1.shown.now path (reader_remaining g.P.File.Read.remaining told.0) text told.1.shows told.2 lines)) c.check.ensures.checked

pub returns-clause-unchecked : goal.returns-clause-unchecked
returns-clause-unchecked g c =
    if_err_so c.check.result c.check.ensures.unchecked
    (λ ends is.
    unchecked_as _ _ _ _ _ _ _ _ c.args.path.now ends is
    (λ path text told.
    let lines : g.P.OpensFiles.opened told.1.shown.now (reader_remaining g.P.File.Read.remaining told.0) = (let gives = told.1.says.met in search rules) in
    opened_as g.P.OpensFiles.opened told.1.shown.now path (reader_remaining g.P.File.Read.remaining told.0) text told.1.shows told.2 lines)
    (λ path error told.
    let lost : IsLost g.P.OpensFiles.opened g.P.OpensFiles.refused told.shown.now error = (let gives = told.says.met in search rules) in
    subst (λ (at : List ℕ). IsLost g.P.OpensFiles.opened g.P.OpensFiles.refused at error) told.shows lost)
    (λ path octets given.
    let gives = given.1 in
    let read : AreOctetsAt g.P.OpensFiles.opened gives.0.now (given.0).items = (let met = gives.1 in search rules) in
    subst (λ (octets : List ℕ). AreOctetsAt g.P.OpensFiles.opened path octets) (sym given.2) (subst (λ (path : List ℕ). AreOctetsAt g.P.OpensFiles.opened path (given.0).items) gives.2 read))
    (λ path error gives.
    let lost : IsLost g.P.OpensFiles.opened g.P.OpensFiles.refused gives.0.now error = (let met = gives.1 in search rules) in
    subst (λ (at : List ℕ). IsLost g.P.OpensFiles.opened g.P.OpensFiles.refused at error) gives.2 lost))
