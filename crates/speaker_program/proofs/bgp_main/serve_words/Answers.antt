use Rattle.std.proofs.Common.{◌≡◌, ◌∙◌, List, ℕ, rules, string_bytes, subst, sym}
use Rattle.std.specs.Io.Buffered.{reader_remaining}
use Rattle.wires.specs.Wires.{nothing_told}
use Rattle.speaker_program.proofs.EndedWell.{attends_as, listens_there, opened_as, served_as}
use Rattle.speaker_program.proofs.ServedWords.{if_err_so, if_ok_as}
use Rattle.speaker_program.proofs.Failures.{ended_as, unserved_at_as}
use Rattle.speaker_program.specs.Files.{AreOctetsAt, IsLost}
use Rattle.speaker_program.proofs.bgp_main.serve_words.Goals as goal

pub returns-clause-serves : goal.returns-clause-serves
returns-clause-serves g c =
    if_ok_as c.run_bgp.result c.run_bgp.ensures.serves
    (λ served is.
    let settings = is.4 in
    let octets = (is.2).items in
    let read : AreOctetsAt g.P.OpensFiles.opened is.6.0.now octets = (let gives = is.6.1 in search rules) in
    let so =
    served_as _ _ _ _ _ _ settings is.1 _ _ served is.9
    (λ path text told.
    let lines : g.P.OpensFiles.opened told.1.shown.now (reader_remaining g.P.File.Read.remaining told.0) = (let gives = told.1.says.met in search rules) in
    opened_as g.P.OpensFiles.opened told.1.shown.now path (reader_remaining g.P.File.Read.remaining told.0) text told.1.shows told.2 lines)
    (λ wire opened. let listens : (opened.0).wire ≡ nothing_told settings.listen = (let gives = opened.1 in search rules) in opened.2 ∙ listens)
    (λ old new. attends_as _ _ _ _ _ _ settings is.1 _ _ old new (λ path socket given. let opened : string_bytes socket.path ≡ given.0.now = (let gives = given.1 in search rules) in opened ∙ given.2)) in
    (is.0, is.1, settings, is.5, record { octets = octets; read = subst (λ (path : List ℕ). AreOctetsAt g.P.OpensFiles.opened path octets) is.6.2 read; table = is.3; spelled = is.7; told = is.8 }, so, listens_there _ settings is.1 _ _ served _ so))

pub returns-clause-fails : goal.returns-clause-fails
returns-clause-fails g c =
    if_err_so c.run_bgp.result c.run_bgp.ensures.fails
    (λ ends ended.
    ended_as _ _ c.args.words.now ends ended
    (λ at is.
    unserved_at_as _ _ _ _ _ _ _ _ _ _ _ _ _ _ at ends is
    (λ path text told.
    let lines : g.P.OpensFiles.opened told.1.shown.now (reader_remaining g.P.File.Read.remaining told.0) = (let gives = told.1.says.met in search rules) in
    opened_as g.P.OpensFiles.opened told.1.shown.now path (reader_remaining g.P.File.Read.remaining told.0) text told.1.shows told.2 lines)
    (λ path error told.
    let lost : IsLost g.P.OpensFiles.opened g.P.OpensFiles.refused told.shown.now error = (let gives = told.says.met in search rules) in
    subst (λ (at : List ℕ). IsLost g.P.OpensFiles.opened g.P.OpensFiles.refused at error) told.shows lost)
    (λ path octets given.
    let gives = given.1 in
    let read : AreOctetsAt g.P.OpensFiles.opened gives.0.now (given.0).items = (let met = gives.1 in search rules) in
    subst (λ (octets : List ℕ). AreOctetsAt g.P.OpensFiles.opened path octets) (sym given.2) (subst (λ (path : List ℕ). AreOctetsAt g.P.OpensFiles.opened path (given.0).items) gives.2 read))
    (λ path error gives.
    let lost : IsLost g.P.OpensFiles.opened g.P.OpensFiles.refused gives.0.now error = (let met = gives.1 in search rules) in
    subst (λ (at : List ℕ). IsLost g.P.OpensFiles.opened g.P.OpensFiles.refused at error) gives.2 lost)
    (λ settings error unlistened. tt)
    (λ settings wire opened. let listens : (opened.0).wire ≡ nothing_told settings.listen = (let gives = opened.1 in search rules) in opened.2 ∙ listens)
    (λ rests. rests)))
