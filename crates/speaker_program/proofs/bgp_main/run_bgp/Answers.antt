use Rattle.std.proofs.Common.{inl, inr, refl}
use Rattle.speaker_program.proofs.OtherFaults.{never_words, unserved_is_other, untold_is_other}
use Rattle.speaker_program.proofs.ServedWords.{if_err_as, if_err_so, if_ok_so}
use Rattle.speaker_program.proofs.bgp_main.run_bgp.Goals as goal

pub returns-clause-serves : goal.returns-clause-serves
returns-clause-serves g c =
    let told = c.in_ok-settings.ensures.told in
    if_ok_so c.serve.result
    (λ served is. (c.in_ok-path.path.now, c.in_ok-path.turns, told.0, told.1, c.in_ok-settings.settings, c.in_ok-path.ensures, told.2, told.3, told.4, is)) c.serve.ensures.serves

pub returns-clause-output : goal.returns-clause-output
returns-clause-output g c = λ words. absurd (never_words _ c.serve.result c.serve.ensures.unserved (λ ends is. unserved_is_other _ _ _ _ _ c.in_ok-settings.settings ends is) words)

pub returns-in_err-path-clause-fails : goal.returns-in_err-path-clause-fails
returns-in_err-path-clause-fails g c = if_err_as _ c.from_residual.result c.in_err-path.field-0.0 c.from_residual.ensures.1 (record { why = inl c.in_err-path.ensures })

pub returns-in_err-settings-clause-fails : goal.returns-in_err-settings-clause-fails
returns-in_err-settings-clause-fails g c =
    if_err_as _ c.from_residual-in_err-settings.result c.in_err-settings.field-0.0 c.from_residual-in_err-settings.ensures.1
    (record { why = inr (c.in_ok-path.path.now, c.in_ok-path.turns, c.in_ok-path.ensures, record { why = inl (refl, c.in_err-settings.ensures.untold) }) })

pub returns-clause-fails : goal.returns-clause-fails
returns-clause-fails g c =
    let told = c.in_ok-settings.ensures.told in
    if_err_so c.serve.result c.serve.ensures.unserved
    (λ ends is.
    record {
      why = inr (
        c.in_ok-path.path.now,
        c.in_ok-path.turns,
        c.in_ok-path.ensures,
        record { why = inr (c.in_ok-settings.settings, record { octets = (told.0).items; read = (told.0, told.2, refl); table = told.1; spelled = told.3; told = told.4 }, is) },
      );
    })

pub serve-requires-clause-opens : goal.serve-requires-clause-opens
serve-requires-clause-opens g c = c.requires.opens c.in_ok-settings.settings
