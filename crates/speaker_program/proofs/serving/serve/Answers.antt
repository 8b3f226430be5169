use Rattle.std.proofs.Common.{inl, inr, refl}
use Rattle.speaker_program.proofs.ServedWords.{if_err_as}
use Rattle.speaker_program.proofs.serving.serve.Goals as goal

pub returns-in_err-served-clause-unserved : goal.returns-in_err-served-clause-unserved
returns-in_err-served-clause-unserved g c = if_err_as _ c.from_residual.result c.in_err-served.field-0.0 c.from_residual.ensures.1 (record { why = inl (refl, c.in_err-served.ensures.unbegun) })

pub returns-in-Err-clause-unserved : goal.returns-in-Err-clause-unserved
returns-in-Err-clause-unserved g c = record { why = inr (c.in_ok-served.served, c.in_ok-served.ensures.begins, c.in-Err.ensures.fault) }
