use Rattle.std.proofs.Common.{Global, List, Option, ℕ, ◌∙◌, ap, inl, inr, refl, subst}
use Rattle.slurm_files.specs.SlurmDocument.{Said}
use Rattle.speaker_program.specs.Commanded.{IsSaidIn}
use Rattle.speaker_program.specs.Unbegun.{IsFaultIn}
use Rattle.speaker_program.proofs.ServedWords.{if_err_as, if_err_so, if_ok_as}
use Rattle.speaker_program.proofs.exceptions.said_at.Goals as goal

pub returns-in_err-octets-clause-unsaid : goal.returns-in_err-octets-clause-unsaid
returns-in_err-octets-clause-unsaid g c = if_err_as _ c.from_residual.result c.in_err-octets.field-0.0 c.from_residual.ensures.1 (inl c.in_err-octets.ensures.unread)

pub returns-clause-said : goal.returns-clause-said
returns-clause-said g c =
    if_ok_as c.said_in.result c.said_in.ensures.said
    (λ said is.
    let read = c.in_ok-octets.ensures.octets in
    (g.L.Read.remaining read.0, (read.0, read.1, refl), λ text known. subst (λ (octets : List ℕ). IsSaidIn octets said) (c.as_slice.ensures.value ∙ read.2 text known) is))

pub returns-clause-unsaid : goal.returns-clause-unsaid
returns-clause-unsaid g c =
    if_err_so c.said_in.result c.said_in.ensures.faulty
    (λ ends is.
    let read = c.in_ok-octets.ensures.octets in
    inr (is.0, (g.L.Read.remaining read.0, (read.0, read.1, refl), λ text known. subst (λ (octets : List ℕ). IsFaultIn octets is.0) (c.as_slice.ensures.value ∙ read.2 text known) is.1), is.2))
