use Rattle.std.proofs.Common.{◌∙◌, refl, sym}
use Rattle.payload_sources.proofs.UnderFile.{refused_slurm}
use Rattle.payload_sources.proofs.reading.read_file.Goals as goal

pub returns-in-Err : goal.returns-in-Err
returns-in-Err g c = c.fault_of.ensures _

pub returns : goal.returns
returns g c = λ text is.
    refused_slurm _ text c.in-Err-read_slurm.fault c.read_slurm.result (c.as_slice.ensures.value ∙ (rw (is, c.new-octets.ensures.items) at c.in_default.ensures.bytes)) c.in-Err-read_slurm.is c.read_slurm.ensures
