use Rattle.std.proofs.Common.{drop, map, Result}
use Rattle.json.specs.Value.{value_view}
use Rattle.slurm_files.specs.SlurmDocument.{Reads, Said}
use Rattle.slurm_files.specs.declared.fault.SlurmFault.{SlurmFault}
use Rattle.slurm_files.proofs.file.SlurmFile.add_entries.Given as goal

abbrev pub invariant-loop-place : goal.invariant-loop-place
invariant-loop-place g l =
    (result : Result Said SlurmFault) → Reads l.part l.place (map value_view (drop l.place l.entries)) l.self result → Reads l.part 0 (map value_view l.entries) l.fn.self result
