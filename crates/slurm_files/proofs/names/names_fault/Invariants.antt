use Rattle.std.proofs.Common.{◌≡◌, drop, map}
use Rattle.slurm_files.specs.MemberNames.{names_fault}
use Rattle.slurm_files.proofs.names.names_fault.Given as goal

abbrev pub invariant-loop-place : goal.invariant-loop-place
invariant-loop-place g l = names_fault l.known l.place (map (λ m. m.0.now) (drop l.place l.members)) ≡ names_fault l.known 0 (map (λ m. m.0.now) l.members)
