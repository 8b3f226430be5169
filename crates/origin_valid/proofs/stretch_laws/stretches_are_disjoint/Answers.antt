use Rattle.origin_valid.proofs.Outsides.{sorted-stretches}
use Rattle.origin_valid.proofs.StretchLaws.{stretches-apart, stretches-once}
use Rattle.origin_valid.proofs.stretch_laws.stretches_are_disjoint.Goals as goal

pub returns-clause-rise : goal.returns-clause-rise
returns-clause-rise c = sorted-stretches

pub returns-clause-apart : goal.returns-clause-apart
returns-clause-apart c = stretches-apart

pub returns-clause-once : goal.returns-clause-once
returns-clause-once c = stretches-once
