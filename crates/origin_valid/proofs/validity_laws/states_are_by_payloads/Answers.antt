use Rattle.origin_valid.proofs.StateLaws.{invalid-iff, not_found-iff, valid-iff}
use Rattle.origin_valid.proofs.validity_laws.states_are_by_payloads.Goals as goal

pub returns-clause-valid : goal.returns-clause-valid
returns-clause-valid c = valid-iff

pub returns-clause-invalid : goal.returns-clause-invalid
returns-clause-invalid c = invalid-iff

pub returns-clause-not_found : goal.returns-clause-not_found
returns-clause-not_found c = not_found-iff
