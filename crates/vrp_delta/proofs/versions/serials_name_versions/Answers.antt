use Rattle.vrp_delta.proofs.Published.{version_of-found, version_of-none}
use Rattle.vrp_delta.proofs.Serials.{kept_differ}
use Rattle.vrp_delta.proofs.versions.serials_name_versions.Goals as goal

pub returns-clause-found : goal.returns-clause-found
returns-clause-found c = version_of-found

pub returns-clause-none : goal.returns-clause-none
returns-clause-none c = version_of-none

pub returns-clause-differ : goal.returns-clause-differ
returns-clause-differ c = kept_differ
