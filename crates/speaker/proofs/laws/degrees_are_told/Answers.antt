use Rattle.routes.proofs.ToldDegrees.{told_degree}
use Rattle.speaker.proofs.laws.degrees_are_told.Goals as goal

pub returns : goal.returns
returns c = told_degree
