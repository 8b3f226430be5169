use Rattle.local_exceptions.proofs.Matching.{masked_covers}
use Rattle.local_exceptions.proofs.exceptions.Exceptions.filters_length.Goals as goal

pub filters_covering-requires : goal.filters_covering-requires
filters_covering-requires g c = masked_covers c.in-Ok.prefix c.args.payload.now.prefix c.args.len c.in-Ok.ensures.0 c.in-Ok.ensures.1 c.requires
