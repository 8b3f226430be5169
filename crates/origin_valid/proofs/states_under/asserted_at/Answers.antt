use Rattle.local_exceptions.proofs.Matching.{masked_covers}
use Rattle.origin_valid.proofs.states_under.asserted_at.Goals as goal

pub asserted_of-requires : goal.asserted_of-requires
asserted_of-requires g c = masked_covers c.in-Ok.outer c.args.prefix.now c.args.len c.in-Ok.ensures.0 c.in-Ok.ensures.1 c.requires
