use Rattle.cache_program.proofs.Newest.{serving}
use Rattle.cache_program.proofs.served_list.ServedList.hand_in.Goals as goal

pub invariant_of-self-then-self-before : goal.invariant_of-self-then-self-before
invariant_of-self-then-self-before g c =
    serving c.self.inside.guards c.self.inside.turns.cache c.load.new.self.cache c.args.set.keys c.kept_for.result.keys c.in-Ok.report c.self.inside.serial c.unwrap_or-self-inside.result c.len-self-inside.result
    c.in-Ok.ensures.loads.0 c.unwrap_or-self-inside.ensures c.len-self-inside.ensures.len c.kept_for.ensures
