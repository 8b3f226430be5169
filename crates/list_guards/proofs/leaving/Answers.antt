use Rattle.std.proofs.lemmas.Iterator.Consumers.{YieldsList-from_rest, count_from_yields_List}
use Rattle.vrp_delta.specs.Delta.{lacked}
use Rattle.list_guards.proofs.leaving.Goals as goal

pub returns : goal.returns
returns c =
    count_from_yields_List c.difference.result c.count.result c.count.ensures.ran (YieldsList-from_rest (lacked c.args.served.now.keys c.args.next.now.keys) c.difference.ensures.rest)
