use Rattle.origin_valid.specs.StatesUnder.{is_kept}
use Rattle.origin_valid.proofs.StatesUnder.{judged_first}
use Rattle.origin_valid.proofs.prefix_payloads.PrefixPayloads.kept_state.Goals as goal

pub returns : goal.returns
returns g c =
    rw (← c.self.view_is)
    (judged_first c.args.prefix.now c.args.origin (is_kept c.args.exceptions.now) c.kept_by.result c.kept_state.result c.both.result c.self.inside.first c.self.inside.others.keys
    c.kept_by.ensures c.kept_state.ensures c.both.ensures)
