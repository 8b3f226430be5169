use Rattle.std.proofs.Common.{List, subst, sym}
use Rattle.cache_turns.proofs.Keeping.{turn_keeps}
use Rattle.vrp_delta.specs.Versions.{Version}
use Rattle.cache_program.specs.Rereads.{IsServing}
use Rattle.cache_program.proofs.served_list.ServedList.turn.Goals as goal

pub invariant_of-self : goal.invariant_of-self
invariant_of-self g c =
    subst (λ (kept : List Version). IsServing c.self.inside.guards kept c.self.inside.serial c.self.inside.payloads c.self.inside.looked_at.keys)
    (sym (turn_keeps c.args.now c.self.inside.turns c.turn.new.self c.turn.result c.turn.ensures).0)
    c.self.invariant
