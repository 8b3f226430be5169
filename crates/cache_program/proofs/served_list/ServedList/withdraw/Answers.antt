use Rattle.std.proofs.Common.{List, subst, sym}
use Rattle.cache_turns.proofs.Keeping.{withdrawing_keeps}
use Rattle.vrp_delta.specs.Versions.{Version}
use Rattle.cache_program.specs.Rereads.{IsServing}
use Rattle.cache_program.proofs.served_list.ServedList.withdraw.Goals as goal

pub invariant_of-self : goal.invariant_of-self
invariant_of-self g c =
    subst (λ (kept : List Version). IsServing c.self.inside.guards kept c.self.inside.serial c.self.inside.payloads c.self.inside.looked_at.keys)
    (sym (withdrawing_keeps c.self.inside.turns c.withdraw.new.self c.withdraw.ensures)) c.self.invariant
