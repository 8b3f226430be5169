use Rattle.std.proofs.Common.{◌≡◌, Option, None, Some, subst}
use Rattle.std.specs.Result.{MatchResult}
use Rattle.list_guards.proofs.Looking.{judged_alike}
use Rattle.list_guards.specs.Guarding.{guard_fault}
use Rattle.list_guards.specs.declared.GuardFault.{GuardFault}
use Rattle.cache_program.specs.Rereads.{Served, newest_set, served_set}
use Rattle.cache_program.proofs.served_list.ServedList.judge.Goals as goal

pub returns : goal.returns
returns g c =
    let set = c.args.set.now.keys in
    subst (λ (served : Served). MatchResult c.judge.result (λ passed. guard_fault served.guards (served_set served) set ≡ None) (λ why. guard_fault served.guards (served_set served) set ≡ Some why)) c.self.view_is
    (subst (λ (fault : Option GuardFault). MatchResult c.judge.result (λ passed. fault ≡ None) (λ why. fault ≡ Some why))
    (judged_alike c.self.inside.guards (newest_set c.self.inside.turns.cache.shared.kept) c.self.inside.looked_at.keys set c.self.invariant.served) c.judge.ensures)
