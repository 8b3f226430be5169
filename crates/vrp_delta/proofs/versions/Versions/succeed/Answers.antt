use Rattle.std.proofs.Common.{◌≡◌, ◌∷◌, Some, take, ap, sym, subst, ◌∙◌}
use Rattle.net_prefix.specs.PayloadSets.{IsPayloadSet}
use Rattle.vrp_delta.specs.Delta.{change_between}
use Rattle.vrp_delta.specs.Steps.{AreKeptSteps, AreSteps, before, versions_of}
use Rattle.vrp_delta.specs.Versions.{Version}
use Rattle.vrp_delta.proofs.Steps.{behind_steps, behind_versions}
use Rattle.vrp_delta.proofs.versions.Versions.succeed.Goals as goal

pub invariant_of-self-2 : goal.invariant_of-self-2
invariant_of-self-2 g c =
    let older = c.self.inside.older.items in
    let rises : IsPayloadSet c.args.newest.set = subst (λ (v : Version). IsPayloadSet v.set) c.newest.view_is c.newest.invariant in
    let kept : AreKeptSteps (Some c.in-Some.old) older = subst (λ o. AreKeptSteps o older) c.in-Some.is c.self.invariant in
    let items : c.put_behind.new.older.items ≡ take 64 (record { serial = c.in-Some.old.serial; change = change_between c.in-Some.old.set c.args.newest.set } ∷ older) =
    c.in_ok-put_behind.ensures.ok ∙ ap (λ b. take 64 (b ∷ older)) c.in_ok-behind.ensures in
    (rises, subst (AreSteps c.args.newest.set) (sym items) (behind_steps c.in-Some.old c.args.newest older rises kept))

pub returns-clause-ok : goal.returns-clause-ok
returns-clause-ok g c =
    let older = c.self.inside.older.items in
    let rises : IsPayloadSet c.args.newest.set = subst (λ (v : Version). IsPayloadSet v.set) c.newest.view_is c.newest.invariant in
    let kept : AreKeptSteps (Some c.in-Some.old) older = subst (λ o. AreKeptSteps o older) c.in-Some.is c.self.invariant in
    let items : c.put_behind.new.older.items ≡ take 64 (record { serial = c.in-Some.old.serial; change = change_between c.in-Some.old.set c.args.newest.set } ∷ older) =
    c.in_ok-put_behind.ensures.ok ∙ ap (λ b. take 64 (b ∷ older)) c.in_ok-behind.ensures in
    let all : c.in-Some.old ∷ before c.in-Some.old.set older ≡ c.args.self.now = ap (λ o. versions_of o older) (sym c.in-Some.is) ∙ c.self.view_is in
    ap (λ l. c.args.newest ∷ l) (ap (before c.args.newest.set) items ∙ behind_versions c.in-Some.old c.args.newest older rises kept ∙ ap (take 64) all)
