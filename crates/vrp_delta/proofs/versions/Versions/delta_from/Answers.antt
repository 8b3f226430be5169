use Rattle.std.proofs.Common.{◌≡◌, ◌==◌, Some, IsSome, true, false, ap, sym, subst, ◌∙◌}
use Rattle.std.proofs.lemmas.Bool.{eq-eqb, ne_eqb}
use Rattle.std.proofs.lemmas.Result.{IfOk-weaker, on_err_weaker}
use Rattle.vrp_delta.specs.Delta.{Change}
use Rattle.vrp_delta.specs.Steps.{AreKeptSteps, since, versions_of}
use Rattle.vrp_delta.specs.Versions.{change_from, version_of}
use Rattle.vrp_delta.proofs.Steps.{newest_since, older_since, some_since}
use Rattle.vrp_delta.proofs.versions.Versions.delta_from.Goals as goal

pub returns-then-serial-clause-delta : goal.returns-then-serial-clause-delta
returns-then-serial-clause-delta g c =
    let older = c.self.inside.older.items in
    let newest = c.in-Some.newest in
    let same : (newest.serial == c.args.serial) ≡ true = eq-eqb newest.serial c.args.serial (sym c.serial.ensures ∙ c.if-serial.true) in
    ap (λ (d : Change). Some d) c.in_ok-new.ensures ∙ newest_since newest older c.args.serial same
    ∙ ap (λ o. change_from (versions_of o older) c.args.serial) (sym c.in-Some.is) ∙ ap (λ vs. change_from vs c.args.serial) c.self.view_is

pub returns-clause-delta : goal.returns-clause-delta
returns-clause-delta g c =
    let older = c.self.inside.older.items in
    let newest = c.in-Some.newest in
    let other : (newest.serial == c.args.serial) ≡ false = ne_eqb newest.serial c.args.serial (λ e. c.if-serial.false (c.serial.ensures ∙ e)) in
    let kept : AreKeptSteps (Some newest) older = subst (λ o. AreKeptSteps o older) c.in-Some.is c.self.invariant in
    let told : since older c.args.serial ≡ change_from c.args.self.now c.args.serial =
    older_since newest older c.args.serial other kept ∙ ap (λ o. change_from (versions_of o older) c.args.serial) (sym c.in-Some.is) ∙ ap (λ vs. change_from vs c.args.serial) c.self.view_is in
    IfOk-weaker c.change_since.result _ _ (λ delta is. is ∙ ap (λ steps. since steps c.args.serial) c.as_slice.ensures.value ∙ told) c.change_since.ensures.change

pub returns-clause-refused : goal.returns-clause-refused
returns-clause-refused g c =
    let older = c.self.inside.older.items in
    let newest = c.in-Some.newest in
    let kept : AreKeptSteps (Some newest) older = subst (λ o. AreKeptSteps o older) c.in-Some.is c.self.invariant in
    on_err_weaker c.change_since.result
    (λ some. subst (λ vs. IsSome (version_of vs c.args.serial)) (ap (λ o. versions_of o older) (sym c.in-Some.is) ∙ c.self.view_is) (some_since newest older c.args.serial kept (subst (λ steps. IsSome (since steps c.args.serial)) c.as_slice.ensures.value some)))
    c.change_since.ensures.refused
