use Rattle.std.proofs.Common.{[], codes, map, refl, subst, sym, arith}
use Rattle.command_lines.proofs.RuleParts.{accepted, narrower, no_octet, wider}
use Rattle.command_lines.specs.RuleWords.{IsNumbered}
use Rattle.command_lines.proofs.rules.accept.Goals as goal

pub returns-in_err-degree : goal.returns-in_err-degree
returns-in_err-degree c = rw c.from_residual.ensures (λ action is.
    let of = accepted _ action is in
    c.in_err-degree.ensures.only of.degree of.meds of.degrees_are of.no_degree)

pub returns-in_err-med : goal.returns-in_err-med
returns-in_err-med c = rw c.from_residual-in_err-med.ensures (λ action is.
    let of = accepted _ action is in
    let meds = c.in_ok-degree.ensures.only of.degree of.meds of.degrees_are of.no_degree in
    c.in_err-med.ensures.only of.med of.prepends (subst (λ words. IsNumbered 32 (codes "med") words of.med of.prepends) (sym meds.0) of.meds_are) of.no_med)

pub returns-in_err-prepend : goal.returns-in_err-prepend
returns-in_err-prepend c = rw c.from_residual-in_err-prepend.ensures (λ action is.
    let of = accepted _ action is in
    let meds = c.in_ok-degree.ensures.only of.degree of.meds of.degrees_are of.no_degree in
    let prepends = c.in_ok-med.ensures.only of.med of.prepends (subst (λ words. IsNumbered 32 (codes "med") words of.med of.prepends) (sym meds.0) of.meds_are) of.no_med in
    c.in_err-prepend.ensures.only of.prepend [] (subst (λ words. IsNumbered 32 (codes "prepend") words of.prepend []) (sym prepends.0) (wider 8 32 _ _ _ _ (omega arith) of.prepends_are)) of.no_prepend)

pub returns-in-Some : goal.returns-in-Some
returns-in-Some c = λ action is.
    let of = accepted _ action is in
    let meds = c.in_ok-degree.ensures.only of.degree of.meds of.degrees_are of.no_degree in
    let prepends = c.in_ok-med.ensures.only of.med of.prepends (subst (λ words. IsNumbered 32 (codes "med") words of.med of.prepends) (sym meds.0) of.meds_are) of.no_med in
    let rest = c.in_ok-prepend.ensures.only of.prepend [] (subst (λ words. IsNumbered 32 (codes "prepend") words of.prepend []) (sym prepends.0) (wider 8 32 _ _ _ _ (omega arith) of.prepends_are)) of.no_prepend in
    let none = rest.0 in
    let some = c.in-Some.ensures in
    cc

pub returns-in_err-slot-in-None : goal.returns-in_err-slot-in-None
returns-in_err-slot-in-None c = rw c.from_residual-in_err-slot-in-None.ensures (λ action is.
    let of = accepted _ action is in
    let meds = c.in_ok-degree.ensures.only of.degree of.meds of.degrees_are of.no_degree in
    let prepends = c.in_ok-med.ensures.only of.med of.prepends (subst (λ words. IsNumbered 32 (codes "med") words of.med of.prepends) (sym meds.0) of.meds_are) of.no_med in
    let rest = c.in_ok-prepend.ensures.only of.prepend [] (subst (λ words. IsNumbered 32 (codes "prepend") words of.prepend []) (sym prepends.0) (wider 8 32 _ _ _ _ (omega arith) of.prepends_are)) of.no_prepend in
    let more = c.in_err-slot-in-None.ensures in
    no_octet _ _ _ _ _ more.0 of.prepends_are rest.1 more.1 more.2)

pub returns-in_ok-slot-in-None : goal.returns-in_ok-slot-in-None
returns-in_ok-slot-in-None c =
    let told = subst (λ words. IsNumbered 32 (codes "prepend") (map (λ word. word.now) c.in_ok-med.words.now) c.in_ok-prepend.prepend words) c.in-None.ensures c.in_ok-prepend.ensures.some in
    (_, _, _, refl, c.in_ok-degree.ensures.some, c.in_ok-med.ensures.some, narrower _ _ _ _ c.in_ok-slot-in-None.ensures.1 (rw c.in_ok-slot-in-None.ensures.0 told))
