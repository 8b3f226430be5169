use Rattle.std.proofs.Common.{Bool, ◌≡◌, false, sym, ap, ◌∙◌}
use Rattle.rtr_cache.specs.Unsaid.{payloads_of, unsaid}
use Rattle.rtr_cache.proofs.WholeVersions.{unsaid-more}
use Rattle.rtr_cache.proofs.response.Response.next.Goals as goal

pub returns-then-not-rest-clause-exact : goal.returns-then-not-rest-clause-exact
returns-then-not-rest-clause-exact g c =
    let r = c.rest.inside in
    let fresh : r.is_begun ≡ false = c.if-not-rest.true in
    sym c.rest.view_is
    ∙ ap (λ (is_begun : Bool). unsaid is_begun r.terms.session r.terms.intervals r.serial (payloads_of (record { withdrawn = r.withdrawn; announced = r.announced }))) fresh

pub returns-then-not-rest-clause-more : goal.returns-then-not-rest-clause-more
returns-then-not-rest-clause-more g c = unsaid-more _ _
