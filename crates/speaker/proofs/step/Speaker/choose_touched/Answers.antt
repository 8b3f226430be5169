use Rattle.std.proofs.Common.{◌≡◌, ◌∙◌, List, refl, sym, ap, subst, true}
use Rattle.decision.specs.BookContents.{offer_at}
use Rattle.local_exceptions.specs.ExceptionSets.{behind}
use Rattle.net_prefix.specs.declared.payload.Vrp.{Vrp}
use Rattle.origin_valid.specs.Stretches.{changed_prefixes, stretches}
use Rattle.rib_in.specs.LatestRoutes.{HasRoute}
use Rattle.routing.specs.Chosen.{OncePerPrefix}
use Rattle.routing.specs.Offers.{AreMadeWhere, is_within}
use Rattle.routing.specs.RoutesState.{RoutesState, tables_in}
use Rattle.speaker.specs.CacheMoves.{last_change}
use Rattle.runs.specs.SpeakerState.{SpeakerState}
use Rattle.vrp_delta.specs.Delta.{Change, change_between}
use Rattle.speaker.proofs.Revalidating.{revalidated}
use Rattle.speaker.proofs.step.Speaker.choose_touched.Goals as goal

pub returns-in-Some-clause-touched : goal.returns-in-Some-clause-touched
returns-in-Some-clause-touched g c before told =
    let view = c.self.view_is in
    let rest = c.payloads_changed.ensures.rest in
    let same : c.payloads_changed.new.self.payloads ≡ c.self.inside.routes.payloads = c.payloads_changed.ensures.payloads in
    let payloads : c.self.inside.routes.payloads ≡ c.args.self.now.payloads = ap (λ (x : SpeakerState). x.payloads) view in
    let had : last_change c.self.inside.cache ≡ last_change c.args.self.now.cache = ap (λ (x : SpeakerState). last_change x.cache) view in
    let change : c.changed.result.now ≡ change_between before c.payloads_changed.new.self.payloads =
    c.changed.ensures ∙ sym (ap last_change c.in-Some.is) ∙ had ∙ told ∙ ap (λ (p : List Vrp). change_between before p) (sym payloads ∙ sym same) in
    revalidated before _ _ _ view (record {
      config = refl;
      moment = refl;
      conf = ap (λ (r : RoutesState). r.conf) rest;
      links = ap (λ (r : RoutesState). r.links) rest;
      adj_in = ap (λ (r : RoutesState). r.adj_in) rest;
      made = subst (λ (d : Change). AreMadeWhere (tables_in c.payloads_changed.new.self) (is_within (stretches (changed_prefixes (behind c.self.inside.routes.conf.exceptions d)))) (offer_at c.self.inside.routes.book) (offer_at c.payloads_changed.new.self.book)) change c.payloads_changed.ensures.made;
      chosen = subst (λ (d : Change). OncePerPrefix (λ p. (is_within (stretches (changed_prefixes (behind c.self.inside.routes.conf.exceptions d))) p ≡ true) × HasRoute c.self.inside.routes.adj_in p) c.self.inside.routes.chosen c.payloads_changed.new.self.chosen) change c.payloads_changed.ensures.chosen;
      chosen_before = refl;
    })
