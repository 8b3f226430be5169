use Rattle.std.proofs.Common.{rules, ap, sym, subst}
use Rattle.decision.specs.BookContents.{offer_at}
use Rattle.net_prefix.specs.declared.asn.Asn.{Asn}
use Rattle.routing.specs.Offers.{IsSound}
use Rattle.routing.specs.RoutesState.{begun}
use Rattle.routing.specs.RoutingState.{RoutingState}
use Rattle.routes.proofs.SlotMarks.{marked_empty}
use Rattle.routing.specs.Sent.{linked}
use Rattle.routes.proofs.routes.Routes.empty.Goals as goal

-- where there are no peers and no candidates
sound_begun : (own : Asn) → IsSound (begun own).conf (offer_at (begun own).book)
sound_begun own = search rules

pub invariant_of-result : goal.invariant_of-result
invariant_of-result g c =
    let sound : IsSound c.args.conf (offer_at c.args.routing.book) =
    subst (λ conf. IsSound conf (offer_at c.args.routing.book)) (sym c.requires.conf)
    (subst (λ (t : RoutingState). IsSound (begun c.args.conf.own).conf (offer_at t.book)) (sym c.requires.routing) (sound_begun c.args.conf.own)) in
    (sound, marked_empty c.args.conf (linked c.new-2.result.entries c.args.routing.sent) c.args.routing (ap (λ entries. linked entries c.args.routing.sent) c.new-2.ensures.empty) c.requires.none)
