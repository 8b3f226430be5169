use Rattle.std.proofs.Common.{◌≡◌, All, ap, subst, sym}
use Rattle.std.specs.Option.{IfSome, IsSome}
use Rattle.decision.specs.BookContents.{AreApart, changed, offer_at}
use Rattle.decision.specs.declared.book.Change.{Change}
use Rattle.rib_in.specs.LatestRoutes.{route_at}
use Rattle.routing.specs.Offers.{AreRemade}
use Rattle.routing.specs.RoutingState.{RoutingState}
use Rattle.routing.specs.Sent.{linked}
use Rattle.routing.specs.Tables.{payloads_under, tables}
use Rattle.routing.proofs.RemadeOffers.{apart_remade, made_at, sound_remade}
use Rattle.routing.proofs.candidates.choose_at.Goals as goal

pub returns-clause-made : goal.returns-clause-made
returns-clause-made g c =
    let read : c.routing.inside.ribs.adj_in ≡ c.args.routing.now.adj_in = ap (λ (t : RoutingState). t.adj_in) c.routing.view_is in
    let remade : AreRemade (tables c.args.conf.now (payloads_under c.args.conf.now c.args.payloads.now) (linked c.args.links.now.entries c.args.routing.now.sent) c.args.routing.now.adj_in) c.args.prefix c.remade-changes.result.items = rw (← read) (c.remade-changes.ensures c.args.routing.now.sent) in
    made_at _ _ _ _ _ remade (rw c.as_slice.ensures.value at c.change.ensures.offers)

pub change-requires-clause-apart : goal.change-requires-clause-apart
change-requires-clause-apart g c =
    let read : c.routing.inside.ribs.adj_in ≡ c.args.routing.now.adj_in = ap (λ (t : RoutingState). t.adj_in) c.routing.view_is in
    let remade : AreRemade (tables c.args.conf.now (payloads_under c.args.conf.now c.args.payloads.now) (linked c.args.links.now.entries c.args.routing.now.sent) c.args.routing.now.adj_in) c.args.prefix c.remade-changes.result.items = rw (← read) (c.remade-changes.ensures c.args.routing.now.sent) in
    subst (λ changes. AreApart (λ s. changed changes s (offer_at c.args.routing.now.book s c.args.prefix))) (sym c.as_slice.ensures.value)
    (apart_remade (tables c.args.conf.now (payloads_under c.args.conf.now c.args.payloads.now) (linked c.args.links.now.entries c.args.routing.now.sent) c.args.routing.now.adj_in) c.args.prefix c.remade-changes.result.items (offer_at c.args.routing.now.book) remade c.requires.sound)

pub change-requires-clause-routed : goal.change-requires-clause-routed
change-requires-clause-routed g c =
    let read : c.routing.inside.ribs.adj_in ≡ c.args.routing.now.adj_in = ap (λ (t : RoutingState). t.adj_in) c.routing.view_is in
    let remade : AreRemade (tables c.args.conf.now (payloads_under c.args.conf.now c.args.payloads.now) (linked c.args.links.now.entries c.args.routing.now.sent) c.args.routing.now.adj_in) c.args.prefix c.remade-changes.result.items = rw (← read) (c.remade-changes.ensures c.args.routing.now.sent) in
    subst (λ changes. All (λ (x : Change). IsSome (route_at c.args.routing.now.adj_in x.slot c.args.prefix)) changes) (sym c.as_slice.ensures.value) remade.routed

pub change-requires-clause-named : goal.change-requires-clause-named
change-requires-clause-named g c =
    let read : c.routing.inside.ribs.adj_in ≡ c.args.routing.now.adj_in = ap (λ (t : RoutingState). t.adj_in) c.routing.view_is in
    let remade : AreRemade (tables c.args.conf.now (payloads_under c.args.conf.now c.args.payloads.now) (linked c.args.links.now.entries c.args.routing.now.sent) c.args.routing.now.adj_in) c.args.prefix c.remade-changes.result.items = rw (← read) (c.remade-changes.ensures c.args.routing.now.sent) in
    subst (λ changes. All (λ (x : Change). IfSome x.candidate (λ route. route.slot ≡ x.slot)) changes) (sym c.as_slice.ensures.value) remade.named

pub returns-clause-sound : goal.returns-clause-sound
returns-clause-sound g c =
    let read : c.routing.inside.ribs.adj_in ≡ c.args.routing.now.adj_in = ap (λ (t : RoutingState). t.adj_in) c.routing.view_is in
    let remade : AreRemade (tables c.args.conf.now (payloads_under c.args.conf.now c.args.payloads.now) (linked c.args.links.now.entries c.args.routing.now.sent) c.args.routing.now.adj_in) c.args.prefix c.remade-changes.result.items = rw (← read) (c.remade-changes.ensures c.args.routing.now.sent) in
    sound_remade (tables c.args.conf.now (payloads_under c.args.conf.now c.args.payloads.now) (linked c.args.links.now.entries c.args.routing.now.sent) c.args.routing.now.adj_in) c.args.prefix c.remade-changes.result.items (offer_at c.args.routing.now.book) (offer_at c.change.new.self.book) remade c.requires.sound (rw c.as_slice.ensures.value at c.change.ensures.offers)
