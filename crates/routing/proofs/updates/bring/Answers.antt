use Rattle.std.proofs.Common.{◌≡◌, ◌++◌, ◌∷◌, List, [], subst, sym}
use Rattle.std.specs.Option.{option_map}
use Rattle.bgp_attr.specs.PathAttributes.{PathAttributes}
use Rattle.net_prefix.specs.declared.prefix.Prefix.{Prefix}
use Rattle.routing.specs.Brought.{IsBrought, IsPartial, NamedPrefix}
use Rattle.routing.specs.RoutingState.{RoutingState}
use Rattle.routing.proofs.BroughtPrefixes.{brought_back, partial_of, partial_still}
use Rattle.routing.proofs.Results.{OnErr-is}
use Rattle.routing.proofs.updates.bring.Goals as goal

pub returns-in_err-attrs-clause-refused : goal.returns-in_err-attrs-clause-refused
returns-in_err-attrs-clause-refused g c =
    let refused : (first : RoutingState) (seen : List Prefix) → IsBrought c.args.slot c.args.attrs.now.value seen c.args.named.now.items first c.args.routing.now → IsPartial c.args.slot c.args.named.now.items first c.args.routing.now =
    λ first seen h. partial_of c.args.slot c.args.attrs.now.value seen c.args.named.now.items first c.args.routing.now h in
    OnErr-is _ _ refused

pub returns-in_err-reserve-clause-refused : goal.returns-in_err-reserve-clause-refused
returns-in_err-reserve-clause-refused g c =
    let refused : (first : RoutingState) (seen : List Prefix) → IsBrought c.args.slot c.args.attrs.now.value seen c.args.named.now.items first c.args.routing.now → IsPartial c.args.slot c.reserve.new.self.items first c.args.routing.now =
    λ first seen h. subst (λ items. IsPartial c.args.slot items first c.args.routing.now) (sym c.reserve.ensures.items) (partial_of c.args.slot c.args.attrs.now.value seen c.args.named.now.items first c.args.routing.now h) in
    OnErr-is _ _ refused

pub returns-in_err-replacing-clause-refused : goal.returns-in_err-replacing-clause-refused
returns-in_err-replacing-clause-refused g c =
    let refused : (first : RoutingState) (seen : List Prefix) → IsBrought c.args.slot c.args.attrs.now.value seen c.args.named.now.items first c.args.routing.now → IsPartial c.args.slot c.reserve.new.self.items first c.bring.new.self =
    λ first seen h. subst (λ items. IsPartial c.args.slot items first c.bring.new.self) (sym c.reserve.ensures.items)
    (partial_still c.args.slot c.args.named.now.items first c.args.routing.now c.bring.new.self c.in_err-replacing.ensures.err c.bring.ensures.offers c.bring.ensures.chosen
    (partial_of c.args.slot c.args.attrs.now.value seen c.args.named.now.items first c.args.routing.now h)) in
    OnErr-is _ _ refused

pub returns-clause-brought : goal.returns-clause-brought
returns-clause-brought g c = λ first seen h.
    let attrs = c.in_ok-attrs.attrs.value in
    let same : attrs ≡ c.args.attrs.now.value = c.in_ok-attrs.ensures.cases in
    let routed = rw c.ribs.ensures at c.is_chosen.ensures.routed in
    let named : List NamedPrefix = c.args.named.now.items ++ record { prefix = c.args.prefix; replacing = option_map (λ a. a.value) c.in_ok-replacing.replacing } ∷ [] in
    let items : c.push_reserved.new.self.items ≡ named = rw c.reserve.ensures.items at c.push_reserved.ensures.items in
    let before : IsBrought c.args.slot attrs seen c.args.named.now.items first c.args.routing.now = subst (λ (a : PathAttributes). IsBrought c.args.slot a seen c.args.named.now.items first c.args.routing.now) (sym same) h in
    let brought : IsBrought c.args.slot attrs (seen ++ c.args.prefix ∷ []) named first c.bring.new.self =
    brought_back c.in_ok-replacing.replacing (λ a. a.value) c.args.slot attrs seen c.args.named.now.items first c.args.routing.now c.bring.new.self c.args.prefix
    c.in_ok-replacing.ensures.absent c.in_ok-replacing.ensures.routes c.in_ok-replacing.ensures.back routed c.bring.ensures.offers c.bring.ensures.chosen before in
    subst (λ all. IsBrought c.args.slot c.args.attrs.now.value (seen ++ c.args.prefix ∷ []) all first c.bring.new.self) (sym items)
    (subst (λ (a : PathAttributes). IsBrought c.args.slot a (seen ++ c.args.prefix ∷ []) named first c.bring.new.self) same brought)
