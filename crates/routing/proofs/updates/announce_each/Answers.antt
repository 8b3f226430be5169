use Rattle.std.proofs.Common.{◌≡◌, ◌==◌, ◌&&◌, ◌∷◌, ◌++◌, true, List, [], length, Some, ap, sym, refl, subst, ◌∙◌, arith}
use Rattle.std.specs.Vec.Iter.{into_iter_items}
use Rattle.decision.specs.BookContents.{offer_at}
use Rattle.rib_in.specs.LatestRoutes.{route_at}
use Rattle.net_prefix.specs.declared.prefix.Prefix.{Prefix}
use Rattle.routing.specs.Brought.{AreReady, NamedPrefix, prefixes_of}
use Rattle.routing.specs.Candidates.{judged_at}
use Rattle.routing.specs.Updates.{is_among}
use Rattle.routing.specs.Tables.{payloads_under}
use Rattle.routing.proofs.BroughtPrefixes.{prefixes_push, ready_still}
use Rattle.routing.proofs.Counting.{CountsNamed, named_each, named_more, named_none}
use Rattle.routing.proofs.HeardOffers.{apart_still, some_set}
use Rattle.routing.proofs.RouteChanges.{Sets, Sets-start, Sets-more, Sets-all, set_here}
use Rattle.routing.proofs.updates.announce_each.Goals as goal

nothing_left : {X : Type 0} (l : List X) → length l ≡ 0 → l ≡ []
nothing_left [] h = refl
nothing_left (x ∷ xs) h = absurd (omega arith)

pub loop-announced-init : goal.loop-announced-init
loop-announced-init g c =
    let items : into_iter_items c.into_iter-announced-iterator.result ≡ c.args.named.items = c.into_iter-announced-iterator.ensures.into_iter_gives.0 in
    let all = ap prefixes_of items in (
      Sets-start _ _ _ _ _ _ all,
      Sets-start _ _ _ _ _ _ all,
      subst (λ (named : List NamedPrefix). AreReady c.args.slot c.args.attrs.now c.args.routing.now.adj_in named) (sym items) c.requires.ready,
      c.requires.marked,
      named_none _ _,
      omega arith,
      c.into_iter-announced-iterator.ensures.into_iter_gives.1 ∙ c.args.named.ok.0 ∙ ap length (sym items),
      refl,
    )

pub announce-requires-clause-ready : goal.announce-requires-clause-ready
announce-requires-clause-ready g c =
    let h = c.loop-announced.invariant in
    let ready = subst (λ (named : List NamedPrefix). AreReady c.args.slot c.args.attrs.now c.args.routing.now.adj_in named) c.in-Some.ensures.steps.0 h.2 in
    ready_still c.args.slot c.args.attrs.now c.args.routing.now.adj_in c.loop-announced.routing.adj_in (λ p. c.args.slot == c.args.slot && (is_among p (prefixes_of c.loop-announced.yielded) && true)) c.in-Some.announced (λ p. h.0.set c.args.slot p) ready.0

pub announce-requires-clause-apart : goal.announce-requires-clause-apart
announce-requires-clause-apart g c =
    let h = c.loop-announced.invariant in
    apart_still c.args.slot (judged_at c.args.conf.now (payloads_under c.args.conf.now c.args.payloads.now) c.args.attrs.now c.args.candidate) (offer_at c.args.routing.now.book) (offer_at c.loop-announced.routing.book)
    (some_set c.args.slot (λ p. is_among p (prefixes_of c.loop-announced.yielded) && true) (judged_at c.args.conf.now (payloads_under c.args.conf.now c.args.payloads.now) c.args.attrs.now c.args.candidate) (offer_at c.args.routing.now.book) (offer_at c.loop-announced.routing.book) h.1.set)
    c.in-Some.announced.prefix (c.requires.apart c.in-Some.announced.prefix)

pub loop-announced-preserved : goal.loop-announced-preserved
loop-announced-preserved g c =
    let h = c.loop-announced.invariant in
    let e : Prefix = c.in-Some.announced.prefix in
    let steps : into_iter_items c.loop-announced.announced-iterator ≡ c.in-Some.announced ∷ into_iter_items c.next.new.self = c.in-Some.ensures.steps.0 in
    let next = ap prefixes_of steps in
    let seen : prefixes_of (c.loop-announced.yielded ++ c.in-Some.announced ∷ []) ≡ prefixes_of c.loop-announced.yielded ++ e ∷ [] = prefixes_push c.loop-announced.yielded c.in-Some.announced in
    let again : is_among e (prefixes_of c.loop-announced.yielded) ≡ true → c.announce.new.routing.chosen ≡ c.loop-announced.routing.chosen = λ there. c.announce.ensures.same (set_here _ _ _ _ _ _ _ _ e h.1 there refl) in
    let before = h.5 in
    let later = c.announce.ensures.rises in
    let ready = subst (λ (named : List NamedPrefix). AreReady c.args.slot c.args.attrs.now c.args.routing.now.adj_in named) steps h.2 in
    let count = h.6 in
    let gone = c.in-Some.ensures.steps.1 in
    let short = ap length steps in (
      subst (λ ps. Sets c.args.slot (λ p. true) (prefixes_of c.args.named.items) ps (prefixes_of (into_iter_items c.next.new.self)) (λ p. Some c.args.attrs.now) (route_at c.args.routing.now.adj_in) (route_at c.announce.new.routing.adj_in)) (sym seen)
          (Sets-more _ _ _ _ _ _ _ _ _ _ _ h.0 next refl c.announce.ensures.routes),
      subst (λ ps. Sets c.args.slot (λ p. true) (prefixes_of c.args.named.items) ps (prefixes_of (into_iter_items c.next.new.self)) (judged_at c.args.conf.now (payloads_under c.args.conf.now c.args.payloads.now) c.args.attrs.now c.args.candidate) (offer_at c.args.routing.now.book) (offer_at c.announce.new.routing.book)) (sym seen)
          (Sets-more _ _ _ _ _ _ _ _ _ _ _ h.1 next refl c.announce.ensures.offers),
      ready.1,
      c.announce.ensures.marked,
      subst (λ ps. CountsNamed (λ p. true) ps c.args.routing.now.chosen c.announce.new.routing.chosen) (sym seen) (named_more _ _ _ _ _ _ h.4 refl c.announce.ensures.chosen again),
      omega (arith, before, later),
      omega (arith, count, gone, short),
      c.announce.ensures.sent ∙ h.7,
    )

pub returns-clause-routes : goal.returns-clause-routes
returns-clause-routes g c =
    let h = c.loop-announced.invariant in
    Sets-all _ _ _ _ _ _ _ h.0 (ap prefixes_of (nothing_left _ (sym h.6 ∙ c.in-None.ensures.steps.0)))

pub returns-clause-offers : goal.returns-clause-offers
returns-clause-offers g c =
    let h = c.loop-announced.invariant in
    Sets-all _ _ _ _ _ _ _ h.1 (ap prefixes_of (nothing_left _ (sym h.6 ∙ c.in-None.ensures.steps.0)))

pub returns-clause-chosen : goal.returns-clause-chosen
returns-clause-chosen g c = let h = c.loop-announced.invariant in named_each _ _ _ _ _ h.0.whole h.4
