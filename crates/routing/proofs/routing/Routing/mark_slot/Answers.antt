use Rattle.std.proofs.Common.{◌≡◌, ◌==◌, ◌||◌, false, None, subst}
use Rattle.std.specs.Option.{IsSome}
use Rattle.std.specs.Ordering.{is_gt}
use Rattle.decision.specs.BookContents.{rows_of}
use Rattle.net_prefix.specs.PrefixOrder.{IsAbove, prefix_cmp}
use Rattle.net_prefix.specs.declared.prefix.Prefix.{Prefix}
use Rattle.routing.specs.Marks.{IsMarked, mark_at}
use Rattle.routing.specs.RoutingState.{RoutingState}
use Rattle.routing.specs.Sent.{linked}
use Rattle.routing.specs.Tables.{best_at}
use Rattle.routing.proofs.LinkedPeers.{marked_for_in, sent_kept}
use Rattle.routing.proofs.Marking.{SlotUpTo-all, SlotUpTo-more, SlotUpTo-none}
use Rattle.routing.proofs.routing.Routing.mark_slot.Goals as goal

pub loop-prefix-init : goal.loop-prefix-init
loop-prefix-init g c =
    let inside = c.self.inside in
    let first : RoutingState = record { adj_in = inside.ribs.adj_in; book = inside.ribs.book; chosen = inside.ribs.chosen; sent = inside.ribs.sent; waiting = inside.waiting; alike = inside.alike } in
    rw (← c.self.view_is) (SlotUpTo-none c.args.conf.now (linked c.args.links.now.entries inside.ribs.sent) c.args.slot first c.clear.new.self c.requires c.clear.ensures.kept)

pub loop-prefix-preserved : goal.loop-prefix-preserved
loop-prefix-preserved g c =
    let below = rw c.place-place.ensures.place at c.place-place.ensures.below in
    let sent = sent_kept c.args.self.now c.loop-prefix.self c.loop-prefix.invariant.rest in
    let here = subst (λ x. IsMarked (mark_at c.args.conf.now (linked c.args.links.now.entries x) c.loop-prefix.self c.args.slot c.in-Some.prefix) c.mark.new.self c.args.slot c.in-Some.prefix) sent c.mark.ensures.here in
    let least =
    subst (λ (t : RoutingState). (q : Prefix) → IsAbove c.loop-prefix.after q → IsSome (best_at (rows_of t.book) q) → is_gt (prefix_cmp c.in-Some.prefix q) ≡ false) c.self-in-loop-prefix.view_is c.in-Some.ensures.least in
    SlotUpTo-more _ _ c.args.slot _ _ _ _ c.in-Some.prefix c.requires c.loop-prefix.invariant c.in-Some.ensures.above least below
    (record { here = here; others = c.mark.ensures.others; listed = c.mark.ensures.listed; rest = c.mark.ensures.rest })

pub returns-clause-marked : goal.returns-clause-marked
returns-clause-marked g c = λ done before.
    let none = subst (λ (t : RoutingState). (q : Prefix) → IsAbove c.loop-prefix.after q → best_at (rows_of t.book) q ≡ None) c.self-in-loop-prefix.view_is c.in_default.ensures.none in
    marked_for_in (λ s. s == c.args.slot || done s) c.args.conf.now c.args.links.now.entries c.loop-prefix.self c.args.self.now.sent (sent_kept c.args.self.now c.loop-prefix.self c.loop-prefix.invariant.rest)
    (SlotUpTo-all _ _ c.args.slot _ _ _ c.loop-prefix.invariant none done before)
