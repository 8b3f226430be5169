use Rattle.std.proofs.Common.{◌≡◌, ◌==◌, cond, sym, subst}
use Rattle.std.specs.Option.{IfSome}
use Rattle.decision.specs.BookContents.{AreApart, offer_at}
use Rattle.routing.specs.Tables.{payloads_under}
use Rattle.routing.proofs.SoundOffers.{judged_named}
use Rattle.routing.proofs.updates.announce.Goals as goal

pub announce-takes_no_memory-requires-clause-named : goal.announce-takes_no_memory-requires-clause-named
announce-takes_no_memory-requires-clause-named g c =
    subst (λ found. IfSome found (λ x. x.slot ≡ c.args.slot)) (sym c.judge_route-candidate.ensures) (judged_named c.args.conf.now (payloads_under c.args.conf.now c.args.payloads.now) c.args.attrs.now c.args.slot c.args.candidate c.announced.inside.prefix c.requires.named)

pub announce-takes_no_memory-requires-clause-apart : goal.announce-takes_no_memory-requires-clause-apart
announce-takes_no_memory-requires-clause-apart g c =
    let apart = rw (← c.announced.view_is) at c.requires.apart in
    subst (λ found. AreApart (λ s. cond (c.args.slot == s) found (offer_at c.args.routing.now.book s c.announced.inside.prefix))) (sym c.judge_route-candidate.ensures) apart
