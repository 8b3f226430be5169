use Rattle.std.proofs.Common.{rules, ◌≡◌, option_map}
use Rattle.live_book.proofs.Alone.{bests_renewed, best_renewed}
use Rattle.live_book.proofs.places.renew.Goals as goal

pub returns-clause-bests : goal.returns-clause-bests
returns-clause-bests g c = bests_renewed c.args.changes.now c.args.places.now.items c.index.result.now c.renewed-place.result c.requires.alone c.index.ensures c.renewed-place.ensures c.requires.after

pub returns-clause-best : goal.returns-clause-best
returns-clause-best g c =
    let slot : c.map.result ≡ option_map (λ candidate. candidate.slot) c.renewed-place.result.candidate = search (rules, c.map.ensures.cases) in
    best_renewed c.args.changes.now c.args.places.now.items c.index.result.now c.renewed-place.result c.map.result c.requires.alone c.index.ensures c.renewed-place.ensures slot c.requires.after
