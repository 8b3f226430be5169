use Rattle.std.proofs.Common.{◌≡◌, true, false, IsTrue, rules}
use Rattle.holdings.proofs.holdings.Holdings.make_ready.Goals as goal

pub add-requires : goal.add-requires
add-requires g c = λ there.
    let listed : IsTrue c.has_holding.result = c.has_holding.ensures.1 (search (rules, c.compact.ensures.listed c.args.sent.now there)) in
    let missed : c.has_holding.result ≡ false = search rules in
    let no : false ≡ true = rw missed at listed in
    absurd cc
