use Rattle.std.proofs.Common.{◌≡◌, ◌∷◌, [], rules}
use Rattle.holdings.proofs.kept.Kept.keep.Goals as goal

pub returns-clause-listed : goal.returns-clause-listed
returns-clause-listed g c = λ octets there.
    let only : c.in-Some.list.value ≡ record { octets = c.parted-sent.result.0; slots = c.parted-sent.result.1 } ∷ [] = search rules in
    c.in-Some.ensures.listed octets (rw only there)
