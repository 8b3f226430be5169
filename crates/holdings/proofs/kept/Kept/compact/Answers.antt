use Rattle.std.proofs.Common.{◌≡◌, rules}
use Rattle.holdings.proofs.kept.Kept.compact.Goals as goal

pub returns-in-Many-clause-listed : goal.returns-in-Many-clause-listed
returns-in-Many-clause-listed g c =
    let whole : c.args.self.now ≡ c.in-Many.list.value = search rules in
    rw whole c.keep.ensures.listed
