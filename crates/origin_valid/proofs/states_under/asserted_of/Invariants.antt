use Rattle.std.proofs.Common.{◌≡◌, filter}
use Rattle.origin_valid.specs.StatesUnder.{both}
use Rattle.origin_valid.specs.Stretches.{prefixes_of}
use Rattle.origin_valid.specs.Validity.{validity}
use Rattle.origin_valid.proofs.Outsides.{IsLow, Rise}
use Rattle.origin_valid.proofs.StatesUnder.{is_of}
use Rattle.origin_valid.proofs.states_under.asserted_of.Given as goal

abbrev pub invariant-loop-payload : goal.invariant-loop-payload
invariant-loop-payload g l =
    (goal.iterator-loop-payload g).can_next l.payload-iterator
    × (goal.iterator-loop-payload g).is_finite l.payload-iterator
    × IsLow l.outer (prefixes_of l.payload-iterator)
    × Rise (prefixes_of l.payload-iterator)
    × (validity (filter (is_of l.outer) l.asserted.keys) l.prefix l.origin ≡ both l.state (validity (filter (is_of l.outer) l.payload-iterator) l.prefix l.origin))
