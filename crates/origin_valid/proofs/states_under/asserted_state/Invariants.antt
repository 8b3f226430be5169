use Rattle.std.proofs.Common.{◌≡◌, filter}
use Rattle.origin_valid.specs.Validity.{validity}
use Rattle.origin_valid.proofs.StatesUnder.{is_shorter}
use Rattle.origin_valid.proofs.states_under.asserted_state.Given as goal

abbrev pub invariant-loop-len : goal.invariant-loop-len
invariant-loop-len g l = l.state ≡ validity (filter (is_shorter l.len) l.asserted.keys) l.prefix l.origin
