use Rattle.std.proofs.Common.{◌≡◌, filter}
use Rattle.origin_valid.specs.StatesUnder.{both, is_kept}
use Rattle.origin_valid.specs.Validity.{validity}
use Rattle.origin_valid.proofs.states_under.kept_state.Given as goal

abbrev pub invariant-loop-payload : goal.invariant-loop-payload
invariant-loop-payload g l =
    validity (filter (is_kept l.exceptions) l.payloads.keys) l.prefix l.origin ≡ both l.state (validity (filter (is_kept l.exceptions) l.payload-iterator) l.prefix l.origin)
