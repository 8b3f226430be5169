use Rattle.std.proofs.Common.{◌≡◌, filter, length}
use Rattle.origin_valid.specs.KeptPayloads.{payloads_of}
use Rattle.origin_valid.specs.StatesUnder.{both, is_kept}
use Rattle.origin_valid.specs.Validity.{validity}
use Rattle.origin_valid.proofs.payload_trie.PayloadTrie.kept_state.Given as goal

abbrev pub invariant-loop-payloads : goal.invariant-loop-payloads
invariant-loop-payloads g l =
    validity (filter (is_kept l.exceptions) l.self) l.prefix l.origin ≡ both l.state (validity (filter (is_kept l.exceptions) (payloads_of l.covering.left)) l.prefix l.origin)

abbrev pub decreases-loop-payloads : goal.decreases-loop-payloads
decreases-loop-payloads g l = length l.covering.left
